-- What the page of a depositor of a legal register lists has few bits.
use Rattle.std.proofs.Common.{◌≡◌, ◌<◌, ◌≤◌, ◌+◌, ◌^◌, ℕ, Bool, true, List, [], ◌∷◌, Option, Some, None, length, arith, inl, inr, ap, refl, ◌∙◌}
use Rattle.std.specs.Prelude.{nat_le}
use Rattle.std.proofs.lemmas.Bool.{and_parts, leb-true}
use Rattle.std.specs.List.{list_all}
use Rattle.std.specs.Cmp.Derive.{both_true}
use Rattle.sqlite_rules.specs.Lists.{Has}
use Rattle.definitions.specs.declared.rules.Rules.{Rules}
use Rattle.definitions.specs.declared.rules.Rules.TheVariants.{One, Two}
use Rattle.definitions.specs.Rules.{may_follow}
use Rattle.definitions.specs.Limits.{most_entries, most_lines, most_quantity}
use Rattle.definitions.specs.Means.{Line}
use Rattle.definitions.specs.Page.{PageAdvice, PageLine, PageOrder, page_of}
use Rattle.definitions.specs.History.{events}
use Rattle.definitions.specs.Register.{Entry}
use Rattle.definitions.specs.Rows.{LotRow}
use Rattle.rules.specs.Pages.{advice_at, is_number, is_shipment, order_at}
use Rattle.rules.specs.Fitting.{is_fitting_advice, is_fitting_line, is_fitting_order, is_fitting_ordered, is_fitting_row}
use Rattle.rules.proofs.Fits.{advices_fit}
use Rattle.rules.proofs.KeyedLists.{all_found}
use Rattle.rules.proofs.SmallEvents.{follows_all, events_small}
use Rattle.book_tables.specs.Looking.{lines_advised, lines_ordered, lines_reserved}

-- what holds of all holds of each
pub has_all : {X : Type 0} (p : X → Bool) (xs : List X) (x : X) → Has xs x → list_all p xs ≡ true → p x ≡ true
has_all p [] x has all = absurd has
has_all p (y ∷ ys) x (inl same) all = ap p same ∙ (and_parts (p y) (list_all p ys) all).0
has_all p (y ∷ ys) x (inr later) all = has_all p ys x later (and_parts (p y) (list_all p ys) all).1

pub small_line : (l : Line) → is_fitting_line Two l ≡ true → l.quantity < 2 ^ 32
small_line l fit = omega (arith, leb-true l.quantity (most_quantity Two) fit)

pub small_ordered : (l : PageLine) → is_fitting_ordered Two l ≡ true → l.quantity < 2 ^ 32
small_ordered l fit = omega (arith, leb-true l.quantity (most_quantity Two) fit)

pub small_lot : (r : LotRow) → is_fitting_row r ≡ true → r.since < 2 ^ 32
small_lot r fit = omega (arith, leb-true r.since (most_entries + 1) fit)

-- What is found fits, where all does.

lines_fit : (o : Option PageAdvice) → ((k : PageAdvice) → o ≡ Some k → is_fitting_advice Two k ≡ true) → list_all (is_fitting_line Two) (lines_advised o) ≡ true
lines_fit None fit = refl
lines_fit (Some k) fit = (and_parts (nat_le (length k.lines) (most_lines Two)) (list_all (is_fitting_line Two) k.lines) (fit k refl)).1

pub advised_fit : (s : List ℕ) (ks : List PageAdvice) → list_all (is_fitting_advice Two) ks ≡ true → list_all (is_fitting_line Two) (lines_advised (advice_at s ks)) ≡ true
advised_fit s ks all = lines_fit (advice_at s ks) (λ k found. all_found (is_fitting_advice Two) (is_shipment s) ks k all found)

few_lines : (o : Option PageAdvice) → ((k : PageAdvice) → o ≡ Some k → is_fitting_advice Two k ≡ true) → length (lines_advised o) ≤ most_lines Two
few_lines None fit = omega arith
few_lines (Some k) fit = leb-true (length k.lines) (most_lines Two) (and_parts (nat_le (length k.lines) (most_lines Two)) (list_all (is_fitting_line Two) k.lines) (fit k refl)).0

pub advised_few : (s : List ℕ) (ks : List PageAdvice) → list_all (is_fitting_advice Two) ks ≡ true → length (lines_advised (advice_at s ks)) ≤ most_lines Two
advised_few s ks all = few_lines (advice_at s ks) (λ k found. all_found (is_fitting_advice Two) (is_shipment s) ks k all found)

order_fits : (o : Option PageOrder) → ((k : PageOrder) → o ≡ Some k → is_fitting_order Two k ≡ true) → (list_all (is_fitting_ordered Two) (lines_ordered o) ≡ true) × (list_all (is_fitting_line Two) (lines_reserved o) ≡ true)
order_fits None fit = (refl, refl)
order_fits (Some k) fit = and_parts (list_all (is_fitting_ordered Two) k.lines) (list_all (is_fitting_line Two) k.reserved) (fit k refl)

pub ordered_fit : (s : List ℕ) (ks : List PageOrder) → list_all (is_fitting_order Two) ks ≡ true → list_all (is_fitting_ordered Two) (lines_ordered (order_at s ks)) ≡ true
ordered_fit s ks all = (order_fits (order_at s ks) (λ k found. all_found (is_fitting_order Two) (is_number s) ks k all found)).0

pub reserved_fit : (s : List ℕ) (ks : List PageOrder) → list_all (is_fitting_order Two) ks ≡ true → list_all (is_fitting_line Two) (lines_reserved (order_at s ks)) ≡ true
reserved_fit s ks all = (order_fits (order_at s ks) (λ k found. all_found (is_fitting_order Two) (is_number s) ks k all found)).1

-- no rules are above the second
all_follow : (M : List Entry) → follows_all Two M ≡ true
all_follow [] = refl
all_follow (e ∷ M) = both_true (first e.rules) (all_follow M)
  where
    first : (r : Rules) → may_follow r Two ≡ true
    first One = refl
    first Two = refl

-- an advice of any entries has no more lines than a set
pub too_many : (s : List ℕ) (M : List Entry) (lines : List Line) → lines ≡ lines_advised (advice_at s (page_of M).advices) → most_lines Two < length lines → ⊥
too_many s M lines same many = omega (arith, ap (λ (ls : List Line). length ls) same, many, advised_few s (page_of M).advices (advices_fit Two (events M) (events_small Two M (all_follow M))))
