-- What the page of a depositor of a legal register lists fits the rules of its version.
use Rattle.std.proofs.Common.{◌≡◌, ℕ, ◌+◌, ◌≤◌, Bool, true, false, ◌&&◌, List, [], ◌∷◌, map, length, Some, None, refl, sym, ap, ◌∙◌, arith, le-leb, leb-true}
use Rattle.std.specs.Prelude.{nat_le, nat_lt, filter, flat_map, if◌then◌else◌, unwrap_or, ◌==◌}
use borrow.Author.Tests.{eqb-true}
use Rattle.std.specs.Cmp.Derive.{both_true}
use Rattle.std.specs.List.{list_all, list_any}
use Rattle.std.proofs.lemmas.List.{length-map}
use Rattle.std.proofs.lemmas.List.Folds.{list_all-map}
use Rattle.definitions.specs.declared.rules.Rules.{Rules}
use Rattle.definitions.specs.declared.rules.Rules.TheVariants.{One, Two}
use Rattle.definitions.specs.Rules.{may_follow}
use Rattle.definitions.specs.Limits.{most_lines, most_entries}
use Rattle.definitions.specs.Bytes.{comes_before}
use Rattle.definitions.specs.Lists.{placed, in_order, or_else}
use Rattle.definitions.specs.Header.{Who, who_eq}
use Rattle.definitions.specs.Means.{Line, AdviceLine, Advice, OrderLine}
use Rattle.definitions.specs.Events.{Event, Enrolment, Advised, Ordered, Acknowledged, Counted, Picked, Recounted, pair_before, Reserved, is_pair, first_count, since, is_order_open}
use Rattle.definitions.specs.Register.{Entry, is_first, own}
use Rattle.definitions.specs.History.{events, history}
use Rattle.definitions.specs.Rows.{lot_row, named, running_rows}
use Rattle.definitions.specs.Page.{PageLine, advices_of, orders_of, reserved_lines, page_advice, page_line, page_order, page_advices, page_orders, page_of}
use Rattle.definitions.specs.Decision.{standing}
use Rattle.definitions.specs.Accepted.{IsLegal}
use Rattle.definitions.proofs.TextLaws.{both_parts}
use Rattle.definitions.proofs.RegisterLaws.{legal-first, first_is}
use Rattle.stock.specs.Shows.{is_numbered_within}
use Rattle.stock.proofs.Keys.{all_filter}
use Rattle.stock.proofs.Allots.{all_in_order}
use Rattle.rules.specs.Fitting.{is_fitting_line, is_fitting_row, is_fitting_advice, is_fitting_order, IsFitting}
use Rattle.rules.proofs.LegalPages.{legal_page}
use Rattle.rules.proofs.Small.{is_small, is_small_event, all_so}
use Rattle.rules.proofs.SmallEvents.{AreSmall, follows_all, events_small}

-- Lists.

placed_so : {X : Type 0} (p : X → Bool) (less : X → X → Bool) (x : X) (ys : List X) → p x ≡ true → list_all p ys ≡ true
    → list_all p (placed less x ys) ≡ true
placed_so p less x [] e h = both_true e refl
placed_so p less x (y ∷ ys) e h =
    let k = both_parts (p y) (list_all p ys) h in by (less x y) (less y x) k.0 (placed_so p less x ys e k.1)
  where
    by : (s t : Bool) → p y ≡ true → list_all p (placed less x ys) ≡ true
        → list_all p (if s then x ∷ y ∷ ys else (if t then y ∷ placed less x ys else y ∷ ys)) ≡ true
    by true t f k = both_true e h
    by false true f k = both_true f k
    by false false f k = h

-- Advices.

abbrev is_small_advice : Rules → Advice → Bool
is_small_advice r a = is_small_event r (Advised a)

abbrev advice_before : Advice → Advice → Bool
advice_before a b = comes_before a.shipment b.shipment

advices_small : (r : Rules) (es : List Event) → AreSmall r es → list_all (is_small_advice r) (advices_of es) ≡ true
advices_small r [] small = refl
advices_small r (Enrolment ∷ es) small = advices_small r es small
advices_small r (Advised a ∷ es) small =
    let k = both_parts (is_small_advice r a) (list_all (is_small_event r) es) small in
    placed_so (is_small_advice r) advice_before a (advices_of es) k.0 (advices_small r es k.1)
advices_small r (Ordered o shares ∷ es) small =
    advices_small r es ((both_parts (is_small_event r (Ordered o shares)) (list_all (is_small_event r) es) small).1)
advices_small r (Acknowledged n a ∷ es) small = advices_small r es small
advices_small r (Counted n a sheet ∷ es) small = advices_small r es small
advices_small r (Picked n o shares sheet ∷ es) small = advices_small r es small
advices_small r (Recounted n before sheet ∷ es) small = advices_small r es small

advice_fits : (r : Rules) (es : List Event) (a : Advice) → is_small_advice r a ≡ true → is_fitting_advice r (page_advice es a) ≡ true
advice_fits r es a small =
    let lines = list_all (λ (l : AdviceLine). is_small r l.line.quantity) a.lines in
    let k = both_parts (nat_le (length a.lines) (most_lines r)) lines small in
    both_true (ap (λ (n : ℕ). nat_le n (most_lines r)) (length-map a.lines (λ (l : AdviceLine). l.line)) ∙ k.0)
    (list_all-map (is_fitting_line r) (λ (l : AdviceLine). l.line) a.lines ∙ k.1)

pub advices_fit : (r : Rules) (es : List Event) → AreSmall r es → list_all (is_fitting_advice r) (page_advices es) ≡ true
advices_fit r es small =
    list_all-map (is_fitting_advice r) (page_advice es) (advices_of es)
    ∙ all_so (is_small_advice r) (λ (a : Advice). is_fitting_advice r (page_advice es a)) (advices_of es) (advice_fits r es)
    (advices_small r es small)

-- Orders.

abbrev is_small_order : Rules → Reserved → Bool
is_small_order r k = is_small_event r (Ordered k.order k.shares)

abbrev order_before : Reserved → Reserved → Bool
order_before a b = comes_before a.order.number b.order.number

orders_small : (r : Rules) (es : List Event) → AreSmall r es → list_all (is_small_order r) (orders_of es) ≡ true
orders_small r [] small = refl
orders_small r (Enrolment ∷ es) small = orders_small r es small
orders_small r (Advised a ∷ es) small =
    orders_small r es ((both_parts (is_small_event r (Advised a)) (list_all (is_small_event r) es) small).1)
orders_small r (Ordered o shares ∷ es) small =
    let k = both_parts (is_small_event r (Ordered o shares)) (list_all (is_small_event r) es) small in
    let one : Reserved = record { order = o; shares = shares } in
    placed_so (is_small_order r) order_before one (orders_of es) k.0 (orders_small r es k.1)
orders_small r (Acknowledged n a ∷ es) small = orders_small r es small
orders_small r (Counted n a sheet ∷ es) small = orders_small r es small
orders_small r (Picked n o shares sheet ∷ es) small = orders_small r es small
orders_small r (Recounted n before sheet ∷ es) small = orders_small r es small

reserved_fit : (r : Rules) (shares : List Line) → list_all (is_fitting_line r) shares ≡ true
    → list_all (is_fitting_line r) (reserved_lines shares) ≡ true
reserved_fit r shares small =
    let is_given = λ (l : Line). nat_lt 0 l.quantity in
    all_in_order (is_fitting_line r) pair_before (filter is_given shares) (all_filter (is_fitting_line r) is_given shares small)

order_fits : (r : Rules) (es : List Event) (o : Reserved) → is_small_order r o ≡ true → is_fitting_order r (page_order es o) ≡ true
order_fits r es o small =
    let lines = list_all (λ (l : OrderLine). is_small r l.quantity) o.order.lines in
    let k = both_parts lines (list_all (is_fitting_line r) o.shares) small in
    both_true (list_all-map (λ (l : PageLine). is_small r l.quantity) page_line o.order.lines ∙ k.0)
    (by (is_order_open o.order.number es) k.1)
  where
    by : (b : Bool) → list_all (is_fitting_line r) o.shares ≡ true
        → list_all (is_fitting_line r) (if b then reserved_lines o.shares else []) ≡ true
    by true h = reserved_fit r o.shares h
    by false h = refl

orders_fit : (r : Rules) (es : List Event) → AreSmall r es → list_all (is_fitting_order r) (page_orders es) ≡ true
orders_fit r es small =
    list_all-map (is_fitting_order r) (page_order es) (orders_of es)
    ∙ all_so (is_small_order r) (λ (o : Reserved). is_fitting_order r (page_order es o)) (orders_of es) (order_fits r es)
    (orders_small r es small)

-- Rows.

-- a row's since is the number of a count, or 0
since_within : (most : ℕ) (es : List Event) (item lot : List ℕ) → list_all (is_numbered_within most) es ≡ true
    → since es item lot ≤ most
since_within most [] item lot h = omega arith
since_within most (Enrolment ∷ es) item lot h = since_within most es item lot h
since_within most (Advised a ∷ es) item lot h = since_within most es item lot h
since_within most (Ordered o shares ∷ es) item lot h = since_within most es item lot h
since_within most (Acknowledged n a ∷ es) item lot h =
    let k = both_parts (nat_lt 0 n && nat_le n most) (list_all (is_numbered_within most) es) h in
    since_within most es item lot k.1
since_within most (Counted n a sheet ∷ es) item lot h =
    let k = both_parts (nat_lt 0 n && nat_le n most) (list_all (is_numbered_within most) es) h in
    by (list_any (is_pair item lot) sheet) (leb-true n most ((both_parts (nat_lt 0 n) (nat_le n most) k.0).1))
    (since_within most es item lot k.1)
  where
    by : (b : Bool) → n ≤ most → since es item lot ≤ most
        → unwrap_or (or_else (if b then Some n else None) (first_count es item lot)) 0 ≤ most
    by true le more = le
    by false le more = more
since_within most (Picked n o shares sheet ∷ es) item lot h =
    let k = both_parts (nat_lt 0 n && nat_le n most) (list_all (is_numbered_within most) es) h in
    since_within most es item lot k.1
since_within most (Recounted n before sheet ∷ es) item lot h =
    let k = both_parts (nat_lt 0 n && nat_le n most) (list_all (is_numbered_within most) es) h in
    since_within most es item lot k.1

lines_fit : (es : List Event) (ls : List Line) → ((item lot : List ℕ) → since es item lot ≤ most_entries + 1)
    → list_all is_fitting_row (map (lot_row es) ls) ≡ true
lines_fit es [] le = refl
lines_fit es (l ∷ ls) le =
    both_true (le-leb (since es l.item l.lot) (most_entries + 1) (le l.item l.lot)) (lines_fit es ls le)

rows_fit : (es : List Event) → ((item lot : List ℕ) → since es item lot ≤ most_entries + 1)
    → list_all is_fitting_row (running_rows es) ≡ true
rows_fit es le = lines_fit es (in_order pair_before (flat_map named es)) le

-- Pages.

some_standing : (k : Entry) (M : List Entry) → standing (k ∷ M) ≡ Some (history (k ∷ M))
some_standing k M = by (length (k ∷ M) == 0) refl
  where
    by : (b : Bool) → (length (k ∷ M) == 0) ≡ b → (if b then None else Some (history (k ∷ M))) ≡ Some (history (k ∷ M))
    by true same = absurd (omega (arith, eqb-true (length (k ∷ M)) 0 same))
    by false same = refl

entries_fit : (r : Rules) (M : List Entry) → follows_all r M ≡ true → ((item lot : List ℕ) → since (events M) item lot ≤ most_entries + 1)
    → (history M).numbered ≤ most_entries → IsFitting r (page_of M)
entries_fit r M follows le few = record {
  rows = rows_fit (events M) le;
  advices = advices_fit r (events M) (events_small r M follows);
  orders = orders_fit r (events M) (events_small r M follows);
  entries = few;
}

-- the rules of a version follow those of each entry

all_first : (L : List Entry) → list_all is_first L ≡ true → follows_all One L ≡ true
all_first [] h = refl
all_first (e ∷ L) h =
    let p = both_parts (is_first e) (list_all is_first L) h in
    both_true (ap (λ (q : Rules). may_follow q One) (first_is e.rules p.0)) (all_first L p.1)

all_second : (L : List Entry) → follows_all Two L ≡ true
all_second [] = refl
all_second (e ∷ L) = both_true (by e.rules) (all_second L)
  where
    by : (q : Rules) → may_follow q Two ≡ true
    by One = refl
    by Two = refl

legal_follows : (r : Rules) (W : Who) (L : List Entry) → IsLegal r W L → follows_all r L ≡ true
legal_follows One W L legal = all_first L (legal-first W L legal)
legal_follows Two W L legal = all_second L

pub page_fits : (r : Rules) (W : Who) (L : List Entry) (w : Who) → IsLegal r W L → IsFitting r (page_of (own L w))
page_fits r W L w legal = by (own L w) refl
  where
    follows : follows_all r (own L w) ≡ true
    follows = all_filter (λ (e : Entry). may_follow e.rules r) (λ (e : Entry). who_eq e.who w) L (legal_follows r W L legal)

    by : (M : List Entry) → own L w ≡ M → IsFitting r (page_of M)
    by [] is = entries_fit r [] refl (λ item lot. omega arith) (omega arith)
    by (k ∷ M) is =
        let h = history (k ∷ M) in
        let page = legal_page r W L w h legal (ap standing is ∙ some_standing k M) in
        let P = page.0 in
        entries_fit r (k ∷ M) (ap (follows_all r) (sym is) ∙ follows)
        (λ item lot. omega (
          arith,
          since_within (P.entries + 1) h.events item lot page.1.page.shows.numbers,
          page.1.sound.numbered,
        ))
        (omega (arith, page.1.page.entries, page.1.sound.numbered))
