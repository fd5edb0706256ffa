-- What the part of a page gives an order is what the page gives it.
use Rattle.std.proofs.Common.{◌≡◌, ℕ, true, List, [], ◌∷◌, ◌++◌, map, refl, ap, sym, ◌∙◌, arith}
use Rattle.std.proofs.lemmas.Bool.{and_parts}
use Rattle.std.specs.Prelude.{zip, filter}
use Rattle.std.specs.List.{list_all}
use Rattle.definitions.specs.Lists.{in_order}
use Rattle.definitions.specs.declared.rules.Rules.{Rules}
use Rattle.definitions.specs.Allotment.{Ranked, ranks_before, allot, may_have}
use Rattle.definitions.specs.Events.{pair_before}
use Rattle.definitions.specs.Means.{Line, Order, OrderLine}
use Rattle.definitions.specs.Movements.{OnHand, Reservation}
use Rattle.definitions.specs.Page.{PageLine, page_line, reserved_lines}
use Rattle.definitions.specs.Bytes.{is_one_of}
use Rattle.definitions.proofs.TextLaws.{same_text}
use Rattle.definitions.proofs.NeedLaws.{or_left, or_right}
use Rattle.std.specs.Prelude.{bytes_eq}
use Rattle.std.specs.Cmp.Derive.{both_true}
use Rattle.page_rows.specs.Lots.{ranks_of, free_in, shares_in, all_shares_in}
use Rattle.page_rows.specs.Pages.{PageFacts, is_in_lines}
use Rattle.stock.specs.Parts.{Named, IsPart, all_named, are_items}
use Rattle.page_rows.specs.Steps.{opened_order}
use Rattle.page_rows.specs.OfPairs.{amount, IsDistinct}
use Rattle.stock.proofs.Allots.{is_given, all_in_order}
use Rattle.page_rows.proofs.Keys.{all_filter}
use Rattle.page_rows.proofs.KeyLemmas.{sorted_distinct}
use Rattle.page_rows.proofs.LotLemmas.{ranks_same}
use Rattle.page_rows.proofs.Shares.{map_same}

free_part : (n : Named) (p P : PageFacts) (item lot : List ℕ) → IsPart n p P → n.items item ≡ true → free_in p.rows item lot ≡ free_in P.rows item lot
free_part n p P item lot part is = omega (arith, part.rows (amount OnHand) item lot is, part.rows (amount Reservation) item lot is)

shares_part : (r : Rules) (n : Named) (p P : PageFacts) (l : OrderLine) → IsPart n p P → IsDistinct p.rows → n.items l.item ≡ true → shares_in r p.rows l ≡ shares_in r P.rows l
shares_part r n p P l part distinct is =
    let ranks = ranks_same r l.item p.rows P.rows distinct (sorted_distinct P.rows part.sorted.rows) (λ f lot. part.rows f l.item lot is) in
    let mine = filter (may_have l.pin) (map (λ (k : Ranked). k.lot) (in_order (ranks_before r) (ranks_of l.item P.rows))) in
    ap (λ (rs : List Ranked). let lots = filter (may_have l.pin) (map (λ (k : Ranked). k.lot) rs) in made lots (map (free_in p.rows l.item) lots)) ranks
    ∙ ap (made mine) (map_same (free_in p.rows l.item) (free_in P.rows l.item) mine (λ lot. free_part n p P l.item lot part is))
  where
    made : List (List ℕ) → List ℕ → List Line
    made lots frees = map (λ q. record { item = l.item; lot = q.0; quantity = q.1 }) (zip lots (allot frees l.quantity))

pub all_shares_part : (r : Rules) (n : Named) (p P : PageFacts) (ls : List OrderLine) → IsPart n p P → IsDistinct p.rows → list_all (λ l. n.items l.item) ls ≡ true → all_shares_in r p.rows ls ≡ all_shares_in r P.rows ls
all_shares_part r n p P [] part distinct all = refl
all_shares_part r n p P (l ∷ ls) part distinct all =
    let q = and_parts (n.items l.item) (list_all (λ (l : OrderLine). n.items l.item) ls) all in
    ap (λ (xs : List Line). xs ++ all_shares_in r p.rows ls) (shares_part r n p P l part distinct q.0) ∙ ap (λ (xs : List Line). shares_in r P.rows l ++ xs) (all_shares_part r n p P ls part distinct q.1)

-- and it is of named items

made_items : (n : Named) (item : List ℕ) (qs : List (List ℕ × ℕ)) → n.items item ≡ true → are_items n (map (λ q. record { item = item; lot = q.0; quantity = q.1 }) qs) ≡ true
made_items n item [] is = refl
made_items n item (q ∷ qs) is = rw is (made_items n item qs is)

both_items : (n : Named) (xs ys : List Line) → are_items n xs ≡ true → are_items n ys ≡ true → are_items n (xs ++ ys) ≡ true
both_items n [] ys a b = b
both_items n (x ∷ xs) ys a b = let q = and_parts (n.items x.item) (are_items n xs) a in rw (q.0, both_items n xs ys q.1 b) refl

shares_items : (r : Rules) (n : Named) (p : PageFacts) (ls : List OrderLine) → list_all (λ l. n.items l.item) ls ≡ true → are_items n (all_shares_in r p.rows ls) ≡ true
shares_items r n p [] all = refl
shares_items r n p (l ∷ ls) all =
    let q = and_parts (n.items l.item) (list_all (λ (l : OrderLine). n.items l.item) ls) all in
    let mine = filter (may_have l.pin) (map (λ (k : Ranked). k.lot) (in_order (ranks_before r) (ranks_of l.item p.rows))) in
    both_items n (shares_in r p.rows l) (all_shares_in r p.rows ls) (made_items n l.item (zip mine (allot (map (free_in p.rows l.item) mine) l.quantity)) q.0) (shares_items r n p ls q.1)

pub reserved_items : (r : Rules) (n : Named) (p : PageFacts) (ls : List OrderLine) → list_all (λ l. n.items l.item) ls ≡ true → are_items n (reserved_lines (all_shares_in r p.rows ls)) ≡ true
reserved_items r n p ls all =
    let shares = all_shares_in r p.rows ls in
    let of = λ (l : Line). n.items l.item in
    all_in_order of pair_before (filter is_given shares) (all_filter of is_given shares (shares_items r n p ls all))

-- so what is reserved for an order is of items of its lines
among : (ls : List OrderLine) (ms : List PageLine) → ((t : List ℕ) → is_one_of (map (λ l. l.item) ls) t ≡ true → is_one_of (map (λ l. l.item) ms) t ≡ true)
    → list_all (λ l. is_one_of (map (λ l. l.item) ms) l.item) ls ≡ true
among [] ms h = refl
among (l ∷ ls) ms h = both_true (h l.item (or_left (bytes_eq l.item l.item) (is_one_of (map (λ l. l.item) ls) l.item) (same_text l.item)))
    (among ls ms (λ t k. h t (or_right (bytes_eq t l.item) (is_one_of (map (λ l. l.item) ls) t) k)))

same_items : (ls : List OrderLine) → map (λ l. l.item) ls ≡ map (λ l. l.item) (map page_line ls)
same_items [] = refl
same_items (l ∷ ls) = ap (λ xs. l.item ∷ xs) (same_items ls)

pub opened_in_lines : (r : Rules) (o : Order) (p : PageFacts) → is_in_lines (opened_order o (all_shares_in r p.rows o.lines)) ≡ true
opened_in_lines r o p = reserved_items r (record all_named { items = is_one_of (map (λ l. l.item) (map page_line o.lines)) }) p o.lines
    (among o.lines (map page_line o.lines) (λ t k. ap (λ xs. is_one_of xs t) (sym (same_items o.lines)) ∙ k))
