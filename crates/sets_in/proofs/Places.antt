-- Segments and places, one after the other.
use Rattle.std.proofs.Common.{◌≡◌, ℕ, ◌+◌, ◌-◌, ◌<◌, ◌≤◌, Bool, true, false, List, [], ◌∷◌, ◌++◌, length, get_or, map, take, drop, refl, sym, ◌∙◌, ap, arith, cond, add-one, drop-cons, Some, not, zero, suc, subst, append_assoc, Option, option_map}
use Rattle.sets_in.specs.Amounts.{IsAmount, HaveAmounts}
use Rattle.sets_in.proofs.Sound.{amount_at}
use Rattle.std.specs.Prelude.{codes, ◌||◌, filter, unwrap_or, slice_get, find}
use Rattle.std.specs.List.{enumerate_from, take_while, position_or_len, after_first}
use Rattle.std.proofs.lemmas.List.{drop_all}
use Rattle.std.proofs.lemmas.List.Sums.{take_while-cons}
use Rattle.definitions.specs.Cut.{Segment, Piece, segments_of, segment_with, has_id, element}
use Rattle.definitions.specs.Means as meant
use Rattle.sets_in.specs.Places.{places_from}

-- the segment at a place, and those after it
pub left_here : (ps : List Piece) (i : ℕ) (p : Piece) → i < length ps → segments_of (drop i ps) ≡ (get_or ps i p).elements ∷ segments_of (drop (i + 1) ps)
left_here ps i p h =
    let e : drop i ps ≡ get_or ps i p ∷ drop (i + 1) ps = drop-cons ps i p h ∙ ap (λ n. get_or ps i p ∷ drop n ps) (sym (add-one i)) in
    ap segments_of e

pub none_left : (ps : List Piece) (i : ℕ) → length ps ≤ i → segments_of (drop i ps) ≡ []
none_left ps i h = ap segments_of (drop_all i ps h)

-- the first with an id

pub with_yes : (id : List ℕ) (s : Segment) (ss : List Segment) → has_id id s ≡ true → segment_with id (s ∷ ss) ≡ s
with_yes id s ss t = ap (λ (b : Bool). unwrap_or (cond b (Some s) (find (has_id id) ss)) []) t

pub with_no : (id : List ℕ) (s : Segment) (ss : List Segment) → has_id id s ≡ false → segment_with id (s ∷ ss) ≡ segment_with id ss
with_no id s ss t = ap (λ (b : Bool). unwrap_or (cond b (Some s) (find (has_id id) ss)) []) t

pub first_with : (id : List ℕ) (ps : List Piece) (i : ℕ) (p : Piece) (whole : Segment) → i < length ps → whole ≡ segment_with id (segments_of (drop i ps))
    → has_id id (get_or ps i p).elements ≡ true → whole ≡ (get_or ps i p).elements
first_with id ps i p whole h e t = e ∙ ap (segment_with id) (left_here ps i p h) ∙ with_yes id (get_or ps i p).elements (segments_of (drop (i + 1) ps)) t

-- places

pub from_yes : (id : List ℕ) (n : ℕ) (s : Segment) (ss : List Segment) → has_id id s ≡ true → places_from id n (s ∷ ss) ≡ n ∷ places_from id (n + 1) ss
from_yes id n s ss t =
    ap (λ (b : Bool). map (λ (p : ℕ × Segment). p.0) (cond b ((n, s) ∷ filter (λ (p : ℕ × Segment). has_id id p.1) (enumerate_from (n + 1) ss)) (filter (λ (p : ℕ × Segment). has_id id p.1) (enumerate_from (n + 1) ss)))) t

pub from_no : (id : List ℕ) (n : ℕ) (s : Segment) (ss : List Segment) → has_id id s ≡ false → places_from id n (s ∷ ss) ≡ places_from id (n + 1) ss
from_no id n s ss t =
    ap (λ (b : Bool). map (λ (p : ℕ × Segment). p.0) (cond b ((n, s) ∷ filter (λ (p : ℕ × Segment). has_id id p.1) (enumerate_from (n + 1) ss)) (filter (λ (p : ℕ × Segment). has_id id p.1) (enumerate_from (n + 1) ss)))) t

pub place_here : (id : List ℕ) (ps : List Piece) (i n : ℕ) (p : Piece) → i < length ps → has_id id (get_or ps i p).elements ≡ true
    → places_from id n (segments_of (drop i ps)) ≡ n ∷ places_from id (n + 1) (segments_of (drop (i + 1) ps))
place_here id ps i n p h t = ap (places_from id n) (left_here ps i p h) ∙ from_yes id n (get_or ps i p).elements (segments_of (drop (i + 1) ps)) t

pub place_later : (id : List ℕ) (ps : List Piece) (i n : ℕ) (p : Piece) → i < length ps → has_id id (get_or ps i p).elements ≡ false
    → places_from id n (segments_of (drop i ps)) ≡ places_from id (n + 1) (segments_of (drop (i + 1) ps))
place_later id ps i n p h t = ap (places_from id n) (left_here ps i p h) ∙ from_no id n (get_or ps i p).elements (segments_of (drop (i + 1) ps)) t

-- the segment at a position

segment_nth : (ps : List Piece) (i : ℕ) (p : Piece) → i < length ps → unwrap_or (slice_get (segments_of ps) i) [] ≡ (get_or ps i p).elements
segment_nth [] i p h = absurd (omega arith)
segment_nth (q ∷ ps) zero p h = refl
segment_nth (q ∷ ps) (suc i) p h = segment_nth ps i p (omega arith)

pub amount_here : (id : List ℕ) (place most : ℕ) (ps : List Piece) (i : ℕ) (p : Piece) → i < length ps → HaveAmounts id place most (segments_of ps)
    → has_id id (get_or ps i p).elements ≡ true → IsAmount most (element (meant.segment_at (segments_of ps) (i + 1)) place)
amount_here id place most ps i p h all t =
    let e : i + 1 - 1 ≡ i = omega arith in
    let same = ap (λ n. unwrap_or (slice_get (segments_of ps) n) []) e in
    subst (λ (s : Segment). IsAmount most (element s place)) (sym same)
    (amount_at id place most (segments_of ps) i all (ap (has_id id) (segment_nth ps i p h) ∙ t))

-- what belongs to a segment

abbrev belongs : Segment → Bool
belongs s = has_id (codes "N3") s || has_id (codes "N4") s

pub belongs_here : (ps : List Piece) (i : ℕ) (p : Piece) (whole : List Segment) → i < length ps
    → whole ≡ segments_of (take i ps) ++ take_while belongs (segments_of (drop i ps))
    → belongs (get_or ps i p).elements ≡ true
    → whole ≡ segments_of (take (i + 1) ps) ++ take_while belongs (segments_of (drop (i + 1) ps))
belongs_here ps i p whole h e t =
    let s = (get_or ps i p).elements in
    let rest = segments_of (drop (i + 1) ps) in
    let left : take_while belongs (segments_of (drop i ps)) ≡ s ∷ take_while belongs rest =
    ap (take_while belongs) (left_here ps i p h) ∙ take_while-cons belongs s rest ∙ ap (λ (b : Bool). cond b (s ∷ take_while belongs rest) []) t in
    let front : segments_of (take (i + 1) ps) ≡ segments_of (take i ps) ++ s ∷ [] = taken_more ps i p h in
    e ∙ ap (λ (x : List Segment). segments_of (take i ps) ++ x) left
    ∙ sym (append_assoc (segments_of (take i ps)) (s ∷ []) (take_while belongs rest))
    ∙ ap (λ (x : List Segment). x ++ take_while belongs rest) (sym front)
  where
    taken_more : (qs : List Piece) (n : ℕ) (q : Piece) → n < length qs → segments_of (take (n + 1) qs) ≡ segments_of (take n qs) ++ (get_or qs n q).elements ∷ []
    taken_more [] n q k = absurd (omega arith)
    taken_more (x ∷ xs) zero q k = refl
    taken_more (x ∷ xs) (suc n) q k = rw (add-one (suc n)) (ap (λ (y : List Segment). x.elements ∷ y) (ap (λ m. segments_of (take m xs)) (sym (add-one n)) ∙ taken_more xs n q (omega arith)))

-- the first ship-to

after_yes : (s : Segment) (ss : List Segment) → meant.is_ship_to s ≡ true → after_first meant.is_ship_to (s ∷ ss) ≡ ss
after_yes s ss t = ap (λ (b : Bool). drop (cond (not b) (1 + position_or_len meant.is_ship_to ss) 0 + 1) (s ∷ ss)) t

after_no : (s : Segment) (ss : List Segment) → meant.is_ship_to s ≡ false → after_first meant.is_ship_to (s ∷ ss) ≡ after_first meant.is_ship_to ss
after_no s ss t =
    ap (λ (b : Bool). drop (cond (not b) (1 + position_or_len meant.is_ship_to ss) 0 + 1) (s ∷ ss)) t
    ∙ ap (λ n. drop n (s ∷ ss)) (one_more (position_or_len meant.is_ship_to ss))
  where
    one_more : (n : ℕ) → 1 + n + 1 ≡ suc (n + 1)
    one_more n = omega arith

abbrev shipped : Option Segment → List Segment → Option meant.Address
shipped n1 after = option_map (λ s. meant.address_of s (take_while belongs after)) n1

pub first_ship_to : (s : Segment) (ss : List Segment) → meant.is_ship_to s ≡ true → meant.ship_to (s ∷ ss) ≡ Some (meant.address_of s (take_while belongs ss))
first_ship_to s ss t =
    ap (λ (b : Bool). shipped (cond b (Some s) (find meant.is_ship_to ss)) (after_first meant.is_ship_to (s ∷ ss))) t
    ∙ ap (shipped (Some s)) (after_yes s ss t)

pub later_ship_to : (s : Segment) (ss : List Segment) → meant.is_ship_to s ≡ false → meant.ship_to (s ∷ ss) ≡ meant.ship_to ss
later_ship_to s ss t =
    ap (λ (b : Bool). shipped (cond b (Some s) (find meant.is_ship_to ss)) (after_first meant.is_ship_to (s ∷ ss))) t
    ∙ ap (shipped (find meant.is_ship_to ss)) (after_no s ss t)

pub ship_to_here : (ps : List Piece) (i : ℕ) (p : Piece) (whole : Option meant.Address) → i < length ps → whole ≡ meant.ship_to (segments_of (drop i ps))
    → meant.is_ship_to (get_or ps i p).elements ≡ true → Some (meant.address_of (get_or ps i p).elements (take_while belongs (segments_of (drop (i + 1) ps)))) ≡ whole
ship_to_here ps i p whole h e t =
    sym (e ∙ ap meant.ship_to (left_here ps i p h) ∙ first_ship_to (get_or ps i p).elements (segments_of (drop (i + 1) ps)) t)

pub ship_to_later : (ps : List Piece) (i : ℕ) (p : Piece) (whole : Option meant.Address) → i < length ps → whole ≡ meant.ship_to (segments_of (drop i ps))
    → meant.is_ship_to (get_or ps i p).elements ≡ false → whole ≡ meant.ship_to (segments_of (drop (i + 1) ps))
ship_to_later ps i p whole h e t =
    e ∙ ap meant.ship_to (left_here ps i p h) ∙ later_ship_to (get_or ps i p).elements (segments_of (drop (i + 1) ps)) t

-- a line more

pub lines_more : {X : Type 0} (f : ℕ → X) (id : List ℕ) (ps : List Piece) (i : ℕ) (p : Piece) (whole items new : List X) (l : X) → i < length ps
    → has_id id (get_or ps i p).elements ≡ true → whole ≡ items ++ map f (places_from id (i + 1) (segments_of (drop i ps)))
    → l ≡ f (i + 1) → new ≡ items ++ l ∷ []
    → whole ≡ new ++ map f (places_from id (i + 1 + 1) (segments_of (drop (i + 1) ps)))
lines_more {X} f id ps i p whole items new l h t e same n =
    let rest = map f (places_from id (i + 1 + 1) (segments_of (drop (i + 1) ps))) in
    let more : map f (places_from id (i + 1) (segments_of (drop i ps))) ≡ f (i + 1) ∷ rest = ap (map f) (place_here id ps i (i + 1) p h t) in
    e ∙ ap (λ (x : List X). items ++ x) more
    ∙ sym (append_assoc items (f (i + 1) ∷ []) rest)
    ∙ ap (λ (x : X). (items ++ x ∷ []) ++ rest) (sym same)
    ∙ ap (λ (x : List X). x ++ rest) (sym n)
