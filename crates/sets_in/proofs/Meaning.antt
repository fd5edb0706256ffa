-- The segments of an advice's tree mean what the tree says.
use Rattle.std.proofs.Common.{◌≡◌, ℕ, ◌+◌, ◌-◌, ◌*◌, false, ◌&&◌, cond, List, [], ◌∷◌, ◌++◌, length, map, refl, sym, ◌∙◌, ap, Some, None, arith, lt-ltb, append_assoc, length-append}
use Rattle.std.specs.Prelude.{codes, bytes_eq, nat_lt, slice_get, unwrap_or, Option}
use Rattle.std.proofs.Common.{inl, inr}
use Rattle.std.specs.List.{AllByRecursion}
use Rattle.definitions.specs.Bytes.{value}
use Rattle.definitions.specs.Cut.{Segment, element, id_of, has_id, segment_with, segments_of}
use Rattle.definitions.specs.declared.set_kind.SetKind.TheVariants.{ShipmentAdvice}
use Rattle.definitions.specs.Means.{Advice, AdviceLine, advice_of, advice_line, expiry_of, segment_at, place_of}
use Rattle.tables.specs.Judged.{Whole, IsUnfaulted}
use Rattle.sets_in.specs.Places.{places_from}
use Rattle.sets_in.specs.Said.{AdviceSet, IsAdviceSet, IsAdviceHeader, in_pairs, printed, date_in, lines_at, meaning, SaysAdvice}
use Rattle.sets_in.proofs.Places.{with_yes, with_no, from_yes, from_no}
use Rattle.sets_in.proofs.Parse.{Parsed}
use Rattle.sets_in.proofs.Whole.{whole_advice}
use Rattle.sets_in.proofs.Counted.{passes}

abbrev Goods : Type 0
Goods = List (Segment × Segment)

abbrev AreGoods : Goods → Type 0
AreGoods gs = AllByRecursion (λ g. (id_of g.0 ≡ codes "W04") × (id_of g.1 ≡ codes "N9")) gs

-- none of the segments has the id
abbrev pub Lacks : List ℕ → List Segment → Type 0
Lacks id xs = AllByRecursion (λ s. has_id id s ≡ false) xs

pub is_no : (id x : List ℕ) (s : Segment) → id_of s ≡ x → bytes_eq x id ≡ false → has_id id s ≡ false
is_no id x s e h = ap (λ y. bytes_eq y id) e ∙ h

header_lacks : (id : List ℕ) (xs : List Segment) → bytes_eq (codes "N1") id ≡ false → bytes_eq (codes "N9") id ≡ false → bytes_eq (codes "G62") id ≡ false
    → AllByRecursion (λ s. IsAdviceHeader (id_of s)) xs → Lacks id xs
header_lacks id [] a b c h = tt
header_lacks id (s ∷ xs) a b c h = (by_id h.0, header_lacks id xs a b c h.1)
  where
    by_id : IsAdviceHeader (id_of s) → has_id id s ≡ false
    by_id (inl e) = is_no id (codes "N1") s e a
    by_id (inr (inl e)) = is_no id (codes "N9") s e b
    by_id (inr (inr e)) = is_no id (codes "G62") s e c

goods_lack : (id : List ℕ) (gs : Goods) → bytes_eq (codes "W04") id ≡ false → bytes_eq (codes "N9") id ≡ false → AreGoods gs → Lacks id (in_pairs gs)
goods_lack id [] a b h = tt
goods_lack id (g ∷ gs) a b h = (is_no id (codes "W04") g.0 h.0.0 a, (is_no id (codes "N9") g.1 h.0.1 b, goods_lack id gs a b h.1))

-- segments by their ids

pub with_skip : (id : List ℕ) (xs ys : List Segment) → Lacks id xs → segment_with id (xs ++ ys) ≡ segment_with id ys
with_skip id [] ys h = refl
with_skip id (x ∷ xs) ys h = with_no id x (xs ++ ys) h.0 ∙ with_skip id xs ys h.1

pub from_skip : (id : List ℕ) (n : ℕ) (xs ys : List Segment) → Lacks id xs → places_from id n (xs ++ ys) ≡ places_from id (n + length xs) ys
from_skip id n [] ys h = let e : n ≡ n + 0 = omega arith in ap (λ k. places_from id k ys) e
from_skip id n (x ∷ xs) ys h =
    let e : n + 1 + length xs ≡ n + length (x ∷ xs) = omega arith in
    from_no id n x (xs ++ ys) h.0 ∙ from_skip id (n + 1) xs ys h.1 ∙ ap (λ k. places_from id k ys) e

-- the positions of the lines
evens : ℕ → Goods → List ℕ
evens n [] = []
evens n (g ∷ gs) = n ∷ evens (n + 2) gs

goods_places : (n : ℕ) (gs : Goods) (w03 se : Segment) → AreGoods gs → has_id (codes "W04") w03 ≡ false → has_id (codes "W04") se ≡ false
    → places_from (codes "W04") n (in_pairs gs ++ w03 ∷ se ∷ []) ≡ evens n gs
unfolding evens
goods_places n [] w03 se h a b = from_no (codes "W04") n w03 (se ∷ []) a ∙ from_no (codes "W04") (n + 1) se [] b
goods_places n (g ∷ gs) w03 se h a b =
    let rest = in_pairs gs ++ w03 ∷ se ∷ [] in
    let two : n + 1 + 1 ≡ n + 2 = omega arith in
    from_yes (codes "W04") n g.0 (g.1 ∷ rest) (ap (λ y. bytes_eq y (codes "W04")) h.0.0)
    ∙ ap (λ y. n ∷ y) (from_no (codes "W04") (n + 1) g.1 rest (is_no (codes "W04") (codes "N9") g.1 h.0.1 refl)
    ∙ ap (λ k. places_from (codes "W04") k rest) two ∙ goods_places (n + 2) gs w03 se h.1 a b)

-- segments at positions

nth : (front : List Segment) (s : Segment) (ys : List Segment) → slice_get (front ++ s ∷ ys) (length front) ≡ Some s
nth [] s ys = refl
nth (x ∷ front) s ys = nth front s ys

pub at : (ss front : List Segment) (s : Segment) (ys : List Segment) (n : ℕ) → ss ≡ front ++ s ∷ ys → n ≡ length front + 1 → segment_at ss n ≡ s
at ss front s ys n e p =
    let k : n - 1 ≡ length front = omega arith in
    ap (λ i. unwrap_or (slice_get ss i) []) k ∙ ap (λ (x : List Segment). unwrap_or (slice_get x (length front)) []) e ∙ ap (λ (o : Option Segment). unwrap_or o []) (nth front s ys)

-- the date of an N9
date_of : (s : Segment) → id_of s ≡ codes "N9" → expiry_of s ≡ date_in (element s 4)
date_of s e = ap (λ b. cond (b && nat_lt 0 (length (element s 4))) (Some (element s 4)) None) (ap (λ y. bytes_eq y (codes "N9")) e) ∙ if_any (element s 4)
  where
    if_any : (text : List ℕ) → cond (nat_lt 0 (length text)) (Some text) None ≡ date_in text
    if_any [] = refl
    if_any (b ∷ bs) = ap (λ t. cond t (Some (b ∷ bs)) None) (lt-ltb 0 (length (b ∷ bs)) (omega arith))

abbrev line_said : Segment → Segment → Option (List ℕ) → ℕ → AdviceLine
line_said w04 n9 date n = record { line = record { item = element w04 5; lot = element n9 2; quantity = value (element w04 1) }; expiry = date; position = n }

lines_mean : (ss front : List Segment) (gs : Goods) (back : List Segment) (n : ℕ) → AreGoods gs → ss ≡ front ++ (in_pairs gs ++ back) → n ≡ length front + 1
    → map (advice_line ss) (evens n gs) ≡ lines_at n gs
unfolding evens
lines_mean ss front [] back n h e p = refl
lines_mean ss front (g ∷ gs) back n h e p =
    let rest = in_pairs gs ++ back in
    let first : segment_at ss n ≡ g.0 = at ss front g.0 (g.1 ∷ rest) n e p in
    let split : ss ≡ (front ++ g.0 ∷ []) ++ g.1 ∷ rest = e ∙ sym (append_assoc front (g.0 ∷ []) (g.1 ∷ rest)) in
    let second : segment_at ss (n + 1) ≡ g.1 = at ss (front ++ g.0 ∷ []) g.1 rest (n + 1) split (omega (arith, length-append front (g.0 ∷ []))) in
    let after : ss ≡ (front ++ g.0 ∷ g.1 ∷ []) ++ rest = e ∙ sym (append_assoc front (g.0 ∷ g.1 ∷ []) rest) in
    let more = lines_mean ss (front ++ g.0 ∷ g.1 ∷ []) gs back (n + 2) h.1 after (omega (arith, length-append front (g.0 ∷ g.1 ∷ []))) in
    ap (λ (s : Segment). line_said s (segment_at ss (n + 1)) (expiry_of (segment_at ss (n + 1))) n ∷ map (advice_line ss) (evens (n + 2) gs)) first
    ∙ ap (λ (s : Segment). line_said g.0 s (expiry_of s) n ∷ map (advice_line ss) (evens (n + 2) gs)) second
    ∙ ap (λ (date : Option (List ℕ)). line_said g.0 g.1 date n ∷ map (advice_line ss) (evens (n + 2) gs)) (date_of g.1 h.0.1)
    ∙ ap (λ (ls : List AdviceLine). line_said g.0 g.1 (date_in (element g.1 4)) n ∷ ls) more

pairs_length : (gs : Goods) → length (in_pairs gs) ≡ 2 * length gs
pairs_length [] = refl
pairs_length (g ∷ gs) = omega (arith, pairs_length gs)

-- the whole

abbrev made : Segment → Segment → List AdviceLine → ℕ → Advice
made w06 w03 lines position = record { shipment = element w06 4; order = element w06 2; lines = lines; total = value (element w03 1); total_position = position }

means : (t : AdviceSet) → IsAdviceSet t → advice_of (printed t) ≡ meaning t
means t h =
    let end = t.w03 ∷ t.se ∷ [] in
    let after = t.header ++ (in_pairs t.goods ++ end) in
    let w06 : segment_with (codes "W06") (printed t) ≡ t.w06 =
    with_no (codes "W06") t.st (t.w06 ∷ after) (is_no (codes "W06") (codes "ST") t.st h.st refl)
    ∙ with_yes (codes "W06") t.w06 after (ap (λ y. bytes_eq y (codes "W06")) h.w06) in
    let w03 : segment_with (codes "W03") (printed t) ≡ t.w03 =
    with_no (codes "W03") t.st (t.w06 ∷ after) (is_no (codes "W03") (codes "ST") t.st h.st refl)
    ∙ with_no (codes "W03") t.w06 after (is_no (codes "W03") (codes "W06") t.w06 h.w06 refl)
    ∙ with_skip (codes "W03") t.header (in_pairs t.goods ++ end) (header_lacks (codes "W03") t.header refl refl refl h.header)
    ∙ with_skip (codes "W03") (in_pairs t.goods) end (goods_lack (codes "W03") t.goods refl refl h.goods)
    ∙ with_yes (codes "W03") t.w03 (t.se ∷ []) (ap (λ y. bytes_eq y (codes "W03")) h.w03) in
    let begin : 1 + 1 + 1 + length t.header ≡ length t.header + 3 = omega arith in
    let places : places_from (codes "W04") 1 (printed t) ≡ evens (length t.header + 3) t.goods =
    from_no (codes "W04") 1 t.st (t.w06 ∷ after) (is_no (codes "W04") (codes "ST") t.st h.st refl)
    ∙ from_no (codes "W04") (1 + 1) t.w06 after (is_no (codes "W04") (codes "W06") t.w06 h.w06 refl)
    ∙ from_skip (codes "W04") (1 + 1 + 1) t.header (in_pairs t.goods ++ end) (header_lacks (codes "W04") t.header refl refl refl h.header)
    ∙ ap (λ n. places_from (codes "W04") n (in_pairs t.goods ++ end)) begin
    ∙ goods_places (length t.header + 3) t.goods t.w03 t.se h.goods (is_no (codes "W04") (codes "W03") t.w03 h.w03 refl) (is_no (codes "W04") (codes "SE") t.se h.se refl) in
    let lines : map (advice_line (printed t)) (places_from (codes "W04") 1 (printed t)) ≡ lines_at (length t.header + 3) t.goods =
    ap (map (advice_line (printed t))) places
    ∙ lines_mean (printed t) (t.st ∷ t.w06 ∷ t.header) t.goods end (length t.header + 3) h.goods refl (omega arith) in
    let after_goods : 1 + 1 + 1 + length t.header + length (in_pairs t.goods) ≡ length t.header + 3 + 2 * length t.goods = omega (arith, pairs_length t.goods) in
    let total : place_of (codes "W03") (printed t) ≡ length t.header + 3 + 2 * length t.goods =
    ap (λ (ns : List ℕ). unwrap_or (slice_get ns 0) 0)
    (from_no (codes "W03") 1 t.st (t.w06 ∷ after) (is_no (codes "W03") (codes "ST") t.st h.st refl)
    ∙ from_no (codes "W03") (1 + 1) t.w06 after (is_no (codes "W03") (codes "W06") t.w06 h.w06 refl)
    ∙ from_skip (codes "W03") (1 + 1 + 1) t.header (in_pairs t.goods ++ end) (header_lacks (codes "W03") t.header refl refl refl h.header)
    ∙ from_skip (codes "W03") (1 + 1 + 1 + length t.header) (in_pairs t.goods) end (goods_lack (codes "W03") t.goods refl refl h.goods)
    ∙ from_yes (codes "W03") (1 + 1 + 1 + length t.header + length (in_pairs t.goods)) t.w03 (t.se ∷ []) (ap (λ y. bytes_eq y (codes "W03")) h.w03))
    ∙ after_goods in
    ap (λ (s : Segment). made s (segment_with (codes "W03") (printed t)) (map (advice_line (printed t)) (places_from (codes "W04") 1 (printed t))) (place_of (codes "W03") (printed t))) w06
    ∙ ap (λ (s : Segment). made t.w06 s (map (advice_line (printed t)) (places_from (codes "W04") 1 (printed t))) (place_of (codes "W03") (printed t))) w03
    ∙ ap (λ (ls : List AdviceLine). made t.w06 t.w03 ls (place_of (codes "W03") (printed t))) lines
    ∙ ap (λ n. made t.w06 t.w03 (lines_at (length t.header + 3) t.goods) n) total

of_parts : (ss : List Segment) → Parsed id_of ss → SaysAdvice ss (advice_of ss)
of_parts ss p =
    let t : AdviceSet = record { st = p.st; w06 = p.w06; header = p.header; goods = p.goods; w03 = p.w03; se = p.se } in
    let is : IsAdviceSet t = record { st = p.is_st; w06 = p.is_w06; header = p.are_header; goods = p.are_goods; w03 = p.is_w03; se = p.is_se } in
    (t, p.parts, is, ap advice_of p.parts ∙ means t is)

-- a set without a fault prints a tree, and what is read of it is what that says
pub says_advice : (w : Whole) → IsUnfaulted w → w.kind ≡ ShipmentAdvice → SaysAdvice (segments_of w.pieces) (advice_of (segments_of w.pieces))
says_advice w s k = let p = passes w ShipmentAdvice s k in of_parts (segments_of w.pieces) (whole_advice p.0 (segments_of w.pieces) p.1 s.closed)
