-- A word of an order has the parts of an order.
use Rattle.std.proofs.Common.{◌≡◌, ℕ, zero, suc, ◌≤◌, true, false, List, [], ◌∷◌, ◌++◌, map, refl, sym, ◌∙◌, ap, subst, inl, inr, append_assoc, append-nil, Option, Some, None, arith}
use Rattle.std.specs.Prelude.{codes, bytes_eq, flat_map, IfSome, option_to_list}
use Rattle.std.specs.List.{AllByRecursion}
use Rattle.definitions.specs.Bytes.{Delims}
use Rattle.definitions.specs.Cut.{Segment, id_of, has_id, last_segment}
use Rattle.definitions.specs.Rules.{Today}
use Rattle.definitions.specs.Limits.{most_lines}
use Rattle.definitions.specs.Words.{Words, One, Then, Times, IsWord, IsRow, words_940, optional}
use Rattle.definitions.specs.Faults.{fault_from}
use Rattle.definitions.proofs.WordsLaws.{viable_to}
use Rattle.tables.specs.Order.{address, party, goods, line, total, lines, dates, references}
use Rattle.sets_in.specs.SaidOrder.{Party, OrderedGoods, OrderSet, in_party, in_goods, printed, IsOrderHeader, IsParty, IsGoods, IsOrderSet}
use Rattle.sets_in.proofs.Parse.{Ids, split, cons_word, times_word, last_word, all_so, all_both}
use Rattle.sets_in.proofs.Whole.{viable, ends, NoneEnds, none_both, once, map_same}

-- the parts of a word

then_word : {X : Type 0} (f : X → List ℕ) (xs : List X) (v w : Words) → IsWord (Then v w) (map f xs)
    → (ys zs : List X) × (xs ≡ ys ++ zs) × IsWord v (map f ys) × IsWord w (map f zs)
then_word f xs v w (a, b, e, p, q) = let s = split f xs a b e in (s.0, s.1, s.2, subst (IsWord v) (sym s.3) p, subst (IsWord w) (sym s.4) q)

abbrev AtMostOne : {X : Type 0} → (X → List ℕ) → List ℕ → List X → Type 0
AtMostOne {X} f id xs = (o : Option X) × (xs ≡ option_to_list o) × IfSome o (λ x. f x ≡ id)

one_in_row : {X : Type 0} (f : X → List ℕ) (id : List ℕ) (n : ℕ) (xs : List X) → n ≤ 1 → IsRow (IsWord (One id)) n (map f xs) → AtMostOne f id xs
one_in_row f id zero [] u h = (None, refl, tt)
one_in_row f id zero (x ∷ xs) u h = absurd (cc)
one_in_row f id (suc zero) xs u (a, b, e, p, q) =
    let k : map f xs ≡ id ∷ [] = e ∙ ap (λ y. y ++ b) p ∙ ap (λ y. id ∷ y) q in
    let l = last_word f xs id k in (Some l.0, l.1, l.2)
one_in_row f id (suc (suc n)) xs u h = absurd (omega arith)

at_most_one : {X : Type 0} (f : X → List ℕ) (id : List ℕ) (xs : List X) → IsWord (optional (One id)) (map f xs) → AtMostOne f id xs
at_most_one f id xs (n, l, u, row) = one_in_row f id n xs u row

-- a row of parts, each of which has its tree
trees : {X T : Type 0} (f : X → List ℕ) (w : Words) (print : T → List X) (Good : T → Type 0) → ((ys : List X) → IsWord w (map f ys) → (t : T) × (ys ≡ print t) × Good t)
    → (n : ℕ) (xs : List X) → IsRow (IsWord w) n (map f xs) → (ts : List T) × (xs ≡ flat_map print ts) × AllByRecursion Good ts
trees f w print Good each zero [] h = ([], refl, tt)
trees f w print Good each zero (x ∷ xs) h = absurd (cc)
trees f w print Good each (suc n) xs (a, b, e, p, q) =
    let s = split f xs a b e in
    let t = each s.0 (subst (IsWord w) (sym s.3) p) in
    let r = trees f w print Good each n s.1 (subst (IsRow (IsWord w) n) (sym s.4) q) in
    (t.0 ∷ r.0, s.2 ∙ ap (λ y. y ++ s.1) t.1 ∙ ap (λ y. print t.0 ++ y) r.1, (t.2, r.2))

trees_word : {X T : Type 0} (f : X → List ℕ) (low high : ℕ) (v w : Words) (print : T → List X) (Good : T → Type 0) → ((ys : List X) → IsWord v (map f ys) → (t : T) × (ys ≡ print t) × Good t)
    → (xs : List X) → IsWord (Then (Times low high v) w) (map f xs) → (ts : List T) × (zs : List X) × (xs ≡ flat_map print ts ++ zs) × AllByRecursion Good ts × IsWord w (map f zs)
trees_word f low high v w print Good each xs (a, b, e, (n, l, u, row), q) =
    let s = split f xs a b e in
    let r = trees f v print Good each n s.0 (subst (IsRow (IsWord v) n) (sym s.3) row) in
    (r.0, s.1, s.2 ∙ ap (λ y. y ++ s.1) r.1, r.2, subst (IsWord w) (sym s.4) q)

-- a party and the goods of a line

abbrev PartyOf : {X : Type 0} → (X → List ℕ) → List X → Type 0
PartyOf {X} f xs = (p : Party X) × (xs ≡ in_party p) × IsParty f p

a_party : {X : Type 0} (f : X → List ℕ) (xs : List X) → IsWord party (map f xs) → PartyOf f xs
a_party {X} f xs h = with_n1 (cons_word f xs (codes "N1") address h)
  where
    with_n1 : (x : X) × (ys : List X) × (xs ≡ x ∷ ys) × (f x ≡ codes "N1") × IsWord address (map f ys) → PartyOf f xs
    with_n1 (x, ys, e, k, w) =
        let t = then_word f ys (optional (One (codes "N3"))) (optional (One (codes "N4"))) w in
        let a = at_most_one f (codes "N3") t.0 t.3 in
        let b = at_most_one f (codes "N4") t.1 t.4 in
        (record { n1 = x; n3 = a.0; n4 = b.0 }, e ∙ ap (λ y. x ∷ y) (t.2 ∙ ap (λ y. y ++ t.1) a.1 ∙ ap (λ y. option_to_list a.0 ++ y) b.1), (k, a.2, b.2))

abbrev GoodsOf : {X : Type 0} → (X → List ℕ) → List X → Type 0
GoodsOf {X} f xs = (g : OrderedGoods X) × (xs ≡ in_goods g) × IsGoods f g

some_goods : {X : Type 0} (f : X → List ℕ) (xs : List X) → IsWord line (map f xs) → GoodsOf f xs
some_goods {X} f xs h = with_lx (cons_word f xs (codes "LX") goods h)
  where
    with_w01 : (x : X) (ys : List X) → xs ≡ x ∷ ys → f x ≡ codes "LX"
        → (y : X) × (zs : List X) × (ys ≡ y ∷ zs) × (f y ≡ codes "W01") × IsWord (optional (One (codes "N9"))) (map f zs) → GoodsOf f xs
    with_w01 x ys e k (y, zs, d, l, w) = let a = at_most_one f (codes "N9") zs w in
        (record { lx = x; w01 = y; n9 = a.0 }, e ∙ ap (λ r. x ∷ r) (d ∙ ap (λ r. y ∷ r) a.1), (k, l, a.2))

    with_lx : (x : X) × (ys : List X) × (xs ≡ x ∷ ys) × (f x ≡ codes "LX") × IsWord goods (map f ys) → GoodsOf f xs
    with_lx (x, ys, e, k, w) = with_w01 x ys e k (cons_word f ys (codes "W01") (optional (One (codes "N9"))) w)

-- W76 and SE

abbrev EndedBy : {X : Type 0} → (X → List ℕ) → List X → Type 0
EndedBy {X} f xs = (w76 se : X) × (xs ≡ w76 ∷ se ∷ []) × (f w76 ≡ codes "W76") × (f se ≡ codes "SE")

ended : {X : Type 0} (f : X → List ℕ) (xs : List X) → IsWord total (map f xs) → EndedBy f xs
ended {X} f xs h = with_total (cons_word f xs (codes "W76") (One (codes "SE")) h)
  where
    with_total : (x : X) × (ys : List X) × (xs ≡ x ∷ ys) × (f x ≡ codes "W76") × (map f ys ≡ codes "SE" ∷ []) → EndedBy f xs
    with_total (x, ys, e, p, q) = let l = last_word f ys (codes "SE") q in (x, l.0, e ∙ ap (λ y. x ∷ y) l.1, p, l.2)

-- the header, and the words of what stands after it

abbrev Headed : {X : Type 0} → (X → List ℕ) → List X → Type 0
Headed {X} f xs = (hs zs : List X) × (xs ≡ hs ++ zs) × AllByRecursion (λ x. IsOrderHeader (f x)) hs × IsWord (lines Today) (map f zs)

more_header : {X : Type 0} (f : X → List ℕ) (xs : List X) (id : List ℕ) → IsOrderHeader id → (ys zs : List X) → xs ≡ ys ++ zs → AllByRecursion (λ x. f x ≡ id) ys → Headed f zs → Headed f xs
more_header {X} f xs id is ys zs e all (hs, rest, d, b, w) =
    let P : X → Type 0 = λ x. IsOrderHeader (f x) in
    let mine : AllByRecursion P ys = all_so (λ x. f x ≡ id) P (λ x k. subst IsOrderHeader (sym k) is) ys all in
    (ys ++ hs, rest, e ∙ ap (λ y. ys ++ y) d ∙ sym (append_assoc ys hs rest), all_both P ys hs mine b, w)

with_dates : {X : Type 0} (f : X → List ℕ) (xs : List X) → IsWord (dates Today) (map f xs) → Headed f xs
with_dates f xs h = let t = times_word f xs 0 2 (codes "G62") (lines Today) h in
    more_header f xs (codes "G62") (inr refl) t.0 t.1 t.2 t.3 ([], t.1, refl, tt, t.4)

with_references : {X : Type 0} (f : X → List ℕ) (xs : List X) → IsWord (references Today) (map f xs) → Headed f xs
with_references f xs h = let t = times_word f xs 0 5 (codes "N9") (dates Today) h in
    more_header f xs (codes "N9") (inl refl) t.0 t.1 t.2 t.3 (with_dates f t.1 t.4)

-- the whole

abbrev pub Parsed : {X : Type 0} → (X → List ℕ) → List X → Type 0
Parsed {X} f xs = (t : OrderSet X) × (xs ≡ printed t) × IsOrderSet f t

built : {X : Type 0} (f : X → List ℕ) (xs : List X) (st w05 : X) (ys zs : List X) → xs ≡ st ∷ ys → f st ≡ codes "ST" → ys ≡ w05 ∷ zs → f w05 ≡ codes "W05"
    → (ps : List (Party X)) (hs : List X) (gs : List (OrderedGoods X)) (w76 se : X)
    → zs ≡ flat_map in_party ps ++ (hs ++ (flat_map in_goods gs ++ w76 ∷ se ∷ []))
    → AllByRecursion (IsParty f) ps → AllByRecursion (λ x. IsOrderHeader (f x)) hs → AllByRecursion (IsGoods f) gs → f w76 ≡ codes "W76" → f se ≡ codes "SE" → Parsed f xs
built {X} f xs st w05 ys zs a p b q ps hs gs w76 se c are_parties are_header are_goods is_w76 is_se =
    let t : OrderSet X = record { st = st; w05 = w05; parties = ps; header = hs; goods = gs; w76 = w76; se = se } in
    let is : IsOrderSet f t = record { st = p; w05 = q; parties = are_parties; header = are_header; goods = are_goods; w76 = is_w76; se = is_se } in
    (t, a ∙ ap (λ y. st ∷ y) (b ∙ ap (λ y. w05 ∷ y) c), is)

pub parse : {X : Type 0} (f : X → List ℕ) (xs : List X) → IsWord (words_940 Today) (map f xs) → Parsed f xs
parse {X} f xs h = with_st (cons_word f xs (codes "ST") (Then (One (codes "W05")) (Then (Times 0 5 party) (references Today))) h)
  where
    with_end : (st w05 : X) (ys zs : List X) → xs ≡ st ∷ ys → f st ≡ codes "ST" → ys ≡ w05 ∷ zs → f w05 ≡ codes "W05"
        → (ps : List (Party X)) (hs : List X) (gs : List (OrderedGoods X)) (rest : List X) → zs ≡ flat_map in_party ps ++ (hs ++ (flat_map in_goods gs ++ rest))
        → AllByRecursion (IsParty f) ps → AllByRecursion (λ x. IsOrderHeader (f x)) hs → AllByRecursion (IsGoods f) gs → EndedBy f rest → Parsed f xs
    with_end st w05 ys zs a p b q ps hs gs rest c are_parties are_header are_goods (w76, se, e, i, j) =
        built f xs st w05 ys zs a p b q ps hs gs w76 se (c ∙ ap (λ y. flat_map in_party ps ++ (hs ++ (flat_map in_goods gs ++ y))) e) are_parties are_header are_goods i j

    with_header : (st w05 : X) (ys zs : List X) → xs ≡ st ∷ ys → f st ≡ codes "ST" → ys ≡ w05 ∷ zs → f w05 ≡ codes "W05"
        → (ps : List (Party X)) (rest : List X) → zs ≡ flat_map in_party ps ++ rest → AllByRecursion (IsParty f) ps → Headed f rest → Parsed f xs
    with_header st w05 ys zs a p b q ps rest c are_parties (hs, more, d, are_header, w) =
        let g = trees_word f 1 (most_lines Today) line total in_goods (IsGoods f) (some_goods f) more w in
        with_end st w05 ys zs a p b q ps hs g.0 g.1 (c ∙ ap (λ y. flat_map in_party ps ++ y) (d ∙ ap (λ y. hs ++ y) g.2)) are_parties are_header g.3 (ended f g.1 g.4)

    with_w05 : (st : X) (ys : List X) → xs ≡ st ∷ ys → f st ≡ codes "ST"
        → (x : X) × (zs : List X) × (ys ≡ x ∷ zs) × (f x ≡ codes "W05") × IsWord (Then (Times 0 5 party) (references Today)) (map f zs) → Parsed f xs
    with_w05 st ys a p (x, zs, b, q, w) =
        let s = trees_word f 0 5 party (references Today) in_party (IsParty f) (a_party f) zs w in
        with_header st x ys zs a p b q s.0 s.1 s.2 s.3 (with_references f s.1 s.4)

    with_st : (x : X) × (ys : List X) × (xs ≡ x ∷ ys) × (f x ≡ codes "ST") × IsWord (Then (One (codes "W05")) (Then (Times 0 5 party) (references Today))) (map f ys) → Parsed f xs
    with_st (x, ys, a, p, w) = with_w05 x ys a p (cons_word f ys (codes "W05") (Then (Times 0 5 party) (references Today)) w)

-- ids that aren't among those of a part

-- none of these has the id
abbrev pub AreOther : {X : Type 0} → (X → List ℕ) → List ℕ → List X → Type 0
AreOther f id xs = AllByRecursion (λ x. bytes_eq (f x) id ≡ false) xs

other : {X : Type 0} (f : X → List ℕ) (id y : List ℕ) (x : X) → f x ≡ y → bytes_eq y id ≡ false → bytes_eq (f x) id ≡ false
other f id y x e h = ap (λ z. bytes_eq z id) e ∙ h

pub other_if_there : {X : Type 0} (f : X → List ℕ) (id y : List ℕ) (o : Option X) → bytes_eq y id ≡ false → IfSome o (λ x. f x ≡ y) → AreOther f id (option_to_list o)
other_if_there f id y None a h = tt
other_if_there f id y (Some x) a h = (other f id y x h a, tt)

pub other_in_address : {X : Type 0} (f : X → List ℕ) (id : List ℕ) (p : Party X) → bytes_eq (codes "N3") id ≡ false → bytes_eq (codes "N4") id ≡ false
    → IsParty f p → AreOther f id (option_to_list p.n3 ++ option_to_list p.n4)
other_in_address f id p b c h = all_both (λ x. bytes_eq (f x) id ≡ false) (option_to_list p.n3) (option_to_list p.n4)
    (other_if_there f id (codes "N3") p.n3 b h.1) (other_if_there f id (codes "N4") p.n4 c h.2)

pub other_in_parties : {X : Type 0} (f : X → List ℕ) (id : List ℕ) (ps : List (Party X)) → bytes_eq (codes "N1") id ≡ false → bytes_eq (codes "N3") id ≡ false → bytes_eq (codes "N4") id ≡ false
    → AllByRecursion (IsParty f) ps → AreOther f id (flat_map in_party ps)
other_in_parties f id [] a b c h = tt
other_in_parties f id (p ∷ ps) a b c h = all_both (λ x. bytes_eq (f x) id ≡ false) (in_party p) (flat_map in_party ps)
    (other f id (codes "N1") p.n1 h.0.0 a, other_in_address f id p b c h.0) (other_in_parties f id ps a b c h.1)

pub other_in_goods : {X : Type 0} (f : X → List ℕ) (id : List ℕ) (gs : List (OrderedGoods X)) → bytes_eq (codes "LX") id ≡ false → bytes_eq (codes "W01") id ≡ false → bytes_eq (codes "N9") id ≡ false
    → AllByRecursion (IsGoods f) gs → AreOther f id (flat_map in_goods gs)
other_in_goods f id [] a b c h = tt
other_in_goods f id (g ∷ gs) a b c h = all_both (λ x. bytes_eq (f x) id ≡ false) (in_goods g) (flat_map in_goods gs)
    (other f id (codes "LX") g.lx h.0.0 a, (other f id (codes "W01") g.w01 h.0.1 b, other_if_there f id (codes "N9") g.n9 c h.0.2)) (other_in_goods f id gs a b c h.1)

pub other_in_header : {X : Type 0} (f : X → List ℕ) (id : List ℕ) (hs : List X) → bytes_eq (codes "N9") id ≡ false → bytes_eq (codes "G62") id ≡ false
    → AllByRecursion (λ x. IsOrderHeader (f x)) hs → AreOther f id hs
other_in_header f id [] a b h = tt
other_in_header {X} f id (x ∷ hs) a b h = (by_id h.0, other_in_header f id hs a b h.1)
  where
    by_id : IsOrderHeader (f x) → bytes_eq (f x) id ≡ false
    by_id (inl e) = other f id (codes "N9") x e a
    by_id (inr e) = other f id (codes "G62") x e b

-- a set without a fault that ends with SE is a whole word

nothing_more : (ids more front : Ids) → ids ≡ front ++ codes "SE" ∷ [] → IsWord (words_940 Today) (ids ++ more) → more ≡ []
nothing_more ids more front e w = by_parts (parse (λ x. x) (ids ++ more) (subst (IsWord (words_940 Today)) (sym (map_same (ids ++ more))) w))
  where
    by_parts : Parsed (λ x. x) (ids ++ more) → more ≡ []
    by_parts (t, parts, is) =
        let same : List ℕ → List ℕ = λ x. x in
        let parties : Ids = flat_map in_party t.parties in
        let all_goods : Ids = flat_map in_goods t.goods in
        let before : Ids = t.st ∷ t.w05 ∷ parties ++ (t.header ++ (all_goods ++ t.w76 ∷ [])) in
        let none : NoneEnds before = (
          other same (codes "SE") (codes "ST") t.st is.st refl,
          (
            other same (codes "SE") (codes "W05") t.w05 is.w05 refl,
            none_both parties (t.header ++ (all_goods ++ t.w76 ∷ [])) (other_in_parties same (codes "SE") t.parties refl refl refl is.parties)
                (none_both t.header (all_goods ++ t.w76 ∷ []) (other_in_header same (codes "SE") t.header refl refl is.header)
                (none_both all_goods (t.w76 ∷ []) (other_in_goods same (codes "SE") t.goods refl refl refl is.goods) (other same (codes "SE") (codes "W76") t.w76 is.w76 refl, tt))),
          ),
        ) in
        let whole : ids ++ more ≡ before ++ t.se ∷ [] = parts
        ∙ ap (λ y. t.st ∷ t.w05 ∷ y) (ap (λ y. parties ++ y) (ap (λ y. t.header ++ y) (sym (append_assoc all_goods (t.w76 ∷ []) (t.se ∷ [])))
        ∙ sym (append_assoc t.header (all_goods ++ t.w76 ∷ []) (t.se ∷ []))) ∙ sym (append_assoc parties (t.header ++ (all_goods ++ t.w76 ∷ [])) (t.se ∷ []))) in
        once before front more t.se none (ap (λ y. y ++ more) (sym e) ∙ whole)

pub whole_order : (d : Delims) (ss : List Segment) → fault_from Today d (words_940 Today) (words_940 Today) [] 1 ss ≡ None → has_id (codes "SE") (last_segment ss) ≡ true → Parsed id_of ss
whole_order d ss h t =
    let v = viable_to (words_940 Today) (map id_of ss) (viable Today d (words_940 Today) (words_940 Today) [] 1 ss refl h) in
    let e = ends ss t in
    let none : v.0 ≡ [] = nothing_more (map id_of ss) v.0 e.0 e.1 v.1 in
    parse id_of ss (subst (IsWord (words_940 Today)) (append-nil (map id_of ss)) (subst (λ (m : Ids). IsWord (words_940 Today) (map id_of ss ++ m)) none v.1))
