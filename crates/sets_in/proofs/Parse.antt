-- A word of an advice has the parts of an advice.
use Rattle.std.proofs.Common.{◌≡◌, ℕ, zero, suc, List, [], ◌∷◌, ◌++◌, map, refl, sym, ◌∙◌, ap, subst, inl, inr, append_assoc}
use Rattle.std.specs.Prelude.{codes}
use Rattle.std.specs.List.{AllByRecursion}
use Rattle.definitions.specs.Rules.{Today}
use Rattle.definitions.specs.Limits.{most_lines}
use Rattle.definitions.specs.Words.{Words, One, Then, Times, IsWord, IsRow, words_943}
use Rattle.tables.specs.Advice.{total, lines, dates, references}
use Rattle.sets_in.specs.Said.{IsAdviceHeader, in_pairs}

abbrev pub Ids : Type 0
Ids = List (List ℕ)

pub record Parsed {X : Type 0} (f : X → List ℕ) (xs : List X) : Type 0 where
  pub st : X
  pub w06 : X
  pub header : List X
  pub goods : List (X × X)
  pub w03 : X
  pub se : X
  pub parts : xs ≡ st ∷ w06 ∷ header ++ (in_pairs goods ++ w03 ∷ se ∷ [])
  pub is_st : f st ≡ codes "ST"
  pub is_w06 : f w06 ≡ codes "W06"
  pub are_header : AllByRecursion (λ x. IsAdviceHeader (f x)) header
  pub are_goods : AllByRecursion (λ g. (f g.0 ≡ codes "W04") × (f g.1 ≡ codes "N9")) goods
  pub is_w03 : f w03 ≡ codes "W03"
  pub is_se : f se ≡ codes "SE"

pub split : {X : Type 0} (f : X → List ℕ) (xs : List X) (a b : Ids) → map f xs ≡ a ++ b → (ys zs : List X) × (xs ≡ ys ++ zs) × (map f ys ≡ a) × (map f zs ≡ b)
split f xs [] b e = ([], xs, refl, refl, e)
split f [] (i ∷ a) b e = absurd (cc)
split f (x ∷ xs) (i ∷ a) b e =
    let tail : map f xs ≡ a ++ b = cc in
    let head : f x ≡ i = cc in
    let s = split f xs a b tail in
    (x ∷ s.0, s.1, ap (λ y. x ∷ y) s.2, ap (λ y. y ∷ map f s.0) head ∙ ap (λ y. i ∷ y) s.3, s.4)

pub cons_word : {X : Type 0} (f : X → List ℕ) (xs : List X) (id : List ℕ) (w : Words) → IsWord (Then (One id) w) (map f xs)
    → (x : X) × (ys : List X) × (xs ≡ x ∷ ys) × (f x ≡ id) × IsWord w (map f ys)
cons_word f [] id w (a, b, e, p, q) = let k : [] ≡ id ∷ b = e ∙ ap (λ y. y ++ b) p in absurd (cc)
cons_word f (x ∷ xs) id w (a, b, e, p, q) =
    let k : f x ∷ map f xs ≡ id ∷ b = e ∙ ap (λ y. y ++ b) p in
    let head : f x ≡ id = cc in
    let tail : b ≡ map f xs = cc in
    (x, xs, refl, head, subst (IsWord w) tail q)

rows : {X : Type 0} (f : X → List ℕ) (id : List ℕ) (n : ℕ) (xs : List X) → IsRow (IsWord (One id)) n (map f xs) → AllByRecursion (λ x. f x ≡ id) xs
rows f id n [] h = tt
rows f id zero (x ∷ xs) h = absurd (cc)
rows f id (suc n) (x ∷ xs) (a, b, e, p, q) =
    let k : f x ∷ map f xs ≡ id ∷ b = e ∙ ap (λ y. y ++ b) p in
    let head : f x ≡ id = cc in
    let tail : b ≡ map f xs = cc in
    (head, rows f id n xs (subst (IsRow (IsWord (One id)) n) tail q))

pub times_word : {X : Type 0} (f : X → List ℕ) (xs : List X) (low high : ℕ) (id : List ℕ) (w : Words) → IsWord (Then (Times low high (One id)) w) (map f xs)
    → (ys zs : List X) × (xs ≡ ys ++ zs) × AllByRecursion (λ x. f x ≡ id) ys × IsWord w (map f zs)
times_word f xs low high id w (a, b, e, (n, l, u, row), q) =
    let s = split f xs a b e in
    (s.0, s.1, s.2, rows f id n s.0 (subst (IsRow (IsWord (One id)) n) (sym s.3) row), subst (IsWord w) (sym s.4) q)

pairs : {X : Type 0} (f : X → List ℕ) (i j : List ℕ) (n : ℕ) (xs : List X) → IsRow (IsWord (Then (One i) (One j))) n (map f xs)
    → (gs : List (X × X)) × (xs ≡ in_pairs gs) × AllByRecursion (λ g. (f g.0 ≡ i) × (f g.1 ≡ j)) gs
pairs f i j zero [] h = ([], refl, tt)
pairs f i j zero (x ∷ xs) h = absurd (cc)
pairs f i j (suc n) [] (a, b, e, (c, d, g, p, q), r) = let k : [] ≡ i ∷ j ∷ b = e ∙ ap (λ y. y ++ b) (g ∙ ap (λ y. y ++ d) p ∙ ap (λ y. i ∷ y) q) in absurd (cc)
pairs f i j (suc n) (x ∷ []) (a, b, e, (c, d, g, p, q), r) = let k : f x ∷ [] ≡ i ∷ j ∷ b = e ∙ ap (λ y. y ++ b) (g ∙ ap (λ y. y ++ d) p ∙ ap (λ y. i ∷ y) q) in absurd (cc)
pairs f i j (suc n) (x ∷ z ∷ xs) (a, b, e, (c, d, g, p, q), r) =
    let k : f x ∷ f z ∷ map f xs ≡ i ∷ j ∷ b = e ∙ ap (λ y. y ++ b) (g ∙ ap (λ y. y ++ d) p ∙ ap (λ y. i ∷ y) q) in
    let first : f x ≡ i = cc in
    let second : f z ≡ j = cc in
    let tail : b ≡ map f xs = cc in
    let s = pairs f i j n xs (subst (IsRow (IsWord (Then (One i) (One j))) n) tail r) in
    ((x, z) ∷ s.0, ap (λ y. x ∷ z ∷ y) s.1, ((first, second), s.2))

goods_word : {X : Type 0} (f : X → List ℕ) (xs : List X) (low high : ℕ) (i j : List ℕ) (w : Words) → IsWord (Then (Times low high (Then (One i) (One j))) w) (map f xs)
    → (gs : List (X × X)) × (zs : List X) × (xs ≡ in_pairs gs ++ zs) × AllByRecursion (λ g. (f g.0 ≡ i) × (f g.1 ≡ j)) gs × IsWord w (map f zs)
goods_word f xs low high i j w (a, b, e, (n, l, u, row), q) =
    let s = split f xs a b e in
    let g = pairs f i j n s.0 (subst (IsRow (IsWord (Then (One i) (One j))) n) (sym s.3) row) in
    (g.0, s.1, s.2 ∙ ap (λ y. y ++ s.1) g.1, g.2, subst (IsWord w) (sym s.4) q)

pub last_word : {X : Type 0} (f : X → List ℕ) (xs : List X) (id : List ℕ) → map f xs ≡ id ∷ [] → (x : X) × (xs ≡ x ∷ []) × (f x ≡ id)
last_word f [] id e = absurd (cc)
last_word f (x ∷ []) id e = let head : f x ≡ id = cc in (x, refl, head)
last_word f (x ∷ y ∷ xs) id e = absurd (cc)

pub all_so : {X : Type 0} (P Q : X → Type 0) → ((x : X) → P x → Q x) → (xs : List X) → AllByRecursion P xs → AllByRecursion Q xs
all_so P Q f [] h = tt
all_so P Q f (x ∷ xs) h = (f x h.0, all_so P Q f xs h.1)

pub all_both : {X : Type 0} (P : X → Type 0) (xs ys : List X) → AllByRecursion P xs → AllByRecursion P ys → AllByRecursion P (xs ++ ys)
all_both P [] ys h k = k
all_both P (x ∷ xs) ys h k = (h.0, all_both P xs ys h.1 k)

-- W03 and SE
ended : {X : Type 0} (f : X → List ℕ) (xs : List X) → IsWord total (map f xs) → (w03 se : X) × (xs ≡ w03 ∷ se ∷ []) × (f w03 ≡ codes "W03") × (f se ≡ codes "SE")
ended {X} f xs h = with_total (cons_word f xs (codes "W03") (One (codes "SE")) h)
  where
    with_total : (x : X) × (ys : List X) × (xs ≡ x ∷ ys) × (f x ≡ codes "W03") × (map f ys ≡ codes "SE" ∷ []) → (w03 se : X) × (xs ≡ w03 ∷ se ∷ []) × (f w03 ≡ codes "W03") × (f se ≡ codes "SE")
    with_total (x, ys, e, p, q) = let l = last_word f ys (codes "SE") q in (x, l.0, e ∙ ap (λ y. x ∷ y) l.1, p, l.2)

-- the lines, W03 and SE
abbrev Lined : {X : Type 0} → (X → List ℕ) → List X → Type 0
Lined {X} f xs = (gs : List (X × X)) × (w03 se : X) × (xs ≡ in_pairs gs ++ w03 ∷ se ∷ [])
    × AllByRecursion (λ g. (f g.0 ≡ codes "W04") × (f g.1 ≡ codes "N9")) gs × (f w03 ≡ codes "W03") × (f se ≡ codes "SE")

lined : {X : Type 0} (f : X → List ℕ) (xs : List X) → IsWord (lines Today) (map f xs) → Lined f xs
lined {X} f xs h = with_goods (goods_word f xs 1 (most_lines Today) (codes "W04") (codes "N9") total h)
  where
    with_goods : (gs : List (X × X)) × (zs : List X) × (xs ≡ in_pairs gs ++ zs) × AllByRecursion (λ g. (f g.0 ≡ codes "W04") × (f g.1 ≡ codes "N9")) gs × IsWord total (map f zs) → Lined f xs
    with_goods (gs, zs, e, all, w) = let l = ended f zs w in (gs, l.0, l.1, e ∙ ap (λ y. in_pairs gs ++ y) l.2, all, l.3, l.4)

-- the header, and the words of what stands after it
abbrev Headed : {X : Type 0} → (X → List ℕ) → List X → Type 0
Headed {X} f xs = (hs zs : List X) × (xs ≡ hs ++ zs) × AllByRecursion (λ x. IsAdviceHeader (f x)) hs × IsWord (lines Today) (map f zs)

more_header : {X : Type 0} (f : X → List ℕ) (xs : List X) (id : List ℕ) → IsAdviceHeader id → (ys zs : List X) → xs ≡ ys ++ zs → AllByRecursion (λ x. f x ≡ id) ys → Headed f zs → Headed f xs
more_header {X} f xs id is ys zs e all (hs, rest, d, b, w) =
    let P : X → Type 0 = λ x. IsAdviceHeader (f x) in
    let mine : AllByRecursion P ys = all_so (λ x. f x ≡ id) P (λ x k. subst IsAdviceHeader (sym k) is) ys all in
    (ys ++ hs, rest, e ∙ ap (λ y. ys ++ y) d ∙ sym (append_assoc ys hs rest), all_both P ys hs mine b, w)

with_dates : {X : Type 0} (f : X → List ℕ) (xs : List X) → IsWord (dates Today) (map f xs) → Headed f xs
with_dates f xs h = let t = times_word f xs 0 2 (codes "G62") (lines Today) h in
    more_header f xs (codes "G62") (inr (inr refl)) t.0 t.1 t.2 t.3 ([], t.1, refl, tt, t.4)

with_references : {X : Type 0} (f : X → List ℕ) (xs : List X) → IsWord (references Today) (map f xs) → Headed f xs
with_references f xs h = let t = times_word f xs 0 5 (codes "N9") (dates Today) h in
    more_header f xs (codes "N9") (inr (inl refl)) t.0 t.1 t.2 t.3 (with_dates f t.1 t.4)

with_parties : {X : Type 0} (f : X → List ℕ) (xs : List X) → IsWord (Then (Times 0 5 (One (codes "N1"))) (references Today)) (map f xs) → Headed f xs
with_parties f xs h = let t = times_word f xs 0 5 (codes "N1") (references Today) h in
    more_header f xs (codes "N1") (inl refl) t.0 t.1 t.2 t.3 (with_references f t.1 t.4)

built : {X : Type 0} (f : X → List ℕ) (xs : List X) (st w06 : X) (ys zs : List X) → xs ≡ st ∷ ys → f st ≡ codes "ST" → ys ≡ w06 ∷ zs → f w06 ≡ codes "W06"
    → (hs rest : List X) → zs ≡ hs ++ rest → AllByRecursion (λ x. IsAdviceHeader (f x)) hs → Lined f rest → Parsed f xs
built f xs st w06 ys zs a is_st b is_w06 hs rest c are_header (gs, w03, se, d, are_goods, is_w03, is_se) = record {
  st = st;
  w06 = w06;
  header = hs;
  goods = gs;
  w03 = w03;
  se = se;
  parts = a ∙ ap (λ y. st ∷ y) (b ∙ ap (λ y. w06 ∷ y) (c ∙ ap (λ y. hs ++ y) d));
  is_st = is_st;
  is_w06 = is_w06;
  are_header = are_header;
  are_goods = are_goods;
  is_w03 = is_w03;
  is_se = is_se;
}

pub parse : {X : Type 0} (f : X → List ℕ) (xs : List X) → IsWord (words_943 Today) (map f xs) → Parsed f xs
parse {X} f xs h = with_st (cons_word f xs (codes "ST") (Then (One (codes "W06")) (Then (Times 0 5 (One (codes "N1"))) (references Today))) h)
  where
    with_header : (st w06 : X) (ys zs : List X) → xs ≡ st ∷ ys → f st ≡ codes "ST" → ys ≡ w06 ∷ zs → f w06 ≡ codes "W06" → Headed f zs → Parsed f xs
    with_header st w06 ys zs a p b q (hs, rest, c, all, w) = built f xs st w06 ys zs a p b q hs rest c all (lined f rest w)

    with_w06 : (st : X) (ys : List X) → xs ≡ st ∷ ys → f st ≡ codes "ST"
        → (x : X) × (zs : List X) × (ys ≡ x ∷ zs) × (f x ≡ codes "W06") × IsWord (Then (Times 0 5 (One (codes "N1"))) (references Today)) (map f zs) → Parsed f xs
    with_w06 st ys a p (x, zs, b, q, w) = with_header st x ys zs a p b q (with_parties f zs w)

    with_st : (x : X) × (ys : List X) × (xs ≡ x ∷ ys) × (f x ≡ codes "ST") × IsWord (Then (One (codes "W06")) (Then (Times 0 5 (One (codes "N1"))) (references Today))) (map f ys) → Parsed f xs
    with_st (x, ys, a, p, w) = with_w06 x ys a p (cons_word f ys (codes "W06") (Then (Times 0 5 (One (codes "N1"))) (references Today)) w)
