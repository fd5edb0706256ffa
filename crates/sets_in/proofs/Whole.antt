-- A set without a fault that ends with SE is a whole word.
use Rattle.std.proofs.Common.{◌≡◌, ℕ, suc, ◌+◌, ◌-◌, true, false, List, [], ◌∷◌, ◌++◌, length, map, refl, sym, ◌∙◌, ap, subst, None, arith, append_assoc, append-nil}
use Rattle.std.specs.Prelude.{codes, bytes_eq, slice_get, unwrap_or}
use Rattle.std.proofs.Common.{inl, inr}
use Rattle.std.specs.List.{AllByRecursion}
use Rattle.std.proofs.lemmas.Slice.Eq.{bytes_eq-Decides}
use Rattle.definitions.specs.declared.rules.Rules.{Rules}
use Rattle.definitions.specs.Rules.{Today}
use Rattle.definitions.specs.Bytes.{Delims}
use Rattle.definitions.specs.Cut.{Segment, id_of, has_id, last_segment}
use Rattle.definitions.specs.Words.{Words, IsWord, has_word, is_viable, words_after, words_943}
use Rattle.definitions.specs.Faults.{fault_from}
use Rattle.definitions.proofs.WordsLaws.{viable_to}
use Rattle.sets_in.specs.Said.{IsAdviceHeader, in_pairs}
use Rattle.sets_in.proofs.Sound.{from_parts}
use Rattle.sets_in.proofs.Parse.{Parsed, parse}

abbrev Ids : Type 0
Ids = List (List ℕ)

pub viable : (r : Rules) (d : Delims) (words rest : Words) (after : List ℕ) (position : ℕ) (ss : List Segment) → has_word rest ≡ true → fault_from r d words rest after position ss ≡ None → is_viable rest (map id_of ss) ≡ true
viable r d words rest after position [] t h = t
viable r d words rest after position (s ∷ ss) t h = let p = from_parts r d words rest after position s ss h in
    viable r d words (words_after (id_of s) rest) (id_of s) (position + 1) ss p.0 p.2

-- what ends with SE
pub ends : (ss : List Segment) → has_id (codes "SE") (last_segment ss) ≡ true → (front : Ids) × (map id_of ss ≡ front ++ codes "SE" ∷ [])
ends [] h = absurd (cc)
ends (s ∷ []) h = let e : id_of s ≡ codes "SE" = (bytes_eq-Decides (id_of s) (codes "SE")).0 h in ([], ap (λ y. y ∷ []) e)
ends (s ∷ r ∷ ss) h =
    let n : length (s ∷ r ∷ ss) - 1 ≡ suc (length (r ∷ ss) - 1) = omega arith in
    let e : last_segment (s ∷ r ∷ ss) ≡ last_segment (r ∷ ss) = ap (λ k. unwrap_or (slice_get (s ∷ r ∷ ss) k) []) n in
    let t = ends (r ∷ ss) (ap (has_id (codes "SE")) (sym e) ∙ h) in
    (id_of s ∷ t.0, ap (λ y. id_of s ∷ y) t.1)

-- no id of these is SE
abbrev pub NoneEnds : Ids → Type 0
NoneEnds xs = AllByRecursion (λ x. bytes_eq x (codes "SE") ≡ false) xs

pub other : (x y : List ℕ) → x ≡ y → bytes_eq y (codes "SE") ≡ false → bytes_eq x (codes "SE") ≡ false
other x y e h = ap (λ z. bytes_eq z (codes "SE")) e ∙ h

header_goes_on : (xs : Ids) → AllByRecursion IsAdviceHeader xs → NoneEnds xs
header_goes_on [] h = tt
header_goes_on (x ∷ xs) h = (by_id h.0, header_goes_on xs h.1)
  where
    by_id : IsAdviceHeader x → bytes_eq x (codes "SE") ≡ false
    by_id (inl e) = other x (codes "N1") e refl
    by_id (inr (inl e)) = other x (codes "N9") e refl
    by_id (inr (inr e)) = other x (codes "G62") e refl

goods_go_on : (gs : List (List ℕ × List ℕ)) → AllByRecursion (λ g. (g.0 ≡ codes "W04") × (g.1 ≡ codes "N9")) gs → NoneEnds (in_pairs gs)
goods_go_on [] h = tt
goods_go_on (g ∷ gs) h = (other g.0 (codes "W04") h.0.0 refl, (other g.1 (codes "N9") h.0.1 refl, goods_go_on gs h.1))

pub none_both : (xs ys : Ids) → NoneEnds xs → NoneEnds ys → NoneEnds (xs ++ ys)
none_both [] ys h k = k
none_both (x ∷ xs) ys h k = (h.0, none_both xs ys h.1 k)

-- SE stands once, and last
pub once : (front back more : Ids) (se : List ℕ) → NoneEnds front → (back ++ codes "SE" ∷ []) ++ more ≡ front ++ se ∷ [] → more ≡ []
once [] [] more se h e = cc
once [] (b ∷ []) more se h e = absurd (cc)
once [] (b ∷ c ∷ bs) more se h e = absurd (cc)
once (x ∷ front) [] more se h e =
    let same : x ≡ codes "SE" = cc in
    let no : true ≡ false = ap (λ z. bytes_eq z (codes "SE")) (sym same) ∙ h.0 in
    absurd (cc)
once (x ∷ front) (b ∷ back) more se h e = let tail : (back ++ codes "SE" ∷ []) ++ more ≡ front ++ se ∷ [] = cc in once front back more se h.1 tail

pub map_same : (xs : Ids) → map (λ x. x) xs ≡ xs
map_same [] = refl
map_same (x ∷ xs) = ap (λ y. x ∷ y) (map_same xs)

nothing_more : (ids more front : Ids) → ids ≡ front ++ codes "SE" ∷ [] → IsWord (words_943 Today) (ids ++ more) → more ≡ []
nothing_more ids more front e w = by_parts (parse (λ x. x) (ids ++ more) (subst (IsWord (words_943 Today)) (sym (map_same (ids ++ more))) w))
  where
    by_parts : Parsed (λ x. x) (ids ++ more) → more ≡ []
    by_parts p =
        let before : Ids = p.st ∷ p.w06 ∷ p.header ++ (in_pairs p.goods ++ p.w03 ∷ []) in
        let none : NoneEnds before = (
          other p.st (codes "ST") p.is_st refl,
          (
            other p.w06 (codes "W06") p.is_w06 refl,
            none_both p.header (in_pairs p.goods ++ p.w03 ∷ []) (header_goes_on p.header p.are_header)
                (none_both (in_pairs p.goods) (p.w03 ∷ []) (goods_go_on p.goods p.are_goods) (other p.w03 (codes "W03") p.is_w03 refl, tt)),
          ),
        ) in
        let whole : ids ++ more ≡ before ++ p.se ∷ [] = p.parts
        ∙ ap (λ y. p.st ∷ p.w06 ∷ y) (ap (λ y. p.header ++ y) (sym (append_assoc (in_pairs p.goods) (p.w03 ∷ []) (p.se ∷ []))) ∙ sym (append_assoc p.header (in_pairs p.goods ++ p.w03 ∷ []) (p.se ∷ []))) in
        once before front more p.se none (ap (λ y. y ++ more) (sym e) ∙ whole)

pub whole_advice : (d : Delims) (ss : List Segment) → fault_from Today d (words_943 Today) (words_943 Today) [] 1 ss ≡ None → has_id (codes "SE") (last_segment ss) ≡ true → Parsed id_of ss
whole_advice d ss h t =
    let v = viable_to (words_943 Today) (map id_of ss) (viable Today d (words_943 Today) (words_943 Today) [] 1 ss refl h) in
    let e = ends ss t in
    let none : v.0 ≡ [] = nothing_more (map id_of ss) v.0 e.0 e.1 v.1 in
    parse id_of ss (subst (IsWord (words_943 Today)) (append-nil (map id_of ss)) (subst (λ (m : Ids). IsWord (words_943 Today) (map id_of ss ++ m)) none v.1))
