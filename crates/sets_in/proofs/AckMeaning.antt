-- A functional acknowledgment without a fault prints a tree, and means what that says.
use Rattle.std.proofs.Common.{◌≡◌, ℕ, zero, suc, Bool, true, false, List, [], ◌∷◌, ◌++◌, map, refl, sym, ◌∙◌, ap, subst, None, inl, inr, append_assoc, append-nil}
use Rattle.std.specs.Prelude.{codes, bytes_eq, ◌||◌}
use Rattle.std.specs.List.{AllByRecursion}
use Rattle.std.proofs.lemmas.Slice.Eq.{bytes_eq-Decides}
use Rattle.definitions.specs.Bytes.{Delims, value}
use Rattle.definitions.specs.Cut.{Segment, element, id_of, has_id, segment_with, segments_of, last_segment}
use Rattle.definitions.specs.Words.{Words, Never, Empty, One, Then, Or, Times, IsWord, IsRow, mentions, words_997}
use Rattle.definitions.specs.declared.set_kind.SetKind.TheVariants.{FunctionalAcknowledgment}
use Rattle.definitions.specs.Rules.{Today}
use Rattle.definitions.specs.Faults.{fault_from}
use Rattle.definitions.specs.Limits.{most_told_sets}
use Rattle.definitions.specs.Means.{Acknowledgment, acknowledgment_of}
use Rattle.definitions.proofs.WordsLaws.{viable_to}
use Rattle.tables.specs.Acknowledgment.{judged, total}
use Rattle.tables.specs.Judged.{Whole, IsUnfaulted}
use Rattle.sets_in.specs.SaidAck.{AckSet, IsAckSet, IsToldOfSets, printed, meaning, SaysAck}
use Rattle.sets_in.proofs.Parse.{Ids, split, cons_word, last_word, all_so, all_both}
use Rattle.sets_in.proofs.Whole.{viable, ends, other, NoneEnds, none_both, once, map_same}
use Rattle.sets_in.proofs.Places.{with_yes, with_no}
use Rattle.sets_in.proofs.Meaning.{Lacks, is_no, with_skip}
use Rattle.sets_in.proofs.Counted.{passes}

or_left : (b c : Bool) → b ≡ true → (b || c) ≡ true
or_left b c e = ap (λ x. x || c) e

or_right : (b c : Bool) → c ≡ true → (b || c) ≡ true
or_right true c e = refl
or_right false c e = e

abbrev Mentions : Words → List ℕ → Type 0
Mentions w x = mentions x w ≡ true

-- a word has only ids that are mentioned
mentioned : (w : Words) (ids : Ids) → IsWord w ids → AllByRecursion (Mentions w) ids
mentioned Never ids h = absurd h
mentioned Empty ids h = subst (AllByRecursion (Mentions Empty)) (sym h) tt
mentioned (One id) ids h = subst (AllByRecursion (Mentions (One id))) (sym h) ((bytes_eq-Decides id id).1 refl, tt)
mentioned (Then v w) ids (a, b, e, p, q) = subst (AllByRecursion (Mentions (Then v w))) (sym e)
    (all_both (Mentions (Then v w)) a b
    (all_so (Mentions v) (Mentions (Then v w)) (λ x k. or_left (mentions x v) (mentions x w) k) a (mentioned v a p))
    (all_so (Mentions w) (Mentions (Then v w)) (λ x k. or_right (mentions x v) (mentions x w) k) b (mentioned w b q)))
mentioned (Or v w) ids (inl h) = all_so (Mentions v) (Mentions (Or v w)) (λ x k. or_left (mentions x v) (mentions x w) k) ids (mentioned v ids h)
mentioned (Or v w) ids (inr h) = all_so (Mentions w) (Mentions (Or v w)) (λ x k. or_right (mentions x v) (mentions x w) k) ids (mentioned w ids h)
mentioned (Times low high w) ids (n, l, u, row) = in_row n ids row (λ xs k. mentioned w xs k)
  where
    in_row : (m : ℕ) (xs : Ids) → IsRow (IsWord w) m xs → ((ys : Ids) → IsWord w ys → AllByRecursion (Mentions w) ys) → AllByRecursion (Mentions (Times low high w)) xs
    in_row zero xs r each = subst (AllByRecursion (Mentions (Times low high w))) (sym r) tt
    in_row (suc m) xs (a, b, e, p, q) each = subst (AllByRecursion (Mentions (Times low high w))) (sym e)
        (all_both (Mentions (Times low high w)) a b (each a p) (in_row m b q each))

told : (x : List ℕ) → Mentions (Times 0 most_told_sets judged) x → IsToldOfSets x
told x h = by_second (bytes_eq x (codes "AK2")) refl h
  where
    same : (y : List ℕ) → bytes_eq x y ≡ true → x ≡ y
    same y t = (bytes_eq-Decides x y).0 t

    by_fourth : (b : Bool) → bytes_eq x (codes "AK4") ≡ b → (b || bytes_eq x (codes "AK5")) ≡ true → IsToldOfSets x
    by_fourth true t k = inr (inr (inl (same (codes "AK4") t)))
    by_fourth false t k = inr (inr (inr (same (codes "AK5") k)))

    by_third : (b : Bool) → bytes_eq x (codes "AK3") ≡ b → ((b || bytes_eq x (codes "AK4")) || bytes_eq x (codes "AK5")) ≡ true → IsToldOfSets x
    by_third true t k = inr (inl (same (codes "AK3") t))
    by_third false t k = by_fourth (bytes_eq x (codes "AK4")) refl k

    by_second : (b : Bool) → bytes_eq x (codes "AK2") ≡ b → (b || ((bytes_eq x (codes "AK3") || bytes_eq x (codes "AK4")) || bytes_eq x (codes "AK5"))) ≡ true → IsToldOfSets x
    by_second true t k = inl (same (codes "AK2") t)
    by_second false t k = by_third (bytes_eq x (codes "AK3")) refl k

pub record Parsed {X : Type 0} (f : X → List ℕ) (xs : List X) : Type 0 where
  pub st : X
  pub ak1 : X
  pub body : List X
  pub ak9 : X
  pub se : X
  pub parts : xs ≡ st ∷ ak1 ∷ body ++ ak9 ∷ se ∷ []
  pub is_st : f st ≡ codes "ST"
  pub is_ak1 : f ak1 ≡ codes "AK1"
  pub are_told : AllByRecursion (λ x. IsToldOfSets (f x)) body
  pub is_ak9 : f ak9 ≡ codes "AK9"
  pub is_se : f se ≡ codes "SE"

-- what is said of each id is said of each element
of_ids : {X : Type 0} (f : X → List ℕ) (P : List ℕ → Type 0) (xs : List X) → AllByRecursion P (map f xs) → AllByRecursion (λ x. P (f x)) xs
of_ids f P [] h = tt
of_ids f P (x ∷ xs) h = (h.0, of_ids f P xs h.1)

built : {X : Type 0} (f : X → List ℕ) (xs : List X) (st ak1 : X) (ys zs : List X) → xs ≡ st ∷ ys → f st ≡ codes "ST" → ys ≡ ak1 ∷ zs → f ak1 ≡ codes "AK1"
    → (body rest : List X) → zs ≡ body ++ rest → AllByRecursion (λ x. IsToldOfSets (f x)) body
    → (ak9 : X) (end : List X) → rest ≡ ak9 ∷ end → f ak9 ≡ codes "AK9" → (se : X) → end ≡ se ∷ [] → f se ≡ codes "SE" → Parsed f xs
built f xs st ak1 ys zs a p b q body rest c all ak9 end d r se e s = record {
  st = st;
  ak1 = ak1;
  body = body;
  ak9 = ak9;
  se = se;
  parts = a ∙ ap (λ y. st ∷ y) (b ∙ ap (λ y. ak1 ∷ y) (c ∙ ap (λ y. body ++ y) (d ∙ ap (λ y. ak9 ∷ y) e)));
  is_st = p;
  is_ak1 = q;
  are_told = all;
  is_ak9 = r;
  is_se = s;
}

parse : {X : Type 0} (f : X → List ℕ) (xs : List X) → IsWord words_997 (map f xs) → Parsed f xs
parse {X} f xs h = with_st (cons_word f xs (codes "ST") (Then (One (codes "AK1")) (Then (Times 0 most_told_sets judged) total)) h)
  where
    with_end : (st ak1 : X) (ys zs : List X) → xs ≡ st ∷ ys → f st ≡ codes "ST" → ys ≡ ak1 ∷ zs → f ak1 ≡ codes "AK1" → (body rest : List X) → zs ≡ body ++ rest
        → AllByRecursion (λ x. IsToldOfSets (f x)) body → (x : X) × (end : List X) × (rest ≡ x ∷ end) × (f x ≡ codes "AK9") × (map f end ≡ codes "SE" ∷ []) → Parsed f xs
    with_end st ak1 ys zs a p b q body rest c all (x, end, d, r, w) = let l = last_word f end (codes "SE") w in built f xs st ak1 ys zs a p b q body rest c all x end d r l.0 l.1 l.2

    with_body : (st ak1 : X) (ys zs : List X) → xs ≡ st ∷ ys → f st ≡ codes "ST" → ys ≡ ak1 ∷ zs → f ak1 ≡ codes "AK1" → (i j : Ids) → IsWord (Times 0 most_told_sets judged) i → IsWord total j
        → (vs ws : List X) × (zs ≡ vs ++ ws) × (map f vs ≡ i) × (map f ws ≡ j) → Parsed f xs
    with_body st ak1 ys zs a p b q i j v w (vs, ws, c, k, l) =
        let all : AllByRecursion (λ x. IsToldOfSets (f x)) vs = of_ids f IsToldOfSets vs (subst (AllByRecursion IsToldOfSets) (sym k) (all_so (Mentions (Times 0 most_told_sets judged)) IsToldOfSets told i (mentioned (Times 0 most_told_sets judged) i v))) in
        with_end st ak1 ys zs a p b q vs ws c all (cons_word f ws (codes "AK9") (One (codes "SE")) (subst (IsWord total) (sym l) w))

    with_ak1 : (st : X) (ys : List X) → xs ≡ st ∷ ys → f st ≡ codes "ST"
        → (x : X) × (zs : List X) × (ys ≡ x ∷ zs) × (f x ≡ codes "AK1") × IsWord (Then (Times 0 most_told_sets judged) total) (map f zs) → Parsed f xs
    with_ak1 st ys a p (x, zs, b, q, (i, j, e, v, w)) = with_body st x ys zs a p b q i j v w (split f zs i j e)

    with_st : (x : X) × (ys : List X) × (xs ≡ x ∷ ys) × (f x ≡ codes "ST") × IsWord (Then (One (codes "AK1")) (Then (Times 0 most_told_sets judged) total)) (map f ys) → Parsed f xs
    with_st (x, ys, a, p, w) = with_ak1 x ys a p (cons_word f ys (codes "AK1") (Then (Times 0 most_told_sets judged) total) w)

told_goes_on : (xs : Ids) → AllByRecursion IsToldOfSets xs → NoneEnds xs
told_goes_on [] h = tt
told_goes_on (x ∷ xs) h = (by_id h.0, told_goes_on xs h.1)
  where
    by_id : IsToldOfSets x → bytes_eq x (codes "SE") ≡ false
    by_id (inl e) = other x (codes "AK2") e refl
    by_id (inr (inl e)) = other x (codes "AK3") e refl
    by_id (inr (inr (inl e))) = other x (codes "AK4") e refl
    by_id (inr (inr (inr e))) = other x (codes "AK5") e refl

nothing_more : (ids more front : Ids) → ids ≡ front ++ codes "SE" ∷ [] → IsWord words_997 (ids ++ more) → more ≡ []
nothing_more ids more front e w = by_parts (parse (λ x. x) (ids ++ more) (subst (IsWord words_997) (sym (map_same (ids ++ more))) w))
  where
    by_parts : Parsed (λ x. x) (ids ++ more) → more ≡ []
    by_parts p =
        let before : Ids = p.st ∷ p.ak1 ∷ p.body ++ p.ak9 ∷ [] in
        let none : NoneEnds before = (
          other p.st (codes "ST") p.is_st refl,
          (
            other p.ak1 (codes "AK1") p.is_ak1 refl,
            none_both p.body (p.ak9 ∷ []) (told_goes_on p.body p.are_told) (other p.ak9 (codes "AK9") p.is_ak9 refl, tt),
          ),
        ) in
        let whole : ids ++ more ≡ before ++ p.se ∷ [] = p.parts ∙ ap (λ y. p.st ∷ p.ak1 ∷ y) (sym (append_assoc p.body (p.ak9 ∷ []) (p.se ∷ []))) in
        once before front more p.se none (ap (λ y. y ++ more) (sym e) ∙ whole)

whole_ack : (d : Delims) (ss : List Segment) → fault_from Today d words_997 words_997 [] 1 ss ≡ None → has_id (codes "SE") (last_segment ss) ≡ true → Parsed id_of ss
whole_ack d ss h t =
    let v = viable_to words_997 (map id_of ss) (viable Today d words_997 words_997 [] 1 ss refl h) in
    let e = ends ss t in
    let none : v.0 ≡ [] = nothing_more (map id_of ss) v.0 e.0 e.1 v.1 in
    parse id_of ss (subst (IsWord words_997) (append-nil (map id_of ss)) (subst (λ (m : Ids). IsWord words_997 (map id_of ss ++ m)) none v.1))

told_lacks : (xs : List Segment) → AllByRecursion (λ s. IsToldOfSets (id_of s)) xs → Lacks (codes "AK9") xs
told_lacks [] h = tt
told_lacks (s ∷ xs) h = (by_id h.0, told_lacks xs h.1)
  where
    by_id : IsToldOfSets (id_of s) → has_id (codes "AK9") s ≡ false
    by_id (inl e) = is_no (codes "AK9") (codes "AK2") s e refl
    by_id (inr (inl e)) = is_no (codes "AK9") (codes "AK3") s e refl
    by_id (inr (inr (inl e))) = is_no (codes "AK9") (codes "AK4") s e refl
    by_id (inr (inr (inr e))) = is_no (codes "AK9") (codes "AK5") s e refl

abbrev made : Segment → Segment → Acknowledgment
made ak1 ak9 = record { function = element ak1 1; document = value (element ak1 2); accepts = bytes_eq (element ak9 1) (codes "A") }

means : (t : AckSet) → IsAckSet t → acknowledgment_of (printed t) ≡ meaning t
means t h =
    let end = t.ak9 ∷ t.se ∷ [] in
    let ak1 : segment_with (codes "AK1") (printed t) ≡ t.ak1 =
    with_no (codes "AK1") t.st (t.ak1 ∷ t.body ++ end) (is_no (codes "AK1") (codes "ST") t.st h.st refl)
    ∙ with_yes (codes "AK1") t.ak1 (t.body ++ end) (ap (λ y. bytes_eq y (codes "AK1")) h.ak1) in
    let ak9 : segment_with (codes "AK9") (printed t) ≡ t.ak9 =
    with_no (codes "AK9") t.st (t.ak1 ∷ t.body ++ end) (is_no (codes "AK9") (codes "ST") t.st h.st refl)
    ∙ with_no (codes "AK9") t.ak1 (t.body ++ end) (is_no (codes "AK9") (codes "AK1") t.ak1 h.ak1 refl)
    ∙ with_skip (codes "AK9") t.body end (told_lacks t.body h.body)
    ∙ with_yes (codes "AK9") t.ak9 (t.se ∷ []) (ap (λ y. bytes_eq y (codes "AK9")) h.ak9) in
    ap (λ (s : Segment). made s (segment_with (codes "AK9") (printed t))) ak1 ∙ ap (λ (s : Segment). made t.ak1 s) ak9

of_parts : (ss : List Segment) → Parsed id_of ss → SaysAck ss (acknowledgment_of ss)
of_parts ss p =
    let t : AckSet = record { st = p.st; ak1 = p.ak1; body = p.body; ak9 = p.ak9; se = p.se } in
    let is : IsAckSet t = record { st = p.is_st; ak1 = p.is_ak1; body = p.are_told; ak9 = p.is_ak9; se = p.is_se } in
    (t, p.parts, is, ap acknowledgment_of p.parts ∙ means t is)

-- a set without a fault prints a tree, and what is read of it is what that says
pub says_ack : (w : Whole) → IsUnfaulted w → w.kind ≡ FunctionalAcknowledgment → SaysAck (segments_of w.pieces) (acknowledgment_of (segments_of w.pieces))
says_ack w s k = let p = passes w FunctionalAcknowledgment s k in of_parts (segments_of w.pieces) (whole_ack p.0 (segments_of w.pieces) p.1 s.closed)
