-- Texts joined by spaces, one after the other.
use Rattle.std.proofs.Common.{◌≡◌, ℕ, Bool, true, List, [], ◌∷◌, ◌++◌, length, refl, sym, ◌∙◌, ap, append_assoc, arith, cond, ◌+◌, ◌<◌, map, drop, get_or, drop-cons, add-one}
use Rattle.std.specs.Borrow.{Bor}
use Rattle.std.specs.Prelude.{filter, nat_lt}
use Rattle.std.specs.List.{join_with_byte}
use Rattle.std.proofs.lemmas.Bool.Decides.{nat_tests}
use Rattle.definitions.specs.Means.{spaced}
use Rattle.sets_in.specs.Spaced.{spaced_with}

-- texts after a beginning
abbrev pub spaced_after : List ℕ → List (List ℕ) → List ℕ
spaced_after out texts = spaced_with out (spaced texts)

abbrev is_text : List ℕ → Bool
is_text t = nat_lt 0 (length t)

abbrev texts_of : List (List ℕ) → List (List ℕ)
texts_of ts = filter is_text ts

a_text : (b : ℕ) (bs : List ℕ) → is_text (b ∷ bs) ≡ true
a_text b bs = grind (arith, nat_tests)

first_text : (b : ℕ) (bs : List ℕ) (ts : List (List ℕ)) → texts_of ((b ∷ bs) ∷ ts) ≡ (b ∷ bs) ∷ texts_of ts
first_text b bs ts = ap (λ (t : Bool). cond t ((b ∷ bs) ∷ texts_of ts) (texts_of ts)) (a_text b bs)

after_text : (b : ℕ) (bs : List ℕ) (c : ℕ) (cs : List ℕ) (ys : List (List ℕ))
    → spaced_with (b ∷ bs) (join_with_byte 32 ((c ∷ cs) ∷ ys)) ≡ b ∷ bs ++ 32 ∷ join_with_byte 32 ((c ∷ cs) ∷ ys)
after_text b bs c cs [] = refl
after_text b bs c cs (y ∷ ys) = refl

first_joined : (b : ℕ) (bs : List ℕ) (ts : List (List ℕ)) → join_with_byte 32 ((b ∷ bs) ∷ texts_of ts) ≡ spaced_with (b ∷ bs) (join_with_byte 32 (texts_of ts))
first_joined b bs [] = refl
first_joined b bs ([] ∷ ts) = first_joined b bs ts
first_joined b bs ((c ∷ cs) ∷ ts) =
    ap (λ (ys : List (List ℕ)). join_with_byte 32 ((b ∷ bs) ∷ ys)) (first_text c cs ts)
    ∙ sym (after_text b bs c cs (texts_of ts))
    ∙ ap (λ (ys : List (List ℕ)). spaced_with (b ∷ bs) (join_with_byte 32 ys)) (sym (first_text c cs ts))

after_none : (x : List ℕ) → spaced_with [] x ≡ x
after_none [] = refl
after_none (c ∷ cs) = refl

in_turn : (out : List ℕ) (b : ℕ) (bs x : List ℕ) → spaced_with out (spaced_with (b ∷ bs) x) ≡ spaced_with (spaced_with out (b ∷ bs)) x
in_turn [] b bs x = after_none (spaced_with (b ∷ bs) x)
in_turn (o ∷ os) b bs [] = refl
in_turn (o ∷ os) b bs (c ∷ cs) = ap (λ (y : List ℕ). o ∷ y) (sym (append_assoc os (32 ∷ b ∷ bs) (32 ∷ c ∷ cs)))

-- one text more is written
pub one_written : (out t : List ℕ) (ts : List (List ℕ)) → spaced_after out (t ∷ ts) ≡ spaced_after (spaced_with out t) ts
one_written out [] ts = refl
one_written out (b ∷ bs) ts =
    ap (λ (ys : List (List ℕ)). spaced_with out (join_with_byte 32 ys)) (first_text b bs ts)
    ∙ ap (λ (y : List ℕ). spaced_with out y) (first_joined b bs ts)
    ∙ in_turn out b bs (join_with_byte 32 (texts_of ts))

pub written_more : (texts : List (Bor (List ℕ))) (i : ℕ) (d : Bor (List ℕ)) (out new whole : List ℕ) → i < length texts
    → whole ≡ spaced_after out (map (λ t. t.now) (drop i texts)) → new ≡ spaced_with out (get_or texts i d).now
    → whole ≡ spaced_after new (map (λ t. t.now) (drop (i + 1) texts))
written_more texts i d out new whole h e n =
    let left : drop i texts ≡ get_or texts i d ∷ drop (i + 1) texts = drop-cons texts i d h ∙ ap (λ m. get_or texts i d ∷ drop m texts) (sym (add-one i)) in
    let rest : List (List ℕ) = map (λ (t : Bor (List ℕ)). t.now) (drop (i + 1) texts) in
    e ∙ ap (λ (ts : List (Bor (List ℕ))). spaced_after out (map (λ t. t.now) ts)) left
    ∙ one_written out (get_or texts i d).now rest
    ∙ ap (λ (x : List ℕ). spaced_after x rest) (sym n)
