-- The faults of the sets' envelopes, one set after the other.
use Rattle.std.proofs.Common.{◌≡◌, ℕ, suc, ◌+◌, ◌<◌, Bool, true, false, List, [], ◌∷◌, ◌++◌, length, take, drop, map, refl, sym, ◌∙◌, ap, add-one, get_or, drop-cons, append_assoc}
use Rattle.std.specs.Prelude.{◌||◌, bytes_eq, Option}
use Rattle.std.specs.List.{list_any}
use Rattle.std.proofs.Math.Seq.{take-suc}
use Rattle.definitions.specs.Bytes.{Delims, is_one_of}
use Rattle.definitions.specs.Structure.{Set, Group, control_of, kind_of, envelope_fault, envelope_faults, examined_on}
use Rattle.definitions.specs.declared.set_kind.SetKind.{SetKind}
use Rattle.envelope.proofs.Holding.{sets_again}
use Rattle.envelope.specs.Parts.{SetOf, set_under}

-- the faults of the envelopes of these sets
faults_on : Option SetKind → List (List ℕ) → List SetOf → List (Option ℕ)
faults_on kind earlier sets = map (λ p. p.1) (examined_on kind earlier (map (λ s. s.set) sets))

pub at_first : (d : Delims) (g : Group) (sets : List SetOf) → sets ≡ map (set_under d) g.sets
    → map (λ p. p.1) (examined_on (kind_of g) [] (map (λ s. s.set) sets)) ≡ envelope_faults g
at_first d g sets e =
    ap (λ (ss : List Set). map (λ p. p.1) (examined_on (kind_of g) [] ss)) (ap (λ (ts : List SetOf). map (λ s. s.set) ts) e ∙ sets_again d g.sets)

pub one_more : (kind : Option SetKind) (earlier : List (List ℕ)) (sets : List SetOf) (i : ℕ) (s : SetOf) (done all : List (Option ℕ)) (fault : Option ℕ)
    → i < length sets → s ≡ get_or sets i s → done ++ map (λ p. p.1) (examined_on kind earlier (map (λ s. s.set) (drop i sets))) ≡ all
    → fault ≡ envelope_fault kind earlier s.set
    → (done ++ fault ∷ []) ++ map (λ p. p.1) (examined_on kind (control_of s.set ∷ earlier) (map (λ s. s.set) (drop (i + 1) sets))) ≡ all
unfolding faults_on
one_more kind earlier sets i s done all fault h e inv ef =
    let left : drop i sets ≡ s ∷ drop (i + 1) sets =
    drop-cons sets i s h ∙ (ap (λ (x : SetOf). x ∷ drop (suc i) sets) (sym e) ∙ ap (λ n. s ∷ drop n sets) (sym (add-one i))) in
    let others = faults_on kind (control_of s.set ∷ earlier) (drop (i + 1) sets) in
    append_assoc done (fault ∷ []) others
    ∙ (ap (λ (f : Option ℕ). done ++ f ∷ others) ef ∙ (sym (ap (λ (ts : List SetOf). done ++ faults_on kind earlier ts) left) ∙ inv))

or_assoc : (a b c : Bool) → (a || (b || c)) ≡ (b || (a || c))
or_assoc true true c = refl
or_assoc true false c = refl
or_assoc false b c = refl

any_last : (f : SetOf → Bool) (xs : List SetOf) (x : SetOf) → list_any f (xs ++ x ∷ []) ≡ (f x || list_any f xs)
any_last f [] x = refl
any_last f (y ∷ ys) x = ap (λ (b : Bool). f y || b) (any_last f ys x) ∙ or_assoc (f y) (f x) (list_any f ys)

pub numbers_more : (earlier : List (List ℕ)) (sets : List SetOf) (i : ℕ) (s : SetOf) → i < length sets → s ≡ get_or sets i s
    → ((n : List ℕ) → is_one_of earlier n ≡ list_any (λ s. bytes_eq n (control_of s.set)) (take i sets))
    → (n : List ℕ) → is_one_of (control_of s.set ∷ earlier) n ≡ list_any (λ s. bytes_eq n (control_of s.set)) (take (i + 1) sets)
numbers_more earlier sets i s h e inv n =
    let taken : take (i + 1) sets ≡ take i sets ++ s ∷ [] =
    ap (λ k. take k sets) (add-one i) ∙ (take-suc sets i s h ∙ ap (λ (x : SetOf). take i sets ++ x ∷ []) (sym e)) in
    ap (λ (b : Bool). bytes_eq n (control_of s.set) || b) (inv n)
    ∙ sym (ap (list_any (λ s. bytes_eq n (control_of s.set))) taken ∙ any_last (λ s. bytes_eq n (control_of s.set)) (take i sets) s)
