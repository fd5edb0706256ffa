-- What is true of the groups and sets that were made of their runs.
use Rattle.std.proofs.Common.{◌≡◌, ℕ, Bool, true, false, List, [], ◌∷◌, map, refl, sym, ◌∙◌, subst, ap, Some}
use Rattle.std.specs.Prelude.{codes, cond, find, Option, option_map}
use Rattle.std.specs.List.{before_first}
use Rattle.definitions.specs.Bytes.{Delims}
use Rattle.definitions.specs.Lists.{parted}
use Rattle.definitions.specs.Cut.{Segment, Piece, AreOf, has_id, segments_of}
use Rattle.definitions.specs.Structure.{Set, Group, set_of, group_of}
use Rattle.envelope.proofs.Bared.{find_bare, runs_bare}
use Rattle.envelope.specs.Parts.{SetOf, GroupOf, AreHeld, piece, set_under, group_under, marked, bare}

pub sets_again : (d : Delims) (ss : List Set) → map (λ s. s.set) (map (set_under d) ss) ≡ ss
sets_again d [] = refl
sets_again d (s ∷ ss) = ap (λ (ts : List Set). s ∷ ts) (sets_again d ss)

pub groups_again : (d : Delims) (gs : List Group) → map (λ g. g.group) (map (group_under d) gs) ≡ gs
groups_again d [] = refl
groups_again d (g ∷ gs) = ap (λ (hs : List Group). g ∷ hs) (groups_again d gs)

-- two maps, one after the other
twice : {X Y Z : Type 0} (f : X → Y) (g : Y → Z) (xs : List X) → map (λ x. g (f x)) xs ≡ map g (map f xs)
twice f g [] = refl
twice f g (x ∷ xs) = ap (λ ys. g (f x) ∷ ys) (twice f g xs)

pub made_sets : (d : Delims) (ps : List Piece) → map (λ r. set_under d (set_of (bare r))) (parted (marked (codes "ST")) ps).runs
    ≡ map (set_under d) (map set_of (parted (has_id (codes "ST")) (segments_of ps)).runs)
made_sets d ps = runs_bare (λ r. set_under d (set_of r)) (codes "ST") ps ∙ twice set_of (set_under d) (parted (has_id (codes "ST")) (segments_of ps)).runs

pub made_groups : (d : Delims) (ps : List Piece) → map (λ r. group_under d (group_of (bare r))) (parted (marked (codes "GS")) ps).runs
    ≡ map (group_under d) (map group_of (parted (has_id (codes "GS")) (segments_of ps)).runs)
made_groups d ps = runs_bare (λ r. group_under d (group_of r)) (codes "GS") ps ∙ twice group_of (group_under d) (parted (has_id (codes "GS")) (segments_of ps)).runs

find_of : (d : Delims) (id : List ℕ) (ps : List Piece) → AreOf d ps → find (marked id) ps ≡ option_map (piece d) (option_map (λ p. p.elements) (find (marked id) ps))
find_of d id [] h = refl
find_of d id (p ∷ ps) h = by_test (marked id p) (find (marked id) ps) h.0 (find_of d id ps h.1)
  where
    by_test : (b : Bool) (o : Option Piece) → p.delims ≡ d → o ≡ option_map (piece d) (option_map (λ p. p.elements) o)
        → cond b (Some p) o ≡ option_map (piece d) (option_map (λ p. p.elements) (cond b (Some p) o))
    by_test true o e ih = ap (λ (x : Delims). Some (piece x p.elements)) e
    by_test false o e ih = ih

made_group : Delims → Segment → List Set → Option Segment → GroupOf
made_group d head sets tail = group_under d (record { head = head; sets = sets; tail = tail })

pub held : (d : Delims) (head again : Piece) (others inner : List Piece) (items : List SetOf) (tail : Option Piece) → AreOf d (head ∷ others)
    → segments_of inner ≡ before_first (has_id (codes "GE")) (segments_of others)
    → items ≡ map (set_under d) (map set_of (parted (has_id (codes "ST")) (segments_of inner)).runs) → again ≡ head → tail ≡ find (marked (codes "GE")) others
    → AreHeld again.delims items tail
    × (let g : Group = record { head = again.elements; sets = map (λ s. s.set) items; tail = option_map (λ p. p.elements) tail } in
    group_under again.delims g ≡ group_under d (group_of (bare (head, others))))
unfolding made_group
held d head again others inner items tail h ei es ea et =
    let delims : again.delims ≡ d = ap (λ (p : Piece). p.delims) ea ∙ h.0 in
    let sets = ap (λ (ts : List SetOf). map (λ s. s.set) ts) es ∙ sets_again d (map set_of (parted (has_id (codes "ST")) (segments_of inner)).runs) in
    let parts = ap (λ (ss : List Segment). map set_of (parted (has_id (codes "ST")) ss).runs) ei in
    let ge = ap (λ (o : Option Piece). option_map (λ p. p.elements) o) et ∙ sym (find_bare (codes "GE") others) in
    let under : AreHeld d items tail = record {
      sets_same = es ∙ sym (ap (map (set_under d)) sets);
      tail_same = subst (λ (o : Option Piece). o ≡ option_map (piece d) (option_map (λ p. p.elements) o)) (sym et) (find_of d (codes "GE") others h.1);
    } in (
      subst (λ (x : Delims). AreHeld x items tail) (sym delims) under,
      ap (λ (x : Delims). made_group x again.elements (map (λ s. s.set) items) (option_map (λ p. p.elements) tail)) delims
          ∙ (ap (λ (p : Piece). made_group d p.elements (map (λ s. s.set) items) (option_map (λ p. p.elements) tail)) ea
          ∙ (ap (λ (ss : List Set). made_group d head.elements ss (option_map (λ p. p.elements) tail)) (sets ∙ parts)
          ∙ ap (λ (o : Option Segment). made_group d head.elements (map set_of (parted (has_id (codes "ST")) (before_first (has_id (codes "GE")) (segments_of others))).runs) o) ge)),
    )
