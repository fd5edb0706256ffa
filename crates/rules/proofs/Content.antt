-- What is known of the groups of an interchange without a note: each states a small number of sets,
-- and there are few sets.
use Rattle.std.proofs.Common.{◌≡◌, ℕ, zero, suc, ◌≤◌, Bool, true, false, List, [], ◌∷◌, Option, Some, None, refl, sym, ap, ◌∙◌, subst, arith, take, drop, map, length}
use Rattle.std.specs.Prelude.{◌||◌, codes, find, is_none, option_and_then, sum_by, if◌then◌else◌}
use Rattle.std.specs.List.{list_all, AllByRecursion, before_first, position_or_len}
use Rattle.std.proofs.lemmas.Bool.{and_parts}
use Rattle.std.proofs.lemmas.Slice.Eq.{bytes_eq-Decides}
use borrow.Author.Tests.{ltb-false}
use Rattle.definitions.specs.Limits.{most_sets}
use Rattle.definitions.specs.Bytes.{Delims}
use Rattle.definitions.specs.Lists.{Parted, part_with, parted}
use Rattle.definitions.specs.Cut.{cut, Segment, element, id_of, has_id}
use Rattle.definitions.specs.Elements.{Digits, must, rows_in, control_rows, faulty_element, is_well_formed}
use Rattle.definitions.specs.Header.{delims_of}
use Rattle.definitions.specs.Structure.{Group, group_of, groups_of}
use Rattle.definitions.specs.Halt.{structure_note, is_content_invalid}
use Rattle.sets_in.specs.Amounts.{IsAmount}
use Rattle.sets_in.proofs.Sound.{amount_of, first_row, taken, not_false, wider}
use Rattle.set_effects.specs.Judging.{IsSmall}

-- GE01 of a GE that is well formed
none_is : {X : Type 0} (o : Option X) → is_none o ≡ true → o ≡ None
none_is None h = refl
none_is (Some x) h = absurd (cc)

small_tail : (d : Delims) (ge : Segment) → is_well_formed d ge ≡ true → has_id (codes "GE") ge ≡ true → IsAmount 9 (element ge 1)
small_tail d ge good is =
    let same : id_of ge ≡ codes "GE" = (bytes_eq-Decides (id_of ge) (codes "GE")).0 is in
    let sound : faulty_element d (must Digits 1 6 ∷ must Digits 1 9 ∷ []) ge ≡ None =
    ap (λ (id : List ℕ). option_and_then (λ rows. faulty_element d rows ge) (rows_in control_rows id)) (sym same)
    ∙ none_is (option_and_then (λ rows. faulty_element d rows ge) (rows_in control_rows (id_of ge))) good in
    wider 6 9 (element ge 1) (omega arith) (amount_of d Digits 6 (element ge 1) (λ b. refl) (first_row d (must Digits 1 6) (must Digits 1 9 ∷ []) ge sound))

-- Parts of a list of which all pass a test.

module _ (p : Segment → Bool) where
  all_taken : (n : ℕ) (ss : List Segment) → list_all p ss ≡ true → list_all p (take n ss) ≡ true
  all_taken zero ss h = refl
  all_taken (suc n) [] h = refl
  all_taken (suc n) (s ∷ ss) h = let a = and_parts (p s) (list_all p ss) h in rw (a.0, all_taken n ss a.1) refl

  all_later : (ss : List Segment) → list_all p ss ≡ true → list_all p (drop 1 ss) ≡ true
  all_later [] h = refl
  all_later (s ∷ ss) h = (and_parts (p s) (list_all p ss) h).1

  abbrev Runs : Parted Segment → Type 0
  Runs parts = (list_all p parts.front ≡ true) × AllByRecursion (λ (run : Segment × List Segment). list_all p run.1 ≡ true) parts.runs

  all_with : (b : Bool) (s : Segment) (parts : Parted Segment) → p s ≡ true → Runs parts → Runs (part_with b s parts)
  all_with true s parts h runs = (refl, (runs.0, runs.1))
  all_with false s parts h runs = (rw (h, runs.0) refl, runs.1)

  all_parted : (begins : Segment → Bool) (ss : List Segment) → list_all p ss ≡ true → Runs (parted begins ss)
  all_parted begins [] h = (refl, tt)
  all_parted begins (s ∷ ss) h = let a = and_parts (p s) (list_all p ss) h in all_with (begins s) s (parted begins ss) a.0 (all_parted begins ss a.1)

  found : (q : Segment → Bool) (ss : List Segment) (x : Segment) → list_all p ss ≡ true → find q ss ≡ Some x → (p x ≡ true) × (q x ≡ true)
  found q [] x h is = absurd (cc)
  found q (s ∷ ss) x h is = by_test (q s) refl is (found q ss x ((and_parts (p s) (list_all p ss) h).1))
    where
      a : (p s ≡ true) × (list_all p ss ≡ true)
      a = and_parts (p s) (list_all p ss) h

      by_test : (b : Bool) → q s ≡ b → (if b then Some s else find q ss) ≡ Some x → (find q ss ≡ Some x → (p x ≡ true) × (q x ≡ true)) → (p x ≡ true) × (q x ≡ true)
      by_test true t e later = let same : s ≡ x = cc e in subst (λ (y : Segment). (p y ≡ true) × (q y ≡ true)) same (a.0, t)
      by_test false t e later = later e

-- each group states a small number
run_small : (d : Delims) (run : Segment × List Segment) → list_all (is_well_formed d) run.1 ≡ true → IsSmall (group_of run)
run_small d run h = λ ge is. let f = found (is_well_formed d) (has_id (codes "GE")) run.1 ge h is in small_tail d ge f.0 f.1

runs_small : (d : Delims) (runs : List (Segment × List Segment)) → AllByRecursion (λ (run : Segment × List Segment). list_all (is_well_formed d) run.1 ≡ true) runs
    → AllByRecursion IsSmall (map group_of runs)
runs_small d [] h = tt
runs_small d (run ∷ runs) h = (run_small d run h.0, runs_small d runs h.1)

groups_small : (d : Delims) (ss : List Segment) → list_all (is_well_formed d) ss ≡ true → AllByRecursion IsSmall (groups_of ss)
groups_small d ss h =
    let inner = before_first (has_id (codes "IEA")) (drop 1 ss) in
    let all : list_all (is_well_formed d) inner ≡ true =
    all_taken (is_well_formed d) (position_or_len (has_id (codes "IEA")) (drop 1 ss)) (drop 1 ss) (all_later (is_well_formed d) ss h) in
    runs_small d ((parted (has_id (codes "GS")) inner).runs) ((all_parted (is_well_formed d) (has_id (codes "GS")) inner all).1)

-- neither of two tests holds
neither : (a b : Bool) → (a || b) ≡ false → (a ≡ false) × (b ≡ false)
neither true b h = absurd (cc)
neither false b h = (refl, h)

-- what no note says of the content
abbrev pub IsContent : List ℕ → Type 0
IsContent text = AllByRecursion IsSmall (groups_of ((cut (delims_of text) text).segments))
    × (sum_by (λ (g : Group). length g.sets) (groups_of ((cut (delims_of text) text).segments)) ≤ most_sets)

pub content : (text : List ℕ) → structure_note text ≡ None → IsContent text
content text none =
    let n1 = taken _ 23 _ none in
    let n2 = taken _ 22 _ n1.1 in
    let n3 = taken _ 1 _ n2.1 in
    let n4 = taken _ 21 _ n3.1 in
    let n5 = taken (is_content_invalid (delims_of text) ((cut (delims_of text) text).segments)) 24 None n4.1 in
    let h = neither _ _ n5.0 in
    let g = neither _ _ h.0 in
    let f = neither _ _ g.0 in
    let e = neither _ _ f.0 in
    let d = neither _ _ e.0 in
    let c = neither _ _ d.0 in
    let b = neither _ _ c.0 in
    let sets : ℕ = sum_by (λ (g : Group). length g.sets) (groups_of ((cut (delims_of text) text).segments)) in (
      groups_small (delims_of text) ((cut (delims_of text) text).segments) (not_false (list_all (is_well_formed (delims_of text)) ((cut (delims_of text) text).segments)) b.0),
      ltb-false most_sets sets h.1,
    )
