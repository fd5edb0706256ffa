use Rattle.std.proofs.Common.{ℕ, ◌+◌, ◌<◌, ◌++◌, ◌∷◌, [], List, length, arith, ap, sym, ◌∙◌, refl, map, drop, take}
use Rattle.std.specs.Prelude.{bytes_eq, Option}
use Rattle.std.specs.List.{list_any}
use Rattle.definitions.specs.Structure.{control_of, examined_on, kind_of}
use Rattle.group_faults.proofs.Earlier.{at_first, one_more, numbers_more}
use Rattle.group_faults.proofs.set_faults.Goals as goal

pub loop-index-init : goal.loop-index-init
loop-index-init c = (
  [],
  ap (λ (done : List (Option ℕ)). done ++ map (λ p. p.1) (examined_on (kind_of c.args.group.now.group) [] (map (λ s. s.set) c.sets-sets.result.now))) c.new-faults.ensures.items
      ∙ at_first c.args.group.now.delims c.args.group.now.group c.sets-sets.result.now c.sets-sets.ensures,
  λ n. refl,
)

pub loop-index-preserved : goal.loop-index-preserved
loop-index-preserved c =
    let earlier = c.loop-index.invariant.0 in
    let sets = c.sets-sets.result.now in
    let set = c.index-sets-index.result in
    let kind = kind_of c.args.group.now.group in
    let within : c.loop-index.index < length sets = omega arith in
    let repeated = c.stands_in-is_repeated.ensures
    ∙ (ap (λ (n : List ℕ). list_any (λ s. bytes_eq n (control_of s.set)) (take c.loop-index.index sets)) c.head_element.ensures
    ∙ sym (c.loop-index.invariant.2 (control_of set.set))) in (
      control_of set.set ∷ earlier,
      ap (λ (done : List (Option ℕ)). done ++ map (λ p. p.1) (examined_on kind (control_of set.set ∷ earlier) (map (λ s. s.set) (drop (c.loop-index.index + 1) sets)))) c.in_ok-push.ensures.items
          ∙ one_more kind earlier sets c.loop-index.index set c.loop-index.faults.items _ c.set_fault.result within c.index-sets-index.is
          c.loop-index.invariant.1 (c.set_fault.ensures earlier repeated),
      numbers_more earlier sets c.loop-index.index set within c.index-sets-index.is c.loop-index.invariant.2,
    )
