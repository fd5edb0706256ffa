use Rattle.std.proofs.Common.{◌≡◌, ℕ, List, Some, None, sym, ap, ◌∙◌}
use Rattle.std.specs.Prelude.{find, bytes_eq}
use Rattle.std.proofs.lemmas.Result.{IfOk-weaker}
use Rattle.definitions.specs.Structure.{group_fault, kind_of}
use Rattle.definitions.specs.Words as words
use Rattle.set_effects.proofs.Loops.{group_taken, group_kept, no_kind}
use Rattle.set_effects.proofs.taking.take_group.Goals as goal
use Rattle.set_effects.proofs.taking.take_group.Goals.{in_default-via-in-None+in_default, in_default-via-in_default}

pub returns-in-None-Some : goal.returns-in-None-Some
returns-in-None-Some c =
    let none : group_fault c.args.group.now.group ≡ None = sym c.group_fault.ensures ∙ c.in-None-Some.is-0 in
    let is : kind_of c.args.group.now.group ≡ Some c.in-None-Some.kind =
    ap (λ (f : List ℕ). find (λ k. bytes_eq (words.kind_function k) f) words.set_kinds) (sym c.function.ensures) ∙ sym c.of_function-kind.ensures ∙ c.in-None-Some.is-1 in
    IfOk-weaker c.take_sets.result _ _ (λ t h.
    group_taken c.args.rules c.args.group.now.group c.args.group.now.delims c.in-None-Some.kind c.args.start t.page t.changes.items t.told.items none is h) c.take_sets.ensures

pub returns-in_default : goal.returns-in_default
returns-in_default c =
    let g = c.args.group.now.group in
    let d = c.args.group.now.delims in
    rw (c.new.ensures.items, c.new-in_default.ensures.items) (elim c.in_default.branch [
      | in_default-via-in-None+in_default w ↦
          let none : group_fault g ≡ None = sym c.group_fault.ensures ∙ w.in_default.is-0 in
          let kind : kind_of g ≡ None =
          ap (λ (f : List ℕ). find (λ k. bytes_eq (words.kind_function k) f) words.set_kinds) (sym c.function.ensures) ∙ sym c.of_function-kind.ensures ∙ w.in_default.is-1 in
          absurd (no_kind g none kind)
      | in_default-via-in_default w ↦ group_kept c.args.rules g d c.args.start w.in_default.field-0-0 (sym c.group_fault.ensures ∙ w.in_default.is-0)
    ])
