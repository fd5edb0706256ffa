use Rattle.std.proofs.Common.{◌++◌, [], sym, ap, ◌∙◌, append-nil}
use Rattle.std.specs.Prelude.{Option}
use Rattle.std.specs.List.{cons_option}
use Rattle.definitions.specs.Clerk.{RawLine}
use Rattle.rules.proofs.ReadBack.{more_records}
use Rattle.rules.proofs.readings.lines.Goals.{in-Some+in_ok-push, in_default}
use Rattle.rules.proofs.readings.lines.Goals as goal

pub loop-text-preserved : goal.loop-text-preserved
loop-text-preserved c =
    let more = more_records c.args.texts.now c.loop-text.text-index _ c.loop-text.lines.items c.in_ok-line.field-0 c.loop-text-test.true c.loop-text.invariant c.in_ok-line.ensures in
    elim c.match-branch-2.branch [
      | in-Some+in_ok-push w ↦
          ap (λ v. v.items) w.lines-is ∙ w.in_ok-push.ensures.items ∙ ap (λ (o : Option RawLine). c.loop-text.lines.items ++ cons_option o []) (sym w.in-Some.is) ∙ more
      | in_default w ↦
          ap (λ v. v.items) w.lines-is ∙ sym (append-nil c.loop-text.lines.items) ∙ ap (λ (o : Option RawLine). c.loop-text.lines.items ++ cons_option o []) (sym w.in_default.is) ∙ more
    ]
