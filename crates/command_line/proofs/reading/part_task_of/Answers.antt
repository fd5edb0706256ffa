use Rattle.std.proofs.Common.{◌≡◌, rules}
use Rattle.std.specs.Prelude.{IsErrAnd}
use Rattle.clap.specs.Matches.{found_of}
use Rattle.clap.specs.Walk.{rows_of}
use Rattle.std.proofs.Common.{codes, refl, Option, None, Some}
use Rattle.std.specs.Prelude.{MatchOption}
use Rattle.command_line.specs.Asked.{Found, Lacks, SaysTask}
use Rattle.command_line.proofs.AskedLaws.{handed, part_has, part_number}
use Rattle.command_line.proofs.reading.part_task_of.Goals as goal

pub returns-in_err-act-clause-err : goal.returns-in_err-act-clause-err
returns-in_err-act-clause-err c =
    let same : IsErrAnd c.from_residual.result (λ g. g ≡ c.in_err-act.field-0.0) = search rules in
    handed c.from_residual.result c.in_err-act.field-0.0 same c.in_err-act.ensures.err (λ q. part_has (c.args.name.now, rows_of (found_of c.args.values.now)) q.0 q.1)

if_none : {A N : Type 0} (S : A → Type 0) (o : Option A) → ((a : A) → o ≡ Some a → ⊥) → MatchOption o N S → N
if_none S None never n = n
if_none S (Some a) never s = absurd (never a refl)

pub returns-in_err-show-clause-err : goal.returns-in_err-show-clause-err
returns-in_err-show-clause-err c =
    let f : Found = (c.args.name.now, rows_of (found_of c.args.values.now)) in
    let same : IsErrAnd c.from_residual-in_err-show.result (λ g. g ≡ c.in_err-show.field-0.0) = search rules in
    handed c.from_residual-in_err-show.result c.in_err-show.field-0.0 same c.in_err-show.ensures.err
    (λ q. (part_has f q.0 q.1, λ is. let lacks : Lacks f.1 (codes "into") = if_none (SaysTask f) c.in_ok-task.field-0 c.in_default-2.not-Some c.in_ok-task.ensures.ok is in (part_number f q.0 q.1 lacks is, lacks)))
