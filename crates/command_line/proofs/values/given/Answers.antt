use Rattle.std.proofs.Common.{◌≡◌, sym, ◌∙◌, Option, None, Some}
use Rattle.clap.specs.Matches.{found_of}
use Rattle.clap.specs.Walk.{Text}
use Rattle.clap.proofs.WalkLemmas.{first_value-rows}
use Rattle.command_line.proofs.values.given.Goals as goal

pub returns-in-Some-clause-ok : goal.returns-in-Some-clause-ok
returns-in-Some-clause-ok c = sym (first_value-rows (found_of c.args.values.now) c.args.id.now) ∙ sym c.in-Some.ensures

pub returns-in-None-clause-err : goal.returns-in-None-clause-err
returns-in-None-clause-err c = λ q.
    let none = sym (first_value-rows (found_of c.args.values.now) c.args.id.now) ∙ sym c.in-None.ensures in
    let d : ◌≡◌ {A = Option Text} None (Some q.0) = sym none ∙ q.1 in absurd (cc)
