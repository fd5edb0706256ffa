use Rattle.std.proofs.Common.{◌≡◌, sym, ◌∙◌, Option, None, Some}
use Rattle.clap.specs.Matches.{found_of}
use Rattle.clap.specs.Walk.{Text}
use Rattle.clap.proofs.WalkLemmas.{first_value-rows}
use Rattle.command_line.proofs.values.without.Goals as goal

pub returns-in-None : goal.returns-in-None
returns-in-None c = record {
  ok = sym (first_value-rows (found_of c.args.values.now) c.args.id.now) ∙ sym c.in-None.ensures;
  err = tt;
}

pub returns-in-Some : goal.returns-in-Some
returns-in-Some c = record {
  ok = tt;
  err = λ q.
      let there = sym (first_value-rows (found_of c.args.values.now) c.args.id.now) ∙ sym c.in-Some.ensures in
      let d : ◌≡◌ {A = Option Text} None (Some c.in-Some.field-0.now) = sym q.1 ∙ there in absurd (cc);
}
