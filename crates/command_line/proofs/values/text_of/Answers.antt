use Rattle.std.proofs.Common.{sym, ◌∙◌}
use Rattle.clap.specs.Matches.{found_of}
use Rattle.clap.proofs.WalkLemmas.{first_value-rows}
use Rattle.command_line.proofs.values.text_of.Goals as goal

pub returns : goal.returns
returns c = sym (first_value-rows (found_of c.args.values.now) c.args.id.now) ∙ sym c.get_str.ensures
