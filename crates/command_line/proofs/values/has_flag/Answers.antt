use Rattle.std.proofs.Common.{ap, ◌∙◌, codes, bytes_eq, Bool, false, Option, List, ℕ}
use Rattle.std.specs.Option.{option_map_or}
use Rattle.clap.specs.Matches.{found_of}
use Rattle.clap.proofs.WalkLemmas.{first_value-rows}
use Rattle.command_line.proofs.values.has_flag.Goals as goal

abbrev says_true : Option (List ℕ) → Bool
says_true o = option_map_or (λ text. bytes_eq text (codes "true")) o false

pub returns-in-Some : goal.returns-in-Some
returns-in-Some c = c.eq.ensures ∙ ap says_true (c.in-Some.ensures ∙ first_value-rows (found_of c.args.values.now) c.args.id.now)

pub returns-in-None : goal.returns-in-None
returns-in-None c = ap says_true (c.in-None.ensures ∙ first_value-rows (found_of c.args.values.now) c.args.id.now)
