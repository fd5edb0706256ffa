use Rattle.std.proofs.Common.{Bor, List, map, ℕ}
use Rattle.command_line.proofs.AloneLaws.{whole}
use Rattle.command_line.proofs.alone.parser_of.Goals as goal

pub returns-in-Program : goal.returns-in-Program
returns-in-Program c = whole c.parser.result c.args.place (map (λ (w : Bor (List ℕ)). w.now) c.args.words.now) c.parser.ensures
