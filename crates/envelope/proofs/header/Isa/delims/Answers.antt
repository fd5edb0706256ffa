use Rattle.std.proofs.Common.{ap, sym, ◌∙◌}
use Rattle.definitions.specs.Header.{is_unreadable}
use Rattle.envelope.proofs.header.Isa.delims.Goals as goal

pub returns-clause-readable : goal.returns-clause-readable
returns-clause-readable c = ap is_unreadable (sym c.self.view_is) ∙ c.self.invariant.1
