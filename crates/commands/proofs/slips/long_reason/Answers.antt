use Rattle.std.proofs.Common.{sym}
use Rattle.commands.proofs.SlipLaws.{long_other}
use Rattle.commands.proofs.slips.long_reason.Goals as goal

pub returns-in_default : goal.returns-in_default
returns-in_default c = sym (long_other c.args.refusal c.in_default.not-TooManyLines)
