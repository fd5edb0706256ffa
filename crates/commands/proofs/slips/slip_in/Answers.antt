use Rattle.std.proofs.Common.{rules}
use Rattle.commands.proofs.SlipLaws.{given_good}
use Rattle.commands.proofs.slips.slip_in.Goals as goal

pub invariant_of-result : goal.invariant_of-result
invariant_of-result c = record { given = search (given_good, rules) }
