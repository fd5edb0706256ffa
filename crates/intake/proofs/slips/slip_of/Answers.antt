use Rattle.std.proofs.Common.{rules, IsTrue}
use Rattle.definitions.specs.Header.{is_partner}
use Rattle.intake.proofs.slips.slip_of.Goals as goal

pub invariant_of-result : goal.invariant_of-result
invariant_of-result c =
    let p : IsTrue (is_partner c.in-Some.who) = search rules in
    search rules
