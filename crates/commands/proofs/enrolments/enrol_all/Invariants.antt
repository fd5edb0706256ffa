use Rattle.std.proofs.Common.{◌≡◌, take}
use Rattle.store.specs.Standing.{GoesOn}
use Rattle.commands.specs.Enrolling.{AreEnrolled}
use Rattle.commands.proofs.enrolments.enrol_all.Given as goal

abbrev pub invariant-loop-who : goal.invariant-loop-who
invariant-loop-who g l =
    let old = g.K.Keeper.standing l.fn.book in
    let now = g.K.Keeper.standing l.book in
    record {
      goes : GoesOn old now;
      shut : old.shut ≡ now.shut;
      enrolled : AreEnrolled old now (take l.who-index l.partners) l.fn.moment (g.W.Write.contents l.fn.out) (g.W.Write.contents l.out) l.status;
      quiet : g.W.Printer.failures l.out ≡ g.W.Printer.failures l.fn.out;
    }
