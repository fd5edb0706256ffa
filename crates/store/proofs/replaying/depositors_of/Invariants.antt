use Rattle.std.proofs.Common.{◌≡◌, take}
use Rattle.store.proofs.OpenLaws.{unnumbered_among}
use Rattle.store.proofs.replaying.depositors_of.Given as goal

abbrev pub invariant-loop-entry : goal.invariant-loop-entry
invariant-loop-entry l = l.whos.items ≡ unnumbered_among (take l.entry-index l.entries)
