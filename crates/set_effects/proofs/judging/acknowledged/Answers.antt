use Rattle.std.proofs.Common.{◌+◌}
use Rattle.definitions.specs.Cut.{segments_of}
use Rattle.definitions.specs.Events.{Acknowledged}
use Rattle.set_effects.proofs.SetsNamed.{ack_named}
use Rattle.set_effects.proofs.Judges.{acknowledged_ok}
use Rattle.set_effects.proofs.Propers.{acknowledged_proper}
use Rattle.set_effects.proofs.judging.acknowledged.Goals as goal

pub returns-clause-ok : goal.returns-clause-ok
returns-clause-ok c = λ n P es part names shows. (
  Acknowledged (c.args.page.now.entries + 1) c.in_ok-ack.ack,
  acknowledged_ok c.args.set.now.rules es (c.args.page.now.entries + 1) c.args.set.now.kind (segments_of c.args.set.now.pieces) c.in_ok-ack.ack c.requires.kind c.in_ok-ack.ensures.value,
  c.in_ok-acknowledge.ensures.ok n P es part (ack_named n c.args.set.now.kind (segments_of c.args.set.now.pieces) c.in_ok-ack.ack c.requires.kind c.in_ok-ack.ensures.value names) shows,
  acknowledged_proper P c.in_ok-ack.ack c.in_ok-acknowledge.field-0.changes.items (c.in_ok-acknowledge.ensures.changes n P part (ack_named n c.args.set.now.kind (segments_of c.args.set.now.pieces) c.in_ok-ack.ack c.requires.kind c.in_ok-ack.ensures.value names)),
)
