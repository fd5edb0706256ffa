use Rattle.std.proofs.Common.{arith}
use Rattle.std.proofs.lemmas.Grind.{common_steps}
use Rattle.http_client.proofs.Filling.{filled_is}
use Rattle.http_client.proofs.remote.reading.fill_after.Goals as goal

pub returns-in-Ok : goal.returns-in-Ok
returns-in-Ok g c = filled_is _ _ _ _ _ _ _ c.min-had.ensures c.copy_from_slice.ensures.after (grind (arith, common_steps)) (grind (arith, common_steps)) c.in-Ok.ensures.bytes
