use Rattle.counted_io.proofs.InputLemmas.{taken_more}
use Rattle.http_client.proofs.remote.reading.read_head.Goals as goal

pub returns-in-Ok-Complete-clause-bytes : goal.returns-in-Ok-Complete-clause-bytes
returns-in-Ok-Complete-clause-bytes g c = taken_more _ _ _ _ _ _ _ c.loop-filled.invariant.bytes c.in_ok-n.ensures.before c.in_ok-n.ensures.bytes

pub loop-filled-preserved : goal.loop-filled-preserved
loop-filled-preserved g c = record {
  within = c.in_ok-n.ensures.within;
  bytes = taken_more _ _ _ _ _ _ _ c.loop-filled.invariant.bytes c.in_ok-n.ensures.before c.in_ok-n.ensures.bytes;
}
