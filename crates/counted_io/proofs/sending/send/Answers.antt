use Rattle.std.proofs.Common.{arith, rules, ◌≡◌}
use Rattle.std.proofs.lemmas.Grind.{common_steps}
use Rattle.counted_io.proofs.Sends.{sent_more, beginning_still, beginning_kept}
use Rattle.counted_io.proofs.sending.send.Goals as goal

pub returns-in-Ok-eq0-clause-beginning : goal.returns-in-Ok-eq0-clause-beginning
returns-in-Ok-eq0-clause-beginning g c =
    let none : c.in-Ok-eq0.field-0 ≡ 0 = search rules in
    beginning_still _ _ _ _ _ _ c.loop-sent.invariant.within none c.loop-sent.invariant.sent c.in-Ok-eq0.ensures.bytes

pub loop-sent-preserved : goal.loop-sent-preserved
loop-sent-preserved g c = record {
  within = grind (arith, common_steps);
  sent = sent_more _ _ _ _ _ _ c.loop-sent.invariant.sent c.in-Ok.ensures.bytes;
  quiet = grind (arith, common_steps);
}

pub returns-in-Err-clause-beginning : goal.returns-in-Err-clause-beginning
returns-in-Err-clause-beginning g c = beginning_kept _ _ _ _ _ c.loop-sent.invariant.within c.loop-sent.invariant.sent c.in-Err.ensures.bytes
