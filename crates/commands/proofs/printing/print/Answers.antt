use Rattle.std.proofs.Common.{arith, rules}
use Rattle.std.proofs.lemmas.Grind.{common_steps}
use Rattle.commands.proofs.PrintingLaws.{printed_more, front_still, front_kept, quiet_on, refused_on, refused_zero}
use Rattle.commands.proofs.printing.print.Goals as goal

pub returns-in-Ok-eq0-clause-front : goal.returns-in-Ok-eq0-clause-front
returns-in-Ok-eq0-clause-front g c = front_still _ _ _ _ _ _ c.loop-sent.invariant.printed c.in-Ok-eq0.ensures.bytes

pub returns-in-Err-clause-front : goal.returns-in-Err-clause-front
returns-in-Err-clause-front g c = front_kept _ _ _ _ _ c.loop-sent.invariant.printed c.in-Err.ensures.bytes

pub loop-sent-preserved : goal.loop-sent-preserved
loop-sent-preserved g c = record {
  within = grind (arith, common_steps);
  printed = printed_more _ _ _ _ _ _ c.loop-sent.invariant.printed c.in-Ok.ensures.bytes;
  quiet = quiet_on _ _ _ c.in-Ok.n c.loop-sent.invariant.quiet c.in-Ok.ensures.counted (search rules);
}

pub returns-in-Ok-eq0-clause-counted : goal.returns-in-Ok-eq0-clause-counted
returns-in-Ok-eq0-clause-counted g c = refused_zero _ _ _ c.in-Ok-eq0.field-0 c.loop-sent.invariant.quiet (search rules) c.in-Ok-eq0.ensures.counted

pub returns-in-Err-clause-counted : goal.returns-in-Err-clause-counted
returns-in-Err-clause-counted g c = refused_on _ _ _ c.in-Err.error c.loop-sent.invariant.quiet c.in-Err.ensures.counted
