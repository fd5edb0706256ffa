use Rattle.sets_in.proofs.Spaced.{written_more}
use Rattle.sets_in.proofs.addresses.spaced.Goals as goal

pub loop-text-preserved : goal.loop-text-preserved
loop-text-preserved c = written_more c.args.texts.now c.loop-text.text-index _ c.loop-text.out.items c.append_spaced.new.out.items _ c.loop-text-test.true c.loop-text.invariant c.in_ok-append_spaced.ensures
