use Rattle.definitions.specs.Texts.{told_segments}
use Rattle.segments.proofs.ExtendsLemmas.{extends_trans}
use Rattle.sets_out.proofs.AppendsLaws.{appends_more, appends_all}
use Rattle.sets_out.proofs.acknowledgment.append_sets.Goals as goal

pub loop-set-preserved : goal.loop-set-preserved
loop-set-preserved c = record {
  told = appends_more c.args.delims told_segments c.args.sets.now c.loop-set.set-index c.set-item.result _ _ _ _ _ c.loop-set-test.true c.set-item.is
      c.loop-set.invariant.told c.in_ok-count.ensures.ok;
  kept = extends_trans _ _ _ c.loop-set.invariant.kept c.in_ok-count.ensures.kept;
}

pub returns-in_err-count-clause-kept : goal.returns-in_err-count-clause-kept
returns-in_err-count-clause-kept c = extends_trans _ _ _ c.loop-set.invariant.kept c.in_err-count.ensures.kept

pub returns-clause-ok : goal.returns-clause-ok
returns-clause-ok c = appends_all c.args.delims told_segments c.args.sets.now c.loop-set.set-index _ _ _ c.loop-set-test.false c.loop-set.invariant.told
