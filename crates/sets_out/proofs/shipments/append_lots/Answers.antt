use Rattle.segments.proofs.ExtendsLemmas.{extends_trans}
use Rattle.sets_out.specs.Documents.{shipped_lot}
use Rattle.sets_out.proofs.AppendsLaws.{extends_same, appends_none, appends_more_one, appends_all_one}
use Rattle.sets_out.proofs.shipments.append_lots.Goals as goal

pub loop-lot-preserved : goal.loop-lot-preserved
loop-lot-preserved c = record {
  told = appends_more_one c.args.delims shipped_lot c.args.lots.now c.loop-lot.lot-index c.lot-item.result _ _ _ _ _ c.loop-lot-test.true c.lot-item.is
      c.loop-lot.invariant.told c.in_ok-count.ensures.ok;
  kept = extends_trans _ _ _ c.loop-lot.invariant.kept c.in_ok-count.ensures.kept;
}

pub returns-in_err-count-clause-kept : goal.returns-in_err-count-clause-kept
returns-in_err-count-clause-kept c = extends_trans _ _ _ c.loop-lot.invariant.kept c.in_err-count.ensures.kept

pub loop-lot-init : goal.loop-lot-init
loop-lot-init c = record { told = appends_none _ _; kept = extends_same _ }

pub returns-clause-ok : goal.returns-clause-ok
returns-clause-ok c = appends_all_one c.args.delims shipped_lot c.args.lots.now c.loop-lot.lot-index _ _ _ c.loop-lot-test.false c.loop-lot.invariant.told
