use Rattle.http_client.proofs.AskingLaws.{asked_more}
use Rattle.http_client.proofs.HandedLaws.{each_more}
use Rattle.http_client.proofs.handing_on.hand_on_each.Goals as goal

pub returns-in_err-hand_on_one-clause-asks : goal.returns-in_err-hand_on_one-clause-asks
returns-in_err-hand_on_one-clause-asks g c =
    asked_more g.C.Courier.brings g.C.Courier.loses c.args.courier.now c.loop-number.courier c.hand_on_one.new.courier c.loop-number.invariant.asks c.hand_on_one.ensures.asks

pub loop-number-preserved : goal.loop-number-preserved
loop-number-preserved g c = record {
  asks = asked_more g.C.Courier.brings g.C.Courier.loses c.args.courier.now c.loop-number.courier c.hand_on_one.new.courier c.loop-number.invariant.asks c.hand_on_one.ensures.asks;
  handed = rw c.and-status.ensures (each_more g.C.Courier.brings (g.R.FileSystem.finds c.args.rt.now) (g.R.FileSystem.reads c.args.rt.now) (g.R.FileSystem.writes c.args.rt.now) c.args.asked
      c.deref-number-items.result.now c.loop-number.number-index c.loop-number-test.true c.args.courier.now c.loop-number.courier c.hand_on_one.new.courier
      (g.W.Write.contents c.args.out.now) (g.W.Write.contents c.loop-number.out) (g.W.Write.contents c.hand_on_one.new.out) c.in_ok-hand_on_one.field-0 c.loop-number.status
      c.loop-number.invariant.handed c.in_ok-hand_on_one.ensures.handed);
}
