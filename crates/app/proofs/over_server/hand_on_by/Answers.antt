use Rattle.std.proofs.lemmas.Result.{IfOk-weaker}
use Rattle.http_client.proofs.AnyNetwork.{handed_any}
use Rattle.app.proofs.over_server.hand_on_by.Goals as goal

pub returns : goal.returns
returns g c =
    IfOk-weaker c.hand_on_there.result _ _
    (λ status h. handed_any g.C.Courier.brings _ _ _ c.args.asked c.args.courier.now c.hand_on_there.new.courier (g.W.Write.contents c.args.out.now) (g.W.Write.contents c.hand_on_there.new.out) status h) c.hand_on_there.ensures.handed
