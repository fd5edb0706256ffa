use Rattle.std.proofs.lemmas.Result.{IfOk-weaker, IfErr-weaker}
use Rattle.http_client.proofs.AnyNetwork.{carried_any, carry_halted}
use Rattle.app.proofs.over_server.carry_by.Goals as goal

pub returns-clause-carried : goal.returns-clause-carried
returns-clause-carried g c =
    IfOk-weaker c.carry_out.result _ _
    (λ status h. carried_any g.C.Courier.brings c.args.courier.now c.carry_out.new.courier (g.W.Write.contents c.args.out.now) (g.W.Write.contents c.carry_out.new.out) status c.args.errand.now h) c.carry_out.ensures.carried

pub returns-clause-halted : goal.returns-clause-halted
returns-clause-halted g c =
    IfErr-weaker c.carry_out.result _ _
    (λ stop h. carry_halted g.C.Courier.brings g.C.Courier.loses stop c.args.courier.now c.carry_out.new.courier c.args.errand.now h) c.carry_out.ensures.halted
