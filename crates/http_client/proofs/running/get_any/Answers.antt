use Rattle.http_client.proofs.HaltLaws.{asked_once}
use Rattle.http_client.proofs.running.get_any.Goals as goal

pub returns-clause-asks : goal.returns-clause-asks
returns-clause-asks g c = asked_once g.C.Courier.brings g.C.Courier.loses c.args.courier.now c.ask_server.new.courier _ c.ask_server.result c.ask_server.ensures.brought c.ask_server.ensures.lost
