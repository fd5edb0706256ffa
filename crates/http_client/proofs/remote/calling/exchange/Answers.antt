use Rattle.std.proofs.lemmas.Result.{IfOk-weaker}
use Rattle.http_client.proofs.OneAnswer.{of_some_input}
use Rattle.http_client.proofs.remote.calling.exchange.Goals as goal

pub returns : goal.returns
returns g c = IfOk-weaker c.read_answer.result _ _ (λ answer read. of_some_input _ answer read) c.read_answer.ensures
