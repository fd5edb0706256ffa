use Rattle.http_client.proofs.OneAnswer.{one_answer}
use Rattle.http_client.proofs.remote.laws.an_input_is_read_as_one_answer.Goals as goal

pub returns : goal.returns
returns c = λ input a b p q. one_answer input a b p q
