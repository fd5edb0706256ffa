use Rattle.std.proofs.Common.{arith, ◌≤◌, length, take}
use Rattle.std.proofs.lemmas.Grind.{common_steps}
use Rattle.head_fields.specs.Fields.{most_head, most_fields}
use Rattle.http_client.proofs.Answering.{answer_is}
use Rattle.http_client.proofs.remote.answers.read_answer.Goals as goal

pub returns : goal.returns
returns g c =
    let e = c.in_ok-begun.ensures in
    let room : length (take c.in_ok-begun.begun.filled c.read_head.new.buf) ≤ most_head = grind (arith, common_steps) in
    let many : length c.read_head.new.fields ≤ most_fields = grind (arith, common_steps) in
    answer_is _ _ _ _ _ e.head.0 _ _ room many e.spans e.head.1 e.bytes c.in_ok-said.ensures.said c.in_ok-body.ensures
