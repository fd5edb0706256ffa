use Rattle.std.proofs.Common.{arith, ◌≤◌, ◌∙◌, ap, length, take}
use Rattle.std.proofs.lemmas.Grind.{common_steps}
use Rattle.std.proofs.lemmas.Result.{IfOk-weaker}
use Rattle.intake.specs.Answers.{seen}
use Rattle.head_fields.specs.Fields.{most_head, most_fields}
use Rattle.counted_io.proofs.Sends.{on_err}
use Rattle.intake.proofs.Answering.{whole_answer, headless_answer, line_read}
use Rattle.intake.proofs.serving.receive.Goals as goal

pub returns-clause-answered : goal.returns-clause-answered
returns-clause-answered g c =
    let e = c.in-Ok.ensures in
    let found = rw c.in-Some.is at e.head in
    let within = rw c.in-Some.is at e.spans in
    let room : length (take c.in-Ok.begun.filled c.read_head.new.buf) ≤ most_head = grind (arith, common_steps) in
    let many : length c.read_head.new.fields ≤ most_fields = grind (arith, common_steps) in
    IfOk-weaker c.answer_head-answered.result _ _
    (λ a answered. whole_answer _ _ _ _ _ _ _ _ _ found.0 _ _ _ _ room many within found.1 e.bytes c.copied_line-line.ensures (answered found.0 found.1))
    c.answer_head-answered.ensures.answered

pub returns-clause-line : goal.returns-clause-line
returns-clause-line g c =
    let e = c.in-Ok.ensures in
    let found = rw c.in-Some.is at e.head in
    let within = rw c.in-Some.is at e.spans in
    let room : length (take c.in-Ok.begun.filled c.read_head.new.buf) ≤ most_head = grind (arith, common_steps) in
    let many : length c.read_head.new.fields ≤ most_fields = grind (arith, common_steps) in
    on_err c.answer_head-answered.result (line_read _ _ _ _ _ _ found.0 room many within found.1 e.bytes c.copied_line-line.ensures)

pub returns-in-None-clause-answered : goal.returns-in-None-clause-answered
returns-in-None-clause-answered g c =
    let e = c.in-Ok.ensures in
    let none = rw c.in-None.is at e.none in
    headless_answer _ _ _ _ _ _ _ _ e.bytes none (ap seen c.unsent.ensures.response ∙ c.bare_response.ensures) c.unsent.ensures.sender
