use Rattle.std.proofs.Common.{◌≡◌, ℕ, List, IfOk, subst}
use Rattle.definitions.specs.Rules.{Today}
use Rattle.definitions.specs.Reports.{stock_report}
use Rattle.definitions.specs.Response.{found_for, with_body, plain_type}
use Rattle.definitions.specs.Rows.{stock_of}
use Rattle.intake.specs.Answers.{seen}
use Rattle.intake.proofs.queries.got.Goals as goal

pub returns-in-Stock-clause-response : goal.returns-in-Stock-clause-response
returns-in-Stock-clause-response g c = λ clean L keeps legal body t.
    rw c.in-Stock.is
    (subst (λ (who : List ℕ). IfOk c.stock_at.result (λ r. seen r ≡ found_for who (stock_of L) (λ rows. with_body 200 plain_type (stock_report Today rows))))
    c.as_bytes.ensures.value (c.stock_at.ensures.response clean L keeps legal))
