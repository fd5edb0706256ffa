use Rattle.std.proofs.Common.{◌≡◌, ◌∙◌, ap, Some, List, ℕ}
use Rattle.definitions.specs.Header.{who_of}
use Rattle.definitions.specs.Response.{content_response, found_for}
use Rattle.definitions.specs.Rows.{outbox_of}
use Rattle.intake.specs.Answers.{told_text}
use Rattle.intake.proofs.Found.{text_found}
use Rattle.intake.proofs.queries.content_at.Goals as goal

pub returns-clause-response : goal.returns-clause-response
returns-clause-response g c = λ clean L keeps legal.
    let W = (g.K.Keeper.standing c.args.keeper.now).warehouse in
    let name : Some c.in-Some.who ≡ who_of c.args.who.now = c.in-Some.ensures ∙ ap who_of c.as_bytes.ensures.value in
    c.content_of.ensures ∙ ap told_text (c.in_ok-text.ensures.text clean L keeps legal)
    ∙ text_found c.args.who.now c.as_bytes-2.result.now c.in-Some.who _ (outbox_of W L) name c.in-Some-plain_number.ensures
    ∙ ap (λ (n : List ℕ). found_for c.args.who.now (outbox_of W L) (content_response n)) c.as_bytes-2.ensures.value
