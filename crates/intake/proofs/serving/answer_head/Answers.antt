use Rattle.std.proofs.Common.{◌≡◌, ◌∙◌, ap, sym, true, false, option_map}
use Rattle.intake.specs.Answers.{number, seen}
use Rattle.intake.specs.Health.{leads_to_health}
use Rattle.definitions.specs.Response.{bare}
use Rattle.intake.proofs.Answering.{turned_away, health_told, let_in, unbarred, why_barred}
use Rattle.intake.proofs.serving.answer_head.Goals as goal

pub returns-in-Some-clause-answered : goal.returns-in-Some-clause-answered
returns-in-Some-clause-answered g c = λ h at.
    let why = why_barred _ _ (sym (ap (option_map number) c.in-Some.is) ∙ c.barred.ensures h at) in
    turned_away _ _ _ _ _ _ _ _ why.0 why.1 (ap seen c.unsent.ensures.response ∙ c.bare_response.ensures ∙ ap bare why.2) c.unsent.ensures.sender

pub returns-then-leads_to_health-clause-answered : goal.returns-then-leads_to_health-clause-answered
returns-then-leads_to_health-clause-answered g c = λ h at.
    let past = unbarred _ (sym (ap (option_map number) c.in_default.is) ∙ c.barred.ensures h at) in
    let leads : leads_to_health c.args.access h.target ≡ true = sym (c.leads_to_health.ensures ∙ ap (leads_to_health c.args.access) (c.of.ensures ∙ at.path)) ∙ c.if-leads_to_health.true in
    health_told _ _ _ h _ _ _ _ _ _ past leads (ap seen c.unsent-then-leads_to_health.ensures.response) c.unsent-then-leads_to_health.ensures.sender
    (c.answer_health-response.ensures.served h c.args.moment at)

pub returns-clause-answered : goal.returns-clause-answered
returns-clause-answered g c = λ h at.
    let past = unbarred _ (sym (ap (option_map number) c.in_default.is) ∙ c.barred.ensures h at) in
    let leads : leads_to_health c.args.access h.target ≡ false = sym (c.leads_to_health.ensures ∙ ap (leads_to_health c.args.access) (c.of.ensures ∙ at.path)) ∙ c.if-leads_to_health.false in
    let_in _ _ _ h _ _ _ _ _ past leads (c.in_ok-replied.ensures.answered h at)
