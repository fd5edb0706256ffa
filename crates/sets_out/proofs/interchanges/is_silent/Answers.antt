use Rattle.std.proofs.Common.{sym, ◌∙◌, ap, not}
use Rattle.sets_out.specs.Headings.{Heading}
use Rattle.sets_out.proofs.InterchangeLaws.{silence_with, silence_without}
use Rattle.sets_out.proofs.interchanges.is_silent.Goals as goal

pub returns-then-not-heading : goal.returns-then-not-heading
returns-then-not-heading c =
    let a = c.args.answer.now in
    let e = a.envelope in
    silence_without e.warehouse e.depositor e.moment e.number a.heading.now a.told.now c.is_empty.result
    (ap (λ (h : Heading). h.asks) (sym c.heading.view_is) ∙ c.if-not-heading.true) c.is_empty.ensures

pub returns-else-not-heading : goal.returns-else-not-heading
returns-else-not-heading c =
    let a = c.args.answer.now in
    let e = a.envelope in
    ap not c.if-not-heading.false
    ∙ silence_with e.warehouse e.depositor e.moment e.number a.heading.now a.told.now (ap (λ (h : Heading). h.asks) (sym c.heading.view_is) ∙ c.if-not-heading.false)
