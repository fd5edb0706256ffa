use Rattle.std.proofs.Common.{◌≡◌, ◌∙◌, ap, sym, true, false}
use Rattle.sets_out.specs.Headings.{Heading}
use Rattle.sets_out.proofs.AppendsLaws.{appends_none}
use Rattle.sets_out.proofs.interchanges.append_requested.Goals as goal

pub returns-then-heading-clause-ok : goal.returns-then-heading-clause-ok
returns-then-heading-clause-ok c =
    let asks : c.args.heading.now.asks ≡ true = ap (λ (h : Heading). h.asks) (sym c.heading.view_is) ∙ c.if-heading.true in
    rw asks c.append_ta1.ensures.ok

pub returns-else-heading-clause-ok : goal.returns-else-heading-clause-ok
returns-else-heading-clause-ok c =
    let asks : c.args.heading.now.asks ≡ false = ap (λ (h : Heading). h.asks) (sym c.heading.view_is) ∙ c.if-heading.false in
    rw asks (appends_none c.args.delims _)
