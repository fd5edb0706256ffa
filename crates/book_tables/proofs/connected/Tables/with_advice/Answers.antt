use Rattle.std.proofs.Common.{◌≡◌, ◌∙◌, ap, sym, Some, None}
use Rattle.definitions.specs.Page.{page_of}
use Rattle.definitions.specs.Register.{own}
use Rattle.rules.specs.Pages.{PageFacts, advice_at}
use Rattle.rules.specs.Keyed.{put_advice}
use Rattle.rules.proofs.Gathered.{advice_absent, advice_part}
use Rattle.rules.specs.Naming.{facts_of}
use Rattle.rules.proofs.Defines.{page_in_order}
use Rattle.book_tables.proofs.connected.Tables.with_advice.Goals as goal

pub returns-in_ok-with_advice-in-Some-clause-found : goal.returns-in_ok-with_advice-in-Some-clause-found
returns-in_ok-with_advice-in-Some-clause-found g c = λ clean W L stands n is.
    let M = own L c.args.who in
    let found : advice_at c.args.shipment.now (page_of M).advices ≡ Some c.in-Some.advice = sym (c.in_ok-advice.ensures.advice clean W L stands) ∙ c.in-Some.is in
    c.in_ok-with_advice-in-Some.ensures ∙ ap (λ (d : PageFacts). record d { advices = put_advice c.in-Some.advice d.advices }) is
    ∙ advice_part n (facts_of (page_of M)) (page_in_order M) c.args.shipment.now c.in-Some.advice found

pub returns-in-None-clause-found : goal.returns-in-None-clause-found
returns-in-None-clause-found g c = λ clean W L stands n is.
    let M = own L c.args.who in
    let none : advice_at c.args.shipment.now (page_of M).advices ≡ None = sym (c.in_ok-advice.ensures.advice clean W L stands) ∙ c.in-None.is in
    is ∙ advice_absent n (facts_of (page_of M)) c.args.shipment.now none
