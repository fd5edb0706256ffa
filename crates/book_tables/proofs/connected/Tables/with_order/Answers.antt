use Rattle.std.proofs.Common.{◌≡◌, ◌∙◌, ap, sym, Some, None}
use Rattle.definitions.specs.Page.{page_of}
use Rattle.definitions.specs.Register.{own}
use Rattle.rules.specs.Pages.{PageFacts, order_at}
use Rattle.rules.specs.Keyed.{put_order}
use Rattle.rules.proofs.Gathered.{order_absent, order_part}
use Rattle.rules.specs.Naming.{facts_of}
use Rattle.rules.proofs.Defines.{page_in_order}
use Rattle.book_tables.proofs.connected.Tables.with_order.Goals as goal

pub returns-in_ok-with_order-in-Some-clause-found : goal.returns-in_ok-with_order-in-Some-clause-found
returns-in_ok-with_order-in-Some-clause-found g c = λ clean W L stands n is.
    let M = own L c.args.who in
    let found : order_at c.args.number.now (page_of M).orders ≡ Some c.in-Some.order = sym (c.in_ok-order.ensures.order clean W L stands) ∙ c.in-Some.is in
    c.in_ok-with_order-in-Some.ensures ∙ ap (λ (d : PageFacts). record d { orders = put_order c.in-Some.order d.orders }) is
    ∙ order_part n (facts_of (page_of M)) (page_in_order M) c.args.number.now c.in-Some.order found

pub returns-in-None-clause-found : goal.returns-in-None-clause-found
returns-in-None-clause-found g c = λ clean W L stands n is.
    let M = own L c.args.who in
    let none : order_at c.args.number.now (page_of M).orders ≡ None = sym (c.in_ok-order.ensures.order clean W L stands) ∙ c.in-None.is in
    is ∙ order_absent n (facts_of (page_of M)) c.args.number.now none
