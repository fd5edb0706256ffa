use Rattle.std.proofs.Common.{◌≡◌, List, sym, subst}
use Rattle.std.specs.Prelude.{IfOk}
use Rattle.std.proofs.lemmas.Result.{IfOk-weaker}
use Rattle.definitions.specs.Cut.{Piece, segments_of}
use Rattle.definitions.specs.Means.{Order, order_of}
use Rattle.sets_in.specs.SaidOrder.{SaysOrder}
use Rattle.sets_in.proofs.orders.order.Goals as goal

pub returns-clause-says : goal.returns-clause-says
returns-clause-says c =
    let ss = segments_of c.ordered.result.now in
    let said : SaysOrder ss (order_of ss) = c.ordered.ensures.says in
    subst (λ (ps : List Piece). IfOk c.said.result (SaysOrder (segments_of ps))) c.ordered.ensures.same
    (IfOk-weaker c.said.result (λ (o : Order). o ≡ order_of ss) (SaysOrder ss) (λ o e. subst (SaysOrder ss) (sym e) said) c.said.ensures)
