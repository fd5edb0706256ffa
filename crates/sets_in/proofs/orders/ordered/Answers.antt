use Rattle.std.proofs.Common.{List, sym, subst}
use Rattle.std.specs.Prelude.{codes}
use Rattle.definitions.specs.Cut.{Piece, segments_of}
use Rattle.definitions.specs.Means.{order_of}
use Rattle.definitions.specs.declared.widths.TheConstants.{ORDER_TOTAL_DIGITS_TWO}
use Rattle.sets_in.specs.Amounts.{IsCountable}
use Rattle.sets_in.specs.SaidOrder.{SaysOrder}
use Rattle.sets_in.proofs.Counted.{order_counted}
use Rattle.sets_in.proofs.OrderMeaning.{says_order}
use Rattle.sets_in.proofs.orders.ordered.Goals as goal

pub returns-clause-counted : goal.returns-clause-counted
returns-clause-counted c = subst (λ (ps : List Piece). IsCountable (codes "W01") (codes "W76") ORDER_TOTAL_DIGITS_TWO (segments_of ps)) (sym c.segments.ensures.same)
    (order_counted c.args.set.now c.segments.ensures.sound c.requires)

pub returns-clause-says : goal.returns-clause-says
returns-clause-says c = subst (λ (ps : List Piece). SaysOrder (segments_of ps) (order_of (segments_of ps))) (sym c.segments.ensures.same)
    (says_order c.args.set.now c.segments.ensures.sound c.requires)
