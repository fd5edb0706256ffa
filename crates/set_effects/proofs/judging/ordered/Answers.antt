use Rattle.std.proofs.Common.{◌+◌, ◌∙◌, sym, ap}
use Rattle.std.proofs.lemmas.Result.{IfErr-weaker}
use Rattle.definitions.specs.declared.rules.Rules.{Rules}
use Rattle.definitions.specs.Cut.{segments_of}
use Rattle.definitions.specs.Allotment.{order_shares}
use Rattle.definitions.specs.Events.{Ordered}
use Rattle.definitions.specs.History.{traded}
use Rattle.set_effects.proofs.SetsNamed.{order_named}
use Rattle.set_effects.proofs.Judges.{ordered_ok, ordered_stops}
use Rattle.set_effects.proofs.Propers.{ordered_proper, both_ok}
use Rattle.set_effects.proofs.judging.ordered.Goals as goal

pub returns-clause-ok : goal.returns-clause-ok
returns-clause-ok c = both_ok c.reserve.result _ _ _ (λ step h is n P es part names shows.
    let m = c.args.page.now.entries + 1 in
    let ss = segments_of c.args.set.now.pieces in
    let named = order_named n c.args.set.now.kind ss c.in_ok-order.order c.requires.kind c.in_ok-order.ensures.value names in
    let q = c.rules.result in
    let found = h n P es part named shows in (
      Ordered c.in_ok-order.order (order_shares q es c.in_ok-order.order),
      ap (λ (x : Rules). traded x es m c.args.set.now.kind ss) (sym c.rules.ensures) ∙ ordered_ok q es m c.args.set.now.kind ss c.in_ok-order.order c.requires.kind c.in_ok-order.ensures.value found.0,
      found.1,
      ordered_proper P es c.in_ok-order.order (order_shares q es c.in_ok-order.order) step.changes.items part.sorted shows found.0 found.1 (is n P part named),
    )) c.reserve.ensures.ok c.reserve.ensures.changes

pub returns-clause-err : goal.returns-clause-err
returns-clause-err c = IfErr-weaker c.reserve.result _ _ (λ stop h n P es part names shows.
    let m = c.args.page.now.entries + 1 in
    let ss = segments_of c.args.set.now.pieces in
    ordered_stops c.args.set.now.rules es m c.args.set.now.kind ss c.in_ok-order.order stop c.requires.kind c.in_ok-order.ensures.value (h n P es part (order_named n c.args.set.now.kind ss c.in_ok-order.order c.requires.kind c.in_ok-order.ensures.value names).number shows)) c.reserve.ensures.err
