use Rattle.std.proofs.Common.{◌≤◌, sym, ◌∙◌, ap, subst, List}
use Rattle.std.specs.Prelude.{codes, All}
use Rattle.std.proofs.lemmas.List.Elements.{All-push}
use Rattle.definitions.specs.Rules.{Today}
use Rattle.definitions.specs.Cut.{Piece, has_id, segments_of}
use Rattle.definitions.specs.Limits.{most_quantity}
use Rattle.definitions.specs.Means as meant
use Rattle.definitions.specs.declared.widths.TheConstants.{QUANTITY_DIGITS_TWO}
use Rattle.sets_in.proofs.Places.{amount_here, lines_more}
use Rattle.sets_in.proofs.orders.order_lines.Goals as goal

pub order_line-requires : goal.order_line-requires
order_line-requires c = amount_here (codes "W01") 1 QUANTITY_DIGITS_TWO c.args.segments.now c.loop-index.index c.index-segments-index.result c.loop-index-test.true c.requires.quantities
    (ap (λ (q : Piece). has_id (codes "W01") q.elements) (sym c.index-segments-index.is) ∙ (sym c.has_id.ensures ∙ c.if-not-has_id.false))

pub loop-index-preserved : goal.loop-index-preserved
loop-index-preserved c = record {
  lines = lines_more (meant.order_line (segments_of c.args.segments.now)) (codes "W01") c.args.segments.now c.loop-index.index c.index-segments-index.result _ c.loop-index.lines.items _ c.in_ok-order_line.field-0 c.loop-index-test.true
      (ap (λ (q : Piece). has_id (codes "W01") q.elements) (sym c.index-segments-index.is) ∙ (sym c.has_id.ensures ∙ c.if-not-has_id.false))
      c.loop-index.invariant.lines c.in_ok-order_line.ensures.line c.in_ok-push.ensures.items;
  small = subst (λ (xs : List meant.OrderLine). All (λ (l : meant.OrderLine). l.quantity ≤ most_quantity Today) xs) (sym c.in_ok-push.ensures.items)
      (All-push (λ (l : meant.OrderLine). l.quantity ≤ most_quantity Today) c.loop-index.lines.items c.in_ok-order_line.field-0 c.loop-index.invariant.small c.in_ok-order_line.ensures.small);
}
