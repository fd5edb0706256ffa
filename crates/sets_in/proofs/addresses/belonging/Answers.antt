use Rattle.std.proofs.Common.{sym, ◌∙◌, ap}
use Rattle.std.specs.Prelude.{codes, ◌||◌}
use Rattle.definitions.specs.Cut.{Piece, has_id}
use Rattle.sets_in.proofs.Places.{belongs_here}
use Rattle.sets_in.proofs.addresses.belonging.Goals as goal

pub loop-index-preserved : goal.loop-index-preserved
loop-index-preserved c = belongs_here c.args.segments.now c.loop-index.index c.index-segments-index.result _ c.loop-index-test.true c.loop-index.invariant
    (ap (λ (q : Piece). has_id (codes "N3") q.elements || has_id (codes "N4") q.elements) (sym c.index-segments-index.is) ∙ (sym c.belongs.ensures ∙ c.if-not-belongs.false))
