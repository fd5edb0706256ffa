use Rattle.std.proofs.Common.{List, ◌∷◌, ◌∙◌, refl, ap}
use Rattle.std.proofs.lemmas.List.{take_all, take_more}
use Rattle.definitions.specs.Cut.{Piece}
use Rattle.envelope.proofs.making.copied.Goals as goal

pub loop-segment-preserved : goal.loop-segment-preserved
loop-segment-preserved c =
    c.in_ok-push-2.ensures.items ∙ rw (
      c.loop-segment.invariant,
      c.again-in-loop-segment.ensures,
      take_more c.args.others.now c.loop-segment.segment-index c.segment-item.result c.loop-segment-test.true,
      ← c.segment-item.is,
    ) refl

pub returns : goal.returns
returns c = c.loop-segment.invariant ∙ ap (λ (ps : List Piece). c.args.head.now ∷ ps) (take_all c.loop-segment.segment-index c.args.others.now c.loop-segment-test.false)
