use Rattle.std.proofs.Common.{sym, ◌∙◌, ap}
use Rattle.definitions.specs.Cut.{Uncut}
use Rattle.envelope.proofs.Pushed.{pushed, all_made}
use Rattle.envelope.proofs.cutting.pieces.Goals as goal

pub loop-segment-preserved : goal.loop-segment-preserved
loop-segment-preserved c = record {
  pieces = pushed _ _ _ _ _ _ c.in_ok-push.ensures.items c.in-Some.ensures.steps.0 c.loop-segment.invariant.pieces;
  rest = c.in-Some.ensures.steps.1 ∙ c.loop-segment.invariant.rest;
}

pub returns : goal.returns
returns c = (
  all_made _ _ _ c.in_default.ensures.steps.0.0 c.loop-segment.invariant.pieces,
  c.rest.ensures ∙ (ap (λ (u : Uncut). u.text) c.in_default.ensures.steps.2.0
      ∙ (sym c.in_default.ensures.steps.2.1 ∙ c.loop-segment.invariant.rest)),
)
