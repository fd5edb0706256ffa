use Rattle.std.proofs.Common.{Some}
use Rattle.std.proofs.Common.{subst}
use Rattle.definitions.specs.Cut.{Uncut, GivesSegment}
use Rattle.segments.proofs.Places.{gives_first}
use Rattle.segments.proofs.cutting.CutIterator.next.Goals as goal

pub returns-clause-steps : goal.returns-clause-steps
returns-clause-steps c = subst (λ (s : Uncut). GivesSegment s (Some c.in_ok-segment.segment) (record { delims = c.self.inside.delims; text = c.in_ok-segment.after.now }))
    c.self.view_is (gives_first (record { delims = c.self.inside.delims; text = c.self.inside.text.now }) c.in_ok-segment.after.now c.in_ok-segment.segment c.in_ok-segment.ensures)
