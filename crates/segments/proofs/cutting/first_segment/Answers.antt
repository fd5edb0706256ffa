use Rattle.std.proofs.Common.{sym, ◌∙◌}
use Rattle.segments.proofs.Places.{first_some, first_none}
use Rattle.segments.proofs.cutting.first_segment.Goals as goal

pub returns-in_err-end : goal.returns-in_err-end
returns-in_err-end c = rw c.from_residual.ensures (first_none c.args.delims.now c.args.text.now c.terminator.result c.terminator.ensures (sym c.first_of.ensures ∙ c.in_err-end.was))

pub returns : goal.returns
returns c = first_some c.args.delims.now c.args.text.now c.skip_line_ends-after.result.now c.in_ok-end.end c.terminator.result c.segment_of.result
    c.terminator.ensures (sym c.first_of.ensures ∙ c.in_ok-end.was) c.skip_line_ends-after.ensures c.segment_of.ensures
