use Rattle.std.proofs.Common.{◌∙◌}
use Rattle.envelope.proofs.Moments.{is_none_of, no_clock_fault}
use Rattle.envelope.proofs.notes.is_clock.Goals as goal

pub returns : goal.returns
returns c = is_none_of _ _ c.is_none.ensures ∙ no_clock_fault c.args.delims.now c.args.text.now _ c.element_fault.ensures c.requires
