use Rattle.std.proofs.Common.{◌∙◌, sym}
use Rattle.definitions.specs.Elements.{is_well_formed}
use Rattle.envelope.proofs.Bared.{all_bare}
use Rattle.envelope.proofs.content.are_well_formed.Goals as goal

pub returns : goal.returns
returns c = c.are_formed.ensures ∙ sym (all_bare (is_well_formed c.args.delims.now) c.args.segments.now)
