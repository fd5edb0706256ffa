use Rattle.std.proofs.Common.{◌∙◌, sym}
use Rattle.envelope.proofs.Bared.{any_bare}
use Rattle.envelope.proofs.looking.has.Goals as goal

pub returns : goal.returns
returns c = c.is_found.ensures ∙ sym (any_bare c.args.id.now c.args.segments.now)
