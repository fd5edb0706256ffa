use Rattle.std.proofs.Common.{◌∙◌, sym}
use Rattle.definitions.specs.Cut.{id_of}
use Rattle.definitions.specs.Halt.{is_segment_id}
use Rattle.envelope.proofs.Bared.{all_bare}
use Rattle.envelope.proofs.content.have_ids.Goals as goal

pub returns : goal.returns
returns c = c.are_named.ensures ∙ sym (all_bare (λ s. is_segment_id (id_of s)) c.args.segments.now)
