use Rattle.segments.proofs.ExtendsLemmas.{extends_trans}
use Rattle.sets_out.proofs.AppendsLaws.{extends_by}
use Rattle.sets_out.proofs.envelopes.append_opening.Goals as goal

pub returns-in_err-append_parts-clause-kept : goal.returns-in_err-append_parts-clause-kept
returns-in_err-append_parts-clause-kept c = extends_trans _ _ _ (extends_by _ _ _ c.in_ok-extend_from_slice.ensures.items) c.in_err-append_parts.ensures.kept

pub returns-clause-kept : goal.returns-clause-kept
returns-clause-kept c = extends_trans _ _ _ (extends_by _ _ _ c.in_ok-extend_from_slice.ensures.items) c.in_ok-append_parts.ensures.kept
