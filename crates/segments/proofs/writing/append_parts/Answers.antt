use Rattle.segments.proofs.ExtendsLemmas.{extends_trans}
use Rattle.segments.proofs.writing.append_parts.Goals as goal

pub returns-in_err-append_part-clause-kept : goal.returns-in_err-append_part-clause-kept
returns-in_err-append_part-clause-kept c =
    extends_trans _ _ _ c.loop-element.invariant.kept c.append_part.ensures.kept
