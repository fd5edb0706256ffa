use Rattle.segments.proofs.ExtendsLemmas.{extends_trans}
use Rattle.sheets.proofs.writing.append_texts.Goals as goal

pub returns-in_err-append_text-clause-kept : goal.returns-in_err-append_text-clause-kept
returns-in_err-append_text-clause-kept c =
    extends_trans _ _ _ c.loop-text.invariant.kept c.append_text.ensures.kept
