use Rattle.std.proofs.Common.{List, map, ap, ◌∙◌}
use Rattle.std.specs.Prelude.{codes}
use Rattle.std.proofs.lemmas.Result.{IfOk-weaker}
use Rattle.definitions.specs.Texts.{document_text}
use Rattle.sets_out.specs.Documents.{AdjustedLine, adjustment_body}
use Rattle.rules.specs.Documents.{adjusted_from}
use Rattle.rules.proofs.documents.adjustments.adjustment.Goals as goal

pub returns-clause-text : goal.returns-clause-text
returns-clause-text c =
    let e = c.args.envelope.now in
    IfOk-weaker c.written.result _ _ (λ text made. made
    ∙ ap (λ (ls : List AdjustedLine). document_text e.warehouse e.depositor e.moment e.number (codes "AW") (codes "947") (adjustment_body e.moment e.number ls))
    (c.deref-2.ensures.value ∙ c.in_ok-lines.ensures ∙ ap (map (adjusted_from c.args.page.now)) (c.deref.ensures.value ∙ c.in_ok-goods.ensures.lines))) c.written.ensures
