use Rattle.std.proofs.Common.{◌∷◌, ◌++◌, sym, ap, ◌∙◌, append_assoc, codes}
use Rattle.seals.specs.Seals.{seal_text}
use Rattle.seals.proofs.Beginnings.{only_so, seal_back, seal_only, text_read}
use Rattle.seals.proofs.laws.beginnings_are_read_back.Goals as goal

pub returns-clause-back : goal.returns-clause-back
returns-clause-back c n few long bytes = text_read n.0 n.1 few (seal_back n.1 long bytes)

pub returns-clause-only : goal.returns-clause-only
returns-clause-only c text b h =
    let so = only_so text b h in
    let is = seal_only so.behind b.1 so.sealed in
    (so.digits, (so.number, so.is ∙ ap (λ r. so.digits ++ 58 ∷ r) is ∙ sym (append_assoc so.digits (codes ":") (seal_text b.1))))
