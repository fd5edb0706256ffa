use Rattle.std.proofs.Common.{◌≡◌, cond, false, sym, ap, ◌∙◌}
use Rattle.std.proofs.lemmas.Result.{IfOk-weaker}
use Rattle.definitions.specs.Cut.{cut}
use Rattle.definitions.specs.Header.{delims_of, is_unreadable}
use Rattle.definitions.specs.Need.{nothing, need_of_segments, need_of_text}
use Rattle.entries.proofs.needs.of_text.Goals as goal

pub returns-in-Ok : goal.returns-in-Ok
returns-in-Ok c =
    let text = c.args.text.now in
    let readable : is_unreadable text ≡ false = c.in-Ok.ensures.0 in
    let bounds = c.delims.ensures.value ∙ ap delims_of c.in-Ok.ensures.1 in
    let read : need_of_text text ≡ need_of_segments ((cut (delims_of text) text).segments) =
    λ i. cond (readable i) nothing (need_of_segments ((cut (delims_of text) text).segments)) in
    IfOk-weaker c.named_in.result _ _ (λ need is. is ∙ ap (λ d. need_of_segments ((cut d text).segments)) bounds ∙ sym read) c.named_in.ensures
