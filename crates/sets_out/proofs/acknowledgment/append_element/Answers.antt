use Rattle.std.proofs.Common.{Some, subst}
use Rattle.std.specs.Prelude.{IfOk}
use Rattle.definitions.specs.Elements.{ElementFault}
use Rattle.definitions.specs.Texts.{ak4_segments}
use Rattle.sets_out.specs.Appends.{Writes}
use Rattle.sets_out.proofs.acknowledgment.append_element.Goals as goal

pub returns-in-Some-clause-ok : goal.returns-in-Some-clause-ok
returns-in-Some-clause-ok c =
    let P : ElementFault → Type 0 = λ f. IfOk c.append_segment.result (λ n. Writes c.args.delims c.args.out.now.items c.append_segment.new.out.items (ak4_segments (Some f)) n) in
    rw c.in-Some.is (subst P c.element.view_is
    (rw (c.as_bytes-place.ensures.value, c.format.ensures.text, c.as_bytes-code.ensures.value, c.format-in-Some.ensures.text) at c.append_segment.ensures.ok))
