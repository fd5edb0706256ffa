use Rattle.std.proofs.Common.{ℕ, List, map, ap, ◌∙◌}
use Rattle.std.specs.Prelude.{codes}
use Rattle.std.proofs.lemmas.Result.{IfOk-weaker}
use Rattle.definitions.specs.Clerk.{is_ascending}
use Rattle.definitions.specs.Means.{Line}
use Rattle.definitions.specs.Page.{PageLine, PageOrder}
use Rattle.definitions.specs.Texts.{document_text, total_of}
use Rattle.sets_out.specs.Documents.{ShippedLine, shipment_body}
use Rattle.rules.specs.Documents.{shipped_of}
use Rattle.rules.proofs.ItemLines.{sheet_ascends}
use Rattle.rules.proofs.documents.shipments.shipment.Goals as goal

pub shipped_lines-requires-clause-rises : goal.shipped_lines-requires-clause-rises
shipped_lines-requires-clause-rises c = ap is_ascending (c.deref-2.ensures.value ∙ c.in_ok-goods.ensures.lines) ∙ sheet_ascends c.args.sheet.now c.lines.ensures.sheet

pub returns : goal.returns
returns c =
    let e = c.args.envelope.now in
    let goods = c.deref-2.ensures.value ∙ c.in_ok-goods.ensures.lines in
    let ordered = c.deref.ensures.value ∙ ap (λ (k : PageOrder). k.lines) c.order.view_is in
    let text : List ℕ → List ShippedLine → ℕ → List ℕ = λ order lines shipped.
    document_text e.warehouse e.depositor e.moment e.number (codes "SW") (codes "945") (shipment_body e.moment e.number (record { order = order; lines = lines; shipped = shipped })) in
    let lines = c.deref-4.ensures.value ∙ c.in_ok-lines.ensures
    ∙ ap (λ (ls : List Line). map (shipped_of ls) c.deref.result.now) goods
    ∙ ap (λ (ls : List PageLine). map (shipped_of c.args.sheet.now) ls) ordered in
    IfOk-weaker c.written.result _ _ (λ t made. made
    ∙ ap (λ (o : List ℕ). text o c.deref-4.result.now c.total.result) (c.deref-3.ensures.value ∙ ap (λ (k : PageOrder). k.number) c.order.view_is)
    ∙ ap (λ (ls : List ShippedLine). text c.args.order.now.number ls c.total.result) lines
    ∙ ap (λ (n : ℕ). text c.args.order.now.number (map (shipped_of c.args.sheet.now) c.args.order.now.lines) n)
    (c.total.ensures ∙ ap total_of (c.deref-5.ensures.value ∙ c.in_ok-goods.ensures.lines))) c.written.ensures
