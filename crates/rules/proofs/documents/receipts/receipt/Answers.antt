use Rattle.std.proofs.Common.{◌≡◌, List, ◌++◌, codes, map, ap, ◌∙◌}
use Rattle.std.proofs.lemmas.Result.{IfOk-weaker}
use Rattle.definitions.specs.Clerk.{is_ascending}
use Rattle.definitions.specs.Events.{pair_before}
use Rattle.definitions.specs.Lists.{in_order}
use Rattle.definitions.specs.Means.{Line}
use Rattle.definitions.specs.Page.{PageAdvice}
use Rattle.definitions.specs.Texts.{document_text, total_of}
use Rattle.sets_out.specs.Documents.{Receipt, receipt_body}
use Rattle.sets_out.specs.declared.envelopes.Envelope.{Envelope}
use Rattle.rules.specs.Documents.{received_line, receipt_text}
use Rattle.rules.proofs.ItemLines.{sheet_ascends}
use Rattle.rules.proofs.documents.receipts.receipt.Goals as goal

-- a receipt of what an advice and a sheet say is their 944
is_receipt : (e : Envelope) (a : PageAdvice) (sheet : List Line) (r : Receipt) → r.order ≡ a.order → r.shipment ≡ a.shipment
    → r.lines ≡ map (received_line sheet) (in_order pair_before (a.lines ++ sheet)) → r.counted ≡ total_of sheet → r.advised ≡ total_of a.lines
    → document_text e.warehouse e.depositor e.moment e.number (codes "RE") (codes "944") (receipt_body e.moment e.number r) ≡ receipt_text e a sheet
is_receipt e a sheet r order shipment lines counted advised = λ i.
    document_text e.warehouse e.depositor e.moment e.number (codes "RE") (codes "944")
    (receipt_body e.moment e.number (record { order = order i; shipment = shipment i; lines = lines i; counted = counted i; advised = advised i }))

pub received-requires : goal.received-requires
received-requires c = ap is_ascending (c.deref-3.ensures.value ∙ c.in_ok-counted.ensures.lines) ∙ sheet_ascends c.args.sheet.now c.lines.ensures.sheet

pub returns : goal.returns
returns c =
    let counted = c.in_ok-counted.ensures.lines in
    let pairs = c.deref-2.ensures.value ∙ c.in_ok-pairs.ensures ∙ (λ i. in_order pair_before (c.lines-2.ensures i ++ (c.deref.ensures.value ∙ counted) i)) in
    let lines = c.deref-4.ensures.value ∙ c.in_ok-lines.ensures ∙ (λ i. map (received_line ((c.deref-3.ensures.value ∙ counted) i)) (pairs i)) in
    let made : Receipt = record {
      order = c.order.result.now;
      shipment = c.shipment.result.now;
      lines = c.deref-4.result.now;
      counted = c.total.result;
      advised = c.total-2.result;
    } in
    IfOk-weaker c.written.result _ _ (λ text is. is ∙ is_receipt c.args.envelope.now c.args.advice.now c.args.sheet.now made
    c.order.ensures c.shipment.ensures lines (c.total.ensures ∙ ap total_of (c.deref-5.ensures.value ∙ counted)) c.total-2.ensures) c.written.ensures
