use Rattle.std.proofs.Common.{◌≡◌, ◌∙◌, Ok, true, sym, subst}
use Rattle.stock.specs.Parts.{NamesCount, NamesPick, are_items}
use Rattle.rules.specs.Needs.{NamesAct}
use Rattle.definitions.specs.Clerk.{performed}
use Rattle.entries.specs.Asked.{act_of}
use Rattle.entries.specs.declared.commands.Act.{Act}
use Rattle.std.proofs.lemmas.Result.{IfOk-weaker}
use Rattle.rules.proofs.DocumentLaws.{adjustment_part, receipt_is, shipment_is, adjustment_is}
use Rattle.rules.proofs.told.document.Goals as goal

pub returns-in-Some : goal.returns-in-Some
returns-in-Some c = IfOk-weaker c.receipt.result _ _ (λ text made n P es e part names shows is.
    let named : NamesCount n c.args.page.now c.in-Count.shipment.now c.in-Count.sheet.now = subst (λ (a : Act). NamesAct n c.args.page.now (act_of a)) c.in-Count.is names in
    receipt_is c.args.envelope.now P es c.args.envelope.now.number c.in-Count.shipment.now c.in-Count.sheet.now e c.in-Some.advice.now text.items shows
    (subst (λ (a : Act). performed es c.args.envelope.now.number (act_of a) ≡ Ok e) c.in-Count.is is) (sym (part.advices c.in-Count.shipment.now named.shipment) ∙ c.in-Some.ensures) made) c.receipt.ensures

pub returns-in-Some-order : goal.returns-in-Some-order
returns-in-Some-order c = IfOk-weaker c.shipment.result _ _ (λ text made n P es e part names shows is.
    let named : NamesPick n c.args.page.now c.in-Pick.order.now c.in-Pick.sheet.now = subst (λ (a : Act). NamesAct n c.args.page.now (act_of a)) c.in-Pick.is names in
    shipment_is c.args.envelope.now P es c.args.envelope.now.number c.in-Pick.order.now c.in-Pick.sheet.now e c.in-Some-order.order.now text.items shows
    (subst (λ (a : Act). performed es c.args.envelope.now.number (act_of a) ≡ Ok e) c.in-Pick.is is) (sym (part.orders c.in-Pick.order.now named.number) ∙ c.in-Some-order.ensures) made) c.shipment.ensures

pub returns-in-Recount : goal.returns-in-Recount
returns-in-Recount c = IfOk-weaker c.adjustment.result _ _ (λ text made n P es e part names shows is.
    let named : are_items n c.in-Recount.sheet.now ≡ true = subst (λ (a : Act). NamesAct n c.args.page.now (act_of a)) c.in-Recount.is names in
    adjustment_is c.args.envelope.now P es c.args.envelope.now.number c.in-Recount.sheet.now e text.items shows
    (subst (λ (a : Act). performed es c.args.envelope.now.number (act_of a) ≡ Ok e) c.in-Recount.is is) c.adjustment.ensures.sheet
    (made ∙ adjustment_part c.args.envelope.now n c.args.page.now P c.in-Recount.sheet.now part named)) c.adjustment.ensures.text
