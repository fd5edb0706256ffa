use Rattle.std.proofs.Common.{◌≡◌, ℕ, ap, refl, subst, sym, ◌∙◌, Some, None}
use Rattle.std.specs.Prelude.{Option}
use Rattle.std.proofs.lemmas.Result.{IfOk-weaker}
use Rattle.definitions.specs.Header.{Who}
use Rattle.definitions.specs.Halt.{header_notes, structure_note}
use Rattle.definitions.specs.Register.{Interchange}
use Rattle.definitions.specs.Decision.{new_note, interchange_new, accepted_by}
use Rattle.definitions.specs.Reply.{interchange_entry}
use Rattle.entries.specs.Replies.{IsReply}
use Rattle.envelope.specs.Conditions.{first_note}
use Rattle.rules.proofs.Decides.{noted_header, noted_segments, noted_new, accepted_new}
use Rattle.rules.proofs.Leading.{nothing_made, nowhere}
use Rattle.rules.proofs.interchanges.fresh.Goals as goal

pub returns-in-Some-clause-reply : goal.returns-in-Some-clause-reply
returns-in-Some-clause-reply c =
    let W = c.args.warehouse.now in
    let note : new_note W c.args.text.now ≡ Some c.in-Some.code =
    noted_header W c.args.text.now c.args.header.now c.header_note.result c.in-Some.code c.requires.same
    (c.header_note.ensures ∙ ap (λ (w : Who). first_note (header_notes w c.args.header.now)) c.who.ensures) c.in-Some.is in
    IfOk-weaker c.noted.result _ _ (λ d h H P has of.
    noted_new c.args.rules W H c.args.text.now c.args.header.now c.args.moment c.args.page.entries c.in-Some.code (new_note W c.args.text.now) d c.requires.same note
    (h c.args.rules c.args.page.entries (Interchange c.args.text.now))) c.noted.ensures.reply

pub returns-in-Ok-clause-reply : goal.returns-in-Ok-clause-reply
returns-in-Ok-clause-reply c =
    let W = c.args.warehouse.now in
    let note : new_note W c.args.text.now ≡ None =
    noted_segments W c.args.text.now c.args.header.now c.header_note.result None c.requires.same
    (c.header_note.ensures ∙ ap (λ (w : Who). first_note (header_notes w c.args.header.now)) c.who.ensures) c.in_default.is c.in-Ok.ensures.0 in
    IfOk-weaker c.accepted.result _ _ (λ d h H P has of.
    accepted_new c.args.rules W H c.args.text.now c.args.moment c.args.page.entries (new_note W c.args.text.now) d note
    (subst (λ (w : Who). IsReply c.args.rules c.args.page.entries (Interchange c.args.text.now) c.args.moment (accepted_by w H (interchange_entry c.args.rules c.args.text.now c.args.moment)) d) c.who-2.ensures (h H P has of))) c.accepted.ensures.reply

pub returns-in-Err-clause-reply : goal.returns-in-Err-clause-reply
returns-in-Err-clause-reply c =
    let W = c.args.warehouse.now in
    let found : new_note W c.args.text.now ≡ structure_note c.args.text.now =
    noted_segments W c.args.text.now c.args.header.now c.header_note.result (structure_note c.args.text.now) c.requires.same
    (c.header_note.ensures ∙ ap (λ (w : Who). first_note (header_notes w c.args.header.now)) c.who.ensures) c.in_default.is refl in
    IfOk-weaker c.halted.result _ _ (λ d h H P has of.
    subst (λ (o : Option ℕ). IsReply c.args.rules c.args.page.entries (Interchange c.args.text.now) c.args.moment (interchange_new c.args.rules W H c.args.text.now c.args.moment o) d) (sym found)
    (h c.args.rules c.args.text.now H c.args.page.entries c.in-Err.ensures c.requires.same)) c.halted.ensures.reply

pub returns-in-Some-clause-leads : goal.returns-in-Some-clause-leads
returns-in-Some-clause-leads c = IfOk-weaker c.noted.result _ _ (λ d none. nowhere c.args.rules c.args.page (Interchange c.args.text.now) c.args.moment d none) c.noted.ensures.comes

pub returns-in-Err-clause-leads : goal.returns-in-Err-clause-leads
returns-in-Err-clause-leads c = IfOk-weaker c.halted.result _ _ (λ d none. nowhere c.args.rules c.args.page (Interchange c.args.text.now) c.args.moment d none) c.halted.ensures.comes

pub returns-in-Some-clause-comes : goal.returns-in-Some-clause-comes
returns-in-Some-clause-comes c = IfOk-weaker c.noted.result _ _ (λ d none. nothing_made c.args.rules (Interchange c.args.text.now) c.args.moment d none) c.noted.ensures.comes

pub returns-in-Err-clause-comes : goal.returns-in-Err-clause-comes
returns-in-Err-clause-comes c = IfOk-weaker c.halted.result _ _ (λ d none. nothing_made c.args.rules (Interchange c.args.text.now) c.args.moment d none) c.halted.ensures.comes
