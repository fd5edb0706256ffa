use Rattle.std.proofs.Common.{refl, sym, ap, ◌∙◌}
use Rattle.intake.specs.Answers.{seen}
use Rattle.intake.specs.Fields.{seen_method}
use Rattle.intake.specs.Targets.{seen_target}
use Rattle.intake.proofs.Sent.{may_be_sent, may_not_be_sent, sent_served, sent_turned, sent_sender}
use Rattle.intake.proofs.senders.answer_at.Goals as goal

pub returns-then-not-may_send-clause-served : goal.returns-then-not-may_send-clause-served
returns-then-not-may_send-clause-served g c =
    let m = seen_method c.args.method in
    let to = seen_target c.args.target.now in
    let q = may_not_be_sent _ m to c.args.body.now _ (c.sender_of-sender.ensures c.args.body.now refl) (sym c.may_send.ensures ∙ c.if-not-may_send.true) in
    sent_turned _ _ m to 403 _ _ q (ap seen c.unsent.ensures.response ∙ c.bare_response.ensures)

pub returns-then-not-may_send-clause-sender : goal.returns-then-not-may_send-clause-sender
returns-then-not-may_send-clause-sender g c =
    let m = seen_method c.args.method in
    let to = seen_target c.args.target.now in
    let q = may_not_be_sent _ m to c.args.body.now _ (c.sender_of-sender.ensures c.args.body.now refl) (sym c.may_send.ensures ∙ c.if-not-may_send.true) in
    sent_sender m to _ _ q c.unsent.ensures.sender

pub returns-clause-served : goal.returns-clause-served
returns-clause-served g c =
    let m = seen_method c.args.method in
    let to = seen_target c.args.target.now in
    let q = may_be_sent _ m to c.args.body.now _ (c.sender_of-sender.ensures c.args.body.now refl) (sym c.may_send.ensures ∙ c.if-not-may_send.false) in
    sent_served _ _ _ m to _ _ c.args.body.now q c.respond_to-response.ensures

pub returns-clause-sender : goal.returns-clause-sender
returns-clause-sender g c =
    let m = seen_method c.args.method in
    let to = seen_target c.args.target.now in
    let q = may_be_sent _ m to c.args.body.now _ (c.sender_of-sender.ensures c.args.body.now refl) (sym c.may_send.ensures ∙ c.if-not-may_send.false) in
    sent_sender m to _ _ q (c.told_sender.ensures c.args.body.now (c.sender_of-sender.ensures c.args.body.now refl))
