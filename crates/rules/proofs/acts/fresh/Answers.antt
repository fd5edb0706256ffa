use Rattle.std.proofs.Common.{◌+◌, ◌∙◌}
use Rattle.std.proofs.lemmas.Result.{IfOk-weaker}
use Rattle.definitions.specs.Register.{Clerk}
use Rattle.definitions.specs.Reply.{clerk_entry}
use Rattle.entries.specs.Asked.{act_of}
use Rattle.rules.proofs.Performs.{act_done, act_told_of}
use Rattle.rules.proofs.Leading.{act_leads, nowhere}
use Rattle.rules.proofs.acts.fresh.Goals as goal

pub returns-in-Ok-clause-reply : goal.returns-in-Ok-clause-reply
returns-in-Ok-clause-reply c =
    let e = c.args.envelope.now in
    let act = act_of c.args.act.now in
    IfOk-weaker c.accepted.result _ _ (λ d reply h P has of.
    let found = c.in-Ok.ensures.ok has.named P h.events has.part has.names of.shows in
    act_done c.args.rules e.warehouse c.args.page.now.entries h (clerk_entry c.args.rules e.depositor c.args.ticket.now act e.moment) act found.0 c.args.page.now.entries (Clerk e.depositor c.args.ticket.now act) e.moment d (has.part.entries ∙ of.entries) found.1
    (reply h P found.0 has of found.1)) c.accepted.ensures.reply

pub returns-in-Err-clause-reply : goal.returns-in-Err-clause-reply
returns-in-Err-clause-reply c =
    let e = c.args.envelope.now in
    let act = act_of c.args.act.now in
    IfOk-weaker c.refused.result _ _ (λ d reply h P has of.
    act_told_of c.args.rules e.warehouse c.args.page.now.entries h (clerk_entry c.args.rules e.depositor c.args.ticket.now act e.moment) act c.args.page.now.entries (Clerk e.depositor c.args.ticket.now act) e.moment d (has.part.entries ∙ of.entries)
    (reply h.events (c.args.page.now.entries + 1) act (c.in-Err.ensures.err has.named P h.events has.part has.names of.shows)
    c.args.rules e.warehouse h (clerk_entry c.args.rules e.depositor c.args.ticket.now act e.moment) c.args.page.now.entries (Clerk e.depositor c.args.ticket.now act) e.moment)) c.refused.ensures.reply

pub accepted-requires-clause-led : goal.accepted-requires-clause-led
accepted-requires-clause-led c =
    let e = c.args.envelope.now in
    λ h P has of. act_leads c.args.rules e.depositor c.args.ticket.now (act_of c.args.act.now) e.moment c.args.page.now P c.in-Ok.step.changes.items h has.named c.in-Ok.ensures.ok has.part has.names of

pub returns-in-Err-clause-leads : goal.returns-in-Err-clause-leads
returns-in-Err-clause-leads c =
    let e = c.args.envelope.now in
    IfOk-weaker c.refused.result _ _ (λ d none. nowhere c.args.rules c.args.page.now (Clerk e.depositor c.args.ticket.now (act_of c.args.act.now)) e.moment d none) c.refused.ensures.comes
