use Rattle.std.proofs.Common.{ap, sym, subst}
use Rattle.std.proofs.lemmas.Result.{IfOk-weaker}
use Rattle.definitions.specs.Register.{Clerk}
use Rattle.entries.specs.Asked.{act_of}
use Rattle.std.specs.Prelude.{Option, Some, option_copied}
use Rattle.definitions.specs.Decision as known
use Rattle.entries.specs.Replies.{IsReply}
use Rattle.rules.proofs.Performs.{none_known}
use Rattle.rules.proofs.Leading.{nowhere}
use Rattle.rules.proofs.acts.clerk.Goals as goal

pub returns-in-None-clause-reply : goal.returns-in-None-clause-reply
returns-in-None-clause-reply c =
    let e = c.args.envelope.now in
    let act = act_of c.args.act.now in
    IfOk-weaker c.fresh.result _ _ (λ d reply h P k has of is under.
    subst (λ (x : Option known.Recalled). IsReply c.args.rules c.args.page.now.entries (Clerk e.depositor c.args.ticket.now act) e.moment (known.clerk_by c.args.rules e.warehouse (Some h) x e.depositor c.args.ticket.now act e.moment) d)
    (sym (none_known (option_copied c.args.known) k (ap option_copied c.in-None.is) is)) (reply h P has of)) c.fresh.ensures.reply

pub returns-in-Some-clause-leads : goal.returns-in-Some-clause-leads
returns-in-Some-clause-leads c =
    let e = c.args.envelope.now in
    IfOk-weaker c.act_again.result _ _ (λ d none. nowhere c.args.rules c.args.page.now (Clerk e.depositor c.args.ticket.now (act_of c.args.act.now)) e.moment d none) c.act_again.ensures.comes
