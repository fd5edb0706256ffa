use Rattle.std.proofs.Common.{sym, subst}
use Rattle.std.specs.Prelude.{Option, IfOk, option_copied}
use Rattle.std.proofs.lemmas.Result.{IfOk-weaker}
use Rattle.definitions.specs.Decision as meant
use Rattle.rules.proofs.LeadsOn.{all_lead}
use Rattle.definitions.specs.History.{History}
use Rattle.entries.specs.Asked.{asked}
use Rattle.rules.specs.Decided.{IsGiven, LeadsFrom, entries_of}
use Rattle.entries.specs.Replies.{IsReply}
use Rattle.entries.specs.declared.commands.Command.{Command}
use Rattle.rules.proofs.decisions.decide.Goals as goal

pub returns-in-Interchange-clause-reply : goal.returns-in-Interchange-clause-reply
returns-in-Interchange-clause-reply c = subst (λ (x : Command). IfOk c.interchange.result (λ d. (h : Option History) (k : Option meant.Recalled) → IsGiven c.args.page (option_copied c.args.known) (asked x) h k
    → IsReply c.args.rules (entries_of c.args.page) (asked x) c.args.moment (meant.reply_by c.args.rules c.args.warehouse.now h k (asked x) c.args.moment) d)) (sym c.in-Interchange.is) c.interchange.ensures.reply

pub returns-in-Enrol-clause-reply : goal.returns-in-Enrol-clause-reply
returns-in-Enrol-clause-reply c = subst (λ (x : Command). IfOk c.enrol.result (λ d. (h : Option History) (k : Option meant.Recalled) → IsGiven c.args.page (option_copied c.args.known) (asked x) h k
    → IsReply c.args.rules (entries_of c.args.page) (asked x) c.args.moment (meant.reply_by c.args.rules c.args.warehouse.now h k (asked x) c.args.moment) d)) (sym c.in-Enrol.is)
    (IfOk-weaker c.enrol.result _ _ (λ d reply h k given. reply h k c.args.warehouse.now given.page) c.enrol.ensures.reply)

pub returns-in-Clerk-clause-reply : goal.returns-in-Clerk-clause-reply
returns-in-Clerk-clause-reply c = subst (λ (x : Command). IfOk c.perform.result (λ d. (h : Option History) (k : Option meant.Recalled) → IsGiven c.args.page (option_copied c.args.known) (asked x) h k
    → IsReply c.args.rules (entries_of c.args.page) (asked x) c.args.moment (meant.reply_by c.args.rules c.args.warehouse.now h k (asked x) c.args.moment) d)) (sym c.in-Clerk.is) c.perform.ensures.reply

pub returns-in-Interchange-clause-leads : goal.returns-in-Interchange-clause-leads
returns-in-Interchange-clause-leads c = subst (λ (x : Command). IfOk c.interchange.result (LeadsFrom c.args.rules c.args.page (asked x) c.args.moment)) (sym c.in-Interchange.is) c.interchange.ensures.leads

pub returns-in-Enrol-clause-leads : goal.returns-in-Enrol-clause-leads
returns-in-Enrol-clause-leads c = subst (λ (x : Command). IfOk c.enrol.result (LeadsFrom c.args.rules c.args.page (asked x) c.args.moment)) (sym c.in-Enrol.is) c.enrol.ensures.leads

pub returns-in-Clerk-clause-leads : goal.returns-in-Clerk-clause-leads
returns-in-Clerk-clause-leads c = subst (λ (x : Command). IfOk c.perform.result (LeadsFrom c.args.rules c.args.page (asked x) c.args.moment)) (sym c.in-Clerk.is) c.perform.ensures.leads

pub returns-in-Interchange-clause-tables : goal.returns-in-Interchange-clause-tables
returns-in-Interchange-clause-tables c = all_lead c.args.rules c.args.page c.interchange.result (asked c.args.command.now) c.args.moment (returns-in-Interchange-clause-leads c)

pub returns-in-Enrol-clause-tables : goal.returns-in-Enrol-clause-tables
returns-in-Enrol-clause-tables c = all_lead c.args.rules c.args.page c.enrol.result (asked c.args.command.now) c.args.moment (returns-in-Enrol-clause-leads c)

pub returns-in-Clerk-clause-tables : goal.returns-in-Clerk-clause-tables
returns-in-Clerk-clause-tables c = all_lead c.args.rules c.args.page c.perform.result (asked c.args.command.now) c.args.moment (returns-in-Clerk-clause-leads c)
