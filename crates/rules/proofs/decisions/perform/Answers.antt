use Rattle.std.specs.Prelude.{option_copied}
use Rattle.std.proofs.lemmas.Result.{IfOk-weaker}
use Rattle.entries.specs.Asked.{act_of}
use Rattle.rules.proofs.Performs.{clerk_given}
use Rattle.rules.proofs.Leading.{nowhere_from, from_page}
use Rattle.rules.proofs.decisions.perform.Goals as goal

pub returns-clause-reply : goal.returns-clause-reply
returns-clause-reply c = IfOk-weaker c.clerk.result _ _ (λ d reply h k given.
    clerk_given c.args.rules c.who.result c.args.warehouse.now c.args.who c.args.ticket.now (act_of c.args.act.now) c.args.moment d c.args.page c.in-Some.page (option_copied c.args.known) h k
    c.who.ensures c.in-Some.is given reply) c.clerk.ensures.reply

pub returns-in_default-clause-leads : goal.returns-in_default-clause-leads
returns-in_default-clause-leads c = nowhere_from c.args.rules c.args.page _ c.args.moment _ tt

pub returns-clause-leads : goal.returns-clause-leads
returns-clause-leads c = IfOk-weaker c.clerk.result _ _ (λ d leads. from_page c.args.rules c.args.page c.in-Some.page _ c.args.moment d c.in-Some.is leads) c.clerk.ensures.leads
