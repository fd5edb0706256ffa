use Rattle.std.proofs.Common.{◌≡◌, ℕ, Some, IfOk, sym, subst}
use Rattle.definitions.specs.declared.rules.Rules.{Rules}
use Rattle.definitions.specs.Decision as meant
use Rattle.definitions.specs.Register as register
use Rattle.definitions.specs.History.{History}
use Rattle.entries.specs.Asked.{asked}
use Rattle.entries.specs.Replies.{IsEntry, IsReply}
use Rattle.entries.specs.declared.commands.Command.{Command}
use Rattle.entries.proofs.repeats.decide_again.Goals as goal

pub returns-in-Interchange-clause-reply : goal.returns-in-Interchange-clause-reply
returns-in-Interchange-clause-reply c = subst (λ (x : Command). IfOk c.text_again.result (λ d. (r : Rules) (n : ℕ) (h : History)
    (k : meant.Recalled) → IsEntry c.args.known.now k → register.mark k.entry ≡ register.command_mark (asked x)
    → IsReply r n (asked x) c.args.moment (meant.reply_by r c.args.warehouse.now (Some h) (Some k) (asked x) c.args.moment) d))
    (sym c.in-Interchange.is) c.text_again.ensures.reply
