use Rattle.std.proofs.Common.{List, ℕ, sym, subst, ◌∙◌}
use Rattle.std.proofs.lemmas.Result.{IfOk-weaker}
use Rattle.definitions.specs.Register.{Interchange}
use Rattle.definitions.specs.declared.refusals.Refusal.TheVariants.{Duplicate}
use Rattle.definitions.specs.Reply.{Refused, Reply, refusal_answer}
use Rattle.entries.specs.Replies.{IsReply}
use Rattle.entries.proofs.Again.{again_other}
use Rattle.entries.proofs.interchanges.interchange_again.Goals as goal

pub returns-clause-reply : goal.returns-clause-reply
returns-clause-reply c =
    let W = c.args.warehouse.now in
    let text = c.args.text.now in
    let t = c.args.moment in
    IfOk-weaker c.duplicate.result _ _ (λ d told r n k entry key.
    subst (λ (x : Reply). IsReply r n (Interchange text) t x d)
    (sym (again_other W text t c.args.known.now k entry key (sym c.is_of.ensures ∙ c.if-is_of.false)))
    (subst (λ (x : List ℕ). IsReply r n (Interchange text) t (Refused Duplicate (refusal_answer W x t Duplicate)) d) c.requires (told r n (Interchange text))))
    c.duplicate.ensures.reply
