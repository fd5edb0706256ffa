use Rattle.std.proofs.Common.{◌∙◌, ap, arith}
use Rattle.definitions.specs.Clerk.{performed}
use Rattle.definitions.specs.Reply.{clerk_entry}
use Rattle.entries.specs.Asked.{act_of}
use Rattle.entries.specs.Written.{written_as}
use Rattle.rules.proofs.Performs.{act_accepted}
use Rattle.rules.proofs.acts.accepted.Goals as goal

pub returns-clause-reply : goal.returns-clause-reply
returns-clause-reply c = λ h P e has of done.
    let w = c.args.envelope.now in
    let act = act_of c.args.act.now in (
      act_accepted c.args.rules w c.args.page.now.entries c.args.ticket.now act h e c.in_ok-outgoing.outgoing.items (has.part.entries ∙ of.entries) (omega (arith, c.if-entries-ge-MOST_ENTRIES.false, c.entries.ensures)) done c.requires.number
          (c.in_ok-outgoing.ensures has.named P h.events e has.part has.names of.shows (ap (λ k. performed h.events k act) c.requires.number ∙ done)),
      c.in_ok-entry.ensures ∙ ap (λ k. written_as k (clerk_entry c.args.rules w.depositor c.args.ticket.now act w.moment)) c.requires.number,
    )
