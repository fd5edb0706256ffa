use Rattle.std.proofs.Common.{ap, refl, rules, subst, IfErr, List, ℕ}
use Rattle.std.proofs.KnownBytes.{Appends-trans}
use Rattle.std.specs.Io.KnownBytes.{Appends}
use Rattle.std.specs.Prelude.{◌++◌}
use Rattle.definitions.specs.Accepted.{reply_to}
use Rattle.definitions.specs.Reply.{Reply}
use Rattle.definitions.specs.Rules.{Today}
use Rattle.store.specs.Asked.{asked}
use Rattle.store.specs.Runs.{told}
use Rattle.commands.specs.Stops.{IsDeviceStop}
use Rattle.commands.specs.Telling.{printed_of, said_of}
use Rattle.commands.specs.Trying.{shown_reply, tried_line}
use Rattle.commands.proofs.PrintingLaws.{front_all}
use Rattle.commands.proofs.ShownLaws.{unshown_text}
use Rattle.commands.proofs.tries.try_command.Goals as goal

pub returns-in_err-status-clause-tried : goal.returns-in_err-status-clause-tried
returns-in_err-status-clause-tried g c =
    let halted : IfErr c.from_residual-in_err-status.result IsDeviceStop = search rules in
    record {
      shown = search rules;
      same = search rules;
      stopped = unshown_text (g.K.Keeper.standing c.args.book.now) (g.K.Keeper.standing c.try_out.new.keeper)
          (λ L. let s = g.K.Keeper.standing c.args.book.now in shown_reply (reply_to Today s.warehouse L (asked c.args.command.now) c.args.moment))
          (shown_reply (told c.in_ok-reply.reply)) (printed_of (told c.in_ok-reply.reply))
          (g.W.Write.contents c.args.out.now) (g.W.Write.contents c.tell_reply.new.out) c.from_residual-in_err-status.result
          (λ clean L kept legal. ap shown_reply (c.in_ok-reply.ensures.reply clean L kept legal)) refl c.in_err-status.ensures.front halted;
    }

pub returns-in_err-tell_tried-clause-tried : goal.returns-in_err-tell_tried-clause-tried
returns-in_err-tell_tried-clause-tried g c =
    let halted : IfErr c.from_residual-in_err-tell_tried.result IsDeviceStop = search rules in
    record {
      shown = search rules;
      same = search rules;
      stopped = unshown_text (g.K.Keeper.standing c.args.book.now) (g.K.Keeper.standing c.try_out.new.keeper)
          (λ L. let s = g.K.Keeper.standing c.args.book.now in shown_reply (reply_to Today s.warehouse L (asked c.args.command.now) c.args.moment))
          (shown_reply (told c.in_ok-reply.reply)) (printed_of (told c.in_ok-reply.reply))
          (g.W.Write.contents c.args.out.now) (g.W.Write.contents c.tell_reply.new.out) c.from_residual-in_err-tell_tried.result
          (λ clean L kept legal. ap shown_reply (c.in_ok-reply.ensures.reply clean L kept legal)) refl
          (front_all (g.W.Write.contents c.args.out.now) (g.W.Write.contents c.tell_reply.new.out) (printed_of (told c.in_ok-reply.reply)) c.in_ok-status.ensures.printed.printed) halted;
    }

pub returns-clause-said : goal.returns-clause-said
returns-clause-said g c = λ clean L kept legal.
    subst (λ (r : Reply). Appends (g.E.Write.contents c.args.err.now) (g.E.Write.contents c.tell_tried.new.err) (said_of r ++ tried_line))
    (c.in_ok-reply.ensures.reply clean L kept legal)
    (Appends-trans (g.E.Write.contents c.args.err.now) (g.E.Write.contents c.tell_reply.new.err) (g.E.Write.contents c.tell_tried.new.err) (said_of (told c.in_ok-reply.reply)) tried_line
    c.in_ok-status.ensures.said c.in_ok-tell_tried.ensures.said)
