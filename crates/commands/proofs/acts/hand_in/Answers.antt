use Rattle.std.proofs.Common.{rules}
use Rattle.store.specs.Asked.{asked}
use Rattle.store.specs.Runs.{told}
use Rattle.store.proofs.Changes.{at_fault}
use Rattle.commands.specs.Telling.{printed_of}
use Rattle.commands.proofs.ActLaws.{leaves_second, untold}
use Rattle.commands.proofs.acts.hand_in.Goals as goal

pub returns-clause-answered : goal.returns-clause-answered
returns-clause-answered g c = record {
  printed = search rules;
  done = search rules;
  left = λ clean L u. at_fault c.tell_reply.result (leaves_second _ L _ (c.in_ok-reply.ensures.ok clean L u c.requires));
  stopped =
      untold (g.K.Keeper.standing c.args.book.now) (g.K.Keeper.standing c.submit.new.keeper) (asked c.args.command.now) c.args.moment printed_of (g.W.Write.contents c.args.out.now)
      (g.W.Write.contents c.tell_reply.new.out) (told c.in_ok-reply.reply) c.tell_reply.result c.in_ok-reply.ensures.opened (λ clean L u. c.in_ok-reply.ensures.ok clean L u c.requires)
      c.in_ok-reply.ensures.reply c.tell_reply.ensures.front c.tell_reply.ensures.halted;
}
