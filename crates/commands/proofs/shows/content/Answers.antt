use Rattle.std.proofs.Common.{ap, refl, rules, None, Some, option_map}
use Rattle.store.specs.Sent.{text_of}
use Rattle.commands.specs.Shown.{shown_text}
use Rattle.commands.proofs.PrintingLaws.{on_ok}
use Rattle.commands.proofs.ShownLaws.{given_none, given_some, nothing_said, stranger_said, unshown, unshown_none}
use Rattle.commands.proofs.shows.content.Goals as goal

pub returns-in-Some : goal.returns-in-Some
returns-in-Some g c = record {
  said = λ clean L kept legal. on_ok c.tell_content.result (nothing_said (option_map (λ v. v.items)) _ c.in-Some.text _ (g.E.Write.contents c.args.err.now) c.in-Some.is (c.in_ok-text.ensures.text clean L kept legal));
  caused = search rules;
  looked = record {
    shown = search rules;
    same = search rules;
    stopped = unshown (g.K.Keeper.standing c.args.book.now) (g.K.Keeper.standing c.text.new.keeper) (λ L. shown_text (text_of (g.K.Keeper.standing c.args.book.now).warehouse L c.args.who c.args.number)) (shown_text (Some (option_map (λ v. v.items) c.in-Some.text)))
        (g.W.Write.contents c.args.out.now) (g.W.Write.contents c.tell_content.new.out) c.tell_content.result
        (λ clean L kept legal. ap shown_text (given_some (option_map (λ v. v.items)) _ c.in-Some.text _ c.in-Some.is (c.in_ok-text.ensures.text clean L kept legal))) c.tell_content.ensures.front c.tell_content.ensures.halted;
  };
}

pub returns-in-None : goal.returns-in-None
returns-in-None g c = record {
  said = λ clean L kept legal. stranger_said (option_map (λ v. v.items)) _ _ (g.E.Write.contents c.args.err.now) (g.E.Write.contents c.tell_refusal.new.err) c.tell_refusal.result c.in-None.is (c.in_ok-text.ensures.text clean L kept legal) c.tell_refusal.ensures.printed;
  caused = search rules;
  looked = record {
    shown = search rules;
    same = search rules;
    stopped = unshown_none (g.K.Keeper.standing c.args.book.now) (g.K.Keeper.standing c.text.new.keeper) (λ L. shown_text (text_of (g.K.Keeper.standing c.args.book.now).warehouse L c.args.who c.args.number)) (shown_text None)
        (g.W.Write.contents c.args.out.now) c.tell_refusal.result
        (λ clean L kept legal. ap shown_text (given_none (option_map (λ v. v.items)) _ _ c.in-None.is (c.in_ok-text.ensures.text clean L kept legal))) refl c.tell_refusal.ensures.halted;
  };
}
