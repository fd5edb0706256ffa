use Rattle.std.proofs.Common.{ap, refl, rules, IfErr, None, Some, ◌∙◌}
use Rattle.store.specs.Open.{open_of, open_on}
use Rattle.commands.specs.Shown.{shown_open}
use Rattle.commands.specs.Stops.{IsDeviceStop}
use Rattle.commands.proofs.ShownLaws.{given_none, given_some, nothing_said, open_shown, stranger_said, unshown_none, unshown_text}
use Rattle.commands.proofs.shows.open.Goals as goal

pub returns-in_ok-print-in-Some : goal.returns-in_ok-print-in-Some
returns-in_ok-print-in-Some g c = record {
  said = λ clean L kept legal. nothing_said open_on _ c.in-Some.page _ (g.E.Write.contents c.args.err.now) c.in-Some.is (c.in_ok-page.ensures.work clean L kept legal);
  caused = search rules;
  looked = record {
    shown = λ clean L kept legal.
        open_shown _ c.in-Some.page _ _ _ _ _ c.in-Some.is (c.in_ok-page.ensures.work clean L kept legal) c.in_ok-open_report-in-Some.ensures
        c.deref.ensures.value c.in_ok-print-in-Some.ensures.whole;
    same = search rules;
    stopped = search rules;
  };
}

pub returns-in_err-print-in-Some : goal.returns-in_err-print-in-Some
returns-in_err-print-in-Some g c =
    let halted : IfErr c.from_residual-in_err-print-in-Some.result IsDeviceStop = search rules in
    record {
      said = search rules;
      caused = search rules;
      looked = record {
        shown = search rules;
        same = search rules;
        stopped = unshown_text (g.K.Keeper.standing c.args.book.now) (g.K.Keeper.standing c.open.new.self) (λ L. shown_open (open_of L c.args.who)) (shown_open (Some (open_on c.in-Some.page))) _
            (g.W.Write.contents c.args.out.now) (g.W.Write.contents c.print.new.out) c.from_residual-in_err-print-in-Some.result
            (λ clean L kept legal. ap shown_open (given_some open_on _ c.in-Some.page _ c.in-Some.is (c.in_ok-page.ensures.work clean L kept legal)))
            (c.deref.ensures.value ∙ c.in_ok-open_report-in-Some.ensures) c.in_err-print-in-Some.ensures.front halted;
      };
    }

pub returns-in-None : goal.returns-in-None
returns-in-None g c = record {
  said = λ clean L kept legal. stranger_said open_on _ _ (g.E.Write.contents c.args.err.now) (g.E.Write.contents c.tell_refusal.new.err) c.tell_refusal.result c.in-None.is (c.in_ok-page.ensures.work clean L kept legal) c.tell_refusal.ensures.printed;
  caused = search rules;
  looked = record {
    shown = search rules;
    same = search rules;
    stopped = unshown_none (g.K.Keeper.standing c.args.book.now) (g.K.Keeper.standing c.open.new.self) (λ L. shown_open (open_of L c.args.who)) (shown_open None) (g.W.Write.contents c.args.out.now) c.tell_refusal.result
        (λ clean L kept legal. ap shown_open (given_none open_on _ _ c.in-None.is (c.in_ok-page.ensures.work clean L kept legal))) refl c.tell_refusal.ensures.halted;
  };
}
