use Rattle.std.proofs.Common.{ap, refl, rules, IfErr, None, Some, ◌∙◌}
use Rattle.definitions.specs.Rows.{stock_of}
use Rattle.reports.specs.Exports.{stock_text}
use Rattle.commands.specs.Shown.{shown_stock}
use Rattle.commands.specs.Stops.{IsDeviceStop}
use Rattle.commands.proofs.ShownLaws.{given_none, given_some, nothing_said, stock_shown, stranger_said, unshown_none, unshown_text}
use Rattle.commands.proofs.shows.stock.Goals as goal

pub returns-in_ok-print-in-Some : goal.returns-in_ok-print-in-Some
returns-in_ok-print-in-Some g c = record {
  said = λ clean L kept legal. nothing_said (λ v. v.items) _ c.in-Some.rows _ (g.E.Write.contents c.args.err.now) c.in-Some.is (c.in_ok-rows.ensures.rows clean L kept legal);
  caused = search rules;
  looked = record {
    shown = λ clean L kept legal.
        stock_shown (λ v. v.items) _ c.in-Some.rows c.args.is_csv _ _ _ _ _ _ c.in-Some.is (c.in_ok-rows.ensures.rows clean L kept legal)
        c.deref.ensures.value c.in_ok-stock_text-in-Some.ensures c.deref-in-Some.ensures.value c.in_ok-print-in-Some.ensures.whole;
    same = search rules;
    stopped = search rules;
  };
}

pub returns-in_err-print-in-Some : goal.returns-in_err-print-in-Some
returns-in_err-print-in-Some g c =
    let halted : IfErr c.from_residual-in_err-print-in-Some.result IsDeviceStop = search rules in
    record {
      said = search rules;
      caused = search rules;
      looked = record {
        shown = search rules;
        same = search rules;
        stopped = unshown_text (g.K.Keeper.standing c.args.book.now) (g.K.Keeper.standing c.stock.new.keeper) (λ L. shown_stock c.args.is_csv (stock_of L c.args.who)) (shown_stock c.args.is_csv (Some c.in-Some.rows.items)) _
            (g.W.Write.contents c.args.out.now) (g.W.Write.contents c.print.new.out) c.from_residual-in_err-print-in-Some.result
            (λ clean L kept legal. ap (shown_stock c.args.is_csv) (given_some (λ v. v.items) _ c.in-Some.rows _ c.in-Some.is (c.in_ok-rows.ensures.rows clean L kept legal)))
            (c.deref-in-Some.ensures.value ∙ c.in_ok-stock_text-in-Some.ensures ∙ ap (λ k. stock_text c.args.is_csv k) c.deref.ensures.value) c.in_err-print-in-Some.ensures.front halted;
      };
    }

pub returns-in-None : goal.returns-in-None
returns-in-None g c = record {
  said = λ clean L kept legal. stranger_said (λ v. v.items) _ _ (g.E.Write.contents c.args.err.now) (g.E.Write.contents c.tell_refusal.new.err) c.tell_refusal.result c.in-None.is (c.in_ok-rows.ensures.rows clean L kept legal) c.tell_refusal.ensures.printed;
  caused = search rules;
  looked = record {
    shown = search rules;
    same = search rules;
    stopped = unshown_none (g.K.Keeper.standing c.args.book.now) (g.K.Keeper.standing c.stock.new.keeper) (λ L. shown_stock c.args.is_csv (stock_of L c.args.who)) (shown_stock c.args.is_csv None) (g.W.Write.contents c.args.out.now) c.tell_refusal.result
        (λ clean L kept legal. ap (shown_stock c.args.is_csv) (given_none (λ v. v.items) _ _ c.in-None.is (c.in_ok-rows.ensures.rows clean L kept legal))) refl c.tell_refusal.ensures.halted;
  };
}
