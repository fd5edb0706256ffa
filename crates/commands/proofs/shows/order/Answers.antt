use Rattle.std.proofs.Common.{IfErr, Ok, Err, None, refl, rules, subst}
use Rattle.std.proofs.lemmas.Result.{IfOk-weaker, IfOk-from_err}
use Rattle.folders.proofs.Taking.{handed_on}
use Rattle.definitions.specs.Decision.{standing}
use Rattle.definitions.specs.Register.{own}
use Rattle.definitions.specs.Need.{need_of_number}
use Rattle.commands.specs.Refused.{refused_order, refused_sheet}
use Rattle.commands.specs.Shown.{Shown, IsShown, shown_order, shown_sheet}
use Rattle.commands.specs.Stops.{IsDeviceStop}
use Rattle.commands.proofs.TellingLaws.{appends_nothing}
use Rattle.commands.proofs.ShownLaws.{none_said, no_sheet_shown, sheet_read, sheet_shown, sheet_why, picking, stranger_read, stranger_why, unshown_none, unshown_text, why_said}
use Rattle.commands.proofs.shows.order.Goals as goal

pub returns-in_default : goal.returns-in_default
returns-in_default g c = record {
  said = λ clean L kept legal. why_said (refused_order c.args.is_csv c.args.number.now None) _ (g.E.Write.contents c.args.err.now) (g.E.Write.contents c.tell_refusal.new.err) c.tell_refusal.result (stranger_why need_of_number (picking c.args.is_csv) c.args.number.now _ _ _ c.in_default.is (c.in_ok-page.ensures.page clean L kept legal)) c.tell_refusal.ensures.printed;
  caused = search rules;
  looked = record {
    shown = λ clean L kept legal.
        IfOk-weaker c.tell_refusal.result _ _ (λ status is. subst (λ (k : Shown). IsShown k (g.W.Write.contents c.args.out.now) (g.W.Write.contents c.args.out.now) status)
        (stranger_read need_of_number (picking c.args.is_csv) c.args.number.now _ _ _ c.in_default.is (c.in_ok-page.ensures.page clean L kept legal))
        (record { printed = appends_nothing (g.W.Write.contents c.args.out.now); says = is })) c.tell_refusal.ensures.says;
    same = c.load.ensures.query.reading.same;
    stopped = unshown_none (g.K.Keeper.standing c.args.book.now) (g.K.Keeper.standing c.load.new.self) (λ L. shown_order c.args.is_csv c.args.number.now (standing (own L c.args.who)))
        (shown_order c.args.is_csv c.args.number.now None) (g.W.Write.contents c.args.out.now) c.tell_refusal.result
        (λ clean L kept legal. stranger_read need_of_number (picking c.args.is_csv) c.args.number.now _ _ _ c.in_default.is (c.in_ok-page.ensures.page clean L kept legal)) refl
        c.tell_refusal.ensures.halted;
  };
}

pub returns-in-Ok : goal.returns-in-Ok
returns-in-Ok g c =
    let listed = rw c.in-Ok.is at c.picking_text.ensures.ok in
    record {
      said = λ clean L kept legal. none_said _ (g.E.Write.contents c.args.err.now) (sheet_why need_of_number (picking c.args.is_csv) c.args.number.now _ _ _ _ _ c.in-Some.page (Ok c.in-Ok.sheet.items)
          c.as_bytes.ensures.value c.as_bytes-2.ensures.value c.in_ok-need.ensures c.in-Some.is (c.in_ok-page.ensures.page clean L kept legal) listed);
      caused = search rules;
      looked = record {
        shown = λ clean L kept legal.
            sheet_shown need_of_number (picking c.args.is_csv) c.args.number.now _ _ _ _ _ c.in-Some.page c.in-Ok.sheet.items _ _ _ c.as_bytes.ensures.value c.as_bytes-2.ensures.value
            c.in_ok-need.ensures c.in-Some.is (c.in_ok-page.ensures.page clean L kept legal) listed c.deref.ensures.value
            c.in_ok-print-in-Ok.ensures.whole;
        same = c.load.ensures.query.reading.same;
        stopped = tt;
      };
    }

pub returns-in_err-print-in-Ok : goal.returns-in_err-print-in-Ok
returns-in_err-print-in-Ok g c =
    let halted : IfErr c.from_residual-in_err-print-in-Ok.result IsDeviceStop =
    handed_on c.from_residual-in_err-print-in-Ok.result _ _ c.from_residual-in_err-print-in-Ok.ensures (λ stop is. is.device) in
    let listed = rw c.in-Ok.is at c.picking_text.ensures.ok in
    record {
      said = search rules;
      caused = search rules;
      looked = record {
        shown = λ clean L kept legal. IfOk-from_err c.from_residual-in_err-print-in-Ok.result _ c.from_residual-in_err-print-in-Ok.ensures.0;
        same = c.load.ensures.query.reading.same;
        stopped = unshown_text (g.K.Keeper.standing c.args.book.now) (g.K.Keeper.standing c.load.new.self) (λ L. shown_order c.args.is_csv c.args.number.now (standing (own L c.args.who)))
            (shown_sheet (Ok c.in-Ok.sheet.items)) _ (g.W.Write.contents c.args.out.now) (g.W.Write.contents c.print.new.out) c.from_residual-in_err-print-in-Ok.result
            (λ clean L kept legal. sheet_read need_of_number (picking c.args.is_csv) c.args.number.now _ _ _ _ _ c.in-Some.page (Ok c.in-Ok.sheet.items)
            c.as_bytes.ensures.value c.as_bytes-2.ensures.value c.in_ok-need.ensures c.in-Some.is (c.in_ok-page.ensures.page clean L kept legal) listed) c.deref.ensures.value c.in_err-print-in-Ok.ensures.front halted;
      };
    }

pub returns-in-Err-Refused : goal.returns-in-Err-Refused
returns-in-Err-Refused g c =
    let refused = rw c.in-Err-Refused.field-0-is at c.in-Err-Refused.ensures.err in
    record {
      said = λ clean L kept legal. why_said (refused_sheet (Err c.in-Err-Refused.refusal)) _ (g.E.Write.contents c.args.err.now) (g.E.Write.contents c.tell_refusal-in-Err-Refused.new.err) c.tell_refusal-in-Err-Refused.result (sheet_why need_of_number (picking c.args.is_csv) c.args.number.now _ _ _ _ _ c.in-Some.page (Err c.in-Err-Refused.refusal)
          c.as_bytes.ensures.value c.as_bytes-2.ensures.value c.in_ok-need.ensures c.in-Some.is (c.in_ok-page.ensures.page clean L kept legal) refused) c.tell_refusal-in-Err-Refused.ensures.printed;
      caused = search rules;
      looked = record {
        shown = λ clean L kept legal.
            IfOk-weaker c.tell_refusal-in-Err-Refused.result _ _ (λ status is. no_sheet_shown need_of_number (picking c.args.is_csv) c.args.number.now _ _ _ _ _ c.in-Some.page c.in-Err-Refused.refusal _ _
            c.as_bytes.ensures.value c.as_bytes-2.ensures.value c.in_ok-need.ensures c.in-Some.is (c.in_ok-page.ensures.page clean L kept legal)
            refused is) c.tell_refusal-in-Err-Refused.ensures.says;
        same = c.load.ensures.query.reading.same;
        stopped = unshown_none (g.K.Keeper.standing c.args.book.now) (g.K.Keeper.standing c.load.new.self) (λ L. shown_order c.args.is_csv c.args.number.now (standing (own L c.args.who)))
            (shown_sheet (Err c.in-Err-Refused.refusal)) (g.W.Write.contents c.args.out.now) c.tell_refusal-in-Err-Refused.result
            (λ clean L kept legal. sheet_read need_of_number (picking c.args.is_csv) c.args.number.now _ _ _ _ _ c.in-Some.page (Err c.in-Err-Refused.refusal)
            c.as_bytes.ensures.value c.as_bytes-2.ensures.value c.in_ok-need.ensures c.in-Some.is (c.in_ok-page.ensures.page clean L kept legal) refused) refl c.tell_refusal-in-Err-Refused.ensures.halted;
      };
    }
