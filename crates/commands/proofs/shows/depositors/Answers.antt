use Rattle.std.proofs.Common.{ap, rules, IfErr, ◌∙◌}
use Rattle.reports.specs.Open.{depositor_list}
use Rattle.store.specs.Open.{enrolled}
use Rattle.commands.specs.Shown.{shown_depositors}
use Rattle.commands.specs.Stops.{IsDeviceStop}
use Rattle.commands.proofs.ShownLaws.{unshown_text}
use Rattle.commands.proofs.shows.depositors.Goals as goal

pub returns-in_err-print : goal.returns-in_err-print
returns-in_err-print g c =
    let halted : IfErr c.from_residual-in_err-print.result IsDeviceStop = search rules in
    record {
      caused = search rules;
      looked = record {
        shown = search rules;
        same = search rules;
        stopped = unshown_text (g.K.Keeper.standing c.args.book.now) (g.K.Keeper.standing c.depositors.new.self) (λ L. shown_depositors (enrolled L)) (shown_depositors c.in_ok-whos.whos.items) _
            (g.W.Write.contents c.args.out.now) (g.W.Write.contents c.print.new.out) c.from_residual-in_err-print.result
            (λ clean L kept legal. ap shown_depositors (c.in_ok-whos.ensures.whole clean L kept legal)) (c.deref-2.ensures.value ∙ c.in_ok-depositor_list.ensures ∙ ap (λ k. depositor_list k) c.deref.ensures.value) c.in_err-print.ensures.front halted;
      };
    }
