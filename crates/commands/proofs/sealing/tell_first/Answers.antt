use Rattle.std.proofs.Common.{ap, rules, IfErr, ◌∙◌, Some}
use Rattle.seals.specs.Noted.{noted}
use Rattle.commands.specs.Shown.{shown_first, shown_seal}
use Rattle.commands.specs.Stops.{IsDeviceStop}
use Rattle.commands.proofs.ShownLaws.{given_some, unshown_text}
use Rattle.commands.proofs.sealing.tell_first.Goals as goal

pub returns-in_err-print-clause-looked : goal.returns-in_err-print-clause-looked
returns-in_err-print-clause-looked g c =
    let halted : IfErr c.from_residual-in_err-print.result IsDeviceStop = search rules in
    record {
      shown = search rules;
      same = search rules;
      stopped = unshown_text (g.K.Keeper.standing c.args.book.now) (g.K.Keeper.standing c.seal_of_first.new.self) (shown_seal (Some c.args.entries))
          (shown_first (Some (noted c.in-Some.seal))) _
          (g.W.Write.contents c.args.out.now) (g.W.Write.contents c.print.new.out) c.from_residual-in_err-print.result
          (λ clean L kept legal. ap shown_first (given_some noted _ c.in-Some.seal _ c.in-Some.is (c.in_ok-seal.ensures.seal clean L kept)))
          (c.deref.ensures.value ∙ c.in_ok-line.ensures) c.in_err-print.ensures.front halted;
    }
