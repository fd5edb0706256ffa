use Rattle.std.proofs.Common.{ap, rules, IfErr, ◌∙◌, List, ℕ, None, Option}
use Rattle.definitions.specs.Moments.{Moment}
use Rattle.seals.specs.Noted.{noted, noted_line}
use Rattle.commands.specs.Shown.{Shown, shown_seal}
use Rattle.commands.specs.Stops.{IsDeviceStop}
use Rattle.commands.specs.declared.told.ExitStatus.TheVariants.{Done}
use Rattle.commands.proofs.ShownLaws.{unshown_text}
use Rattle.commands.proofs.sealing.tell_whole.Goals as goal

-- what is printed of what is noted
abbrev line_of : ℕ × List ℕ × Option Moment → Shown
line_of n = (noted_line n, Done)

pub returns-in_err-print-clause-looked : goal.returns-in_err-print-clause-looked
returns-in_err-print-clause-looked g c =
    let halted : IfErr c.from_residual-in_err-print.result IsDeviceStop = search rules in
    record {
      shown = search rules;
      same = search rules;
      stopped = unshown_text (g.K.Keeper.standing c.args.book.now) (g.K.Keeper.standing c.seal.new.self) (shown_seal None) (line_of (noted c.in_ok-seal.seal)) _
          (g.W.Write.contents c.args.out.now) (g.W.Write.contents c.print.new.out) c.from_residual-in_err-print.result
          (λ clean L kept legal. ap line_of (c.in_ok-seal.ensures.seal clean L kept)) (c.deref.ensures.value ∙ c.in_ok-line.ensures) c.in_err-print.ensures.front halted;
    }
