use Rattle.std.proofs.Common.{ap, arith, sym, List, ◌+◌, ◌∙◌}
use Rattle.definitions.specs.Means.{Line}
use Rattle.stock.proofs.SoundLaws.{given_least}
use Rattle.std.proofs.lemmas.List.{take_all}
use Rattle.definitions.specs.Events.{quantity_of}
use Rattle.stock.proofs.sound.left_after.Goals as goal

pub returns-in_err-left : goal.returns-in_err-left
returns-in_err-left c = rw c.from_residual.ensures (omega (
  arith,
  c.loop-line.invariant,
  c.in_err-left.ensures,
  c.from.ensures,
  ap (λ (l : Line). l.quantity) c.line.view_is,
  given_least c.args.item.now c.args.lot.now c.args.lines.now c.loop-line.line-index c.line-item.result c.loop-line-test.true c.line-item.is (sym c.if-is_of.ensures),
))

pub returns : goal.returns
returns c =
    ap (λ (ls : List Line). c.loop-line.left + quantity_of ls c.args.item.now c.args.lot.now) (sym (take_all c.loop-line.line-index c.args.lines.now c.loop-line-test.false))
    ∙ c.loop-line.invariant
