use Rattle.std.proofs.Common.{sym, ◌∙◌}
use Rattle.envelope.proofs.Legibility.{no_delims, not_begun, not_filled, readable}
use Rattle.envelope.proofs.reading.read.Goals as goal

pub returns-in_err-delims : goal.returns-in_err-delims
returns-in_err-delims c = rw c.from_residual.ensures (no_delims c.args.text.now (c.is_begun.ensures.long c.if-not-is_begun.false) (sym c.of.ensures ∙ c.in_err-delims.was))

pub returns-then-is_filled : goal.returns-then-is_filled
returns-then-is_filled c =
    let p = readable c.args.text.now c.in_ok-delims.delims (sym c.is_begun.ensures.test ∙ c.if-not-is_begun.false) (sym c.of.ensures ∙ c.in_ok-delims.was) (sym c.is_filled.ensures ∙ c.if-is_filled.true) in
    (c.is_begun.ensures.long c.if-not-is_begun.false, p.0, p.1)

pub returns-else-is_filled : goal.returns-else-is_filled
returns-else-is_filled c = not_filled c.args.text.now c.in_ok-delims.delims (sym c.of.ensures ∙ c.in_ok-delims.was) (sym c.is_filled.ensures ∙ c.if-is_filled.false)

pub returns-then-not-is_begun : goal.returns-then-not-is_begun
returns-then-not-is_begun c = not_begun c.args.text.now (sym c.is_begun.ensures.test ∙ c.if-not-is_begun.true)
