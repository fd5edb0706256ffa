use Rattle.std.proofs.Common.{◌∙◌, rules}
use Rattle.commands.proofs.PrintingLaws.{item_front, item_more, on_err, refused_from}
use Rattle.commands.proofs.printing.print_pieces.Goals as goal

pub loop-piece-preserved : goal.loop-piece-preserved
loop-piece-preserved g c = record {
  printed = item_more (λ p. p.now) _ _ _ _ _ _ c.loop-piece-test.true c.loop-piece.invariant.printed c.in_ok-print.ensures.whole;
  quiet = c.in_ok-print.ensures.quiet ∙ c.loop-piece.invariant.quiet;
}

pub returns-in_err-print-clause-counted : goal.returns-in_err-print-clause-counted
returns-in_err-print-clause-counted g c = on_err c.from_residual.result (refused_from _ _ _ c.loop-piece.invariant.quiet c.in_err-print.ensures.counted)

pub returns-in_err-print-clause-front : goal.returns-in_err-print-clause-front
returns-in_err-print-clause-front g c =
    on_err c.from_residual.result (item_front (λ p. p.now) _ _ _ _ _ _ c.loop-piece-test.true c.loop-piece.invariant.printed c.in_err-print.ensures.front)
