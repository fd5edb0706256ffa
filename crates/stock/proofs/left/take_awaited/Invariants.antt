use Rattle.std.proofs.Common.{take, true}
use Rattle.stock.specs.Left.{IsLess}
use Rattle.page_rows.specs.Pages.{awaited}
use Rattle.stock.proofs.left.take_awaited.Given as goal

-- what the advices so far bring was taken
abbrev pub invariant-loop-advice : goal.invariant-loop-advice
invariant-loop-advice l = IsLess l.rows (awaited (take l.advice-index l.advices)) l.initial.left.items l.left.items true
