use Rattle.std.proofs.Common.{◌≡◌, ◌+◌, take}
use Rattle.page_rows.specs.Pages.{awaited}
use Rattle.stock.proofs.sound.awaits_at_most.Given as goal

-- what is left, and what the advices so far bring
abbrev pub invariant-loop-advice : goal.invariant-loop-advice
invariant-loop-advice l = l.left + awaited (take l.advice-index l.advices) l.fn.item l.fn.lot ≡ l.fn.most
