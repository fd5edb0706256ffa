use Rattle.std.proofs.Common.{◌≡◌, ◌++◌, take, filter, flat_map}
use Rattle.reports.specs.Open.{advice_headings, advice_line}
use Rattle.reports.proofs.open_work.append_advices.Given as goal

-- the open advices so far
abbrev pub invariant-loop-advice : goal.invariant-loop-advice
invariant-loop-advice l = l.out.items ≡ (l.fn.out.items ++ advice_headings) ++ flat_map advice_line (filter (λ a. a.is_open) (take l.advice-index l.advices))
