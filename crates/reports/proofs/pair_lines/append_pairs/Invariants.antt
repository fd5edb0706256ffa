use Rattle.std.proofs.Common.{◌≡◌, ◌++◌, take}
use Rattle.reports.specs.PairLines.{lines_text}
use Rattle.reports.proofs.pair_lines.append_pairs.Given as goal

-- the lines so far
abbrev pub invariant-loop-line : goal.invariant-loop-line
invariant-loop-line l = l.out.items ≡ l.fn.out.items ++ lines_text (take l.line-index l.lines)
