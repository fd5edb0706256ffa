use Rattle.std.proofs.Common.{◌≡◌, map, take}
use Rattle.definitions.specs.Clerk.{line_of}
use Rattle.sheets.proofs.making.Sheet.lines.Given as goal

-- the lines so far
abbrev pub invariant-loop-line : goal.invariant-loop-line
invariant-loop-line l = l.lines.items ≡ map line_of (take l.line-index l.line-items)
