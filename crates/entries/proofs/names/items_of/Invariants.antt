use Rattle.std.proofs.Common.{◌≡◌, map, take}
use Rattle.entries.proofs.names.items_of.Given as goal

-- the items of the lines so far
abbrev pub invariant-loop-line : goal.invariant-loop-line
invariant-loop-line l = l.items.items ≡ map (λ g. g.item) (take l.line-index l.lines)
