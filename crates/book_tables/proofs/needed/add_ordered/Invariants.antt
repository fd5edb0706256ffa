use Rattle.std.proofs.Common.{◌≡◌, ◌++◌, map, take}
use Rattle.book_tables.proofs.needed.add_ordered.Given as goal

abbrev pub invariant-loop-line : goal.invariant-loop-line
invariant-loop-line l = l.items.items ≡ l.fn.items.items ++ map (λ k. k.item) (take l.line-index l.lines)
