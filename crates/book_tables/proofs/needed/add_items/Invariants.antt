use Rattle.std.proofs.Common.{◌≡◌, ◌++◌, take}
use Rattle.definitions.specs.Need.{items_of}
use Rattle.book_tables.proofs.needed.add_items.Given as goal

abbrev pub invariant-loop-line : goal.invariant-loop-line
invariant-loop-line l = l.items.items ≡ l.fn.items.items ++ items_of (take l.line-index l.lines)
