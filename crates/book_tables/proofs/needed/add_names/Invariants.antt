use Rattle.std.proofs.Common.{◌≡◌, ◌++◌, take}
use Rattle.book_tables.proofs.needed.add_names.Given as goal

abbrev pub invariant-loop-name : goal.invariant-loop-name
invariant-loop-name l = l.items.items ≡ l.fn.items.items ++ take l.name-index l.names
