use Rattle.std.proofs.Common.{◌≡◌, ◌++◌, flat_map, take}
use Rattle.definitions.specs.Need.{items_of}
use Rattle.book_tables.proofs.needed.add_advised.Given as goal

abbrev pub invariant-loop-advice : goal.invariant-loop-advice
invariant-loop-advice l = l.items.items ≡ l.fn.items.items ++ flat_map (λ k. items_of k.lines) (take l.advice-index l.advices)
