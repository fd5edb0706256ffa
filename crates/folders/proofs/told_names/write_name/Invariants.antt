use Rattle.std.proofs.Common.{◌≡◌, ◌++◌, List, ℕ, length}
use Rattle.std.specs.Io.KnownBytes.{Appends}
use Rattle.folders.specs.Lines as meant
use Rattle.folders.proofs.told_names.write_name.Given as goal

-- what is written, with what is told of the rest, is what is told of the name
abbrev pub invariant-loop-first : goal.invariant-loop-first
invariant-loop-first g l =
    (told : List ℕ) × Appends (g.W.Write.contents l.fn.out) (g.W.Write.contents l.out) told
    × (told ++ meant.told_rest l.left l.rest ≡ meant.told_name l.fn.name)

abbrev pub decreases-loop-first : goal.decreases-loop-first
decreases-loop-first g l = length l.rest
