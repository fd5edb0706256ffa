-- A database over files in memory never takes a wrong answer.
use Rattle.std.proofs.Common.{true, refl}
use Rattle.sqlite_trees.proofs.Doubt.{no_doubt}
use Rattle.sqlite_pool.specs.Pool.{state}
use Rattle.books.specs.Verified.{IsAlwaysClean, over_ram}

pub ram_is_clean : IsAlwaysClean over_ram
unfolding state
ram_is_clean c = no_doubt true refl
