-- Why tables aren't opened anew.
use Rattle.std.specs.Prelude.{◌≡◌, ◌⊎◌, IsTrue, false}
use Rattle.sqlite.specs.declared.error.Error.{Error}
use Rattle.sqlite.specs.declared.error.Error.TheVariants.{SqliteFailure}
use Rattle.sqlite.specs.declared.error.ErrorCode.TheVariants.{Closed}
use Rattle.sqlite.specs.State.{State}
use Rattle.sqlite.specs.Steps.{FailsToOpen}

-- They were shut before, or a fault of the disk shut them; or what was committed last isn't opened:
-- its trees are no database, the disk told of a fault, or memory was wanting.
abbrev pub FailsToReopen : State → Type 0 → Error → Type 0
FailsToReopen old fault e =
    ((e ≡ SqliteFailure Closed) × ((old.is_open ≡ false) ⊎ fault))
    ⊎ (IsTrue old.is_open × FailsToOpen (let db = old.committed in db.trees) fault e)
