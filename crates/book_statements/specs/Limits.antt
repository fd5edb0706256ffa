-- Calls of a store as they are counted: how many were made, and how many more may be, any number
-- where that is None.
use Rattle.std.specs.Prelude.{◌≡◌, ◌≢◌, ◌≤◌, ◌<◌, ◌+◌, ◌-◌, ◌^◌, ℕ, Option, None, Some, Result, IfErr, OnErr, OnOk, IsErrOf}
use Rattle.store.specs.Fault.{Fault}
use Rattle.store.specs.Fault.TheVariants.{NotThisBook}
use Rattle.book_statements.specs.Faults.{IsCallFault, IsOpeningFault}
use Rattle.book_statements.specs.Kept.{Kept}
use Rattle.book_statements.specs.Rises.{Rises}

-- what so many calls leave of a limit
abbrev pub fewer : ℕ → Option ℕ → Option ℕ
fewer calls None = None
fewer calls (Some n) = Some (n - calls)

-- So many calls were made: the count of them grew by these, unless it is at its greatest number,
-- and these are off the limit, which was enough for them.
pub record Spent (calls made more : ℕ) (old new : Option ℕ) : Type 0 where
  pub counted : more < 2 ^ 64 - 1 → more ≡ made + calls
  pub most : more ≤ made + calls
  pub left : new ≡ fewer calls old
  pub enough : (n : ℕ) → old ≡ Some n → calls ≤ n

-- some number of calls was made
pub record Spends (made more : ℕ) (old new : Option ℕ) : Type 0 where
  pub calls : ℕ
  pub spent : Spent calls made more old new

-- the same of tables: m calls leave n - m of a limit of n
abbrev pub Counts : {S : Type 0} → Kept S → Kept S → Type 0
Counts old new = Spends old.made new.made old.limit new.limit

-- What calls tell of their number: none was refused where they answer Ok, as many fewer are left as
-- were made, and an Ok is none at a limit of 0.
pub record AreCounted {S T : Type 0} (old new : Kept S) (result : Result T Fault) : Type 0 where
  pub uncounted : OnOk result (new.refused ≡ old.refused)
  pub limit : Counts old new
  pub allowed : OnOk result (old.limit ≢ Some 0)

-- What calls tell, one or more: where one is refused that is 40 or 41, which counts; and an Ok is
-- none at a limit of 0.
pub record Called {S T : Type 0} (old new : Kept S) (result : Result T Fault) : Type 0 where
  pub named : IfErr result IsCallFault
  pub counted : OnErr result (Rises old.refused new.refused)
  pub uncounted : OnOk result (new.refused ≡ old.refused)
  pub limit : Counts old new
  pub allowed : OnOk result (old.limit ≢ Some 0)

-- The same of calls after which it may be 43 too, where none was refused.
pub record CalledOrNone {S T : Type 0} (old new : Kept S) (result : Result T Fault) : Type 0 where
  pub named : IfErr result IsOpeningFault
  pub counted : IfErr result (λ f. f ≢ NotThisBook → Rises old.refused new.refused)
  pub uncounted : OnOk result (new.refused ≡ old.refused)
  pub uncounted_none : IsErrOf result NotThisBook → new.refused ≡ old.refused
  pub limit : Counts old new
  pub allowed : OnOk result (old.limit ≢ Some 0)
