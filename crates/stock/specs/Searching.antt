-- Lists that rise by a key, searched by it.
use Rattle.std.specs.Prelude.{◌≡◌, ℕ, Bool, List, None, Result, Ok, Err, find, set}
use Rattle.std.specs.List.{insert}
use Rattle.page_rows.specs.Keyed.{IsRank}
use Rattle.page_rows.specs.Pages.{IsAt}

-- what is under the key stands here; or nothing is, and so many have a key before it
abbrev pub FoundAt : {X K : Type 0} → (K → K → Bool) → (X → K) → (X → Bool) → K → List X
    → Result ℕ ℕ → Type 0
FoundAt less key is k xs (Ok i) = IsAt is xs i
FoundAt less key is k xs (Err i) = (find is xs ≡ None) × IsRank less key xs k i

-- put where that was found: in its place, or after those before it
abbrev pub put_at : {X : Type 0} → Result ℕ ℕ → X → List X → List X
put_at (Ok i) x xs = set xs i x
put_at (Err i) x xs = insert xs i x
