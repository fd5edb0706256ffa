-- What a replaying book keeps: the warehouse, and the entries as they are written down.
use Rattle.std.specs.Prelude.{ℕ, Bool, ◌&&◌, List, [], ◌∷◌, ◌++◌, bytes_eq}
use Rattle.definitions.specs.Header.{Who, who_eq}
use Rattle.definitions.specs.Register.{Entry}
use Rattle.rules.specs.Written.{Written, written}

pub record Replay : Type 0 where
  pub warehouse : Who
  pub entries : List Written

-- the entries of a register as they are written down, when `before` stand before them
abbrev pub written_on : List Entry → List Entry → List Written
written_on before [] = []
written_on before (e ∷ L) = written before e ∷ written_on (before ++ e ∷ []) L

abbrev pub all_written : List Entry → List Written
all_written L = written_on [] L

-- an entry of a depositor under a key
abbrev pub is_under : Who → List ℕ → Written → Bool
is_under who key w = who_eq w.who who && bytes_eq w.key key
