-- What a reader has, and how much of it was read.
use Rattle.std.specs.Prelude.{◌≡◌, ℕ, ◌≤◌, List, length, take, Option, IfSome}

-- the input is what the reader has, where that is known
abbrev pub IsInput : Option (List ℕ) → List ℕ → Type 0
IsInput known input = IfSome known (λ bytes. input ≡ bytes)

-- that many bytes, the first of these
abbrev pub IsFront : List ℕ → ℕ → List ℕ → Type 0
IsFront body size bytes = (size ≤ length bytes) × (body ≡ take size bytes)
