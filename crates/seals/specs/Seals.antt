-- The seal of a register: a SHA-256 (FIPS 180-4) chained over its entries, one after another.
use Rattle.std.specs.Prelude.{◌≡◌, ◌≢◌, ◌<◌, ◌^◌, ℕ, List, [], ◌∷◌, ◌++◌, length, take, replicate, fold, flat_map, decimal, codes, slice_get, All, bytes_eq, nat_le, if◌then◌else◌, Option, Some, None, Result, Ok, Err}
use Rattle.sha2.specs.Sha256.{sha256}
use Rattle.hex.specs.Hex.{encode_lower, decode_sized}
use Rattle.hex.specs.declared.error.FromHexError.{FromHexError}
use Rattle.definitions.specs.Rules.{rules_number}
use Rattle.definitions.specs.Moments.{stamp}
use Rattle.definitions.specs.Header.{who_text}
use Rattle.definitions.specs.Register.{Entry}
use Rattle.rules.specs.Written.{Written}
use Rattle.store.specs.Replayed.{all_written}
use Rattle.seals.specs.declared.seal.TheConstants.{SEAL_BYTES}

-- Seals.

-- a text behind its length and a colon, so that no two lists of texts give one
abbrev pub framed : List ℕ → List ℕ
framed text = decimal (length text) ++ codes ":" ++ text

-- what is written down of an entry, each as the tables show it, and the number of its rules
abbrev pub fields : Written → List (List ℕ)
fields w = who_text w.who ∷ w.key ∷ decimal w.n ∷ stamp w.moment ∷ w.body
    ∷ decimal (rules_number w.rules) ∷ []

-- an entry as one text
abbrev pub entry_text : Written → List ℕ
entry_text w = flat_map framed (fields w)

-- the seal of a register without entries
abbrev pub blank_seal : List ℕ
blank_seal = replicate SEAL_BYTES 0

-- the seal that follows on one when an entry is added
abbrev pub seal_after : List ℕ → Written → List ℕ
seal_after seal w = sha256 (seal ++ entry_text w)

-- and when several are, one after another
abbrev pub seal_on : List ℕ → List Written → List ℕ
seal_on seal ws = fold seal_after seal ws

-- the seal of a register: that of all its entries
abbrev pub seal_of : List Entry → List ℕ
seal_of L = seal_on blank_seal (all_written L)

-- the seal of a register's first n entries; None where it has fewer
abbrev pub seal_of_first : ℕ → List Entry → Option (List ℕ)
seal_of_first n L = if nat_le n (length L) then Some (seal_of (take n L)) else None

-- What a seal tells.

-- the texts that are digested one after another as entries are added to a seal
abbrev pub digested_on : List ℕ → List Written → List (List ℕ)
digested_on seal [] = []
digested_on seal (w ∷ ws) = (seal ++ entry_text w) ∷ digested_on (seal_after seal w) ws

-- those of which the seal of a register comes
abbrev pub digested : List Entry → List (List ℕ)
digested L = digested_on blank_seal (all_written L)

-- two texts that differ, at one place of two lists, have one SHA-256
pub record Collide (ts us : List (List ℕ)) : Type 0 where
  pub place : ℕ
  pub first : List ℕ
  pub second : List ℕ
  pub of_one : slice_get ts place ≡ Some first
  pub of_other : slice_get us place ≡ Some second
  pub differ : first ≢ second
  pub same : sha256 first ≡ sha256 second

-- each text has fewer than 2 ^ 64 bytes, as every text has that a machine holds
abbrev pub AreHeld : List (List ℕ) → Type 0
AreHeld texts = All (λ text. length text < 2 ^ 64) texts

-- and so has all that is written down of a register
abbrev pub IsHeld : List Entry → Type 0
IsHeld L = All (λ w. AreHeld (fields w)) (all_written L)

-- Seals in digits.

-- a seal in hexadecimal digits, two a byte, in lower case
abbrev pub seal_text : List ℕ → List ℕ
seal_text seal = encode_lower seal

-- a seal that digits gave, if they are as it is written
abbrev pub written_so : List ℕ → Result (List ℕ) FromHexError → Option (List ℕ)
written_so text (Ok seal) = if bytes_eq (seal_text seal) text then Some seal else None
written_so text (Err e) = None

-- the seal that is written so, if one is
abbrev pub seal_in : List ℕ → Option (List ℕ)
seal_in text = written_so text (decode_sized text SEAL_BYTES)
