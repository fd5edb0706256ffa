-- The documents that the list of what went out to a depositor tells.
use Rattle.std.specs.Prelude.{◌≡◌, ◌<◌, ◌^◌, ◌++◌, ◌∷◌, true, not, ℕ, ◌==◌, List, drop, Option, Some, None, codes, bytes_eq, filter_map, if◌then◌else◌, slice_get, option_and_then}
use Rattle.std.specs.Char.{is_ascii_whitespace}
use Rattle.std.specs.List.{list_all, prefix_len, slice_split}
use Rattle.definitions.specs.Bytes.{value}
use Rattle.definitions.specs.Response.{is_plain_number}
use Rattle.definitions.specs.Rows.{OutRow}

-- a line after the white space that it begins with, cut at spaces: number, kind and state
abbrev pub columns_of : List ℕ → List (List ℕ)
columns_of line = slice_split (λ b. b == 32) (drop (prefix_len is_ascii_whitespace line) line)

-- the number of what went out, unless it is an answer
abbrev pub numbered_as : List ℕ → List ℕ → Option ℕ
numbered_as number kind =
    if bytes_eq kind (codes "ANS") then None
    else (if is_plain_number number then Some (value number) else None)

-- the number of the document that a line tells, if it tells one
abbrev pub document_in : List ℕ → Option ℕ
document_in line = option_and_then
    (λ number. option_and_then (numbered_as number) (slice_get (columns_of line) 1))
    (slice_get (columns_of line) 0)

-- those of all lines, in their order
abbrev pub documents_in : List ℕ → List ℕ
documents_in list = filter_map document_in (slice_split (λ b. b == 10) list)

-- what a row of an outbox has: the number of an entry, and words of one line
pub record IsListed (r : OutRow) : Type 0 where
  pub least : 0 < r.n
  pub most : r.n < 10 ^ 6
  pub kind : list_all (λ b. not (b == 32)) r.kind ≡ true
  pub line : list_all (λ b. not (b == 10)) (r.kind ++ 32 ∷ r.state) ≡ true
