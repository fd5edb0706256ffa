-- The conditions of a text that can be read, in two parts.
use Rattle.std.specs.Prelude.{ℕ, Bool, not, ◌||◌, ◌&&◌, List, length, take, drop, nat_lt, ◌==◌, slice_index, slice_get, unwrap_or, true, codes, bytes_eq}
use Rattle.std.specs.List.{list_all, range_with_len}
use Rattle.definitions.specs.declared.widths.TheConstants.{ISA_BYTES}
use Rattle.definitions.specs.Bytes.{Delims, is_data, is_digit}
use Rattle.definitions.specs.Limits.{most_bytes}
use Rattle.definitions.specs.Header.{places, isa, is_legible, separator_offsets}

abbrev pub is_begun : List ℕ → Bool
is_begun text = not (nat_lt most_bytes (length text) || nat_lt (length text) ISA_BYTES
    || not (bytes_eq (take 3 text) (codes "ISA")))

-- the separators, the data of the header, its number and the bytes after it
abbrev pub is_filled : Delims → List ℕ → Bool
is_filled d text = list_all (λ k. slice_index text k == d.separator) separator_offsets
    && list_all (λ n. list_all (is_data d) (isa text n)) (range_with_len 1 15)
    && list_all is_digit (isa text 13)
    && is_legible d true (drop ISA_BYTES text)

-- the bytes of ISA's element at a place
abbrev pub width : ℕ → ℕ
width n = let p : ℕ × ℕ = unwrap_or (slice_get places n) (0, 0) in p.1
