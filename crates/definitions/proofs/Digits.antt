-- Digits that are written from the last to the first.
use Rattle.std.proofs.Common.{◌≡◌, ℕ, zero, suc, ◌+◌, ◌-◌, ◌<◌, ◌≤◌, ◌/◌, ◌%◌, List, ◌++◌, length, drop, set, refl, append_assoc, arith}
use Rattle.std.proofs.lemmas.List.{drop-set}
use Rattle.definitions.specs.Bytes.{zero_filled}

-- one digit more
pub digit_filled : (at left : ℕ) (ds : List ℕ) → 0 < at → at ≤ length ds
    → zero_filled (at - 1) (left / 10) ++ drop (at - 1) (set ds (at - 1) (48 + left % 10)) ≡ zero_filled at left ++ drop at ds
digit_filled zero left ds p h = absurd (omega arith)
digit_filled (suc at) left ds p h =
    let less : suc at - 1 ≡ at = omega arith in
    let more : at + 1 ≡ suc at = omega arith in
    let inside : at < length ds = omega arith in
    rw (less, drop-set ds at (48 + left % 10) inside, more, append_assoc) refl
