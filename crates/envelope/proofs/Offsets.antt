-- ISA's elements lie before its terminator.
use Rattle.std.specs.Prelude.{◌≤◌, ◌<◌, ◌+◌, ℕ, slice_index_or}
use Rattle.std.proofs.Common.{arith}
use Rattle.std.proofs.lemmas.List.Elements.{All-get_or, All-from_recursion}
use Rattle.definitions.specs.Header.{places}

pub is_within : (n : ℕ) → n < 17 → (slice_index_or places n (0, 0)).0 + (slice_index_or places n (0, 0)).1 ≤ 105
is_within n lt = All-get_or (λ (p : ℕ × ℕ). p.0 + p.1 ≤ 105) places n (0, 0) lt (All-from_recursion (λ (p : ℕ × ℕ). p.0 + p.1 ≤ 105) places
    (omega arith, (omega arith, (omega arith, (omega arith, (omega arith, (omega arith, (omega arith, (omega arith, (omega arith, (omega arith, (omega arith, (omega arith, (omega arith, (omega arith, (omega arith, (omega arith, (omega arith, tt {0}))))))))))))))))))
