-- Values of few digits are small.
use Rattle.std.proofs.Common.{ℕ, ◌^◌, ◌<◌, List}
use Rattle.definitions.specs.Bytes.{value}
use Rattle.segments.proofs.DigitsLemmas.{few_digits}
use Rattle.sets_in.specs.Amounts.{IsAmount}

pub amount_bound : (most : ℕ) (text : List ℕ) → IsAmount most text → value text < 10 ^ most
amount_bound most text a = few_digits most text a.short a.digits
