-- what was read, in parts
use Rattle.std.proofs.Common.{◌≡◌, ℕ, ◌+◌, List, [], ◌++◌, take, Option, length, unwrap_or, min}
use Rattle.std.specs.Io.KnownBytes.{Consumes}
use Rattle.counted_io.specs.Inputs.{IsInput, IsFront}
use Rattle.counted_io.proofs.InputLemmas.{had_input, full}

pub filled_is : (old new : Option (List ℕ)) (start front back : List ℕ) (had size : ℕ) → had ≡ min (length start) size → front ≡ take had start → length back + had ≡ size
    → length (front ++ back) ≡ size → Consumes old new back
    → (input : List ℕ) × IsInput old input × IsFront (front ++ back) (length (front ++ back)) (start ++ input)
filled_is old new start front back had size h f b len bytes =
    let left : List ℕ = unwrap_or new [] in
    (back ++ left, had_input old new back bytes, rw (len, f) (full start back left had size h b))
