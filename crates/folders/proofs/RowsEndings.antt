-- Worked rows of the names of interchanges.
use Rattle.std.specs.Prelude.{◌≡◌, true, false, codes}
use Rattle.std.proofs.Common.{refl}
use Rattle.folders.specs.Passing.{is_interchange}

small : is_interchange (codes "a.x12") ≡ true
small = refl

large : is_interchange (codes "A.X12") ≡ true
large = refl

-- an answer, the new one before it is whole, and another ending
answer : is_interchange (codes "a.X12.ans") ≡ false
answer = refl

unwhole : is_interchange (codes "a.x12.new") ≡ false
unwhole = refl

other : is_interchange (codes "a.x13") ≡ false
other = refl
