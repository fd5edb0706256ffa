-- where a connection stays as it was
use Rattle.std.proofs.Common.{ℕ, List, [], ◌++◌, Option, Some, None, sym, append-nil, refl}
use Rattle.std.specs.Io.KnownBytes.{Consumes, Keeps}
use Rattle.std.proofs.KnownBytes.{Keeps-refl}
use Rattle.peers.specs.Gains.{Gains}

consumes_nothing : (known : Option (List ℕ)) → Consumes known known []
consumes_nothing None = tt
consumes_nothing (Some xs) = refl

-- nothing came
pub gains_nothing : (known : Option (List ℕ)) (bytes : List ℕ) → Gains known known bytes bytes
gains_nothing known bytes = record {
  gained = [];
  given = consumes_nothing known;
  appended = sym (append-nil bytes);
}

-- nothing left
pub keeps_same : (known : Option (List ℕ)) → Keeps known known
keeps_same = Keeps-refl
