-- What a line of the list tells, by its columns.
use Rattle.std.proofs.Common.{◌≡◌, ℕ, List, drop, Option, refl}
use Rattle.std.specs.Prelude.{◌==◌, option_and_then, slice_get}
use Rattle.std.specs.List.{prefix_len, slice_split}
use Rattle.std.specs.Char.{is_ascii_whitespace}
use Rattle.http_client.specs.Listed.{document_in, numbered_as}

pub told : (line text : List ℕ) (number kind : Option (List ℕ)) → text ≡ drop (prefix_len is_ascii_whitespace line) line
    → number ≡ slice_get (slice_split (λ b. b == 32) text) 0 → kind ≡ slice_get (slice_split (λ b. b == 32) text) 1
    → option_and_then (λ n. option_and_then (numbered_as n) kind) number ≡ document_in line
told line text number kind t n k = rw (k, n, t) refl
