-- The moments of entries, by what is written down of them.
use Rattle.std.proofs.Common.{◌≡◌, ℕ, zero, suc, List, [], ◌∷◌, ◌++◌, slice_get, length, ◌-◌, Option, refl, ap, ◌∙◌}
use Rattle.std.specs.Prelude.{option_map}
use Rattle.definitions.specs.Moments.{Moment}
use Rattle.definitions.specs.Register.{Entry}
use Rattle.rules.specs.Written.{Written}
use Rattle.store.specs.Extent.{last_moment}
use Rattle.store.specs.Replayed.{all_written, written_on}
use Rattle.store.proofs.Entries.{written_length}

abbrev pub moment_of : Option Written → Option Moment
moment_of o = option_map (λ (w : Written). w.moment) o

pub moment_at : (before L : List Entry) (i : ℕ)
    → moment_of (slice_get (written_on before L) i) ≡ option_map (λ (e : Entry). e.moment) (slice_get L i)
moment_at before [] i = refl
moment_at before (e ∷ L) zero = refl
moment_at before (e ∷ L) (suc i) = moment_at (before ++ e ∷ []) L i

-- that of the last that is written down is that of the last entry
pub moment_last : (L : List Entry) → moment_of (slice_get (all_written L) (length L - 1)) ≡ last_moment L
moment_last L = moment_at [] L (length L - 1)

-- and so it is where these are written down
pub moment_of_last : (L : List Entry) (ws : List Written) → ws ≡ all_written L → moment_of (slice_get ws (length ws - 1)) ≡ last_moment L
moment_of_last L ws is =
    let count : length ws ≡ length L = ap length is ∙ written_length [] L in
    ap (λ n. moment_of (slice_get ws (n - 1))) count ∙ ap (λ (v : List Written). moment_of (slice_get v (length L - 1))) is ∙ moment_last L
