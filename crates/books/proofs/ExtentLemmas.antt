-- The moment of the last entry, by what is written down under its number.
use Rattle.std.proofs.Common.{◌≡◌, ℕ, zero, suc, List, [], ◌∷◌, length, slice_get, Option, Some, None, refl, sym, ap, ◌∙◌, ◌-◌, arith}
use Rattle.definitions.specs.Moments.{Moment}
use Rattle.definitions.specs.Register.{Entry}
use Rattle.rules.specs.Written.{Written}
use Rattle.store.specs.Extent.{last_moment}
use Rattle.store.specs.Replayed.{all_written}
use Rattle.store.proofs.Extents.{moment_last, moment_of}
use Rattle.book_statements.specs.Recorded.{written_at}

-- of a register of so many entries
pub moment_under : (L : List Entry) (n : ℕ) → n ≡ length L → moment_of (written_at (all_written L) n) ≡ last_moment L
moment_under [] zero is = refl
moment_under [] (suc n) is = absurd (cc)
moment_under (e ∷ L) zero is = absurd (cc)
moment_under (e ∷ L) (suc n) is =
    let last : n ≡ length (e ∷ L) - 1 = omega (arith, is) in
    ap (λ (k : ℕ). moment_of (slice_get (all_written (e ∷ L)) k)) last ∙ moment_last (e ∷ L)

pub pair_of : {n m : ℕ} {a b : Option Moment} → n ≡ m → a ≡ b → ◌≡◌ {A = ℕ × Option Moment} (n, a) (m, b)
pair_of {n} {m} {a} {b} i j = ap (λ (k : ℕ). (k, a)) i ∙ ap (λ (o : Option Moment). (m, o)) j
