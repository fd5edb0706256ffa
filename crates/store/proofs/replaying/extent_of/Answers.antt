use Rattle.std.proofs.Common.{◌≡◌, ℕ, [], length, Option, ap, ◌∙◌}
use Rattle.definitions.specs.Moments.{Moment}
use Rattle.store.proofs.Entries.{written_length}
use Rattle.store.proofs.replaying.extent_of.Goals as goal

both : {n m : ℕ} {a b : Option Moment} → n ≡ m → a ≡ b → ◌≡◌ {A = ℕ × Option Moment} (n, a) (m, b)
both {n} {m} {a} {b} i j = ap (λ (k : ℕ). (k, a)) i ∙ ap (λ (o : Option Moment). (m, o)) j

pub returns : goal.returns
returns c = λ L is. both (ap length is ∙ written_length [] L) (c.last_of.ensures L is)
