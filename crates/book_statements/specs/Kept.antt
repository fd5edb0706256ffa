-- What tables are, as a value: the connection, the counts of refused calls and of those that were
-- made, and how many more may be.
use Rattle.std.specs.Prelude.{ℕ, Option, refl}
use Rattle.std.specs.Coded.{Coded, code_by, coded×, coded_ℕ, coded_option}
use Rattle.sqlite.specs.Held.{Held, held_code}

pub record Kept (S : Type 0) : Type 0 where
  pub conn : Held S
  pub refused : ℕ
  pub made : ℕ
  pub limit : Option ℕ

abbrev pub kept_code : {S : Type 0} → Coded S → Coded (Kept S)
kept_code {S} store =
    code_by (Held S × (ℕ × (ℕ × Option ℕ)))
    (coded× (held_code store) (coded× coded_ℕ (coded× coded_ℕ (coded_option coded_ℕ))))
    (λ t. (t.conn, (t.refused, (t.made, t.limit))))
    (λ p. record { conn = p.0; refused = p.1.0; made = p.1.1.0; limit = p.1.1.1 })
    (λ _. refl)
