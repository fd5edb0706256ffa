use Rattle.std.proofs.Common.{◌≡◌, refl, ap, Bor, List, ℕ, codes}
use Rattle.clap.specs.Walk.{Row, Text}
use Rattle.command_line.specs.Asked as meant
use Rattle.definitions.specs.declared.sheet_kind.SheetKind.{SheetKind}
use Rattle.definitions.specs.declared.sheet_kind.SheetKind.TheVariants.{Count, Pick, Recount}
use Rattle.command_line.proofs.reading.number_read.Goals as goal
use Rattle.command_line.proofs.reading.number_read.Goals.{in-Recount, in_default+in_ok-given-in_default}

-- what is no recount has the number of its line
numbered : (d : SheetKind) (rows : List Row) (number : Text) → (d ≡ Recount → ⊥) → meant.Has rows (codes "number") number
    → meant.SaysNumberOf d rows number
numbered Count rows number other h = h
numbered Pick rows number other h = h
numbered Recount rows number other h = absurd (other refl)

pub returns-clause-ok : goal.returns-clause-ok
returns-clause-ok c = elim c.match-kind.branch [
  | in-Recount w ↦ rw w.in-Recount.is (ap (λ (b : Bor (List ℕ)). b.now) w.result-is)
  | in_default+in_ok-given-in_default w ↦ rw w.result-is (numbered c.args.kind _ _ w.in_default.not-Recount w.in_ok-given-in_default.ensures.ok)
]
