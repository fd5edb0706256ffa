-- The sheet that a text of CSV makes.
use Rattle.std.specs.Prelude.{ℕ, List, [], Option, Some, None, Result}
use Rattle.csv.specs.Reading.{records, default_config, strip_bom}
use Rattle.csv.specs.Records.{field_at}
use Rattle.definitions.specs.declared.rules.Rules.{Rules}
use Rattle.definitions.specs.Clerk.{sheet_of_records}
use Rattle.definitions.specs.declared.sheet_kind.SheetKind.{SheetKind}
use Rattle.definitions.specs.Means.{Line}
use Rattle.definitions.specs.declared.refusals.Refusal.{Refusal}

-- the records of a text that has no header, a byte order mark at its start taken off
abbrev pub records_of : List ℕ → List (List (List ℕ))
records_of text = records default_config (strip_bom text)

abbrev pub sheet_of_text : Rules → SheetKind → List ℕ → Result (List Line) Refusal
sheet_of_text r kind text = sheet_of_records r kind (records_of text)

abbrev or_empty : Option (List ℕ) → List ℕ
or_empty (Some field) = field
or_empty None = []

-- the field at a place, an empty one where there is none
abbrev pub field_of : List (List ℕ) → ℕ → List ℕ
field_of fields at = or_empty (field_at fields at)
