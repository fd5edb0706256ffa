-- Lines as a text of CSV without a header, and the sheet that such a text makes.
use Rattle.std.specs.Prelude.{◌≡◌, ◌≤◌, ℕ, true, false, List, length, flat_map, Result, Ok}
use Rattle.std.specs.List.{list_all}
use Rattle.csv.specs.Reading.{records, default_config, strip_bom}
use Rattle.definitions.specs.declared.rules.Rules.{Rules}
use Rattle.definitions.specs.declared.sheet_kind.SheetKind.{SheetKind}
use Rattle.definitions.specs.Limits.{most_lines}
use Rattle.definitions.specs.Lists.{in_order, has_repeats}
use Rattle.definitions.specs.Means.{Line}
use Rattle.definitions.specs.Events.{same_pair, pair_before}
use Rattle.definitions.specs.declared.refusals.Refusal.{Refusal}
use Rattle.definitions.specs.Register.{line_text}
use Rattle.definitions.specs.Clerk.{is_sheet_line, sheet_of_records}

-- `item,lot,quantity` for each line, as the canonical text of an act has it
abbrev pub lines_text : List Line → List ℕ
lines_text lines = flat_map line_text lines

-- the sheet that a text makes, its records without a header and a byte order mark taken off:
-- `sheet_of_text` of `sheet_texts`
abbrev pub sheet_read : Rules → SheetKind → List ℕ → Result (List Line) Refusal
sheet_read r kind text = sheet_of_records r kind (records default_config (strip_bom text))

-- lines that a sheet may have, in whichever order: so many at most, of identifiers and quantities
-- within their limits, and no pair twice
pub record MayBeSheet (r : Rules) (kind : SheetKind) (lines : List Line) : Type 0 where
  pub few : length lines ≤ most_lines r
  pub good : list_all (is_sheet_line r kind) lines ≡ true
  pub once : has_repeats same_pair lines ≡ false

-- a text reads as a sheet of just these lines, where a sheet may have them
abbrev pub ReadsBack : Rules → SheetKind → List ℕ → List Line → Type 0
ReadsBack r kind text lines =
    MayBeSheet r kind lines → sheet_read r kind text ≡ Ok (in_order pair_before lines)
