-- Why lines make no sheet, but for a repeated pair.
use Rattle.std.specs.Prelude.{List, [], ◌∷◌, length, nat_lt, Some, None, Option}
use Rattle.std.specs.List.{list_any}
use Rattle.definitions.specs.declared.rules.Rules.{Rules}
use Rattle.definitions.specs.Limits.{most_lines}
use Rattle.definitions.specs.Lists.{first_of}
use Rattle.definitions.specs.declared.refusals.Refusal.{Refusal}
use Rattle.definitions.specs.declared.refusals.Refusal.TheVariants.{TooMuch, BadText, TooManyLines}
use Rattle.definitions.specs.Clerk.{RawLine, is_bad_line, is_too_much}
use Rattle.definitions.specs.declared.sheet_kind.SheetKind.{SheetKind}

-- the first that holds, each over all lines
abbrev pub misfit_of : Rules → SheetKind → List RawLine → Option Refusal
misfit_of r kind lines = first_of None
    ((nat_lt (most_lines r) (length lines), Some TooManyLines)
    ∷ (list_any (is_bad_line kind) lines, Some BadText)
    ∷ (list_any (is_too_much r kind) lines, Some TooMuch)
    ∷ [])
