-- The act that was read of a text.
use Rattle.std.specs.Prelude.{ℕ, List}
use Rattle.definitions.specs.Means.{Line}
use Rattle.definitions.specs.Register as meant
use Rattle.definitions.specs.declared.sheet_kind.SheetKind.{SheetKind}
use Rattle.definitions.specs.declared.sheet_kind.SheetKind.TheVariants as kinds
use Rattle.rules.specs.declared.readings.ReadAct.{ReadAct}

-- by its kind, the number of an advice or order, and its sheet
abbrev pub by_kind : SheetKind → List ℕ → List Line → meant.Act
by_kind kinds.Count number sheet = meant.Count number sheet
by_kind kinds.Pick number sheet = meant.Pick number sheet
by_kind kinds.Recount number sheet = meant.Recount sheet

abbrev pub read_act : ReadAct → meant.Act
read_act r = by_kind r.kind r.number.now r.sheet
