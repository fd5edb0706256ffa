use Rattle.std.proofs.Common.{◌≤◌, All, subst, sym}
use Rattle.definitions.specs.Bytes.{value}
use Rattle.definitions.specs.Clerk.{RawLine}
use Rattle.definitions.specs.Limits.{most_recounted}
use Rattle.sheets.proofs.SheetLaws.{fits}
use Rattle.sheets.proofs.making.Sheet.write_lines.Goals as goal

pub append_lines-requires : goal.append_lines-requires
append_lines-requires c =
    subst (All (λ (l : RawLine). value l.quantity ≤ most_recounted)) (sym c.deref.ensures.value) (fits c.self.inside.lines.items c.self.invariant)
