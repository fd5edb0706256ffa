use Rattle.std.proofs.Common.{◌≡◌, ◌++◌, drop, map}
use Rattle.std.specs.Prelude.{is_none}
use Rattle.std.specs.List.{filter_map, list_any}
use Rattle.csv.specs.Records.{fields_of}
use Rattle.definitions.specs.Clerk.{raw_line}
use Rattle.sheet_texts.proofs.texts.lines_of.Given as goal

-- the lines so far, and those of the records that are left, are those of all
abbrev pub invariant-loop-row : goal.invariant-loop-row
invariant-loop-row l =
    (filter_map raw_line (map fields_of l.rows) ≡ l.lines.items ++ filter_map raw_line (map fields_of (drop l.row-index l.rows)))
    × (list_any (λ fields. is_none (raw_line fields)) (map fields_of l.rows) ≡ list_any (λ fields. is_none (raw_line fields)) (map fields_of (drop l.row-index l.rows)))
