use Rattle.std.proofs.Common.{◌≡◌, ◌++◌, flat_map, map, take}
use Rattle.definitions.specs.Clerk.{line_of}
use Rattle.definitions.specs.Register.{line_text}
use Rattle.segments.specs.Extends.{Extends}
use Rattle.sheets.proofs.writing.append_lines.Given as goal

-- the lines so far are appended
abbrev pub invariant-loop-line : goal.invariant-loop-line
invariant-loop-line l = record {
  told : l.out.items ≡ l.fn.out.items ++ flat_map line_text (map line_of (take l.line-index l.lines));
  kept : Extends l.fn.out.items l.out.items;
}
