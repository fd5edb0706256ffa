use Rattle.std.proofs.Common.{◌≡◌, ◌++◌, flat_map, take}
use Rattle.segments.specs.Extends.{Extends}
use Rattle.sheets.proofs.writing.append_texts.Given as goal

-- the texts so far are appended
abbrev pub invariant-loop-text : goal.invariant-loop-text
invariant-loop-text l = record {
  told : l.out.items ≡ l.fn.out.items ++ flat_map (λ t. t.now) (take l.text-index l.texts);
  kept : Extends l.fn.out.items l.out.items;
}
