use Rattle.std.proofs.Common.{◌≡◌, ℕ, ◌++◌, List, map, take, drop}
use Rattle.std.specs.Prelude.{bytes_eq}
use Rattle.std.specs.List.{list_any}
use Rattle.definitions.specs.Bytes.{is_one_of}
use Rattle.definitions.specs.Structure.{control_of, envelope_faults, examined_on, kind_of}
use Rattle.group_faults.proofs.set_faults.Given as goal

-- the faults so far and those of the sets that are left are all, where `earlier` are the control
-- numbers so far
abbrev pub invariant-loop-index : goal.invariant-loop-index
invariant-loop-index l = (earlier : List (List ℕ))
    × (l.faults.items ++ map (λ p. p.1) (examined_on (kind_of l.group.group) earlier (map (λ s. s.set) (drop l.index l.sets))) ≡ envelope_faults l.group.group)
    × ((n : List ℕ) → is_one_of earlier n ≡ list_any (λ s. bytes_eq n (control_of s.set)) (take l.index l.sets))
