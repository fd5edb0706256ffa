use Rattle.std.proofs.Common.{◌≡◌, ◌++◌, List, All, map, string_bytes}
use Rattle.std.specs.List.{filter_map}
use Rattle.std.specs.Vec.Iter.{into_iter_items}
use Rattle.folders.specs.Claims.{Claimed, IsClaim, told_staying}
use Rattle.folders.proofs.claims.claim_names.Given as goal

-- what became of the files before those that are to come
abbrev pub invariant-loop-name : goal.invariant-loop-name
invariant-loop-name g l = record {
  files : List Claimed;
  named : map (λ (file : Claimed). file.name) files ++ into_iter_items l.name-iterator ≡ l.fn.names.items;
  each : All (λ (file : Claimed). IsClaim (g.R.FileSystem.finds l.fn.rt) (g.R.FileSystem.moves l.fn.rt) (g.R.FileSystem.fails l.fn.rt) l.fn.dir l.fn.other (string_bytes file.name) file.claim) files;
  told : l.stays.items ≡ filter_map (λ (file : Claimed). told_staying file.name file.claim) files;
}
