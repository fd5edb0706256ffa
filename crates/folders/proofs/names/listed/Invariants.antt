use Rattle.std.proofs.Common.{◌≡◌, ◌++◌}
use Rattle.std.specs.Vec.Iter.{into_iter_items}
use Rattle.folders.specs.Listing.{interchanges_of, passed_of}
use Rattle.folders.proofs.names.listed.Given as goal

-- what is placed, and what is to be placed, are those of all entries
abbrev pub invariant-loop-entry : goal.invariant-loop-entry
invariant-loop-entry g l =
    let rest = into_iter_items l.entry-iterator in
    let all = into_iter_items l.initial.entry-iterator in
    record {
      names : l.listing.names.items ++ interchanges_of rest ≡ interchanges_of all;
      passed : l.listing.passed.items ++ passed_of rest ≡ passed_of all;
    }
