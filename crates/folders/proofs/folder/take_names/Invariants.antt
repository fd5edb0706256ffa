use Rattle.std.proofs.Common.{◌≡◌, ◌++◌, map, string_bytes}
use Rattle.std.specs.Vec.Iter.{into_iter_items}
use Rattle.store.specs.Standing.{GoesOn}
use Rattle.folders.specs.Folders.{became_of}
use Rattle.folders.specs.Handed.{AreFilesHanded, IsHanded}
use Rattle.folders.proofs.folder.take_names.Given as goal

abbrev pub invariant-loop-name : goal.invariant-loop-name
invariant-loop-name g l =
    let old = g.K.Keeper.standing l.fn.keeper in
    let now = g.K.Keeper.standing l.keeper in
    record {
      goes : GoesOn old now;
      shut : old.shut ≡ now.shut;
      handed : AreFilesHanded (IsHanded (g.R.FileSystem.reads l.fn.rt) (g.R.FileSystem.writes l.fn.rt) (g.R.FileSystem.lacks l.fn.rt) l.fn.dir) old now l.fn.moment
          (map (λ file. string_bytes file.name) l.files.items) (map (λ file. became_of file.outcome) l.files.items);
      each : map (λ file. file.name) l.files.items ++ into_iter_items l.name-iterator ≡ l.fn.names.items;
      told : goal.T-IsAlwaysCallable g l.told;
    }
