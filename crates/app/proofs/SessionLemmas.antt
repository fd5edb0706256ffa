-- A server that is begun anew.
use Rattle.std.proofs.Common.{◌≡◌, refl, true, ℕ, List, [], ◌∷◌, ◌++◌, Option, Err, inl, inr}
use Rattle.std.proofs.lemmas.Fn.{FoldsTo-push}
use Rattle.sqlite_disk.specs.declared.Disk.{Ghosts as Disks}
use Rattle.sqlite.specs.Recovery.{Image}
use Rattle.command_line.specs.declared.words.Task.{Task}
use Rattle.commands.specs.Acting.{Ending}
use Rattle.commands.specs.declared.told.CommandError.{CommandError}
use Rattle.app.specs.Sessions.{HasJobEnded, IsDoneOver, IsNextSession, may_mend, serves_on}
use Rattle.app.specs.declared.from_file.FilesLeft.{FilesLeft}

module _ {D : Type 0} {disk : Disks D} {W : Type 0} (contents : W → Option (List ℕ)) where
  pub served_again : (image held : Image) (t : Task) (a b c : W) (stop : CommandError) (ending : Ending) (files next : FilesLeft D disk) → serves_on t ≡ true → may_mend stop ≡ true
      → HasJobEnded contents image t a b (Err stop) files → IsDoneOver contents held t b c ending next → HasJobEnded contents image t a c ending next
  served_again image held t a b c stop ending files next serves mends (inl once) last = inr (
    serves,
    record {
      first = stop;
      mid = b;
      session = record { files = files; done = once; mends = mends };
      stops = [];
      begun = b;
      others = refl;
      held = held;
      last = last;
    },
  )
  served_again image held t a b c stop ending files next serves mends (inr h) last =
      let s = h.1 in
      inr (
        serves,
        record {
          first = s.first;
          mid = s.mid;
          session = s.session;
          stops = s.stops ++ stop ∷ [];
          begun = b;
          others = FoldsTo-push (IsNextSession disk contents t) s.mid s.stops s.begun stop b s.others (s.held, record { files = files; done = s.last; mends = mends });
          held = held;
          last = last;
        },
      )
