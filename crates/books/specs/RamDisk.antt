-- What a file in memory shows.
use Rattle.std.specs.Prelude.{◌≡◌, true, false}
use Rattle.sqlite_disk.specs.declared.Disk.{Ghosts}
use Rattle.books.specs.declared.ram_disk.RamDisk.{RamDisk}

-- A crash takes nothing, and no answer is wrong.
abbrev pub ram : Ghosts RamDisk
ram = record {
  seen = λ m. m.bytes.items;
  may_leave = λ m bytes. bytes ≡ m.bytes.items;
  is_usable = λ _. true;
  faults = λ m. m.faults;
  tally_of = λ m. record { caught = m.caught; refused = 0 };
  is_clean = λ _. true;
  key_of = λ _. 0;
  is_fair = λ _ _. true;
  is_frozen = λ _. false;
  is_rotten = λ _ _ _. false;
  is_mixing = λ _. false;
}
