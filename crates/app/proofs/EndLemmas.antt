-- How runs over the files of a book end.
use Rattle.std.proofs.Common.{◌≡◌, ◌≢◌, ◌∙◌, ℕ, List, Option, Ok, Err, refl, sym, subst}
use Rattle.sqlite_disk.specs.declared.Disk.{Ghosts as Disks}
use Rattle.sqlite.specs.declared.FileStore.{FileStore}
use Rattle.sqlite.specs.Files.{over_files}
use Rattle.sqlite.specs.Held.{Held, state}
use Rattle.sqlite.specs.Recovery.{Image}
use Rattle.sqlite.specs.Start.{FindsIn}
use Rattle.sqlite.specs.State.{State, HasCleanDisk}
use Rattle.sqlite.specs.Store.{Ghosts}
use Rattle.definitions.specs.Header.{Who}
use Rattle.definitions.specs.Register.{Entry}
use Rattle.book_statements.specs.Carrying.{StandsInAs}
use Rattle.seals.specs.declared.beginning.Beginning.{Beginning}
use Rattle.commands.specs.Acting.{Ending}
use Rattle.commands.specs.declared.told.CommandError.{CommandError}
use Rattle.commands.specs.declared.told.ExitStatus.{ExitStatus}
use Rattle.app.specs.Ended.{IsBusy, IsJobEnded, IsToldAs}
use Rattle.app.specs.Checking.{IsFoundWhole}
use Rattle.app.specs.FileEnds.{IsChecked, IsClosing, IsJobEnd, IsRunEnd, IsWholeFrom, IsWorkStop, TellsBooks}
use Rattle.app.specs.FromFile.{IsDoneFrom}
use Rattle.app.specs.Unchecked.{OfBooksIn, OfCommitted}
use Rattle.app.specs.declared.from_file.FilesLeft.{FilesLeft}
use Rattle.app.specs.declared.from_file.FilesLeft.TheVariants as left
use Rattle.app.specs.declared.over_file.Job.{Job}
use Rattle.app.specs.declared.over_file.Job.TheVariants as job

module _ {D W : Type 0} {disk : Disks D} (contents : W → Option (List ℕ)) (image : Image) (j : Job) (before later : W) where
  -- a job that was done, and whose files were then closed, or not
  pub closing_ends : (status : ExitStatus) (database : Held (FileStore D disk)) → IsDoneFrom over_files contents image database j before later status
      → (ending : Ending) (files : FilesLeft D disk) → IsClosing database status ending files → IsJobEnd contents image j before later ending files
  closing_ends status database done (Ok s) files c = record { status = status; database = database; done = done; closing = c }
  closing_ends status database done (Err stop) left.Untouched c = absurd c
  closing_ends status database done (Err stop) (left.Unopened error leftover) c = absurd c
  closing_ends status database done (Err stop) (left.Open held) c = absurd c
  closing_ends status database done (Err stop) left.Unchecked c = absurd c
  closing_ends status database done (Err stop) (left.Unclosed store) c = record { status = status; database = database; done = done; closing = c }
  closing_ends status database done (Err stop) (left.Closed files) c = absurd (let e = c.0 in cc)

  -- a job that wasn't done
  pub stop_ends : (stop : CommandError) (files : FilesLeft D disk) → IsWorkStop contents image j before later stop files → IsJobEnd contents image j before later (Err stop) files
  stop_ends stop left.Untouched h = h
  stop_ends stop (left.Unopened error leftover) h = h
  stop_ends stop (left.Open held) h = h
  stop_ends stop left.Unchecked h = h
  stop_ends stop (left.Unclosed store) h = absurd h
  stop_ends stop (left.Closed files) h = h

  unopened_prints_nothing : (ending : Ending) (error : _) (leftover : _) → IsJobEnd {disk = disk} contents image j before later ending (left.Unopened error leftover) → later ≡ before
  unopened_prints_nothing (Ok s) error leftover h = absurd h.closing
  unopened_prints_nothing (Err stop) error leftover h = let u = h.1 in u.printed

-- no job ended that touched no files
module _ {D W : Type 0} (disk : Disks D) (contents : W → Option (List ℕ)) (image : Image) (before later : W) where
  never_untouched : (j : Job) (ending : Ending) → IsJobEnd {disk = disk} contents image j before later ending left.Untouched → ⊥
  never_untouched j (Ok s) h = h.closing
  never_untouched j (Err stop) h = h

  untouched_never : (j : Job) (ending : Ending) → IsRunEnd {disk = disk} contents image j before later ending left.Untouched → ⊥
  untouched_never (job.Make W) ending h = never_untouched (job.Make W) ending h
  untouched_never (job.Change ready moment) ending h = never_untouched (job.Change ready moment) ending h
  untouched_never (job.Try ready moment) ending h = never_untouched (job.Try ready moment) ending h
  untouched_never (job.Look asked) ending h = never_untouched (job.Look asked) ending h
  untouched_never (job.Play text) ending h = never_untouched (job.Play text) ending h
  untouched_never (job.Listen service first has_clock file) ending h = never_untouched (job.Listen service first has_clock file) ending h
  untouched_never (job.Seal first) ending h = never_untouched (job.Seal first) ending h
  untouched_never (job.HandOn who dir) ending h = never_untouched (job.HandOn who dir) ending h
  untouched_never (job.Check noted) ending h = h

module _ {D W : Type 0} {disk : Disks D} (contents : W → Option (List ℕ)) (image : Image) where
  -- a job that isn't a check
  pub job_ends : (j : Job) (before later : W) (ending : Ending) (files : FilesLeft D disk) → ((noted : _) → j ≢ job.Check noted) → IsJobEnd contents image j before later ending files
      → IsRunEnd contents image j before later ending files
  job_ends (job.Make W) before later ending files other h = h
  job_ends (job.Change ready moment) before later ending files other h = h
  job_ends (job.Try ready moment) before later ending files other h = h
  job_ends (job.Look asked) before later ending files other h = h
  job_ends (job.Play text) before later ending files other h = h
  job_ends (job.Listen service first has_clock file) before later ending files other h = h
  job_ends (job.Seal first) before later ending files other h = h
  job_ends (job.HandOn who dir) before later ending files other h = h
  job_ends (job.Check noted) before later ending files other h = absurd (other noted refl)

  printed_nothing : (j : Job) (before later : W) (ending : Ending) (error : _) (leftover : _) → IsRunEnd {disk = disk} contents image j before later ending (left.Unopened error leftover) → later ≡ before
  printed_nothing (job.Make W) before later ending e l h = unopened_prints_nothing contents image (job.Make W) before later ending e l h
  printed_nothing (job.Change ready moment) before later ending e l h = unopened_prints_nothing contents image (job.Change ready moment) before later ending e l h
  printed_nothing (job.Try ready moment) before later ending e l h = unopened_prints_nothing contents image (job.Try ready moment) before later ending e l h
  printed_nothing (job.Look asked) before later ending e l h = unopened_prints_nothing contents image (job.Look asked) before later ending e l h
  printed_nothing (job.Play text) before later ending e l h = unopened_prints_nothing contents image (job.Play text) before later ending e l h
  printed_nothing (job.Listen service first has_clock file) before later ending e l h = unopened_prints_nothing contents image (job.Listen service first has_clock file) before later ending e l h
  printed_nothing (job.Seal first) before later ending e l h = unopened_prints_nothing contents image (job.Seal first) before later ending e l h
  printed_nothing (job.HandOn who dir) before later ending e l h = unopened_prints_nothing contents image (job.HandOn who dir) before later ending e l h
  printed_nothing (job.Check noted) before later ending e l h = let u = h.1 in u.printed

  -- where the files are in use, nothing is printed
  pub busy_prints_nothing : (j : Job) (before later : W) (ending : Ending) (files : FilesLeft D disk) → IsRunEnd contents image j before later ending files → IsBusy files → later ≡ before
  busy_prints_nothing j before later ending left.Untouched h busy = absurd busy
  busy_prints_nothing j before later ending (left.Unopened error leftover) h busy = printed_nothing j before later ending error leftover h
  busy_prints_nothing j before later ending (left.Open held) h busy = absurd busy
  busy_prints_nothing j before later ending left.Unchecked h busy = absurd busy
  busy_prints_nothing j before later ending (left.Unclosed store) h busy = absurd busy
  busy_prints_nothing j before later ending (left.Closed files) h busy = absurd busy

  -- a run, told
  pub run_ends : (j : Job) (before later : W) (first ending : Ending) (files : FilesLeft D disk) → IsRunEnd contents image j before later first files → IsToldAs first ending
      → IsJobEnded contents image j before later ending files
  run_ends j before later first (Ok s) files h t = record { first = first; told = t; run = h }
  run_ends j before later first (Err stop) left.Untouched h t = absurd (untouched_never disk contents image before later j first h)
  run_ends j before later first (Err stop) (left.Unopened error leftover) h t = record { first = first; told = t; run = h }
  run_ends j before later first (Err stop) (left.Open held) h t = record { first = first; told = t; run = h }
  run_ends j before later first (Err stop) left.Unchecked h t = record { first = first; told = t; run = h }
  run_ends j before later first (Err stop) (left.Unclosed store) h t = record { first = first; told = t; run = h }
  run_ends j before later first (Err stop) (left.Closed files) h t = record { first = first; told = t; run = h }

  -- a check whose database was then closed, or not
  pub closing_checks : (noted : Option Beginning) (before later : W) (status : ExitStatus) (database : Held (FileStore D disk))
      → (HasCleanDisk (state over_files database) → IsWholeFrom image (contents before) (contents later) × TellsBooks contents image noted before later)
      → (ending : Ending) (files : FilesLeft D disk) → IsClosing database status ending files → IsChecked contents image noted before later ending files
  closing_checks noted before later status database whole ending left.Untouched c = absurd c
  closing_checks noted before later status database whole ending (left.Unopened error leftover) c = absurd c
  closing_checks noted before later status database whole ending (left.Open held) c = absurd c
  closing_checks noted before later status database whole ending left.Unchecked c = absurd c
  closing_checks noted before later status database whole ending (left.Unclosed store) c = c.1
  closing_checks noted before later status database whole ending (left.Closed files) c = λ clean. whole (let copied = c.1 clean in copied.was_clean)

-- what was read anew is what the files held
pub whole_of_files : (image : Image) (file : State) (before later : Option (List ℕ)) → FindsIn image file → IsFoundWhole file before later → IsWholeFrom image before later
whole_of_files image file before later found w = record { read = w.read; sound = w.sound; trees = λ db held. w.trees ∙ found.holds db held; told = w.told }

-- what is so of what was committed is so of the book that the files held
pub of_books : {S : Type 0} (store : Ghosts S) (image : Image) (database : Held S) (P : Who → List Entry → Type 0) → FindsIn image (state store database) → OfCommitted store database P → OfBooksIn image P
of_books store image database P found of q W L held = of q W L (subst (StandsInAs q W L) (sym (found.holds held.db held.held)) held.stands)
