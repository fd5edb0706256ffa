-- What a job over the book in a database comes to, from its opening to its closing.
use Rattle.std.specs.Prelude.{◌≡◌, ◌⊎◌, ℕ, List, [], Option, Ok, Err}
use Rattle.sqlite.specs.Held.{Held, state}
use Rattle.sqlite.specs.State.{HasCleanDisk}
use Rattle.sqlite.specs.Store.{Ghosts}
use Rattle.store.specs.Standing.{IsUnchanged}
use Rattle.books.specs.Opened.{Opened, standing_of}
use Rattle.commands.specs.declared.told.CommandError.{CommandError}
use Rattle.commands.specs.declared.told.CommandError.TheVariants as stopped
use Rattle.commands.specs.declared.told.ExitStatus.{ExitStatus}
use Rattle.store.specs.Fault.{Fault}
use Rattle.app.specs.Opening.{IsBookOf, IsNotMade, IsNotOpened, IsOfFile}
use Rattle.app.specs.Working.{IsWork}
use Rattle.app.specs.declared.over_file.Job.{Job}
use Rattle.app.specs.declared.over_file.Job.TheVariants as job

-- the book for a job: a new one with the empty register, or the one that the database holds
abbrev pub IsBegun : {S : Type 0} → Ghosts S → Held S → Job → Opened S → Type 0
IsBegun store database (job.Make warehouse) book =
    HasCleanDisk (state store book.tables.conn) → IsBookOf store book warehouse []
IsBegun store database other book = IsOfFile store database book

-- why there is no book for a job, and what is left of the database
abbrev pub IsNotBegun : {S : Type 0} → Ghosts S → Held S → Held S → Job → Fault → Type 0
IsNotBegun store database back (job.Make W) fault = IsNotMade store database back W fault
IsNotBegun store database back other fault = IsNotOpened store database back fault

-- after all jobs but a change, done or tried, nothing more is asked of the book
abbrev pub StaysAs : {K : Type 0} → Job → K → K → Type 0
StaysAs (job.Change ready moment) book left = Unit {0}
StaysAs (job.Try ready moment) book left = Unit {0}
StaysAs other book left = left ≡ book

-- The book for the job was had, the job was done over it, once, and then nothing but why it was
-- refused was asked, before the book's database was given back.
pub record IsJobDone
    {S W : Type 0} (store : Ghosts S) (contents : W → Option (List ℕ)) (database left : Held S)
    (job : Job) (before later : W) (status : ExitStatus) : Type 0 where
  pub opened : Opened S
  pub begun : IsBegun store database job opened
  pub worked : Opened S
  pub work : IsWork (standing_of store) contents opened before job worked later (Ok status)
  pub closed : Opened S
  pub same : IsUnchanged (standing_of store worked) (standing_of store closed)
  pub stays : StaysAs job worked closed
  pub back : left ≡ closed.tables.conn

-- The book for the job was had, and the job was stopped over it, before the book's database was
-- given back.
pub record IsJobBroken
    {S W : Type 0} (store : Ghosts S) (contents : W → Option (List ℕ)) (database left : Held S)
    (job : Job) (before later : W) (stop : CommandError) : Type 0 where
  pub opened : Opened S
  pub begun : IsBegun store database job opened
  pub worked : Opened S
  pub work : IsWork (standing_of store) contents opened before job worked later (Err stop)
  pub back : left ≡ worked.tables.conn

-- There was no book to do the job over, and nothing was printed.
pub record IsNoBook
    {S W : Type 0} (store : Ghosts S) (database left : Held S) (job : Job) (before later : W)
    (stop : CommandError) : Type 0 where
  pub fault : Fault
  pub told : stop ≡ stopped.Fault fault
  pub why : IsNotBegun store database left job fault
  pub printed : later ≡ before

-- the job was stopped over its book, or there was no book to do it over
abbrev pub IsJobStopped : {S W : Type 0} → Ghosts S → (W → Option (List ℕ)) → Held S → Held S
    → Job → W → W → CommandError → Type 0
IsJobStopped store contents database left job before later stop =
    IsJobBroken store contents database left job before later stop
    ⊎ IsNoBook store database left job before later stop
