-- What a job over a database says of the files that the database was opened from.
use Rattle.std.proofs.Common.{◌≡◌, ◌≤◌, IsTrue, ℕ, List, Option, refl, sym, ap, subst, ◌∙◌, arith}
use Rattle.sqlite.specs.Held.{Held, state}
use Rattle.sqlite.specs.Recovery.{Image}
use Rattle.sqlite.specs.Start.{FindsIn}
use Rattle.sqlite.specs.State.{State, HasCleanDisk, Opens, IsLive}
use Rattle.sqlite.specs.Effect.{Database}
use Rattle.sqlite.specs.Store.{Ghosts}
use Rattle.sqlite_trees.specs.View.{doubt}
use Rattle.sqlite.specs.Tree.{Trees}
use Rattle.definitions.specs.declared.rules.Rules.{Rules}
use Rattle.definitions.specs.declared.rules.Rules.TheVariants.{One}
use Rattle.definitions.specs.Header.{Who}
use Rattle.definitions.specs.Register.{Entry}
use Rattle.book_statements.specs.Carrying.{LeavesCarried, StandsInAs, StandsOpenAs}
use Rattle.books.specs.Carrying.{AllStandAs, OpensAs}
use Rattle.books.specs.Opened.{Opened, standing_of}
use Rattle.commands.specs.Acting.{Ending}
use Rattle.commands.specs.declared.told.CommandError.{CommandError}
use Rattle.commands.specs.declared.told.ExitStatus.{ExitStatus}
use Rattle.app.specs.Done.{IsBegun, IsNotBegun, IsJobDone, IsJobStopped}
use Rattle.app.specs.FromFile.{HoldsBook, IsOfBook, IsDoneFrom, IsStoppedFrom}
use Rattle.app.specs.Opening.{IsNotMade, IsNotOpened, IsOfFile}
use Rattle.app.specs.Working.{IsWork}
use Rattle.app.specs.declared.over_file.Job.{Job}
use Rattle.app.specs.declared.over_file.Job.TheVariants as job
use Rattle.app.proofs.NothingLemmas.{no_table}
use Rattle.app.proofs.StopLemmas.{stands_as_read, still_carried}

-- the database that files open as stands for the book that they held
pub stands_found : (image : Image) (s : State) (q : Rules) (W : Who) (L : List Entry) → Opens s × IsLive s → FindsIn image s → HoldsBook image q W L → StandsOpenAs q s W L
stands_found image s q W L opens found held = λ opened.
    let trees = ap (λ (d : Database). d.trees) opens.0.clean ∙ found.holds held.db held.held in
    stands_as_read q W L _ _ (opens.1 opened).0 (subst (StandsInAs q W L) (sym trees) held.stands)

module _ {S W : Type 0} (store : Ghosts S) (contents : W → Option (List ℕ)) where
  -- work makes no disk clean
  work_goes : (j : Job) (old new : Opened S) (before later : W) (ending : Ending) → IsWork (standing_of store) contents old before j new later ending
      → doubt (state store old.tables.conn).is_clean ≤ doubt (state store new.tables.conn).is_clean
  work_goes (job.Change ready moment) old new before later ending h = h.0.doubt
  work_goes (job.Try ready moment) old new before later ending h = let same = h.0 in let goes = same.goes in goes.doubt
  work_goes (job.Look asked) old new before later ending h = let same = h.same in let goes = same.goes in goes.doubt
  work_goes (job.Seal first) old new before later ending h = let same = h.same in let goes = same.goes in goes.doubt
  work_goes (job.HandOn who dir) old new before later ending h = let same = h.0 in let goes = same.goes in goes.doubt
  work_goes (job.Play text) old new before later ending h = h.0.doubt
  work_goes (job.Listen service first has_clock file) old new before later ending h = h.0.doubt
  work_goes (job.Make house) old new before later ending h = subst (λ (b : Opened S). doubt (state store old.tables.conn).is_clean ≤ doubt (state store b.tables.conn).is_clean) (sym h.0) (omega arith)
  work_goes (job.Check noted) old new before later ending h = subst (λ (b : Opened S). doubt (state store old.tables.conn).is_clean ≤ doubt (state store b.tables.conn).is_clean) (sym h.0) (omega arith)

  -- a job over a book that is there is over the one that is opened
  of_file : (j : Job) (database : Held S) (b : Opened S) → IsOfBook j → IsBegun store database j b → IsOfFile store database b
  of_file (job.Make house) database b of h = absurd (of house refl)
  of_file (job.Change ready moment) database b of h = h
  of_file (job.Try ready moment) database b of h = h
  of_file (job.Look asked) database b of h = h
  of_file (job.Play text) database b of h = h
  of_file (job.Listen service first has_clock file) database b of h = h
  of_file (job.Seal first) database b of h = h
  of_file (job.HandOn who dir) database b of h = h
  of_file (job.Check noted) database b of h = h

  not_opened : (j : Job) (database left : Held S) (f : _) → IsOfBook j → IsNotBegun store database left j f → IsNotOpened store database left f
  not_opened (job.Make house) database left f of h = absurd (of house refl)
  not_opened (job.Change ready moment) database left f of h = h
  not_opened (job.Try ready moment) database left f of h = h
  not_opened (job.Look asked) database left f of h = h
  not_opened (job.Play text) database left f of h = h
  not_opened (job.Listen service first has_clock file) database left f of h = h
  not_opened (job.Seal first) database left f of h = h
  not_opened (job.HandOn who dir) database left f of h = h
  not_opened (job.Check noted) database left f of h = h

  module _ (image : Image) (database left : Held S) (opens : HasCleanDisk (state store database) → Opens (state store database) × IsLive (state store database))
      (found : HasCleanDisk (state store database) → FindsIn image (state store database))
      (settled : IsTrue (state store database).is_open → (db : Trees) → (state store database).may_leave db → db ≡ (state store database).committed.trees) (j : Job) (before later : W) where
    pub done_from : (status : ExitStatus) → IsJobDone store contents database left j before later status → IsDoneFrom store contents image left j before later status
    done_from status d = record {
      database = database;
      done = d;
      book = λ of clean q W L held.
          let last : HasCleanDisk (state store d.closed.tables.conn) = subst (λ h. HasCleanDisk (state store h)) d.back clean in
          let goes = d.same.goes in
          let after = goes.doubt in
          let at = work_goes j d.opened d.worked before later _ d.work in
          let first : HasCleanDisk (state store d.opened.tables.conn) = omega (arith, after, at, last) in
          let file = of_file j database d.opened of d.begun in
          let early : HasCleanDisk (state store database) = omega (arith, file.clean, first) in
          file.stood first q W L (stands_found image _ q W L (opens early) (found early) held);
    }

    pub stopped_from : (stop : CommandError) → IsJobStopped store contents database left j before later stop → IsStoppedFrom store contents image left j before later stop
    stopped_from stop s = record {
      database = database;
      stopped = s;
      book = λ b of clean q W L held.
          let last : HasCleanDisk (state store b.worked.tables.conn) = subst (λ h. HasCleanDisk (state store h)) b.back clean in
          let at = work_goes j b.opened b.worked before later _ b.work in
          let first : HasCleanDisk (state store b.opened.tables.conn) = omega (arith, at, last) in
          let file = of_file j database b.opened of b.begun in
          let early : HasCleanDisk (state store database) = omega (arith, file.clean, first) in
          file.stood first q W L (stands_found image _ q W L (opens early) (found early) held);
      this = λ no of clean q W L held.
          let is = not_opened j database left no.fault of no.why in
          let why = is.why in
          let handed : HasCleanDisk (state store is.handed.conn) = subst (λ h. HasCleanDisk (state store h)) (sym is.after) clean in
          let opening = why.asked in
          let first : HasCleanDisk (state store is.tables.conn) = omega (arith, opening.clean, handed) in
          let early : HasCleanDisk (state store database) = subst (λ h. HasCleanDisk (state store h)) is.before first in
          why.this handed q W L (subst (λ h. StandsOpenAs q (state store h) W L) (sym is.before) (stands_found image _ q W L (opens early) (found early) held));
      kept = λ no of clean q W L held.
          let is = not_opened j database left no.fault of no.why in
          let asked : OpensAs (state store database) (state store left) = subst (λ h. OpensAs (state store h) (state store left)) is.before
          (subst (λ h. OpensAs (state store is.tables.conn) (state store h)) is.after (let why = is.why in why.asked)) in
          let early : HasCleanDisk (state store database) = omega (arith, asked.clean, clean) in
          let opened = opens early in
          let here = stands_found image _ q W L opened (found early) held in
          let trees : (state store database).committed.trees ≡ held.db = (found early).holds held.db held.held in
          let all : AllStandAs q (state store database) W L = λ db may. subst (StandsInAs q W L) (sym (settled opened.0.is_open db may ∙ trees)) held.stands in
          let carried : StandsOpenAs One (state store database) W L → AllStandAs One (state store database) W L → (db : Trees) → (state store left).may_leave db → LeavesCarried W L db =
          subst (λ h. StandsOpenAs One (state store h) W L → AllStandAs One (state store h) W L → (db : Trees) → (state store left).may_leave db → LeavesCarried W L db) is.before
          (subst (λ h. StandsOpenAs One (state store is.tables.conn) W L → AllStandAs One (state store is.tables.conn) W L → (db : Trees) → (state store h).may_leave db → LeavesCarried W L db) is.after
          (let why = is.why in why.carried (subst (λ h. HasCleanDisk (state store h)) (sym is.after) clean) W L)) in
          still_carried (state store database) (state store left) q W L clean opened.0.is_open here all asked carried;
      free = λ no V is clean nothing other.
          let why : IsNotMade store database left V no.fault = subst (λ k. IsNotBegun store database left k no.fault) is no.why in
          let taken = why.taken other in
          let early : HasCleanDisk (state store database) = subst (λ h. HasCleanDisk (state store h)) taken.0 clean in
          taken.1 (no_table image (state store database) (opens early) (found early) nothing);
    }
