-- What the files of a book hold where a run over them is stopped, whatever its job was, and what the next run finds.
use Rattle.std.proofs.Common.{◌≡◌, inl, inr, ℕ, List, Option, Some, None, Result, Ok, Err, IfOk, IfSome, refl, sym, subst, ◌∙◌, ap, ◌∷◌}
use Rattle.std.proofs.Math.Logic.{∥∥₁_map}
use Rattle.sqlite_disk.specs.declared.Disk.{Ghosts as Disks}
use Rattle.sqlite.specs.declared.FileStore.{FileStore}
use Rattle.sqlite.specs.FileStore as files
use Rattle.sqlite.specs.Files.{over_files}
use Rattle.sqlite.specs.Held.{Held, state}
use Rattle.sqlite.specs.Recovery.{Image}
use Rattle.sqlite.specs.State.{HasCleanDisk}
use Rattle.sqlite.specs.Store.{Ghosts}
use Rattle.sqlite.specs.Tree.{Trees}
use Rattle.sqlite_trees.specs.View.{IsClean}
use Rattle.definitions.specs.declared.rules.Rules.{Rules}
use Rattle.definitions.specs.Rules.{Today}
use Rattle.definitions.specs.Header.{Who}
use Rattle.definitions.specs.Register.{Entry}
use Rattle.definitions.specs.Accepted.{accepted_on, after, reply_to}
use Rattle.store.proofs.Again.{stored_again}
use Rattle.book_statements.specs.Carrying.{LeavesCarried}
use Rattle.book_statements.specs.Standing.{StandsIn}
use Rattle.books.specs.Opened.{Opened, standing_of}
use Rattle.commands.specs.Acting.{Ending}
use Rattle.commands.specs.declared.told.CommandError.{CommandError}
use Rattle.commands.specs.declared.told.ExitStatus.{ExitStatus}
use Rattle.app.specs.Done.{IsJobBroken}
use Rattle.app.specs.FromFile.{HoldsBook, IsDoneFrom, IsOfBook, IsStoppedFrom}
use Rattle.app.specs.FileEnds.{IsWorkStop}
use Rattle.app.specs.Grown.{FindsKept, HoldsGrown, IsDoneAfter, KeepsBook, LeavesGrown}
use Rattle.app.specs.Opening.{IsBookOf}
use Rattle.app.specs.Rerun.{IsLetGo, MayHold}
use Rattle.app.specs.Working.{IsWork}
use Rattle.app.specs.declared.from_file.FilesLeft.{FilesLeft}
use Rattle.app.specs.declared.from_file.FilesLeft.TheVariants as left
use Rattle.app.specs.declared.stops.rerunning.StoppedRun.{StoppedRun}
use Rattle.app.specs.declared.over_file.Job.{Job}
use Rattle.app.specs.declared.over_file.Job.TheVariants as job
use Rattle.app.proofs.GrownLemmas.{closed_grows, grown_still, joined, work_grows}
use Rattle.app.proofs.RerunLemmas.{holds_left, printed_stored, was_clean}
use Rattle.app.proofs.StopLemmas.{version_of}

-- a job is done for the warehouse of the book
work_of : {S W : Type 0} (store : Ghosts S) (contents : W → Option (List ℕ)) (j : Job) (old new : Opened S) (before later : W) (e : Ending) → IsWork (standing_of store) contents old before j new later e
    → new.warehouse ≡ old.warehouse
work_of store contents (job.Make house) old new before later e h = subst (λ (b : Opened _). b.warehouse ≡ old.warehouse) (sym h.0) refl
work_of store contents (job.Change ready moment) old new before later e h = let goes = h.0 in goes.warehouse
work_of store contents (job.Try ready moment) old new before later e h = let same = h.0 in let goes = same.goes in goes.warehouse
work_of store contents (job.Look asked) old new before later e h = let same = h.same in let goes = same.goes in goes.warehouse
work_of store contents (job.Seal first) old new before later e h = let same = h.same in let goes = same.goes in goes.warehouse
work_of store contents (job.HandOn who dir) old new before later e h = let same = h.0 in let goes = same.goes in goes.warehouse
work_of store contents (job.Play text) old new before later e h = let goes = h.0 in goes.warehouse
work_of store contents (job.Listen service first has_clock file) old new before later e h = let goes = h.0 in goes.warehouse
work_of store contents (job.Check noted) old new before later e h = subst (λ (b : Opened _). b.warehouse ≡ old.warehouse) (sym h.0) refl

module _ {D : Type 0} {disk : Disks D} (left : Held (FileStore D disk)) (it : FileStore D disk) (go : IsLetGo left it) (clean : IsClean (files.view it)) (then : Image) (may : MayHold it then) where
  -- of a book over the files that leaves a register which grew: they hold the book with such a one
  holds_grown : (b : Opened (FileStore D disk)) → left ≡ b.tables.conn → (V : Who) (L : List Entry) → b.warehouse ≡ V → LeavesGrown (standing_of over_files b) V L
      → (P : List Entry → Type 0) → ((M : List Entry) → (let s = standing_of over_files b in s.left M) → P M) → ∥ HoldsGrown then V L P ∥₁
  holds_grown b back V L named h P so = ∥∥₁_map (holds_left left it go clean then may) (λ found.
      let db = found.0 in
      let kept = subst (λ (h : Held (FileStore D disk)). (state over_files h).may_leave db) back found.1 in
      let there = h.stand db kept in
      let r : HoldsGrown then V L P = record {
        version = Today;
        register = there.0;
        grown = h.each there.0 (db, kept, there.1);
        so = so there.0 (db, kept, there.1);
        holds = record { db = db; held = found.2; stands = subst (λ (U : Who). StandsIn U there.0 db) named there.1 };
      } in
      r)

  module _ {W : Type 0} (contents : W → Option (List ℕ)) (image : Image) (j : Job) (of : IsOfBook j) (before later : W) (q : Rules) (V : Who) (L : List Entry) (held : HoldsBook image q V L) where
    done_keeps : (status : ExitStatus) (d : IsDoneFrom over_files contents image left j before later status)
        → ∥ HoldsGrown then V L (λ M. let s = standing_of over_files (d.done.worked) in s.left M) ∥₁
    done_keeps status d =
        let done = d.done in
        let book = d.book of (was_clean left it go clean then may) q V L held in
        let last : (let s = standing_of over_files done.closed in s.doubt ≡ 0) = subst (λ (h : Held (FileStore D disk)). HasCleanDisk (state over_files h)) done.back (was_clean left it go clean then may) in
        let same = done.same in
        let goes = same.goes in
        let grown = closed_grows over_files contents done.opened done.worked done.closed before later done.same last L book.usable j status of done.work done.stays in
        let named : done.closed.warehouse ≡ V = goes.warehouse ∙ work_of over_files contents j done.opened done.worked before later (Ok status) done.work ∙ book.warehouse in
        holds_grown done.closed done.back V L named (subst (λ (U : Who). LeavesGrown (standing_of over_files done.closed) U L) book.warehouse grown.leaves)
        (λ M. let s = standing_of over_files done.worked in s.left M) grown.fewer

    broken_keeps : (database : Held (FileStore D disk)) (stop : CommandError) (b : IsJobBroken over_files contents database left j before later stop) → IsBookOf over_files (b.opened) V L
        → ∥ HoldsGrown then V L (λ M. Unit {0}) ∥₁
    broken_keeps database stop b book =
        let last : (let s = standing_of over_files b.worked in s.doubt ≡ 0) = subst (λ (h : Held (FileStore D disk)). HasCleanDisk (state over_files h)) b.back (was_clean left it go clean then may) in
        let grown = work_grows over_files contents b.opened b.worked before later last L book.usable j (Err stop) of b.work in
        let named : b.worked.warehouse ≡ V = work_of over_files contents j b.opened b.worked before later (Err stop) b.work ∙ book.warehouse in
        holds_grown b.worked b.back V L named (subst (λ (U : Who). LeavesGrown (standing_of over_files b.worked) U L) book.warehouse grown) (λ M. Unit {0}) (λ M h. tt)

    -- there was no book to do it over
    none_keeps : ((db : Trees) → (state over_files left).may_leave db → LeavesCarried V L db) → ∥ HoldsGrown then V L (λ M. Unit {0}) ∥₁
    none_keeps carried = ∥∥₁_map (holds_left left it go clean then may) (λ found.
        let there = version_of V L found.0 (carried found.0 found.1) in
        let r : HoldsGrown then V L (λ M. Unit {0}) = record {
          version = there.0;
          register = L;
          grown = grown_still V L;
          so = tt;
          holds = record { db = found.0; held = found.2; stands = there.1 };
        } in
        r)

    stop_keeps : (stop : CommandError) → IsStoppedFrom over_files contents image left j before later stop → ∥ HoldsGrown then V L (λ M. Unit {0}) ∥₁
    stop_keeps stop s = elim s.stopped [
      | inl broken ↦ broken_keeps s.database stop broken (s.book broken of (was_clean left it go clean then may) q V L held)
      | inr none ↦ none_keeps (s.kept none of (was_clean left it go clean then may) q V L held)
    ]

-- a run whose job was done over the files, and one whose job was stopped
module _ {D W : Type 0} {disk : Disks D} (contents : W → Option (List ℕ)) (image : Image) (j : Job) (before later : W) where
  pub kept_done : (held : Held (FileStore D disk)) (it : FileStore D disk) → IsLetGo held it → (status : ExitStatus) → IsDoneFrom over_files contents image held j before later status
      → KeepsBook contents image j before later (Ok status) it
  kept_done held it go status d = record {
    left = held;
    done = d;
    kept = λ clean of q V L holds then may. done_keeps held it go clean then may contents image j of before later q V L holds status d;
  }

  pub kept_stopped : (stop : CommandError) (there : FilesLeft D disk) → IsWorkStop contents image j before later stop there
      → (run : Option (StoppedRun D disk)) → IfSome run (λ r. (held : Held (FileStore D disk)) × (there ≡ left.Open held) × (r.ended ≡ Err stop) × IsLetGo held r.left)
      → IfSome run (λ r. KeepsBook contents image j before later r.ended r.left)
  kept_stopped stop there why None h = tt
  kept_stopped stop there why (Some r) h =
      let s : IsStoppedFrom over_files contents image h.0 j before later stop = subst (λ (f : FilesLeft D disk). IsWorkStop contents image j before later stop f) h.1 why in
      subst (λ (e : Ending). KeepsBook contents image j before later e r.left) (sym h.2)
      (λ clean of q V L holds then may. stop_keeps h.0 r.left h.3 clean then may contents image j of before later q V L holds stop s)

-- the next run
module _ {D S W : Type 0} {disk : Disks D} (store : Ghosts S) (contents : W → Option (List ℕ)) (first then : Image) (one two : Job) (start end before later : W) where
  grown_of : (e : Ending) (it : FileStore D disk) → KeepsBook contents first one start end e it → IsClean (files.view it) → MayHold it then → IsOfBook one
      → (q : Rules) (V : Who) (L : List Entry) → HoldsBook first q V L → ∥ HoldsGrown then V L (λ M. Unit {0}) ∥₁
  grown_of (Ok status) it k clean may of q V L held = ∥∥₁_map (k.kept clean of q V L held then may) (λ h.
      let r : HoldsGrown then V L (λ M. Unit {0}) = record { version = h.version; register = h.register; grown = h.grown; so = tt; holds = h.holds } in r)
  grown_of (Err stop) it k clean may of q V L held = k clean of q V L held then may

  finds : (e : Ending) (it : FileStore D disk) → KeepsBook contents first one start end e it → (left : Held S) (status : ExitStatus) → IsDoneFrom store contents then left two before later status
      → FindsKept store contents first then it left one two before later status
  finds e it k left status d = λ clean may last of on q V L held. ∥∥₁_map (grown_of e it k clean may of q V L held) (λ h.
      let cs = h.grown.0 in
      let there : HoldsBook then h.version V (accepted_on Today V L cs) = subst (λ (M : List Entry). HoldsBook then h.version V M) h.grown.1 h.holds in
      let r : IsDoneAfter store contents left two before later status V L = record {
        commands = cs;
        done = record { database = d.database; done = d.done; book = d.book on last h.version V (accepted_on Today V L cs) there };
        stored = λ front others c t s text are other said gives.
            let M = accepted_on Today V L front in
            let ran : accepted_on Today V L cs ≡ accepted_on Today V (after Today V M (c, t)) others = ap (accepted_on Today V L) are ∙ joined V L front ((c, t) ∷ others) in
            printed_stored store contents then left two before later status d last V (accepted_on Today V L cs) h.version there c s text gives
            (ap (λ (K : List Entry). reply_to Today V K c s) ran ∙ stored_again Today V M c t text other said others s);
      } in
      r)

  found_in : {E : Type 0} (e : Ending) (it : FileStore D disk) → KeepsBook contents first one start end e it → (next : Result (ExitStatus × Held S) E)
      → IfOk next (λ r. IsDoneFrom store contents then r.1 two before later r.0) → IfOk next (λ r. FindsKept store contents first then it r.1 one two before later r.0)
  found_in e it k (Err stop) done = tt
  found_in e it k (Ok r) done = finds e it k r.1 r.0 done

  pub kept_twice : {E : Type 0} (run : Option (StoppedRun D disk)) → IfSome run (λ r. KeepsBook contents first one start end r.ended r.left) → (next : Result (ExitStatus × Held S) E)
      → IfOk next (λ r. IsDoneFrom store contents then r.1 two before later r.0)
      → IfSome run (λ k. IfOk next (λ r. FindsKept store contents first then k.left r.1 one two before later r.0))
  kept_twice None keeps next done = tt
  kept_twice (Some run) keeps next done = found_in run.ended run.left keeps next done
