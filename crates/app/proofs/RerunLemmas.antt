-- A run over the files of a book that is stopped, and the next run over what they hold then.
use Rattle.std.proofs.Common.{◌≡◌, ◌⊎◌, inl, inr, false, ℕ, List, [], Option, Some, None, Result, Ok, Err, IfOk, IfSome, OnErr, OnOk, refl, sym, ap, subst, ◌∙◌, arith}
use Rattle.std.proofs.Math.Logic.{∥∥₁_map}
use Rattle.sqlite_disk.specs.declared.Disk.{Ghosts as Disks}
use Rattle.sqlite.specs.declared.FileStore.{FileStore}
use Rattle.sqlite.specs.FileStore as files
use Rattle.sqlite.specs.Files.{HoldsDatabase, over_files}
use Rattle.sqlite.specs.Held.{Held, state}
use Rattle.sqlite.specs.Recovery.{Image}
use Rattle.sqlite.specs.State.{HasCleanDisk}
use Rattle.sqlite.specs.Store.{Ghosts}
use Rattle.sqlite.specs.Tree.{Trees}
use Rattle.sqlite.proofs.Theorems.{opens_again}
use Rattle.sqlite_trees.specs.View.{IsClean}
use Rattle.definitions.specs.declared.rules.Rules.{Rules}
use Rattle.definitions.specs.Rules.{Today}
use Rattle.definitions.specs.Header.{Who}
use Rattle.definitions.specs.Moments.{Moment}
use Rattle.definitions.specs.Register.{Command, Entry}
use Rattle.definitions.specs.Reply.{Reply, Accepted, Stored}
use Rattle.definitions.specs.Accepted.{after, reply_to}
use Rattle.store.specs.Again.{is_enrolment}
use Rattle.store.specs.Standing.{GoesOn}
use Rattle.store.proofs.Again.{stored_again}
use Rattle.store.proofs.Changes.{usable_stays}
use Rattle.book_statements.specs.Carrying.{LeavesCarried}
use Rattle.book_statements.specs.Standing.{StandsIn}
use Rattle.books.specs.Opened.{Opened, standing_of}
use Rattle.commands.specs.Acting.{Ending, IsHandedIn}
use Rattle.commands.specs.Telling.{IsPrinted}
use Rattle.commands.specs.declared.acts.Ready.TheVariants as ready
use Rattle.commands.specs.declared.told.CommandError.{CommandError}
use Rattle.commands.specs.declared.told.ExitStatus.{ExitStatus}
use Rattle.app.specs.Done.{IsJobBroken}
use Rattle.app.specs.FromFile.{HoldsBook, IsDoneFrom, IsOfBook, IsStoppedFrom}
use Rattle.app.specs.Opening.{IsBookOf}
use Rattle.app.specs.Rerun.{FindsAnswered, HoldBook, HoldEither, IsDoneOver, IsLetGo, LeavesBook, MayHold, ResendIsStored, command_in}
use Rattle.app.specs.FileEnds.{IsWorkStop}
use Rattle.app.specs.Working.{IsWork}
use Rattle.app.specs.declared.from_file.FilesLeft.{FilesLeft}
use Rattle.app.specs.declared.from_file.FilesLeft.TheVariants as left
use Rattle.app.specs.declared.stops.rerunning.StoppedRun.{StoppedRun}
use Rattle.app.specs.declared.over_file.Job.{Job}
use Rattle.app.specs.declared.over_file.Job.TheVariants as job
use Rattle.app.proofs.StopLemmas.{version_of}

-- a job that gives a command is over a book that is there
pub gives_to_book : (j : Job) (c : Command) (t : Moment) → command_in j ≡ Some (c, t) → IsOfBook j
gives_to_book j c t is W e = absurd (let none : command_in j ≡ None = ap command_in e in cc)

-- what it does is to hand that command in
pub handed_in : {S W : Type 0} (store : Ghosts S) (contents : W → Option (List ℕ)) (j : Job) (c : Command) (t : Moment) → command_in j ≡ Some (c, t)
    → (old new : Opened S) (before later : W) (ending : Ending) → IsWork (standing_of store) contents old before j new later ending
    → GoesOn (standing_of store old) (standing_of store new) × IsHandedIn (standing_of store old) (standing_of store new) c t (contents before) (contents later) ending
handed_in store contents (job.Make W) c t is old new before later ending w = absurd (cc)
handed_in store contents (job.Change (ready.Enrol who) m) c t is old new before later ending w =
    (w.0, subst (λ (p : Command × Moment). IsHandedIn (standing_of store old) (standing_of store new) p.0 p.1 (contents before) (contents later) ending) (cc) w.1)
handed_in store contents (job.Change (ready.Roster partners) m) c t is old new before later ending w = absurd (cc)
handed_in store contents (job.Change (ready.Send bytes) m) c t is old new before later ending w =
    (w.0, subst (λ (p : Command × Moment). IsHandedIn (standing_of store old) (standing_of store new) p.0 p.1 (contents before) (contents later) ending) (cc) w.1)
handed_in store contents (job.Change (ready.Take dir) m) c t is old new before later ending w = absurd (cc)
handed_in store contents (job.Change (ready.TakeInto inbox) m) c t is old new before later ending w = absurd (cc)
handed_in store contents (job.Change (ready.Clerk slip) m) c t is old new before later ending w =
    (w.0, subst (λ (p : Command × Moment). IsHandedIn (standing_of store old) (standing_of store new) p.0 p.1 (contents before) (contents later) ending) (cc) w.1)
handed_in store contents (job.Try ready moment) c t is old new before later ending w = absurd (cc)
handed_in store contents (job.Look asked) c t is old new before later ending w = absurd (cc)
handed_in store contents (job.Play text) c t is old new before later ending w = absurd (cc)
handed_in store contents (job.Listen service first has_clock file) c t is old new before later ending w = absurd (cc)
handed_in store contents (job.Seal first) c t is old new before later ending w = absurd (cc)
handed_in store contents (job.HandOn who dir) c t is old new before later ending w = absurd (cc)
handed_in store contents (job.Check noted) c t is old new before later ending w = absurd (cc)

module _ {D : Type 0} {disk : Disks D} (left : Held (FileStore D disk)) (it : FileStore D disk) (go : IsLetGo left it) (clean : IsClean (files.view it)) (then : Image) (may : MayHold it then) where
  pub was_clean : HasCleanDisk (state over_files left)
  was_clean = omega (arith, go.quiet, clean)

  -- what the files hold is one of the databases that a stop may leave
  pub holds_left : ∥ ((db : Trees) × (state over_files left).may_leave db × HoldsDatabase then db) ∥₁
  holds_left = ∥∥₁_map (opens_again it (go.numbered clean) (go.sound clean) then may) (λ found.
      let r : (db : Trees) × (state over_files left).may_leave db × HoldsDatabase then db = (found.0, go.fewer found.0 found.1, found.2) in r)

  module _ {W : Type 0} (contents : W → Option (List ℕ)) (image : Image) (j : Job) (before later : W) (q : Rules) (V : Who) (L : List Entry) (held : HoldsBook image q V L)
      (c : Command) (t : Moment) (gives : command_in j ≡ Some (c, t)) where
    -- of a book over the files: what they hold is the book with a register that it may leave
    holds_book : (b : Opened (FileStore D disk)) → left ≡ b.tables.conn → b.warehouse ≡ V → let s = standing_of over_files b in s.all_stand
        → ∥ ((M : List Entry) × (let s = standing_of over_files b in s.left M) × HoldsBook then Today V M) ∥₁
    holds_book b back named stand = ∥∥₁_map holds_left (λ found.
        let db = found.0 in
        let kept = subst (λ (h : Held (FileStore D disk)). (state over_files h).may_leave db) back found.1 in
        let there = stand db kept in
        let r : (M : List Entry) × (let s = standing_of over_files b in s.left M) × HoldsBook then Today V M =
        (there.0, (db, kept, there.1), record { db = db; held = found.2; stands = subst (λ (U : Who). StandsIn U there.0 db) named there.1 }) in
        r)

    -- the job was done
    pub done_leaves : (status : ExitStatus) → IsDoneFrom over_files contents image left j before later status → HoldBook then V (after Today V L (c, t))
    done_leaves status d =
        let done = d.done in
        let book = d.book (gives_to_book j c t gives) was_clean q V L held in
        let w = handed_in over_files contents j c t gives done.opened done.worked before later (Ok status) done.work in
        let closed = standing_of over_files done.closed in
        let clean' : closed.doubt ≡ 0 = subst (λ (h : Held (FileStore D disk)). HasCleanDisk (state over_files h)) done.back was_clean in
        let same = done.same in
        let goes = same.goes in
        let mid : (standing_of over_files done.worked).doubt ≡ 0 = omega (arith, goes.doubt, clean') in
        let usable = w.1.done mid L book.usable in
        let last = usable_stays (standing_of over_files done.worked) closed same clean' _ usable in
        let named : done.closed.warehouse ≡ V = goes.warehouse ∙ w.0.warehouse ∙ book.warehouse in
        let whose : after Today done.opened.warehouse L (c, t) ≡ after Today V L (c, t) = ap (λ (U : Who). after Today U L (c, t)) book.warehouse in
        ∥∥₁_map (holds_book done.closed done.back named last.stand) (λ m. subst (HoldsBook then Today V) (last.only m.0 m.1 ∙ whose) m.2)

    -- it was stopped over the book
    broken_leaves : (database : Held (FileStore D disk)) (stop : CommandError) (b : IsJobBroken over_files contents database left j before later stop) → IsBookOf over_files (b.opened) V L
        → HoldEither then V L (after Today V L (c, t))
    broken_leaves database stop b book =
        let w = handed_in over_files contents j c t gives b.opened b.worked before later (Err stop) b.work in
        let clean' : (standing_of over_files b.worked).doubt ≡ 0 = subst (λ (h : Held (FileStore D disk)). HasCleanDisk (state over_files h)) b.back was_clean in
        let either = w.1.left clean' L book.usable in
        let named : b.worked.warehouse ≡ V = w.0.warehouse ∙ book.warehouse in
        let whose : after Today b.opened.warehouse L (c, t) ≡ after Today V L (c, t) = ap (λ (U : Who). after Today U L (c, t)) book.warehouse in
        ∥∥₁_map (holds_book b.worked b.back named either.stand) (λ m.
        let r : ((p : Rules) × HoldsBook then p V L) ⊎ HoldsBook then Today V (after Today V L (c, t)) = elim (either.each m.0 m.1) [
          | inl is ↦ inl (Today, subst (HoldsBook then Today V) is m.2)
          | inr is ↦ inr (subst (HoldsBook then Today V) (is ∙ whose) m.2)
        ] in
        r)

    -- there was no book to do it over
    no_book_leaves : ((db : Trees) → (state over_files left).may_leave db → LeavesCarried V L db) → HoldEither then V L (after Today V L (c, t))
    no_book_leaves carried = ∥∥₁_map holds_left (λ found.
        let there = version_of V L found.0 (carried found.0 found.1) in
        let r : ((p : Rules) × HoldsBook then p V L) ⊎ HoldsBook then Today V (after Today V L (c, t)) = inl (there.0, record { db = found.0; held = found.2; stands = there.1 }) in
        r)

    pub stop_leaves : (stop : CommandError) → IsStoppedFrom over_files contents image left j before later stop → HoldEither then V L (after Today V L (c, t))
    stop_leaves stop s =
        let of = gives_to_book j c t gives in
        elim s.stopped [
          | inl broken ↦ broken_leaves s.database stop broken (s.book broken of was_clean q V L held)
          | inr none ↦ no_book_leaves (s.kept none of was_clean q V L held)
        ]

-- The next run.
module _ {S W : Type 0} (store : Ghosts S) (contents : W → Option (List ℕ)) (then : Image) (left : Held S) (j : Job) (before later : W) (status : ExitStatus)
    (d : IsDoneFrom store contents then left j before later status) (clean : HasCleanDisk (state store left)) (V : Who) (M : List Entry) where
  -- a reply is printed that is stored in the book which the files hold
  pub printed_stored : (q : Rules) → HoldsBook then q V M → (c : Command) (s : Moment) (text : List ℕ) → command_in j ≡ Some (c, s) → reply_to Today V M c s ≡ Stored text
      → IsPrinted (Stored text) (contents before) (contents later) status
  printed_stored q h c s text gives stored =
      let done = d.done in
      let book = d.book (gives_to_book j c s gives) clean q V M h in
      let w = handed_in store contents j c s gives done.opened done.worked before later (Ok status) done.work in
      let same = done.same in
      let goes = same.goes in
      let clean' : (standing_of store done.closed).doubt ≡ 0 = subst (λ (h : Held S). HasCleanDisk (state store h)) done.back clean in
      let mid : (standing_of store done.worked).doubt ≡ 0 = omega (arith, goes.doubt, clean') in
      let u = book.usable in
      let printed = w.1.printed mid M u.keeps u.legal in
      let answer : reply_to Today done.opened.warehouse M c s ≡ Stored text = ap (λ (U : Who). reply_to Today U M c s) book.warehouse ∙ stored in
      subst (λ (p : Reply). IsPrinted p (contents before) (contents later) status) answer printed

  module _ (hold : HoldBook then V M) where
    -- its job is done over the book that the files hold
    pub done_over : IsOfBook j → ∥ IsDoneOver store contents left j before later status V M ∥₁
    done_over of = ∥∥₁_map hold (λ h.
        let r : IsDoneOver store contents left j before later status V M = record { database = d.database; done = d.done; book = d.book of clean Today V M h } in r)

    -- and so is answered what was answered before
    pub stored_over : (L : List Entry) (c : Command) (t s : Moment) (text : List ℕ) → M ≡ after Today V L (c, t) → is_enrolment c ≡ false → command_in j ≡ Some (c, s)
        → reply_to Today V L c t ≡ Accepted text → ∥ IsPrinted (Stored text) (contents before) (contents later) status ∥₁
    stored_over L c t s text is other gives said =
        let stored : reply_to Today V M c s ≡ Stored text = ap (λ (K : List Entry). reply_to Today V K c s) is ∙ stored_again Today V L c t text other said [] s in
        ∥∥₁_map hold (λ h. printed_stored Today h c s text gives stored)

module _ {D S W : Type 0} {disk : Disks D} (store : Ghosts S) (contents : W → Option (List ℕ)) (first then : Image) (one two : Job) (before later : W) where
  found_by : {E : Type 0} (e : Ending) (stopped : FileStore D disk) → LeavesBook first one e stopped → (next : Result (ExitStatus × Held S) E) → IfOk next (λ r. IsDoneFrom store contents then r.1 two before later r.0)
      → OnOk e (IfOk next (λ r. FindsAnswered store contents first then stopped r.1 one two before later r.0))
  found_by (Err stop) stopped leaves next done = tt
  found_by (Ok status) stopped leaves (Err e) done = tt
  found_by (Ok status) stopped leaves (Ok r) done = λ clean may last q V L held c t gives of.
      done_over store contents then r.1 two before later r.0 done last V (after Today V L (c, t)) (leaves clean q V L held c t gives then may).0 of

  stored_by : {E : Type 0} (e : Ending) (stopped : FileStore D disk) → LeavesBook first one e stopped → (next : Result (ExitStatus × Held S) E) → IfOk next (λ r. IsDoneFrom store contents then r.1 two before later r.0)
      → OnOk e (IfOk next (λ r. ResendIsStored store contents first then stopped r.1 one two before later r.0))
  stored_by (Err stop) stopped leaves next done = tt
  stored_by (Ok status) stopped leaves (Err e) done = tt
  stored_by (Ok status) stopped leaves (Ok r) done = λ clean may last q V L held c t s text other gives again said.
      stored_over store contents then r.1 two before later r.0 done last V (after Today V L (c, t)) (leaves clean q V L held c t gives then may).0 L c t s text refl other again said

  pub found_twice : {E : Type 0} (run : Option (StoppedRun D disk)) → IfSome run (λ r. LeavesBook first one r.ended r.left) → (next : Result (ExitStatus × Held S) E)
      → IfOk next (λ r. IsDoneFrom store contents then r.1 two before later r.0)
      → IfSome run (λ k. OnOk k.ended (IfOk next (λ r. FindsAnswered store contents first then k.left r.1 one two before later r.0)))
  found_twice None leaves next done = tt
  found_twice (Some run) leaves next done = found_by run.ended run.left leaves next done

  pub stored_twice : {E : Type 0} (run : Option (StoppedRun D disk)) → IfSome run (λ r. LeavesBook first one r.ended r.left) → (next : Result (ExitStatus × Held S) E)
      → IfOk next (λ r. IsDoneFrom store contents then r.1 two before later r.0)
      → IfSome run (λ k. OnOk k.ended (IfOk next (λ r. ResendIsStored store contents first then k.left r.1 one two before later r.0)))
  stored_twice None leaves next done = tt
  stored_twice (Some run) leaves next done = stored_by run.ended run.left leaves next done

-- a run whose job was stopped over the files
module _ {D W : Type 0} {disk : Disks D} (contents : W → Option (List ℕ)) (image : Image) (j : Job) (before later : W) (stop : CommandError) (there : FilesLeft D disk)
    (why : IsWorkStop contents image j before later stop there) where
  pub stopped_leaves : (run : Option (StoppedRun D disk)) → IfSome run (λ r. (held : Held (FileStore D disk)) × (there ≡ left.Open held) × (r.ended ≡ Err stop) × IsLetGo held r.left)
      → IfSome run (λ r. LeavesBook image j r.ended r.left)
  stopped_leaves None h = tt
  stopped_leaves (Some r) h = λ clean q V L held c t gives then may.
      let s : IsStoppedFrom over_files contents image h.0 j before later stop = subst (λ (f : FilesLeft D disk). IsWorkStop contents image j before later stop f) h.1 why in
      subst (λ (e : Ending). OnOk e (HoldBook then V (after Today V L (c, t))) × OnErr e (HoldEither then V L (after Today V L (c, t)))) (sym h.2)
      (tt, stop_leaves h.0 r.left h.3 clean then may contents image j before later q V L held c t gives stop s)
