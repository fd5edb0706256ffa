-- What a job over a book leaves of it: the register grew.
use Rattle.std.proofs.Common.{◌≡◌, ◌+◌, take, ◌++◌, ◌⊎◌, inl, inr, ℕ, Bool, false, List, [], ◌∷◌, Option, Some, None, Result, Ok, Err, IfOk, OnErr, MatchOption, refl, sym, ap, subst, ◌∙◌, arith}
use Rattle.std.specs.List.{FoldsTo}
use Rattle.definitions.specs.Rules.{Today}
use Rattle.definitions.specs.Accepted.{accepted_on, after}
use Rattle.definitions.specs.Header.{Who}
use Rattle.definitions.specs.Moments.{Moment}
use Rattle.definitions.specs.Register.{Command, Entry}
use Rattle.definitions.specs.Response.{Response}
use Rattle.store.specs.Fault.{Fault}
use Rattle.store.specs.Standing.{Standing, IsUsable, IsUnchanged, GoesOn, LeavesEither}
use Rattle.store.proofs.Changes.{clean_before, goes_trans, usable_stays}
use Rattle.folders.specs.Folders.{IsFolderStopped}
use Rattle.folders.specs.Folders as folders
use Rattle.intake.specs.Admitting.{access_by}
use Rattle.intake.specs.Connections.{IsConnection, IsNotAccepted, IsServed, IsServedOn}
use Rattle.intake.specs.Serving.{IsAnswered, IsAsDefined, IsFaulted, IsResponseWritten, IsUnread, IsUnwritten}
use Rattle.intake.specs.declared.audience.Access.{Access}
use Rattle.intake.specs.declared.served.Connection.{Connection}
use Rattle.command_line.specs.declared.words.BookAct.{BookAct}
use Rattle.command_line.specs.declared.words.Show.{Show}
use Rattle.command_line.specs.declared.words.Task.{Task}
use Rattle.command_line.specs.declared.words.Task.TheVariants as task
use Rattle.command_line.specs.declared.words.Words.{Words}
use Rattle.command_line.specs.declared.words.Words.TheVariants as words
use Rattle.commands.specs.Files.{Reads, reads_any}
use Rattle.commands.specs.Enrolling.{enrolments}
use Rattle.commands.specs.Acting.{Ending, IsHandedIn, IsPerformed}
use Rattle.commands.specs.Looking.{IsLineDone, IsTaskDone, IsView}
use Rattle.commands.specs.Playing.{HasPlayed, HasStopped, IsRowDone, IsRowStopped}
use Rattle.commands.specs.Readying.{IsChange, IsTrial}
use Rattle.commands.specs.Trying.{IsTriedOf}
use Rattle.commands.specs.Serving.{Came}
use Rattle.commands.specs.Stops.{IsFaultThat}
use Rattle.commands.specs.Takes.{IsFolderHalted}
use Rattle.commands.specs.declared.acts.Ready.{Ready}
use Rattle.commands.specs.declared.acts.Ready.TheVariants as ready
use Rattle.commands.specs.declared.told.CommandError.{CommandError}
use Rattle.commands.specs.declared.told.CommandError.TheVariants as stops
use Rattle.commands.specs.declared.told.ExitStatus.{ExitStatus}
use Rattle.sqlite.specs.Store.{Ghosts}
use Rattle.store.proofs.Changes.{unchanged_refl}
use Rattle.books.specs.Opened.{Opened, standing_of}
use Rattle.commands.specs.Serving.{access_of}
use Rattle.command_line.specs.declared.words.Service.{Service}
use Rattle.app.specs.Done.{StaysAs}
use Rattle.app.specs.FromFile.{IsOfBook}
use Rattle.app.specs.Grown.{IsGrown, LeavesGrown, ServesGrown}
use Rattle.app.specs.Working.{IsService, IsWork}
use Rattle.app.specs.declared.over_file.Job.{Job}
use Rattle.app.specs.declared.over_file.Job.TheVariants as job

-- Registers that grow.
pub joined : (W : Who) (L : List Entry) (cs ds : List (Command × Moment)) → accepted_on Today W L (cs ++ ds) ≡ accepted_on Today W (accepted_on Today W L cs) ds
joined W L [] ds = refl
joined W L (c ∷ cs) ds = joined W (after Today W L c) cs ds

pub grown_still : (W : Who) (L : List Entry) → IsGrown W L L
grown_still W L = ([], refl)

pub grown_on : (W : Who) (L M N : List Entry) → IsGrown W L M → IsGrown W M N → IsGrown W L N
grown_on W L M N g h = (g.0 ++ h.0, h.1 ∙ ap (λ (K : List Entry). accepted_on Today W K h.0) g.1 ∙ sym (joined W L g.0 h.0))

pub leaves_served : (s : Standing) (W : Who) (L : List Entry) → ServesGrown s W L → LeavesGrown s W L
leaves_served s W L h =
    let u = h.usable in
    record { stand = u.stand; each = λ M left. (h.grown.0, u.only M left ∙ h.grown.1) }

by_side : (W : Who) (L A B M : List Entry) → IsGrown W L A → IsGrown W L B → (M ≡ A) ⊎ (M ≡ B) → IsGrown W L M
by_side W L A B M a b (inl e) = (a.0, e ∙ a.1)
by_side W L A B M a b (inr e) = (b.0, e ∙ b.1)

leaves_either : (s : Standing) (W : Who) (L A B : List Entry) → IsGrown W L A → IsGrown W L B → LeavesEither s A B → LeavesGrown s W L
leaves_either s W L A B a b h = record { stand = h.stand; each = λ M left. by_side W L A B M a b (h.each M left) }

-- of a book that had grown already
pub serves_on : (s : Standing) (W : Who) (L M : List Entry) → IsGrown W L M → ServesGrown s W M → ServesGrown s W L
serves_on s W L M g h = record { register = h.register; grown = grown_on W L M h.register g h.grown; usable = h.usable }

pub leaves_on : (s : Standing) (W : Who) (L M : List Entry) → IsGrown W L M → LeavesGrown s W M → LeavesGrown s W L
leaves_on s W L M g h = record { stand = h.stand; each = λ N left. grown_on W L M N g (h.each N left) }

pub serves_still : (old new : Standing) (L : List Entry) → IsUnchanged old new → new.doubt ≡ 0 → IsUsable old L → ServesGrown new old.warehouse L
serves_still old new L same clean u = record { register = L; grown = grown_still old.warehouse L; usable = usable_stays old new same clean L u }

pub serves_after : (old new : Standing) (W : Who) (L : List Entry) → IsUnchanged old new → new.doubt ≡ 0 → ServesGrown old W L → ServesGrown new W L
serves_after old new W L same clean h = record { register = h.register; grown = h.grown; usable = usable_stays old new same clean h.register h.usable }

-- what a step comes to: a book that serves where it was done
abbrev pub IsStepped : Ending → Standing → Who → List Entry → Type 0
IsStepped (Ok status) s W L = ServesGrown s W L
IsStepped (Err stop) s W L = LeavesGrown s W L

stepped_by : (e : Ending) (s : Standing) (W : Who) (L : List Entry) → ServesGrown s W L → IsStepped e s W L
stepped_by (Ok status) s W L h = h
stepped_by (Err stop) s W L h = leaves_served s W L h

-- what was made ready was done
module _ (old new : Standing) (t : Moment) (before later : Option (List ℕ)) (clean : new.doubt ≡ 0) (L : List Entry) (u : IsUsable old L) where
  handed : (c : Command) (e : Ending) → IsHandedIn old new c t before later e → IsStepped e new old.warehouse L
  handed c (Ok status) h = record { register = after Today old.warehouse L (c, t); grown = ((c, t) ∷ [], refl); usable = h.done clean L u }
  handed c (Err stop) h = leaves_either new old.warehouse L L (after Today old.warehouse L (c, t)) (grown_still old.warehouse L) ((c, t) ∷ [], refl) (h.left clean L u)

  -- of a list of commands, and of that with one more
  either_leaves : (cs ds : List (Command × Moment)) → LeavesEither new (accepted_on Today old.warehouse L cs) (accepted_on Today old.warehouse L ds) → LeavesGrown new old.warehouse L
  either_leaves cs ds h = leaves_either new old.warehouse L (accepted_on Today old.warehouse L cs) (accepted_on Today old.warehouse L ds) (cs, refl) (ds, refl) h

  serves_all : (cs : List (Command × Moment)) → IsUsable new (accepted_on Today old.warehouse L cs) → ServesGrown new old.warehouse L
  serves_all cs h = record { register = accepted_on Today old.warehouse L cs; grown = (cs, refl); usable = h }

  stopped_in : (stop : CommandError) → IsFaultThat stop (λ fault. IsFolderStopped fault old new t) → LeavesGrown new old.warehouse L
  stopped_in (stops.Usage text) h = absurd h
  stopped_in (stops.Fault fault) h = let taken = h.taken in either_leaves (folders.handed t h.texts) (folders.handed t (h.texts ++ h.last ∷ [])) (taken.left clean L u)
  stopped_in (stops.Caused fault cause) h = let taken = h.taken in either_leaves (folders.handed t h.texts) (folders.handed t (h.texts ++ h.last ∷ [])) (taken.left clean L u)

  halted : (stop : CommandError) → IsFolderHalted old new t before later stop → LeavesGrown new old.warehouse L
  halted stop (inl silent) = stopped_in stop silent.0
  halted stop (inr untold) =
      let taken = untold.taken in
      leaves_served new old.warehouse L (serves_all (folders.handed t untold.texts) (taken.usable clean L u))

  pub performed : (r : Ready) (e : Ending) → IsPerformed old new r t before later e → IsStepped e new old.warehouse L
  performed (ready.Enrol who) e h = handed _ e h
  performed (ready.Roster partners) (Ok status) h = serves_all (enrolments t partners.items) (h.usable clean L u)
  performed (ready.Roster partners) (Err stop) h =
      either_leaves (enrolments t (take h.count partners.items)) (enrolments t (take (h.count + 1) partners.items)) (h.left clean L u)
  performed (ready.Send bytes) e h = handed _ e h
  performed (ready.Take dir) (Ok status) h = let taken = h.taken in serves_all (folders.handed t h.texts) (taken.usable clean L u)
  performed (ready.Take dir) (Err stop) h = halted stop h
  performed (ready.TakeInto inbox) (Ok status) h = let taken = h.taken in serves_all (folders.handed t h.texts) (taken.usable clean L u)
  performed (ready.TakeInto inbox) (Err stop) h = halted stop h
  performed (ready.Clerk slip) e h = handed _ e h

-- a line of a batch
module _ (reads : Reads) (old new : Standing) (before later : Option (List ℕ)) (clean : new.doubt ≡ 0) (L : List Entry) (u : IsUsable old L) where
  changed : (a : BookAct) (at : Option Moment) (e : Ending) → IsChange reads old new a at before later e → IsStepped e new old.warehouse L
  changed a at e (inl done) = performed old new done.moment before later clean L u done.ready e done.performed
  changed a at e (inr none) = let left = none.left in stepped_by e new old.warehouse L (serves_still old new L left.same clean u)

  tried : (a : BookAct) (at : Option Moment) (e : Ending) → IsTrial reads old new a at before later e → IsStepped e new old.warehouse L
  tried a at e (inl done) = stepped_by e new old.warehouse L (serves_still old new L (tried_same done.ready done.moment e done.tried) clean u)
    where
      tried_same : (r : Ready) (m : Moment) (e : Ending) → IsTriedOf old new r m before later e → IsUnchanged old new
      tried_same (ready.Enrol who) m e h = h.same
      tried_same (ready.Send bytes) m e h = h.same
      tried_same (ready.Clerk slip) m e h = h.same
      tried_same (ready.Roster partners) m e h = h.same
      tried_same (ready.Take dir) m e h = h.same
      tried_same (ready.TakeInto inbox) m e h = h.same
  tried a at e (inr none) = let left = none.left in stepped_by e new old.warehouse L (serves_still old new L left.same clean u)

  viewed : (s : Show) (e : Ending) → IsView old new s before later e → IsStepped e new old.warehouse L
  viewed s e (inl shown) = let look = shown.look in stepped_by e new old.warehouse L (serves_still old new L look.same clean u)
  viewed s e (inr none) = let left = none.left in stepped_by e new old.warehouse L (serves_still old new L left.same clean u)

  tasked : (a : Task) (e : Ending) → IsTaskDone reads old new a before later e → IsStepped e new old.warehouse L
  tasked (task.Act a at) e h = changed a at e h
  tasked (task.Try a at) e h = tried a at e h
  tasked (task.Show s) e h = viewed s e h
  tasked (task.Init who) e h = stepped_by e new old.warehouse L (serves_still old new L h.same clean u)
  tasked (task.Batch file) e h = stepped_by e new old.warehouse L (serves_still old new L h.same clean u)
  tasked (task.HandOn who dir) e h = stepped_by e new old.warehouse L (serves_still old new L h.same clean u)
  tasked (task.Verify seal) e h = stepped_by e new old.warehouse L (serves_still old new L h.same clean u)
  tasked (task.Seal first) e h = stepped_by e new old.warehouse L (serves_still old new L h.same clean u)
  tasked (task.Serve service at) e h = stepped_by e new old.warehouse L (serves_still old new L h.same clean u)

  pub lined : (w : Words) (e : Ending) → IsLineDone reads old new w before later e → IsStepped e new old.warehouse L
  lined (words.Over book wait t) e h = tasked t e h
  lined (words.Script file) e h = stepped_by e new old.warehouse L (serves_still old new L h.same clean u)
  lined (words.Remote server t) e h = stepped_by e new old.warehouse L (serves_still old new L h.same clean u)

-- the rows of a batch
module _ {K W : Type 0} (reads : Reads) (standing : K → Standing) (contents : W → Option (List ℕ)) where
  row_goes : (p : K × (W × ExitStatus)) (row : List ℕ) (q : K × (W × ExitStatus)) → IsRowDone reads standing contents p row q → GoesOn (standing p.0) (standing q.0)
  row_goes p row q h =
      let a = h.answered in
      let same = a.same in
      goes_trans (standing p.0) (standing a.left) (standing q.0) a.goes same.goes

  rows_go : (p : K × (W × ExitStatus)) (rows : List (List ℕ)) (q : K × (W × ExitStatus)) → HasPlayed reads standing contents p rows q → GoesOn (standing p.0) (standing q.0)
  rows_go p [] q e = subst (λ (r : K × (W × ExitStatus)). GoesOn (standing p.0) (standing r.0)) e (record { warehouse = refl; doubt = omega arith; refusals = omega arith })
  rows_go p (row ∷ rows) q h = goes_trans (standing p.0) (standing h.0.0) (standing q.0) (row_goes p row h.0 h.1) (rows_go h.0 rows q h.2)

  row_grows : (p : K × (W × ExitStatus)) (row : List ℕ) (q : K × (W × ExitStatus)) → IsRowDone reads standing contents p row q → (let s = standing q.0 in s.doubt ≡ 0)
      → (V : Who) → (let s = standing p.0 in s.warehouse ≡ V) → (L : List Entry) → IsUsable (standing p.0) L → ServesGrown (standing q.0) V L
  row_grows p row q h clean V named L u =
      let a = h.answered in
      let same = a.same in
      let mid = clean_before (standing a.left) (standing q.0) same.goes clean in
      let served = lined reads (standing p.0) (standing a.left) (contents p.1.0) (contents q.1.0) mid L u a.asked (Ok h.status) a.done in
      serves_after (standing a.left) (standing q.0) V L same clean (subst (λ (U : Who). ServesGrown (standing a.left) U L) named served)

  rows_grow : (p : K × (W × ExitStatus)) (rows : List (List ℕ)) (q : K × (W × ExitStatus)) → HasPlayed reads standing contents p rows q → (let s = standing q.0 in s.doubt ≡ 0)
      → (V : Who) → (let s = standing p.0 in s.warehouse ≡ V) → (L : List Entry) → IsUsable (standing p.0) L → ServesGrown (standing q.0) V L
  rows_grow p [] q e clean V named L u = record { register = L; grown = grown_still V L; usable = subst (λ (r : K × (W × ExitStatus)). IsUsable (standing r.0) L) e u }
  rows_grow p (row ∷ rows) q h clean V named L u =
      let goes = row_goes p row h.0 h.1 in
      let mid = clean_before (standing h.0.0) (standing q.0) (rows_go h.0 rows q h.2) clean in
      let one = row_grows p row h.0 h.1 mid V named L u in
      serves_on (standing q.0) V L one.register one.grown (rows_grow h.0 rows q h.2 clean V (goes.warehouse ∙ named) one.register one.usable)

  -- a row that stopped it
  stops_so : (old : K) (out : W) (row : List ℕ) (new : K) (end : W) (stop : CommandError) → IsRowStopped reads standing contents old out row new end stop → GoesOn (standing old) (standing new)
  stops_so old out row new end stop (inl unread) = let same = unread.same in same.goes
  stops_so old out row new end stop (inr a) = let same = a.same in goes_trans (standing old) (standing a.left) (standing new) a.goes same.goes

  row_leaves : (old : K) (out : W) (row : List ℕ) (new : K) (end : W) (stop : CommandError) → IsRowStopped reads standing contents old out row new end stop → (let s = standing new in s.doubt ≡ 0)
      → (L : List Entry) → IsUsable (standing old) L → (let s = standing old in LeavesGrown (standing new) s.warehouse L)
  row_leaves old out row new end stop (inl unread) clean L u = let s = standing old in leaves_served (standing new) s.warehouse L (serves_still (standing old) (standing new) L unread.same clean u)
  row_leaves old out row new end stop (inr a) clean L u =
      let s = standing old in
      let same = a.same in
      let mid = clean_before (standing a.left) (standing new) same.goes clean in
      subst (λ (k : K). LeavesGrown (standing k) s.warehouse L) (sym a.last) (lined reads s (standing a.left) (contents out) (contents end) mid L u a.asked (Err stop) a.done)

  pub played_grows : (old : K) (out : W) (rows : List (List ℕ)) (new : K) (end : W) (first status : ExitStatus) → HasPlayed reads standing contents (old, (out, first)) rows (new, (end, status))
      → (let s = standing new in s.doubt ≡ 0) → (L : List Entry) → IsUsable (standing old) L → (let s = standing old in ServesGrown (standing new) s.warehouse L)
  played_grows old out rows new end first status h clean L u = let s = standing old in rows_grow (old, (out, first)) rows (new, (end, status)) h clean s.warehouse refl L u

  pub stopped_grows : (old : K) (out : W) (rows : List (List ℕ)) (new : K) (end : W) (first : ExitStatus) (stop : CommandError) → HasStopped reads standing contents (old, (out, first)) rows new end stop
      → (let s = standing new in s.doubt ≡ 0) → (L : List Entry) → IsUsable (standing old) L → (let s = standing old in LeavesGrown (standing new) s.warehouse L)
  stopped_grows old out rows new end first stop h clean L u =
      let s = standing old in
      let q = h.reached in
      let mid = clean_before (standing q.0) (standing new) (stops_so q.0 q.1.0 h.row new end stop h.stopped) clean in
      let goes = rows_go (old, (out, first)) h.front q h.played in
      let one = rows_grow (old, (out, first)) h.front q h.played mid s.warehouse refl L u in
      leaves_on (standing new) s.warehouse L one.register one.grown
      (subst (λ (U : Who). LeavesGrown (standing new) U one.register) goes.warehouse (row_leaves q.0 q.1.0 h.row new end stop h.stopped clean one.register one.usable))

-- The connections of a server.
-- how a server's book stands: it leaves what grew, and serves with it unless it has to be opened
-- again
pub record IsGrownOn (s : Standing) (W : Who) (L : List Entry) : Type 0 where
  pub leaves : LeavesGrown s W L
  pub serves : s.shut ≡ false → ServesGrown s W L

grown_served : (s : Standing) (W : Who) (L : List Entry) → ServesGrown s W L → IsGrownOn s W L
grown_served s W L h = record { leaves = leaves_served s W L h; serves = λ opened. h }

module _ (access : Access) (old new : Standing) (clean : new.doubt ≡ 0) (L : List Entry) (u : IsUsable old L) where
  defined : (t : Moment) (submits : Option Command) (meant : List Entry → Response) (r : Response) → IsAsDefined old new t submits meant r → IsGrownOn new old.warehouse L
  defined t None meant r h = grown_served new old.warehouse L (serves_still old new L (h.kept refl) clean u)
  defined t (Some c) meant r h = grown_served new old.warehouse L record { register = after Today old.warehouse L (c, t); grown = ((c, t) ∷ [], refl); usable = h.taken c refl clean L u }

  faulted : (t : Moment) (submits : Option Command) (r : Response) → IsFaulted old new t submits r → IsGrownOn new old.warehouse L
  faulted t None r h = grown_served new old.warehouse L (serves_still old new L (h.kept refl) clean u)
  faulted t (Some c) r h = record {
    leaves = leaves_either new old.warehouse L L (after Today old.warehouse L (c, t)) (grown_still old.warehouse L) ((c, t) ∷ [], refl) (h.left c refl clean L u);
    serves = λ opened. let why = h.why in serves_still old new L (why.clean (opened ∙ sym u.opened)) clean u;
  }

  answered : (t : Moment) (submits : Option Command) (meant : List Entry → Response) (r : Response) → IsAnswered old new t submits meant r → IsGrownOn new old.warehouse L
  answered t submits meant r (inl h) = defined t submits meant r h
  answered t submits meant r (inr h) = faulted t submits r h

  served_on : (c : Connection) → IsServedOn access old new c → IsGrownOn new old.warehouse L
  served_on c h = by_outcome (c.served.outcome) h.written h.stopped
    where
      by_outcome : (o : Result ℕ Fault)
          → IfOk o (λ status. IsResponseWritten access old new h.known c.moment h.before h.later status c.served.line c.served.sender c.served.bytes c.served.is_health)
          → OnErr o (IsUnread old new h.known h.before h.later h.reads.0 h.reads.1 c.served.line c.served.sender c.served.bytes c.served.is_health
          ⊎ IsUnwritten access old new h.known c.moment h.before h.later h.writes.0 h.writes.1 c.served.line c.served.sender c.served.bytes c.served.is_health) → IsGrownOn new old.warehouse L
      by_outcome (Ok status) written stopped = let x = written.exchange in answered _ _ _ _ x.answered
      by_outcome (Err fault) written (inl unread) = grown_served new old.warehouse L (serves_still old new L unread.book clean u)
      by_outcome (Err fault) written (inr unwritten) = let x = unwritten.exchange in answered _ _ _ _ x.answered

  connected : (c : Connection) → IsConnection access old new c → IsGrownOn new old.warehouse L
  connected c h = by_peer c.peer h
    where
      by_peer : {P : Type 0} (p : Option P) → MatchOption p (IsUnchanged old new × IsNotAccepted c) (λ peer. IsServedOn access old new c) → IsGrownOn new old.warehouse L
      by_peer None k = grown_served new old.warehouse L (serves_still old new L k.0 clean u)
      by_peer (Some peer) k = served_on c k

module _ {K : Type 0} (standing : K → Standing) (access : Access) where
  abbrev Serves : K → Connection → K → Type 0
  Serves old c new = IsServed access (standing old) (standing new) c

  conns_go : (p : K) (cs : List Connection) (q : K) → FoldsTo Serves p cs q → GoesOn (standing p) (standing q)
  conns_go p [] q e = subst (λ (r : K). GoesOn (standing p) (standing r)) e (record { warehouse = refl; doubt = omega arith; refusals = omega arith })
  conns_go p (c ∷ cs) q h = let one = h.1 in goes_trans (standing p) (standing h.0) (standing q) one.goes (conns_go h.0 cs q h.2)

  grown_more : (s : Standing) (W : Who) (L M : List Entry) → IsGrown W L M → IsGrownOn s W M → IsGrownOn s W L
  grown_more s W L M g h = record { leaves = leaves_on s W L M g h.leaves; serves = λ opened. serves_on s W L M g (h.serves opened) }

  conns_grow : (p : K) (cs : List Connection) (q : K) → FoldsTo Serves p cs q → (let s = standing q in s.doubt ≡ 0) → (V : Who) → (let s = standing p in s.warehouse ≡ V)
      → (L : List Entry) → IsGrownOn (standing p) V L → IsGrownOn (standing q) V L
  conns_grow p [] q e clean V named L h = subst (λ (r : K). IsGrownOn (standing r) V L) e h
  conns_grow p (c ∷ cs) q h clean V named L grown =
      let one = h.1 in
      let goes = one.goes in
      let mid = clean_before (standing h.0) (standing q) (conns_go h.0 cs q h.2) clean in
      let was = grown.serves one.serves in
      let now = connected (access_by access c.door) (standing p) (standing h.0) mid was.register was.usable c one.became in
      conns_grow h.0 cs q h.2 clean V (goes.warehouse ∙ named) L
      (grown_more (standing h.0) V L was.register was.grown (subst (λ (U : Who). IsGrownOn (standing h.0) U was.register) named now))

  pub came_goes : (has_clock : Bool) (first : Moment) (p q : K) (total count : ℕ) → Came Serves has_clock first p q total count → GoesOn (standing p) (standing q)
  came_goes has_clock first p q total count came = conns_go p came.connections q came.served

  pub came_grows : (has_clock : Bool) (first : Moment) (p q : K) (total count : ℕ) → Came Serves has_clock first p q total count → (let s = standing q in s.doubt ≡ 0)
      → (L : List Entry) → IsUsable (standing p) L → (let s = standing p in IsGrownOn (standing q) s.warehouse L)
  came_grows has_clock first p q total count came clean L u =
      let s = standing p in
      conns_grow p came.connections q came.served clean s.warehouse refl L
      (grown_served (standing p) s.warehouse L record { register = L; grown = grown_still s.warehouse L; usable = u })

pub stays_as : {K : Type 0} (j : Job) (book : K) → StaysAs j book book
stays_as (job.Change ready moment) book = tt
stays_as (job.Make house) book = refl
stays_as (job.Try ready moment) book = tt
stays_as (job.Look asked) book = refl
stays_as (job.Play text) book = refl
stays_as (job.Listen service first has_clock file) book = refl
stays_as (job.Seal first) book = refl
stays_as (job.HandOn who dir) book = refl
stays_as (job.Check noted) book = refl

module _ {S W : Type 0} (store : Ghosts S) (contents : W → Option (List ℕ)) (old new : Opened S) (before later : W) (clean : let s = standing_of store new in s.doubt ≡ 0)
    (L : List Entry) (u : IsUsable (standing_of store old) L) where
  still : IsUnchanged (standing_of store old) (standing_of store new) → LeavesGrown (standing_of store new) old.warehouse L
  still same = leaves_served (standing_of store new) old.warehouse L (serves_still (standing_of store old) (standing_of store new) L same clean u)

  listened : (service : Service) (first : Moment) (has_clock : Bool) (e : Ending) → IsService (standing_of store) service first has_clock old new e → LeavesGrown (standing_of store new) old.warehouse L
  listened service first has_clock e h = by_ending e h
    where
      by_start : (start : Opened S) → IsUnchanged (standing_of store old) (standing_of store start) → (total count : ℕ)
          → Came (λ (a : Opened S) (c : Connection) (b : Opened S). IsServed (access_of service) (standing_of store a) (standing_of store b) c) has_clock first start new total count
          → LeavesGrown (standing_of store new) old.warehouse L
      by_start start same total count came =
          let goes = came_goes (standing_of store) (access_of service) has_clock first start new total count came in
          let mid = clean_before (standing_of store start) (standing_of store new) goes clean in
          let its = same.goes in
          let grown = came_grows (standing_of store) (access_of service) has_clock first start new total count came clean L
          (usable_stays (standing_of store old) (standing_of store start) same mid L u) in
          subst (λ (U : Who). LeavesGrown (standing_of store new) U L) its.warehouse grown.leaves

      by_ending : (e : Ending) → IsService (standing_of store) service first has_clock old new e → LeavesGrown (standing_of store new) old.warehouse L
      by_ending (Ok status) k = let served = k.0 in by_start served.0 served.1 served.2.0 served.2.1 served.2.3
      by_ending (Err stop) k = let served = k.1 in by_start served.0 served.1 served.2.0 served.2.1 served.2.3

  -- whatever the job is, it leaves a book that grew
  pub work_grows : (j : Job) (e : Ending) → IsOfBook j → IsWork (standing_of store) contents old before j new later e → LeavesGrown (standing_of store new) old.warehouse L
  work_grows (job.Make house) e of h = absurd (of house refl)
  work_grows (job.Change ready moment) (Ok status) of h =
      leaves_served (standing_of store new) old.warehouse L (performed (standing_of store old) (standing_of store new) moment (contents before) (contents later) clean L u ready (Ok status) h.1)
  work_grows (job.Change ready moment) (Err stop) of h = performed (standing_of store old) (standing_of store new) moment (contents before) (contents later) clean L u ready (Err stop) h.1
  work_grows (job.Try ready moment) e of h = still h.0
  work_grows (job.Look asked) e of h = still h.same
  work_grows (job.Seal first) e of h = still h.same
  work_grows (job.HandOn who dir) e of h = still h.0
  work_grows (job.Play text) (Ok status) of h =
      leaves_served (standing_of store new) old.warehouse L (played_grows reads_any (standing_of store) contents old before _ new later _ status h.1.0 clean L u)
  work_grows (job.Play text) (Err stop) of h = stopped_grows reads_any (standing_of store) contents old before _ new later _ stop h.1.1 clean L u
  work_grows (job.Listen service first has_clock file) e of h = listened service first has_clock e h.1
  work_grows (job.Check noted) e of h = still (subst (λ (b : Opened S). IsUnchanged (standing_of store old) (standing_of store b)) (sym h.0) (unchanged_refl (standing_of store old)))

-- the book that was closed after a job
pub record IsClosedAs (worked closed : Standing) (W : Who) (L : List Entry) : Type 0 where
  pub leaves : LeavesGrown closed W L
  pub fewer : (M : List Entry) → closed.left M → worked.left M

closed_same : {S : Type 0} (store : Ghosts S) (worked closed : Opened S) (W : Who) (L : List Entry) → closed ≡ worked → LeavesGrown (standing_of store worked) W L
    → IsClosedAs (standing_of store worked) (standing_of store closed) W L
closed_same store worked closed W L same h =
    subst (λ (b : Opened _). IsClosedAs (standing_of store worked) (standing_of store b) W L) (sym same) (record { leaves = h; fewer = λ M left. left })

closed_after : (worked closed : Standing) (W : Who) (L : List Entry) → IsUnchanged worked closed → closed.doubt ≡ 0 → ServesGrown worked W L → IsClosedAs worked closed W L
closed_after worked closed W L same clean h =
    let u = h.usable in
    record {
      leaves = leaves_served closed W L (serves_after worked closed W L same clean h);
      fewer = λ M left. same.no_more clean h.register u.keeps M left;
    }

module _ {S W : Type 0} (store : Ghosts S) (contents : W → Option (List ℕ)) (old worked closed : Opened S) (before later : W) (same : IsUnchanged (standing_of store worked) (standing_of store closed))
    (clean : let s = standing_of store closed in s.doubt ≡ 0) (L : List Entry) (u : IsUsable (standing_of store old) L) where
  was_clean : let s = standing_of store worked in s.doubt ≡ 0
  was_clean = clean_before (standing_of store worked) (standing_of store closed) same.goes clean

  pub closed_grows : (j : Job) (status : ExitStatus) → IsOfBook j → IsWork (standing_of store) contents old before j worked later (Ok status) → StaysAs j worked closed
      → IsClosedAs (standing_of store worked) (standing_of store closed) old.warehouse L
  closed_grows (job.Change ready moment) status of h stays = closed_after (standing_of store worked) (standing_of store closed) old.warehouse L same clean
      (performed (standing_of store old) (standing_of store worked) moment (contents before) (contents later) was_clean L u ready (Ok status) h.1)
  closed_grows (job.Make house) status of h stays = absurd (of house refl)
  closed_grows (job.Try ready moment) status of h stays = closed_after (standing_of store worked) (standing_of store closed) old.warehouse L same clean
      (serves_still (standing_of store old) (standing_of store worked) L h.0 was_clean u)
  closed_grows (job.Look asked) status of h stays = closed_same store worked closed _ L stays (work_grows store contents old worked before later was_clean L u (job.Look asked) (Ok status) of h)
  closed_grows (job.Seal first) status of h stays = closed_same store worked closed _ L stays (work_grows store contents old worked before later was_clean L u (job.Seal first) (Ok status) of h)
  closed_grows (job.HandOn who dir) status of h stays = closed_same store worked closed _ L stays (work_grows store contents old worked before later was_clean L u (job.HandOn who dir) (Ok status) of h)
  closed_grows (job.Play text) status of h stays = closed_same store worked closed _ L stays (work_grows store contents old worked before later was_clean L u (job.Play text) (Ok status) of h)
  closed_grows (job.Listen service first has_clock file) status of h stays =
      closed_same store worked closed _ L stays (work_grows store contents old worked before later was_clean L u (job.Listen service first has_clock file) (Ok status) of h)
  closed_grows (job.Check noted) status of h stays = closed_same store worked closed _ L stays (work_grows store contents old worked before later was_clean L u (job.Check noted) (Ok status) of h)
