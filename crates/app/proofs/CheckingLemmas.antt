-- What a check of the book in a database leaves of this, and when it says that this is no book.
use Rattle.std.proofs.Common.{◌≡◌, ◌⊎◌, inl, inr, IsTrue, ℕ, Bool, true, false, List, Some, None, Result, Ok, Err, IfOk, IfErr, IsErrAnd, refl, sym, ap, subst, ◌∙◌, arith}
use Rattle.std.specs.Prelude.{Option}
use Rattle.sqlite.specs.Schema.{Schema}
use Rattle.sqlite.specs.declared.error.Error.{Error}
use Rattle.sqlite.specs.Effect.{Database, IsDatabase}
use Rattle.sqlite.specs.State.{State, HasCleanDisk, IsLive, Opens}
use Rattle.sqlite.specs.Tree.{Trees}
use Rattle.sqlite_catalog.specs.Listing.{IsSound}
use Rattle.sqlite.specs.Steps.{FailsToOpen}
use Rattle.sqlite_trees.specs.declared.error.StoreError.TheVariants as why
use Rattle.definitions.specs.declared.rules.Rules.{Rules}
use Rattle.definitions.specs.Rules.{Today}
use Rattle.definitions.specs.Header.{Who}
use Rattle.definitions.specs.Register.{Entry}
use Rattle.store.specs.Fault.{Fault}
use Rattle.store.specs.Fault.TheVariants as faults
use Rattle.store.specs.Fault.TheVariants.{NotThisBook}
use Rattle.store.specs.Standing.{Standing, IsQueryFault, IsUsable}
use Rattle.book_statements.specs.Asking.{IsAsked, IsOfFirst}
use Rattle.book_statements.specs.Carrying.{StandsInAs, StandsOpenAs}
use Rattle.book_statements.specs.Layout.{IsLayout}
use Rattle.book_statements.specs.Standing.{StandsIn}
use Rattle.book_tables.specs.Comparing.{AreTables, IsLaid}
use Rattle.book_tables.specs.Reopening.{FailsToReopen}
use Rattle.books.specs.Keeping.{standing_in}
use Rattle.commands.specs.declared.told.CommandError.{CommandError}
use Rattle.commands.specs.declared.told.CommandError.TheVariants as stops
use Rattle.commands.specs.Stops.{IsReasonStopped, fault_in}
use Rattle.seals.specs.declared.beginning.Beginning.{Beginning}
use Rattle.sqlite.specs.Held.{Held}
use Rattle.sqlite.specs.Store.{Ghosts}
use Rattle.app.specs.Checking.{AreReadThrough, IsCheckStopped, IsWholeNow, StaysCommitted, TellsWhole, WasFirst, begins_as, committed_trees}
use Rattle.app.specs.Unchecked.{IsLeftUnchecked}
use Rattle.app.specs.Faults.{fault_of}
use Rattle.app.proofs.StopLemmas.{sound_once, stands_as_read}

-- of an Ok, or of an error, that is handed on
pub ok_two : {T E : Type 0} {P Q R : T → Type 0} (r : Result T E) → ((t : T) → P t → Q t → R t) → IfOk r P → IfOk r Q → IfOk r R
ok_two (Ok t) f p q = f t p q
ok_two (Err e) f p q = tt

pub ok_three : {T E : Type 0} {P Q R U : T → Type 0} (r : Result T E) → ((t : T) → P t → Q t → R t → U t) → IfOk r P → IfOk r Q → IfOk r R → IfOk r U
ok_three (Ok t) f p q r = f t p q r
ok_three (Err e) f p q r = tt

pub err_as : {T E : Type 0} {P Q : E → Type 0} (r : Result T E) → ((e : E) → P e → Q e) → IfErr r P → IfErr r Q
err_as (Ok t) f p = tt
err_as (Err e) f p = f e p

pub some_is : (f g : Fault) → Some f ≡ Some g → f ≡ g
some_is f g e = cc e

-- trees that couldn't be opened anew are told to be no book where they are no database, or the disk
-- told of a fault
unopened : (db : Trees) (fault : Type 0) (e : Error) → FailsToOpen db fault e → fault_of e ≡ NotThisBook → (s : Schema) × IsSound s db → fault
unopened db fault e (inl none) is sound = absurd (none.1 sound.0 sound.1)
unopened db fault e (inr (why.OutOfMemory, told, h)) is sound = absurd (let d : ◌≡◌ {A = Fault} faults.OutOfMemory NotThisBook = sym (ap fault_of told) ∙ is in cc)
unopened db fault e (inr (why.Io, told, h)) is sound = h
unopened db fault e (inr (why.Corrupt, told, h)) is sound = h
unopened db fault e (inr (why.Full, told, h)) is sound = h
unopened db fault e (inr (why.Broken, told, h)) is sound = absurd h
unopened db fault e (inr (why.Unstorable, told, h)) is sound = absurd h

pub unread : (old : State) (fault : Type 0) (e : Error) → FailsToReopen old fault e → fault_of e ≡ NotThisBook → (IsTrue old.is_open → (s : Schema) × IsSound s (committed_trees old)) → fault
unread old fault e fails is sound = elim fails [
  | inl shut ↦ absurd (let d : ◌≡◌ {A = Fault} faults.Device NotThisBook = sym (ap fault_of shut.0) ∙ is in cc)
  | inr opening ↦ unopened (committed_trees old) fault e opening.1 is (sound opening.0)
]

-- queries leave no more
pub less : (old new : State) → IsAsked old new → HasCleanDisk new → (db : Trees) → new.may_leave db → old.may_leave db
less old new asked clean db may = elim (asked.crash.crash clean db may) [ inl early ↦ early | inr none ↦ absurd none ]

-- tables that were read anew stand for the register that what was committed stands for
pub stood_anew : (old new : State) (q : Rules) (W : Who) (L : List Entry) → Opens new × IsLive new → (let db = new.now in db.trees) ≡ committed_trees old → StandsInAs q W L (committed_trees old) → StandsOpenAs q new W L
stood_anew old new q W L opens same stands =
    λ here. stands_as_read q W L _ _ (opens.1 here).0 (subst (StandsInAs q W L) (sym same) stands)

-- and are of version 1 only where that is
pub first_anew : (old new : State) → Opens new × IsLive new → (let db = new.now in db.trees) ≡ committed_trees old → (WasFirst old → ⊥) → IsOfFirst new.now → ⊥
first_anew old new opens same second first =
    let here = let o = opens.0 in o.is_open in
    second (new.now, (opens.1 here).0, same, first)

-- tables that were read anew, and then asked
pub read_through : (mid new : State) → Opens mid × IsLive mid → (IsLaid mid → AreTables mid.now) → IsAsked mid new → HasCleanDisk new → AreReadThrough new
read_through mid new opens tables asked clean =
    let before = asked.same clean in
    let opened = opens.0 in
    record {
      sound = λ here. subst IsDatabase (sym (before.now here)) (opens.1 opened.is_open).0;
      rest = λ here. before.now here ∙ opened.clean ∙ sym (before.committed here);
      rows = λ laid here. subst (λ (d : Database). AreTables d) (sym (before.now here)) (tables (λ _. subst (λ (d : Database). IsLayout d.schema) (before.now here) (laid here)));
    }

-- what a crash may leave of a usable book stands for its register
pub stands_left : (s : State) (V W : Who) (n refused : ℕ) (shut : Bool) (L : List Entry) → IsUsable (standing_in s V n refused shut) L → V ≡ W → (db : Trees) → s.may_leave db → StandsIn W L db
stands_left s V W n refused shut L usable same db may =
    let it = usable.stand db may in
    subst (λ (U : Who). StandsIn U L db) same (subst (λ (M : List Entry). StandsIn V M db) (usable.only it.0 (db, may, it.1)) it.1)

-- and so do its tables, read anew
pub stands_again : (s t : State) (V W : Who) (n refused : ℕ) (shut : Bool) (L : List Entry) → IsUsable (standing_in s V n refused shut) L → V ≡ W → Opens t × IsLive t → ((db : Trees) → t.may_leave db → s.may_leave db)
    → t.may_leave (committed_trees t) → StandsOpenAs Today t W L
stands_again s t V W n refused shut L usable same opens down stays = λ here.
    let opened = opens.0 in
    let there = stands_left s V W n refused shut L usable same (committed_trees t) (down (committed_trees t) stays) in
    stands_as_read Today W L _ _ (opens.1 here).0 (subst (StandsIn W L) (sym (ap (λ (d : Database). d.trees) opened.clean)) there)

-- a database with the same trees is the same
pub same_database : (a b : Database) → IsDatabase a → IsDatabase b → a.trees ≡ b.trees → a ≡ b
same_database a b one two same =
    let schema : a.schema ≡ b.schema = sound_once b.trees a.schema b.schema (subst (IsSound a.schema) same one) two in
    subst (λ (t : Trees). ◌≡◌ {A = Database} a (record { schema = b.schema; trees = t })) same (subst (λ (s : Schema). ◌≡◌ {A = Database} a (record { schema = s; trees = a.trees })) schema refl)

-- what was committed stays so while a book is asked
pub still_committed : (old mid new : State) → StaysCommitted old mid → IsAsked mid new → StaysCommitted old new
still_committed old mid new stays asked = record {
  committed = λ clean second here.
      let up = asked.crash in
      let early : HasCleanDisk mid = omega (arith, up.clean, clean) in
      let before = asked.same clean in
      ap (λ (d : Database). d.trees) (before.committed here) ∙ stays.committed early second (before.was_open here);
  no_more = λ clean second db may.
      let up = asked.crash in
      let early : HasCleanDisk mid = omega (arith, up.clean, clean) in
      stays.no_more early second db (less mid new asked clean db may);
}

-- Tables were read anew, asked, and carried over if they were of version 1: what was committed is so
-- still if they weren't.
module _ (t back b : State) (opens : Opens t × IsLive t) (asked : IsAsked t back) (clean : HasCleanDisk back) where
  pub second_back : (IsOfFirst t.now → ⊥) → IsTrue back.is_open → IsOfFirst back.now → ⊥
  second_back second here first = let before = asked.same clean in second (subst IsOfFirst (before.now here) first)

  module _ (settled : (db : Trees) → t.may_leave db → db ≡ committed_trees t) (through : AreReadThrough b) (stays : IsTrue b.is_open → b.may_leave (committed_trees b))
      (no_more : (IsTrue back.is_open → IsOfFirst back.now → ⊥) → (db : Trees) → b.may_leave db → back.may_leave db) (second : IsOfFirst t.now → ⊥) (here : IsTrue b.is_open) where
    pub same_committed : committed_trees b ≡ committed_trees t
    same_committed = settled (committed_trees b) (less t back asked clean (committed_trees b) (no_more (second_back second) (committed_trees b) (stays here)))

    pub same_now : b.now ≡ t.now
    same_now =
        let opened = opens.0 in
        let trees = ap (λ (d : Database). d.trees) (through.rest here) ∙ same_committed ∙ sym (ap (λ (d : Database). d.trees) opened.clean) in
        same_database b.now t.now (through.sound here) (opens.1 opened.is_open).0 trees

-- what is told of tables that were read through holds of what is committed after a query
pub whole_now : (mid new : State) (before later : Option (List ℕ)) → AreReadThrough mid → IsAsked mid new → HasCleanDisk new
    → (IsLaid mid → (IsTrue mid.is_open → AreTables mid.now) → IsTrue mid.is_open × TellsWhole mid.now before later) → IsWholeNow new before later
whole_now mid new before later through asked clean told =
    let was = asked.same clean in
    let same : (here : IsTrue new.is_open) → mid.now ≡ new.committed = λ here. through.rest (was.was_open here) ∙ sym (was.committed here) in
    record {
      sound = λ here. subst IsDatabase (same here) (through.sound (was.was_open here));
      told = λ here laid.
          let is_laid : IsLaid mid = λ _. subst (λ (d : Database). IsLayout d.schema) (sym (same here)) laid in
          subst (λ (d : Database). TellsWhole d before later) (same here) (told is_laid (λ opened. through.rows is_laid opened)).1;
    }

-- a check that is stopped says that a book isn't this one only where a query does
pub said_of : (old new : Standing) (stop : CommandError) → IsReasonStopped old new stop → fault_in stop ≡ Some NotThisBook → IsQueryFault NotThisBook old new
said_of old new (stops.Usage text) h is = absurd (cc is)
said_of old new (stops.Fault fault) h is = elim h [
  | inl told ↦ subst (λ f. IsQueryFault f old new) (some_is fault NotThisBook is) told
  | inr device ↦ absurd (never fault (some_is fault NotThisBook is) device)
]
  where
    never : (f : Fault) → f ≡ NotThisBook → (stops.Fault f ≡ stops.Fault faults.OutOfMemory) ⊎ (stops.Fault f ≡ stops.Fault faults.Device) → ⊥
    never f this (inl memory) = let d : ◌≡◌ {A = CommandError} (stops.Fault NotThisBook) (stops.Fault faults.OutOfMemory) = ap stops.Fault (sym this) ∙ memory in cc
    never f this (inr device) = let d : ◌≡◌ {A = CommandError} (stops.Fault NotThisBook) (stops.Fault faults.Device) = ap stops.Fault (sym this) ∙ device in cc
said_of old new (stops.Caused fault cause) h is = elim h [
  | inl told ↦ subst (λ f. IsQueryFault f old new) (some_is fault NotThisBook is) told
  | inr device ↦ absurd (elim device [ inl e ↦ cc e | inr e ↦ cc e ])
]

-- or where its register doesn't begin as it was noted
pub other_begins : (noted : Option Beginning) (old new : Standing) (stop : CommandError) → IsCheckStopped noted old new stop → fault_in stop ≡ Some NotThisBook
    → new.doubt ≡ 0 → (L : List Entry) → old.keeps L → begins_as noted L ≡ false
other_begins noted old new stop (inl h) is clean L keeps = let why = said_of old new stop h is in absurd (why.not_this refl clean L keeps)
other_begins noted old new stop (inr h) is clean L keeps = h.other clean L keeps

-- what is left where nothing was noted is left whatever was
unnoted : {fault : Type 0} (noted : Option Beginning) (L : List Entry) → fault ⊎ (begins_as None L ≡ false) → fault ⊎ (begins_as noted L ≡ false)
unnoted noted L (inl fault) = inl fault
unnoted noted L (inr never) = absurd (let d : true ≡ false = never in cc)

pub left_any : {S : Type 0} (store : Ghosts S) (database : Held S) (noted : Option Beginning) (stop : CommandError) → IsLeftUnchecked store database None stop → IsLeftUnchecked store database noted stop
left_any store database noted stop h = record {
  left = h.left;
  clean = h.clean;
  not_this = λ clean is q W L stands. unnoted noted L (h.not_this clean is q W L stands);
  no_more = h.no_more;
}

-- what holds of an error holds of a result that is this error
pub same_stop : {T E : Type 0} (r : Result T E) (stop : E) (P : E → Type 0) → IsErrAnd r (λ e. e ≡ stop) → P stop → IfErr r P
same_stop (Ok x) stop P is p = tt
same_stop (Err e) stop P is p = subst P (sym is) p
