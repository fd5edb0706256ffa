-- Queries, one after another.
use Rattle.std.proofs.Common.{List, ◌≡◌, ◌∙◌, inl, inr, ℕ, Result, Ok, Err, IfErr, OnOk, arith, refl, sym, subst}
use Rattle.std.specs.Prelude.{IsErrAnd}
use Rattle.sqlite.specs.Held.{state}
use Rattle.sqlite.specs.Store.{Ghosts}
use Rattle.sqlite.specs.State.{State, HasCleanDisk}
use Rattle.sqlite.proofs.StateLemmas.{survives_weaker}
use Rattle.store.specs.Fault.{Fault}
use Rattle.store.specs.Fault.TheVariants.{OutOfMemory, Store, Reopen, NotThisBook, Device}
use Rattle.definitions.specs.Header.{Who}
use Rattle.definitions.specs.Register.{Entry}
use Rattle.book_statements.specs.Asking.{Asked, Went, IsAsked, IsAskFault}
use Rattle.book_statements.specs.Exits.{StandsWhileOpen}
use Rattle.book_statements.specs.Faults.{IsCallFault}
use Rattle.book_statements.specs.Kept.{Kept}
use Rattle.book_statements.specs.Limits.{Called, CalledOrNone}
use Rattle.book_statements.specs.Rises.{Rises}
use Rattle.book_statements.proofs.Asked.{asked_twice}
use Rattle.book_tables.proofs.AskedLater.{fault_later}
use Rattle.book_tables.proofs.OwnEntries.{shows_none}
use Rattle.book_statements.proofs.Limited.{spends_none, counts_both, none_after}
use Rattle.book_statements.proofs.StepLemmas.{on_ok}
use Rattle.book_statements.proofs.Writes.{same_survives}

-- a query that failed for want of memory
pub memory_fault : (f : Fault) (old new : State) (refused more : ℕ) → f ≡ OutOfMemory → IsAskFault f old new refused more
memory_fault f old new refused more is = record {
  store = λ e. absurd (let d : ◌≡◌ {A = Fault} OutOfMemory Store = sym is ∙ e in cc);
  not_this = λ e. absurd (let d : ◌≡◌ {A = Fault} OutOfMemory NotThisBook = sym is ∙ e in cc);
  reopen = λ e. let d : ◌≡◌ {A = Fault} OutOfMemory Reopen = sym is ∙ e in cc;
  device = λ e. let d : ◌≡◌ {A = Fault} OutOfMemory Device = sym is ∙ e in cc;
}

err_is : {T : Type 0} (f g : Fault) → ◌≡◌ {A = Result T Fault} (Err f) (Err g) → f ≡ g
err_is f g e = cc e

-- calls that found a book, and others after them, of which one was refused
pub refused_after : {S T U V : Type 0} (a b c : Kept S) (t : T) (f : Fault) (r : Result V Fault) → CalledOrNone {T = T} a b (Ok t) → Called {T = U} b c (Err f) → IsErrAnd r (λ g. g ≡ f) → CalledOrNone a c r
refused_after a b c t f (Ok v) one two is = absurd is
refused_after a b c t f (Err g) one two is = record {
  named = inr (subst IsCallFault (sym is) two.named);
  counted = λ _. subst (λ n. Rises n c.refused) one.uncounted two.counted;
  uncounted = tt;
  uncounted_none = λ none. never (err_is g NotThisBook none) two.named;
  limit = counts_both a b c one.limit two.limit;
  allowed = tt;
}
  where
    never : {A : Type 0} → g ≡ NotThisBook → IsCallFault f → A
    never e (inl h) = absurd (let d : ◌≡◌ {A = Fault} OutOfMemory NotThisBook = sym h ∙ sym is ∙ e in cc)
    never e (inr h) = absurd (let d : ◌≡◌ {A = Fault} Store NotThisBook = sym h ∙ sym is ∙ e in cc)

always_ok : {T E : Type 0} {A : Type 0} (r : Result T E) → A → OnOk r A
always_ok (Ok x) a = a
always_ok (Err e) a = tt

if_err : {T E : Type 0} {P Q : E → Type 0} (r : Result T E) → ((e : E) → P e → Q e) → IfErr r P → IfErr r Q
if_err (Ok x) f h = tt
if_err (Err e) f h = f e h

if_error : {T E : Type 0} {P Q : E → Type 0} (r : Result T E) → ((e : E) → P e → Q e) → IsErrAnd r P → IfErr r Q
if_error (Ok x) f h = tt
if_error (Err e) f h = f e h

never_ok : {T E : Type 0} (A : Type 0) (P : E → Type 0) (r : Result T E) → IsErrAnd r P → OnOk r A
never_ok A P (Ok x) h = absurd h
never_ok A P (Err e) h = tt

unasked : (s : State) → IsAsked s s
unasked s = record {
  same = λ clean. record { was_open = λ h. h; now = λ _. refl; committed = λ _. refl };
  crash = survives_weaker s s _ _ (λ _ db none. absurd none) (same_survives s);
}

module _ {S : Type 0} (store : Ghosts S) where
  -- what failed for want of memory before it asked anything
  pub asked_none : {T : Type 0} (s : Kept S) (r : Result T Fault) → IsErrAnd r (λ f. f ≡ OutOfMemory) → Asked store s s r
  asked_none s r is = record {
    left = unasked (state store s.conn);
    fault = if_error r (λ f e. memory_fault f (state store s.conn) (state store s.conn) s.refused s.refused e) is;
    counts = omega arith;
    uncounted = never_ok _ _ r is;
    limit = spends_none s.made s.limit;
    allowed = never_ok _ _ r is;
  }

  -- what is made of the rows of a query that answered: Ok, or why it fails
  pub asked_then : {T U : Type 0} (old new : Kept S) (t : T) (r : Result U Fault) → Asked {T = T} store old new (Ok t) → IfErr r (λ f. IsAskFault f (state store old.conn) (state store new.conn) old.refused new.refused)
      → Asked store old new r
  asked_then old new t r asked fault = record {
    left = asked.left;
    fault = fault;
    counts = asked.counts;
    uncounted = always_ok r asked.uncounted;
    limit = asked.limit;
    allowed = always_ok r asked.allowed;
  }

  -- the rows of a query show nothing that tables would show which stand for a register
  pub asked_wrong : {T U : Type 0} (old new : Kept S) (t : T) → Asked {T = T} store old new (Ok t)
      → (HasCleanDisk (state store new.conn) → (W : Who) (L : List Entry) → StandsWhileOpen (state store old.conn) W L → ⊥) → Asked {T = U} store old new (Err NotThisBook)
  asked_wrong old new t asked never = asked_then old new t (Err NotThisBook) asked (shows_none (state store old.conn) (state store new.conn) old.refused new.refused never)

  -- no memory for what is made of the rows
  pub asked_short : {T U : Type 0} (old new : Kept S) (t : T) (r : Result U Fault) → IsErrAnd r (λ f. f ≡ OutOfMemory) → Asked {T = T} store old new (Ok t) → Asked store old new r
  asked_short old new t r is asked = asked_then old new t r asked (if_error r (λ f e. memory_fault f (state store old.conn) (state store new.conn) old.refused new.refused e) is)

  -- an error that is handed on
  pub asked_fails : {T U : Type 0} (old new : Kept S) (f : Fault) (r : Result U Fault) → IsErrAnd r (λ g. g ≡ f) → Asked {T = T} store old new (Err f) → Asked store old new r
  asked_fails old new f r is asked = record {
    left = asked.left;
    fault = if_error r (λ g e. subst (λ h. IsAskFault h (state store old.conn) (state store new.conn) old.refused new.refused) (sym e) asked.fault) is;
    counts = asked.counts;
    uncounted = never_ok _ _ r is;
    limit = asked.limit;
    allowed = never_ok _ _ r is;
  }

  -- one after another
  pub went_of : {T : Type 0} (old new : Kept S) (r : Result T Fault) → Asked store old new r → Went store old new r
  went_of old new r asked = record { left = asked.left; fault = asked.fault; counts = asked.counts; uncounted = asked.uncounted; limit = asked.limit }

  pub went_none : {T : Type 0} (s : Kept S) (t : T) → Went {T = T} store s s (Ok t)
  went_none s t = record { left = unasked (state store s.conn); fault = tt; counts = omega arith; uncounted = refl; limit = spends_none s.made s.limit }

  pub went_on : {T U : Type 0} (a b c : Kept S) (t : T) (r : Result U Fault) → Went {T = T} store a b (Ok t) → Went store b c r → Went store a c r
  went_on a b c t r one two = record {
    left = asked_twice (state store a.conn) (state store b.conn) (state store c.conn) one.left two.left;
    fault = if_err r (λ f h. fault_later f (state store a.conn) (state store b.conn) (state store c.conn) a.refused b.refused c.refused one.left two.left one.counts h) two.fault;
    counts = omega (arith, one.counts, two.counts);
    uncounted = on_ok r (λ e. e ∙ one.uncounted) two.uncounted;
    limit = counts_both a b c one.limit two.limit;
  }

  -- another answer of the same queries
  pub went_as : {T U : Type 0} (old new : Kept S) (t : T) (u : U) → Went {T = T} store old new (Ok t) → Went {T = U} store old new (Ok u)
  went_as old new t u went = record { left = went.left; fault = tt; counts = went.counts; uncounted = went.uncounted; limit = went.limit }

  pub went_fails : {T U : Type 0} (old new : Kept S) (f : Fault) (r : Result U Fault) → IsErrAnd r (λ g. g ≡ f) → Went {T = T} store old new (Err f) → Went store old new r
  went_fails old new f r is went = record {
    left = went.left;
    fault = if_error r (λ g e. subst (λ h. IsAskFault h (state store old.conn) (state store new.conn) old.refused new.refused) (sym e) went.fault) is;
    counts = went.counts;
    uncounted = never_ok _ _ r is;
    limit = went.limit;
  }

  -- a query, and then others
  pub asked_went : {T U : Type 0} (a b c : Kept S) (t : T) (r : Result U Fault) → Asked {T = T} store a b (Ok t) → Went store b c r → Asked store a c r
  asked_went a b c t r one two =
      let both = went_on a b c t r (went_of a b (Ok t) one) two in
      record { left = both.left; fault = both.fault; counts = both.counts; uncounted = both.uncounted; limit = both.limit; allowed = always_ok r one.allowed }

  pub asked_on : {T U : Type 0} (a b c : Kept S) (t : T) (r : Result U Fault) → Asked {T = T} store a b (Ok t) → Asked store b c r → Asked store a c r
  asked_on a b c t r one two = asked_went a b c t r one (went_of b c r two)

  -- queries, and then one more: where that was allowed, so was the first
  pub went_asked : {T U : Type 0} (a b c : Kept S) (t : T) (r : Result U Fault) → Went {T = T} store a b (Ok t) → Asked store b c r → Asked store a c r
  went_asked a b c t r one two =
      let both = went_on a b c t r one (went_of b c r two) in
      record {
        left = both.left;
        fault = both.fault;
        counts = both.counts;
        uncounted = both.uncounted;
        limit = both.limit;
        allowed = on_ok r (λ some none. some (none_after a.made b.made a.limit b.limit one.limit none)) two.allowed;
      }

  -- queries, and then no memory
  pub went_short : {T U : Type 0} (old new : Kept S) (t : T) → Went {T = T} store old new (Ok t) → Asked {T = U} store old new (Err OutOfMemory)
  went_short old new t went = record {
    left = went.left;
    fault = memory_fault OutOfMemory (state store old.conn) (state store new.conn) old.refused new.refused refl;
    counts = went.counts;
    uncounted = tt;
    limit = went.limit;
    allowed = tt;
  }
