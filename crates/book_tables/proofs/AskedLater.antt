-- What a second query finds, and why it fails, is told of the tables before the first.
use Rattle.std.proofs.Common.{◌≡◌, ◌≤◌, inl, inr, ℕ, List, Bool, true, false, not, length, Some, None, Result, Ok, Err, IfErr, IfOk, refl, sym, subst, arith}
use Rattle.std.specs.Prelude.{◌==◌, IsErrAnd, if◌then◌else◌}
use Rattle.sqlite.specs.Effect.{Database}
use Rattle.sqlite.specs.Order.{Row}
use Rattle.sqlite.specs.State.{State, HasCleanDisk}
use Rattle.definitions.specs.Header.{Who}
use Rattle.definitions.specs.Register.{Entry, own}
use Rattle.definitions.specs.Rows.{stock_rows, stock_of, outbox_rows, outbox_of}
use Rattle.store.specs.Fault.{Fault}
use Rattle.book_statements.specs.Asking.{Finds, IsAsked, IsAskFault}
use Rattle.book_statements.specs.Exits.{StandsWhileOpen}
use Rattle.book_statements.specs.Rises.{Rises}
use Rattle.book_statements.specs.Standing.{StandsSecond}
use Rattle.book_tables.specs.Answering.{Answers}

pub stands_later : (old mid : State) (W : Who) (L : List Entry) → HasCleanDisk mid → IsAsked old mid → StandsWhileOpen old W L → StandsWhileOpen mid W L
stands_later old mid W L clean asked stands =
    let before = asked.same clean in
    (λ o. subst (StandsSecond W L) (sym (before.now o)) (stands (before.was_open o)))

-- what is told of the rows that a later text is answered by holds of the tables before
pub answers_before : (text : List ℕ) (params : Row) (P : List Row → Type 0) (old mid : State) → HasCleanDisk mid → IsAsked old mid → Answers text params P mid → Answers text params P old
answers_before text params P old mid clean asked told =
    let before = asked.same clean in
    (before.was_open told.0, told.1, subst (λ (db : Database). Finds text params db told.1) (before.now told.0) told.2, told.3)

pub clean_before : (mid new : State) → IsAsked mid new → HasCleanDisk new → HasCleanDisk mid
clean_before mid new asked clean = omega (arith, asked.crash.clean, clean)

rises_later : (first second third : ℕ) → first ≤ second → Rises second third → Rises first third
rises_later first second third more rises = record {
  up = omega (arith, more, rises.up);
  grew = elim rises.grew [ inl less ↦ inl (omega (arith, more, less)) | inr full ↦ inr full ];
}

pub fault_later : (fault : Fault) (old mid new : State) (first second third : ℕ) → IsAsked old mid → IsAsked mid new → first ≤ second → IsAskFault fault mid new second third → IsAskFault fault old new first third
fault_later fault old mid new first second third asked later more h = record {
  store = λ is. rises_later first second third more (h.store is);
  not_this = λ is clean W L stands. h.not_this is clean W L (stands_later old mid W L (clean_before mid new later clean) asked stands);
  reopen = h.reopen;
  device = h.device;
}

-- None of a stranger, and the rows of a depositor.

pub stock_none : (L : List Entry) (who : Who) → not (length (own L who) == 0) ≡ false → None ≡ stock_of L who
stock_none L who h = by (length (own L who) == 0) h
  where
    by : (b : Bool) → not b ≡ false → None ≡ (if b then None else Some (stock_rows (own L who)))
    by true g = refl
    by false g = absurd (let e : ◌≡◌ {A = Bool} true false = g in cc)

pub stock_some : (L : List Entry) (who : Who) → not (length (own L who) == 0) ≡ true → Some (stock_rows (own L who)) ≡ stock_of L who
stock_some L who h = by (length (own L who) == 0) h
  where
    by : (b : Bool) → not b ≡ true → Some (stock_rows (own L who)) ≡ (if b then None else Some (stock_rows (own L who)))
    by true g = absurd (let e : ◌≡◌ {A = Bool} false true = g in cc)
    by false g = refl

pub outbox_none : (W : Who) (L : List Entry) (who : Who) → not (length (own L who) == 0) ≡ false → None ≡ outbox_of W L who
outbox_none W L who h = by (length (own L who) == 0) h
  where
    by : (b : Bool) → not b ≡ false → None ≡ (if b then None else Some (outbox_rows W (own L who)))
    by true g = refl
    by false g = absurd (let e : ◌≡◌ {A = Bool} true false = g in cc)

pub outbox_some : (W : Who) (L : List Entry) (who : Who) → not (length (own L who) == 0) ≡ true → Some (outbox_rows W (own L who)) ≡ outbox_of W L who
outbox_some W L who h = by (length (own L who) == 0) h
  where
    by : (b : Bool) → not b ≡ true → Some (outbox_rows W (own L who)) ≡ (if b then None else Some (outbox_rows W (own L who)))
    by true g = absurd (let e : ◌≡◌ {A = Bool} false true = g in cc)
    by false g = refl

-- what holds whatever is told
pub ok_anyway : {T E A : Type 0} (r : Result T E) → A → IfOk r (λ x. A)
ok_anyway (Ok x) a = a
ok_anyway (Err e) a = tt

-- an error that is handed on
pub err_as : {T E : Type 0} (P : E → Type 0) (r : Result T E) (e : E) → IsErrAnd r (λ f. f ≡ e) → P e → IfErr r P
err_as P (Ok x) e h p = tt
err_as P (Err f) e h p = subst P (sym h) p
