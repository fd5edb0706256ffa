-- What each transaction comes to, by what was written in it and how it ended.
use Rattle.std.proofs.Common.{◌≡◌, ℕ, Bool, true, not, List, [], ◌∷◌, ◌++◌, length, IsTrue, ap, subst, sym, ◌∙◌, Result, Ok}
use Rattle.sqlite.specs.Held.{Held, state}
use Rattle.sqlite.specs.Store.{Ghosts}
use Rattle.sqlite.specs.Tree.{Trees}
use Rattle.sqlite.specs.State.{State, IsLive}
use Rattle.definitions.specs.declared.rules.Rules.TheVariants.{One, Two}
use Rattle.definitions.specs.Accepted.{IsLegal}
use Rattle.definitions.specs.Header.{Who, who_text}
use Rattle.definitions.specs.Register.{Entry}
use Rattle.rules.specs.Written.{Written}
use Rattle.rules.specs.Tabled.{table_changes}
use Rattle.rules.specs.Change as stock
use Rattle.store.specs.Fault.{Fault}
use Rattle.book_statements.specs.declared.calls.Calls.{Calls}
use Rattle.book_statements.specs.Appending.{Appends, entry_changes}
use Rattle.book_statements.specs.Carrying.{CarriesOver, StandsOpenAs}
use Rattle.book_statements.specs.Layout.{no_layout}
use Rattle.book_statements.specs.Leading.{Leads}
use Rattle.book_statements.specs.Limits.{Called}
use Rattle.book_statements.specs.Making.{Makes, HasBook}
use Rattle.book_statements.specs.Exits.{IsAppended, HasGrown, StandsWithEntry}
use Rattle.book_statements.specs.Standing.{StandsIn}
use Rattle.book_statements.specs.Writing.{Wrote, Ended}
use Rattle.book_statements.proofs.CreateLemmas.{stands_empty}
use Rattle.book_transactions.specs.Whole.{IsWhole, counted_by}
use Rattle.book_transactions.proofs.Growing.{grown, grown_now, stands_in}
use Rattle.book_transactions.proofs.Ending.{one_ok, one_left, one_err, one_crash, one_called}

-- A transaction begins on a connection that is `first`, what is wanted of it is written up to
-- `last`, and it ends over `later`. That nothing was done before it begins or after what is wanted
-- was written is said by equations, and not by the names of calls.
module _ {S T U : Type 0} {last later : State} {x y w z : Calls} {Done : Type 0} {u : U} {r : Result T Fault} {b : Bool} (store : Ghosts S) (old : Held S) {first begun new final : Held S}
    (at : final ≡ new) (is : begun ≡ record first { in_transaction = true }) (value : b ≡ not (state store first).in_transaction)
    (wrote : Wrote {T = U} Done (state store begun) last x y (Ok u)) (ended : Ended later (state store new) w z r) (same : first ≡ old) (nothing_more : later ≡ last) (none_more : w ≡ y) where
  ended_there : Ended last (state store new) y z r
  ended_there = rw (← nothing_more, ← none_more) ended

  -- by what an Ok tells of the writes, and what stands where they are committed
  whole : (A : Held S → State → Type 0) (M : Held S → Trees → Type 0) → (IsTrue b → IsTrue (state store first).is_open → (state store first).now ≡ (state store first).committed) → IsTrue b
      → (Done → (state store new).now ≡ last.now → A first (state store new)) → (Done → (db : Trees) → db ≡ last.now.trees → M first db)
      → IsWhole (A old (state store final)) (M old) (state store old) (state store final) r
  whole A M settled sure ok crash = rw (at, ← same) (record {
    ok = one_ok store first begun new is wrote ended_there ok;
    left = one_left store first begun new is wrote ended_there;
    err = one_err store first begun new is wrote ended_there (settled sure);
    crash = one_crash store first begun new is wrote ended_there (M first) crash;
  })

  -- what its calls tell
  pub called : (before : Calls) → x ≡ before → Called (counted_by old before) (counted_by final z) r
  called before counted = rw (at, ← same, ← counted) (one_called store first begun new is wrote ended_there)

-- an entry: what was done for it, and what that comes to
abbrev Appended : State → State → ℕ → List ℕ → Written → List stock.Change → List ℕ → Type 0
Appended begun last seq who row cs text = IsTrue begun.is_open
    × ((W : Who) (L : List Entry) (e : Entry) → who ≡ who_text e.who → Appends W L e seq row cs text → Leads (entry_changes W L e ++ table_changes e.who cs) begun.now last.now)

abbrev Grows : State → State → ℕ → List ℕ → Written → List stock.Change → List ℕ → Type 0
Grows old new seq who row cs text = (W : Who) (L : List Entry) (e : Entry) → IsAppended old W L e seq who row cs text → HasGrown new W (L ++ e ∷ [])

module _ {S T U : Type 0} {last later : State} {x y w z : Calls} {u : U} {r : Result T Fault} {b : Bool} (store : Ghosts S) (old : Held S) {first begun new final : Held S}
    (at : final ≡ new) (is : begun ≡ record first { in_transaction = true }) (value : b ≡ not (state store first).in_transaction) where
  pub appended : {seq : ℕ} {who : List ℕ} {row : Written} {cs : List stock.Change} {text : List ℕ} → Wrote {T = U} (Appended (state store begun) last seq who row cs text) (state store begun) last x y (Ok u)
      → Ended later (state store new) w z r → first ≡ old → later ≡ last → w ≡ y
      → (IsTrue b → IsTrue (state store first).is_open → (state store first).now ≡ (state store first).committed) → IsTrue b → IsLive (state store first)
      → IsWhole (Grows (state store old) (state store final) seq who row cs text) (StandsWithEntry (state store old) seq who row cs text) (state store old) (state store final) r
  appended {seq} {who} {row} {cs} {text} wrote ended same nothing_more none_more settled sure live =
      let grows : Appended (state store begun) last seq who row cs text → Grows (state store first) last seq who row cs text
      = λ did. grown (state store first) (state store begun) last seq who row cs text (ap (λ (h : Held S). (state store h).now) is)
      (subst (λ (h : Held S). IsTrue (state store h).is_open) is did.0) live did.1 in
      whole store old at is value wrote ended same nothing_more none_more (λ h s. Grows (state store h) s seq who row cs text) (λ h. StandsWithEntry (state store h) seq who row cs text) settled sure
      (λ did now_is W L e it. grown_now last (state store new) W _ now_is (grows did W L e it))
      (λ did db now_is W L e it. stands_in db last W _ now_is (grows did W L e it))

  -- the tables of an empty register
  pub made : {W : Who} → Wrote {T = U} ((state store begun).now.schema ≡ no_layout → HasBook W.qualifier W.id last.now) (state store begun) last x y (Ok u)
      → Ended later (state store new) w z r → first ≡ old → later ≡ last → w ≡ y
      → (IsTrue b → IsTrue (state store first).is_open → (state store first).now ≡ (state store first).committed) → IsTrue b
      → IsWhole (Makes (state store old) (state store final) W) (λ db. IsLegal Two W [] → (state store old).now.schema ≡ no_layout → StandsIn W [] db) (state store old) (state store final) r
  made {W} wrote ended same nothing_more none_more settled sure =
      let schema : (state store begun).now.schema ≡ (state store first).now.schema = ap (λ (h : Held S). h.schema) is in
      whole store old at is value wrote ended same nothing_more none_more (λ h s. Makes (state store h) s W) (λ h db. IsLegal Two W [] → (state store h).now.schema ≡ no_layout → StandsIn W [] db) settled sure
      (λ did now_is legal none. grown_now last (state store new) W [] now_is (stands_empty W last legal (did (schema ∙ none))))
      (λ did db now_is legal none. stands_in db last W [] now_is (stands_empty W last legal (did (schema ∙ none))))

  -- a register of version 1 in version 2
  pub carried : {entries : ℕ} → Wrote {T = U} (IsLive (state store begun) → CarriesOver entries (state store begun) last) (state store begun) last x y (Ok u)
      → Ended later (state store new) w z r → first ≡ old → later ≡ last → w ≡ y
      → (IsTrue b → IsTrue (state store first).is_open → (state store first).now ≡ (state store first).committed) → IsTrue b → IsLive (state store first)
      → IsWhole (CarriesOver entries (state store old) (state store final)) (λ db. (W : Who) (L : List Entry) → entries ≡ length L → StandsOpenAs One (state store old) W L → StandsIn W L db)
      (state store old) (state store final) r
  carried {entries} wrote ended same nothing_more none_more settled sure live =
      let carries : (IsLive (state store begun) → CarriesOver entries (state store begun) last) → CarriesOver entries (state store first) last
      = λ did W L count stands. did (subst (λ (h : Held S). IsLive (state store h)) (sym is) live) W L count (subst (λ (h : Held S). StandsOpenAs One (state store h) W L) (sym is) stands) in
      whole store old at is value wrote ended same nothing_more none_more (λ h s. CarriesOver entries (state store h) s)
      (λ h db. (W : Who) (L : List Entry) → entries ≡ length L → StandsOpenAs One (state store h) W L → StandsIn W L db) settled sure
      (λ did now_is W L count stands. grown_now last (state store new) W L now_is (carries did W L count stands))
      (λ did db now_is W L count stands. stands_in db last W L now_is (carries did W L count stands))
