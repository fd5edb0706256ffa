-- The tables grow by an entry.
use Rattle.std.proofs.Common.{◌≡◌, ℕ, List, [], ◌∷◌, ◌++◌, IsTrue, sym, subst, ◌∙◌}
use Rattle.sqlite.specs.Tree.{Trees}
use Rattle.sqlite.specs.Effect.{IsDatabase}
use Rattle.sqlite.specs.State.{State, IsLive, HasCleanDisk, Survives}
use Rattle.sqlite.proofs.StateLemmas.{survives_then}
use Rattle.definitions.specs.Header.{Who, who_text}
use Rattle.definitions.specs.Register.{Entry}
use Rattle.rules.specs.Written.{Written}
use Rattle.rules.specs.Tabled.{table_changes}
use Rattle.rules.specs.Change as stock
use Rattle.book_statements.specs.Appending.{Appends, entry_changes}
use Rattle.book_statements.specs.Leading.{Leads, Keeps}
use Rattle.book_statements.specs.Standing.{Filled, filled, StandsSecond, StandsIn}
use Rattle.book_statements.specs.Exits.{IsAppended, HasGrown}
use Rattle.book_statements.proofs.AppendingLemmas.{led_on, same_named}

-- what stands in the transaction before it is committed
pub grown : (old begun last : State) (seq : ℕ) (who : List ℕ) (row : Written) (cs : List stock.Change) (text : List ℕ) → begun.now ≡ old.now → IsTrue old.is_open → IsLive old
    → ((W : Who) (L : List Entry) (e : Entry) → who ≡ who_text e.who → Appends W L e seq row cs text → Leads (entry_changes W L e ++ table_changes e.who cs) begun.now last.now)
    → (W : Who) (L : List Entry) (e : Entry) → IsAppended old W L e seq who row cs text → HasGrown last W (L ++ e ∷ [])
grown old begun last seq who row cs text same opened live leads W L e it =
    let stands = it.stood opened in
    let sound = (live opened).0 in
    let kept : Keeps (filled W L) old.now = record { schema = stands.schema; sound = sound; rows = stands.rows; ordered = it.ordered } in
    let led = leads W L e it.whose it.appends (filled W L) (subst (Keeps (filled W L)) (sym same) kept) in
    let more = led_on W L e (table_changes e.who cs) (let a = it.appends in a.leads) in
    let is : led.0 ≡ filled W (L ++ e ∷ []) = same_named led.0 (filled W (L ++ e ∷ [])) (sym led.1 ∙ more) in
    let keeps = subst (λ (f : Filled). Keeps f last.now) is led.2 in
    record { stands = record { legal = it.legal; schema = keeps.schema; rows = keeps.rows }; sound = keeps.sound; ordered = keeps.ordered }

pub grown_now : (last new : State) (W : Who) (L : List Entry) → new.now ≡ last.now → HasGrown last W L → HasGrown new W L
grown_now last new W L same h = record { stands = subst (StandsSecond W L) (sym same) h.stands; sound = subst IsDatabase (sym same) h.sound; ordered = h.ordered }

pub stands_in : (db : Trees) (s : State) (W : Who) (L : List Entry) → db ≡ s.now.trees → HasGrown s W L → StandsIn W L db
stands_in db s W L same h = subst (StandsIn W L) (sym same) (s.now.schema, h.sound, h.stands)

-- what the transaction leaves at a crash: what was there before, or what its commit writes
pub crash_of : (begun last new : State) (P : Trees → Type 0) → Survives begun last (λ _. ⊥) → Survives last new (λ db. db ≡ last.now.trees) → (HasCleanDisk new → (db : Trees) → db ≡ last.now.trees → P db) → Survives begun new P
crash_of begun last new P one two f = survives_then begun last new _ _ _ (λ _ db none. absurd none) f one two
