-- What opening makes of tables of either version.
use Rattle.std.proofs.Common.{◌≡◌, inl, inr, ℕ, List, [], false, Result, Ok, OnOk, length, IsTrue, refl, sym, ap, subst, arith}
use Rattle.sqlite.specs.Tree.{Trees}
use Rattle.sqlite.specs.Order.{Row}
use Rattle.sqlite.specs.Held.{state}
use Rattle.sqlite.specs.Store.{Ghosts}
use Rattle.sqlite.specs.State.{State, HasCleanDisk, IsLive}
use Rattle.sqlite.proofs.StateLemmas.{survives_then}
use Rattle.definitions.specs.declared.rules.Rules.{Rules}
use Rattle.definitions.specs.declared.rules.Rules.TheVariants.{One, Two}
use Rattle.definitions.specs.Rules.{rules_number}
use Rattle.definitions.specs.Header.{Who}
use Rattle.definitions.specs.Register.{Entry}
use Rattle.store.specs.Fault.{Fault}
use Rattle.store.specs.Standing.{IsUsable}
use Rattle.book_statements.specs.Asking.{IsAsked, IsOfFirst, Finds, house_text}
use Rattle.book_statements.specs.Carrying.{CarriesOver, LeavesCarried, StandsOpenAs}
use Rattle.book_statements.specs.Exits.{LeavesIt}
use Rattle.book_statements.specs.Kept.{Kept}
use Rattle.book_statements.specs.Recorded.{IsHouse}
use Rattle.book_statements.proofs.Carried.{stands_open_later}
use Rattle.books.specs.Carrying.{AllStandAs, BringsUp, OpensAs}
use Rattle.books.specs.Keeping.{standing_in}
use Rattle.books.proofs.AskedBooks.{opened_usable}
use Rattle.books.proofs.KeepingLemmas.{settled_at, usable_now}

both_versions : (version : Rules) (P : Type 0) → (version ≡ One → P) → (version ≡ Two → P) → P
both_versions One P one two = one refl
both_versions Two P one two = two refl

pub not_both : One ≡ Two → ⊥
not_both e = let f : ◌≡◌ {A = ℕ} 1 2 = ap rules_number e in absurd (cc)

-- queries leave of a book of version 1 what a crash left before
pub left_carried : (old mid : State) → IsAsked old mid → (W : Who) (L : List Entry) → HasCleanDisk mid → AllStandAs One old W L → (db : Trees) → mid.may_leave db → LeavesCarried W L db
left_carried old mid asked W L clean all db may = elim (asked.crash.crash clean db may) [ inl before ↦ inl (all db before) | inr none ↦ absurd none ]

-- and of any tables no more than queries do
pub queried : (old mid : State) → IsAsked old mid → OpensAs old mid
queried old mid asked = record { clean = let crash = asked.crash in crash.clean; asked = λ none. asked; asked_open = λ none. asked }

-- what is of version 2 is brought up as it is
pub second_as_it_is : {S : Type 0} (store : Ghosts S) (entries : ℕ) (tables : Kept S) → BringsUp {T = Unit {0}} store Two entries tables tables (Ok tt)
second_as_it_is store entries tables = record {
  stays = λ _. refl;
  fails = tt;
  done = λ _ e. absurd (not_both (sym e));
  crash = λ e. absurd (not_both (sym e));
}

-- the book was found by queries, and then brought to version 2
module _ {S T : Type 0} (store : Ghosts S) (version : Rules) (entries : ℕ) (old mid new : Kept S) (result : Result T Fault) (asked : IsAsked (state store old.conn) (state store mid.conn)) (brought : BringsUp store version entries mid new result) where
  abbrev before : State
  before = state store old.conn

  abbrev between : State
  between = state store mid.conn

  abbrev after : State
  after = state store new.conn

  pub clean_mid : HasCleanDisk after → HasCleanDisk between
  clean_mid clean = both_versions version (HasCleanDisk between)
      (λ one. let s = brought.crash one in omega (arith, s.clean, clean))
      (λ two. subst (λ (k : Kept S). HasCleanDisk (state store k.conn)) (brought.stays two) clean)

  -- what is asked of tables that don't name version 1
  pub opens_as : (W : Who) → (HasCleanDisk between → IsTrue before.is_open) → (HasCleanDisk between → (rows : List Row) × Finds house_text [] before.now rows × IsHouse version rows W) → OpensAs before after
  opens_as W opened house = both_versions version (OpensAs before after)
      (λ one.
      let first : HasCleanDisk between → IsOfFirst before.now = λ clean. let it = house clean in (it.0, it.1, (W, subst (λ q. IsHouse q it.0 W) one it.2)) in
      let early = asked.crash in
      let later = brought.crash one in
      record {
        clean = omega (arith, early.clean, later.clean);
        asked = λ none. record {
          same = λ clean. absurd (none (first (clean_mid clean)));
          crash = survives_then before between after _ _ _ (λ clean db no. absurd (none (first (clean_mid clean)))) (λ clean db made. absurd (none (first (clean_mid clean)))) early later;
        };
        asked_open = λ none. record {
          same = λ clean. absurd (none (opened (clean_mid clean)) (first (clean_mid clean)));
          crash = survives_then before between after _ _ _ (λ clean db no. absurd (none (opened (clean_mid clean)) (first (clean_mid clean)))) (λ clean db made. absurd (none (opened (clean_mid clean)) (first (clean_mid clean)))) early later;
        };
      })
      (λ two.
      let early = asked.crash in
      subst (λ (k : Kept S). OpensAs before (state store k.conn)) (sym (brought.stays two)) (record { clean = early.clean; asked = λ none. asked; asked_open = λ none. asked }))

  -- where it answers Ok, it is usable for the register that stood there in either version
  pub opened_at : (q : Rules) (W : Who) (L : List Entry) (refused : ℕ) (house : Who) (u : T) → result ≡ Ok u → HasCleanDisk after → IsTrue before.is_open → IsLive before
      → (IsTrue before.is_open → before.now ≡ before.committed) → ((db : Trees) → before.may_leave db → db ≡ before.committed.trees)
      → version ≡ q → house ≡ W → entries ≡ length L → StandsOpenAs q before W L → IsUsable (standing_in after house entries refused false) L
  opened_at q W L refused house u ok clean opened live rest law is same count stands = by q is stands
    where
      by : (q : Rules) → version ≡ q → StandsOpenAs q before W L → IsUsable (standing_in after house entries refused false) L
      by One one stands =
          let made : CarriesOver entries between after × LeavesIt after = subst (λ (r : Result T Fault). OnOk r (CarriesOver entries between after × LeavesIt after)) ok (brought.done clean one) in
          let there = stands_open_later One before between W L (clean_mid clean) asked stands in
          subst (λ (V : Who). IsUsable (standing_in after V entries refused false) L) (sym same) (usable_now after W entries refused L count (made.0 W L count there) made.1)
      by Two two stands =
          let settled = settled_at before W L opened live rest law stands in
          subst (λ (k : Kept S). IsUsable (standing_in (state store k.conn) house entries refused false) L) (sym (brought.stays two)) (opened_usable before between W entries refused L (clean_mid clean) asked count house same settled)

  -- and where it fails, a crash leaves the register of a book of version 1 in that version or in
  -- version 2
  pub leaves_carried : (W : Who) (L : List Entry) → HasCleanDisk after → version ≡ One → entries ≡ length L → StandsOpenAs One before W L → AllStandAs One before W L → (db : Trees) → after.may_leave db → LeavesCarried W L db
  leaves_carried W L clean one count stands all db may =
      let later = brought.crash one in
      elim (later.crash clean db may) [
        | inl early ↦ left_carried before between asked W L (clean_mid clean) all db early
        | inr made ↦ inr (made W L count (stands_open_later One before between W L (clean_mid clean) asked stands))
      ]
