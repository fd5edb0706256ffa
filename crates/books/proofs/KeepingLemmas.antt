-- A book's register, and what a crash leaves of it.
use Rattle.std.proofs.Common.{◌≡◌, inl, inr, ℕ, ◌+◌, List, [], ◌∷◌, ◌++◌, length, length-append, Bool, false, Result, Ok, Err, refl, sym, ap, subst, ◌∙◌}
use Rattle.sqlite.specs.Tree.{Trees}
use Rattle.std.specs.Prelude.{IsTrue, OnErr}
use Rattle.sqlite.specs.Effect.{Database}
use Rattle.sqlite.specs.State.{State, HasCleanDisk, IsLive, Survives}
use Rattle.definitions.specs.Header.{Who, who_text}
use Rattle.rules.specs.Written.{Written}
use Rattle.rules.specs.Change as stock
use Rattle.definitions.specs.Register.{Entry}
use Rattle.store.specs.Standing.{IsUsable, IsNext, LeavesEither}
use Rattle.book_statements.specs.Standing.{StandsIn}
use Rattle.book_statements.specs.Exits.{IsAppended, HasGrown, LeavesIt, StandsWhileOpen}
use Rattle.books.specs.Keeping.{IsKept, IsSettled, standing_in}
use Rattle.book_transactions.proofs.Growing.{stands_in}
use Rattle.book_statements.proofs.Ordered.{all_ordered}
use Rattle.book_tables.proofs.OneRegister.{stands_once}

-- the tables of a register are kept
pub kept_now : (s : State) (W : Who) (n : ℕ) (L : List Entry) → n ≡ length L → HasGrown s W L → IsKept s W n L
kept_now s W n L count h = record { count = count; stands = λ _. h.stands }

-- and a crash leaves just them
pub usable_now : (s : State) (W : Who) (n refused : ℕ) (L : List Entry) → n ≡ length L → HasGrown s W L → LeavesIt s → IsUsable (standing_in s W n refused false) L
usable_now s W n refused L count h only = record {
  opened = refl;
  legal = let a = h.stands in a.legal;
  keeps = kept_now s W n L count h;
  stand = λ db may. (L, stands_in db s W L (only db may) h);
  only = λ M left. stands_once W left.0 M L left.2 (stands_in left.0 s W L (only left.0 left.1) h);
}

-- and where a call may have committed one more
pub leaves_one_of : (old new : State) (W : Who) (n m refused more : ℕ) (shut : Bool) (L next : List Entry) (P : Trees → Type 0) → HasCleanDisk new → Survives old new P → ((db : Trees) → P db → StandsIn W next db)
    → IsUsable (standing_in old W n refused false) L → LeavesEither (standing_in new W m more shut) L next
leaves_one_of old new W n m refused more shut L next P clean quiet commits u = record {
  stand = λ db may. elim (quiet.crash clean db may) [ inl before ↦ u.stand db before | inr made ↦ (next, commits db made) ];
  each = λ M left. elim (quiet.crash clean left.0 left.1) [
    | inl before ↦ inl (u.only M (left.0, before, left.2))
    | inr made ↦ inr (stands_once W left.0 M next left.2 (commits left.0 made))
  ];
}

-- where a call did nothing, a crash leaves what it left before
pub leaves_as_before : (s : State) (W : Who) (n m refused more : ℕ) (shut : Bool) (L next : List Entry) → IsUsable (standing_in s W n refused false) L → LeavesEither (standing_in s W m more shut) L next
leaves_as_before s W n m refused more shut L next u = record { stand = u.stand; each = λ M left. inl (u.only M left) }

pub on_err_always : {T E : Type 0} (r : Result T E) (P : Type 0) → P → OnErr r P
on_err_always (Ok t) P h = tt
on_err_always (Err e) P h = h

pub length_push : (L : List Entry) (e : Entry) (n : ℕ) → n ≡ length L → n + 1 ≡ length (L ++ e ∷ [])
length_push L e n is = ap (λ (k : ℕ). k + 1) is ∙ sym (length-append L (e ∷ []))

-- what a book is given to append
pub is_appended : (s : State) (W : Who) (n : ℕ) (L : List Entry) (e : Entry) (seq : ℕ) (who : List ℕ) (row : Written) (cs : List stock.Change) (text : List ℕ) → IsKept s W n L
    → seq ≡ n + 1 → who ≡ who_text row.who → IsNext W L e row cs text → IsAppended s W L e seq who row cs text
is_appended s W n L e seq who row cs text kept more named next = record {
  stood = kept.stands;
  ordered = all_ordered W L;
  legal = next.legal;
  whose = named ∙ ap (λ (w : Written). who_text w.who) next.entry;
  appends = record { next = more ∙ ap (λ (k : ℕ). k + 1) kept.count; entry = next.entry; outgoing = next.outgoing; leads = next.leads };
}

-- an open connection at rest, whose tables stand for a register, and of which a crash leaves the
-- last commit alone, is settled on it
pub settled_at : (s : State) (W : Who) (L : List Entry) → IsTrue s.is_open → IsLive s → (IsTrue s.is_open → s.now ≡ s.committed) → ((db : Trees) → s.may_leave db → db ≡ s.committed.trees)
    → StandsWhileOpen s W L → IsSettled s W L
settled_at s W L open' live rest law stands =
    let here = stands open' in
    let sound = (live open').0 in
    let same : s.now.trees ≡ s.committed.trees = ap (λ (d : Database). d.trees) (rest open') in
    let there : StandsIn W L s.now.trees = (s.now.schema, sound, here) in
    record {
      legal = here.legal;
      stands = stands;
      stand = λ db may. (L, subst (StandsIn W L) (same ∙ sym (law db may)) there);
      only = λ M left. stands_once W s.now.trees M L (subst (StandsIn W M) (law left.0 left.1 ∙ sym same) left.2) there;
    }
