-- A depositor's entries can be read back, and 43 is never told of tables that stand for a register.
use Rattle.std.proofs.Common.{◌≡◌, ℕ, List, [], ◌∷◌, ◌++◌, ◌&&◌, Bool, true, refl, sym, ap, subst, ◌∙◌, arith, append_assoc, inl, inr}
use Rattle.std.specs.Prelude.{if◌then◌else◌}
use Rattle.std.specs.List.{AllByRecursion}
use Rattle.std.proofs.lemmas.Bool.{cases_Bool}
use Rattle.sqlite.specs.State.{State, HasCleanDisk}
use Rattle.definitions.specs.Rules.{Today}
use Rattle.definitions.specs.Header.{Who, is_partner, who_eq}
use Rattle.definitions.specs.Moments.{is_moment}
use Rattle.definitions.specs.Register.{Entry, own, is_numbered}
use Rattle.definitions.specs.History.{history}
use Rattle.definitions.specs.Readings.{is_deed}
use Rattle.definitions.specs.Accepted.{IsLegal}
use Rattle.definitions.specs.Tables.{number_of}
use Rattle.definitions.proofs.HistoryLaws.{history-numbered}
use Rattle.definitions.proofs.TextLaws.{both_parts}
use Rattle.rules.specs.Played.{number_after}
use Rattle.rules.proofs.Follows.{legal_follow}
use Rattle.rules.proofs.Registers.{who_is}
use Rattle.store.specs.Replayed.{written_on, all_written}
use Rattle.store.specs.Fault.{Fault}
use Rattle.store.specs.Fault.TheVariants.{Store, Reopen, NotThisBook, Device}
use Rattle.book_statements.specs.Asking.{IsAskFault}
use Rattle.book_statements.specs.Exits.{StandsWhileOpen}
use Rattle.book_statements.specs.Recorded.{IsRecorded}
use Rattle.book_tables.proofs.Owned.{own_legal}

abbrev IsOf : Who → Entry → Type 0
IsOf who e = who_eq e.who who ≡ true

all_of : (L : List Entry) (who : Who) → AllByRecursion (IsOf who) (own L who)
all_of [] who = tt
all_of (e ∷ L) who = elim (cases_Bool (who_eq e.who who)) [
  | inl its ↦ subst (λ (b : Bool). AllByRecursion (IsOf who) (if b then e ∷ own L who else own L who)) (sym its) (its, all_of L who)
  | inr other ↦ subst (λ (b : Bool). AllByRecursion (IsOf who) (if b then e ∷ own L who else own L who)) (sym other) (all_of L who)
]

recorded_on : (W : Who) (M front rest : List Entry) (who : Who) → IsLegal Today W M → M ≡ front ++ rest → AllByRecursion (IsOf who) rest → AllByRecursion (IsRecorded who) (written_on front rest)
recorded_on W M front [] who legal is its = tt
recorded_on W M front (e ∷ rest) who legal is its =
    let f = legal_follow Today W M front e rest legal is in
    let numbered : number_of front e ≡ number_after (history (own front e.who)) e = ap (λ (k : ℕ). if is_numbered e then k else 0) (sym (history-numbered (own front e.who))) in
    let few = f.few in
    let good = (both_parts (is_partner e.who && is_moment e.moment) (is_deed e.rules e.deed) f.good).0 in (
      record { whose = who_is e.who who its.0; few = omega (arith, numbered, few); good = (both_parts (is_partner e.who) (is_moment e.moment) good).1 },
      recorded_on W M (front ++ e ∷ []) rest who legal (is ∙ sym (append_assoc front (e ∷ []) rest)) its.1,
    )

pub each_recorded : (W : Who) (L : List Entry) (who : Who) → IsLegal Today W L → AllByRecursion (IsRecorded who) (all_written (own L who))
each_recorded W L who legal = recorded_on W (own L who) [] (own L who) who (own_legal W L who legal) refl (all_of L who)

-- a row that shows no entry is met only where the tables stand for no register
pub shows_none : (old new : State) (refused more : ℕ) → (HasCleanDisk new → (W : Who) (L : List Entry) → StandsWhileOpen old W L → ⊥) → IsAskFault NotThisBook old new refused more
shows_none old new refused more never = record {
  store = λ is. absurd (let e : ◌≡◌ {A = Fault} NotThisBook Store = is in cc);
  not_this = λ _. never;
  reopen = λ is. let e : ◌≡◌ {A = Fault} NotThisBook Reopen = is in cc;
  device = λ is. let e : ◌≡◌ {A = Fault} NotThisBook Device = is in cc;
}
