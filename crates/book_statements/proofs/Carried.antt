-- Carrying a book of version 1 over, one step after another.
use Rattle.std.proofs.Common.{◌≡◌, ◌≤◌, ◌<◌, ℕ, suc, ◌+◌, pos, List, [], ◌∷◌, ◌++◌, length, take, drop, get_or, codes, true, IsTrue, Ok, refl, sym, ap, subst, ◌∙◌, arith}
use Rattle.std.specs.List.{list_all}
use Rattle.std.proofs.Math.Seq.{take-length, take-suc}
use Rattle.std.proofs.lemmas.List.{length-take-le, take-append-drop}
use Rattle.std.proofs.lemmas.List.Folds.{list_all-append}
use Rattle.sqlite.specs.declared.types.Value.TheVariants as value
use Rattle.sqlite.specs.Effect.{Database, IsDatabase}
use Rattle.sqlite.specs.State.{State, HasCleanDisk, Executes}
use Rattle.definitions.specs.declared.rules.Rules.{Rules}
use Rattle.definitions.specs.declared.rules.Rules.TheVariants.{One, Two}
use Rattle.definitions.specs.Rules.{rules_number}
use Rattle.definitions.specs.Header.{Who}
use Rattle.definitions.specs.Register.{Entry, is_first}
use Rattle.definitions.specs.Tables.{TableRow, Number, book_table, entry_rules_row, entry_rules_table}
use Rattle.definitions.specs.Schema.{entry_rules_schema, put_row}
use Rattle.definitions.specs.Changes.{Puts}
use Rattle.definitions.proofs.TextLaws.{both_parts}
use Rattle.definitions.proofs.RegisterLaws.{first_is, legal-first}
use Rattle.definitions.proofs.CarriedLaws.{legal-carried, lot_expiry-first}
use Rattle.rules.proofs.SentRows.{entry_rules_put}
use Rattle.book_statements.specs.Asking.{IsAsked, IsOfFirst}
use Rattle.book_statements.specs.Carrying.{StandsAs, StandsOpenAs, first_filled, KeepsFirst, Widens, GivesRules, SetsVersion, CarriesOver}
use Rattle.book_statements.specs.Leading.{Leads, Keeps}
use Rattle.book_statements.specs.Lines.{rules_row}
use Rattle.book_statements.specs.Recorded.{IsHouse}
use Rattle.book_statements.specs.declared.names.TableName.TheVariants as table
use Rattle.book_statements.specs.Standing.{StandsSecond, Filled, AreOrdered, filled, with_rows}
use Rattle.book_statements.proofs.AppendingLemmas.{same_named}
use Rattle.book_statements.proofs.Found.{house_found, one_house}
use Rattle.book_statements.proofs.EachTable.{with_own, with_twice}
use Rattle.book_statements.proofs.LeadsLemmas.{keeps_with, rows_ordered}
use Rattle.book_statements.proofs.Ordered.{all_ordered}
use Rattle.book_statements.proofs.Versions.{sets_version}
use Rattle.book_statements.proofs.WritingTexts.{set_version_text}

-- Rules.

-- the first entries have their rows of rules
abbrev pub GivesSome : ℕ → Database → Database → Type 0
GivesSome k old new = (L : List Entry) (f : Filled) → list_all is_first L ≡ true → k ≤ length L
    → Keeps (with_rows table.EntryRules [] f) old → Keeps (with_rows table.EntryRules (entry_rules_table (take k L)) f) new

-- of entries that are all under the first rules, the one at a place is
first_at : (L : List Entry) (k : ℕ) (d : Entry) → list_all is_first L ≡ true → k < length L → (get_or L k d).rules ≡ One
first_at L k d h lt =
    let cut : list_all is_first (take (suc k) L ++ drop (suc k) L) ≡ true = subst (λ (M : List Entry). list_all is_first M ≡ true) (sym (take-append-drop (suc k) L)) h in
    let front = (both_parts (list_all is_first (take (suc k) L)) (list_all is_first (drop (suc k) L)) (sym (list_all-append is_first (take (suc k) L) (drop (suc k) L)) ∙ cut)).0 in
    let snoc : list_all is_first (take k L ++ get_or L k d ∷ []) ≡ true = subst (λ (M : List Entry). list_all is_first M ≡ true) (take-suc L k d lt) front in
    let last = (both_parts (list_all is_first (take k L)) (list_all is_first (get_or L k d ∷ [])) (sym (list_all-append is_first (take k L) (get_or L k d ∷ [])) ∙ snoc)).1 in
    first_is (get_or L k d).rules (both_parts (is_first (get_or L k d)) true last).0

pub given_more : (k : ℕ) (a b c : Database) → GivesSome k a b → Leads (Puts (codes "entry_rules") (rules_row (k + 1) One) ∷ []) b c → GivesSome (k + 1) a c
given_more k a b c was led L f first long held = by L first long (was L f first (omega (arith, long)) held)
  where
    by : (L : List Entry) → list_all is_first L ≡ true → k + 1 ≤ length L → Keeps (with_rows table.EntryRules (entry_rules_table (take k L)) f) b → Keeps (with_rows table.EntryRules (entry_rules_table (take (k + 1) L)) f) c
    by [] first long so_far = absurd (let no : k + 1 ≤ 0 = long in omega (arith, no))
    by (d ∷ L) first long so_far =
        let M : List Entry = d ∷ L in
        let before = take k M in
        let e = get_or M k d in
        let there : k < length M = omega (arith, long) in
        let is_one = first_at M k d first there in
        let count : length before ≡ k = length-take-le k M (omega (arith, long)) in
        let row : rules_row (k + 1) One ≡ entry_rules_row before e = (λ i. Number (sym count i + 1) ∷ Number (rules_number (sym is_one i)) ∷ []) in
        let g = led (with_rows table.EntryRules (entry_rules_table before) f) so_far in
        let next : Filled = with_rows table.EntryRules (put_row entry_rules_schema (rules_row (k + 1) One) (entry_rules_table before)) f in
        let is : g.0 ≡ next = same_named g.0 next (sym g.1) in
        let kept : Keeps next c = subst (λ (h : Filled). Keeps h c) is g.2 in
        let more : put_row entry_rules_schema (rules_row (k + 1) One) (entry_rules_table before) ≡ entry_rules_table (take (k + 1) M) =
        ap (λ (r : TableRow). put_row entry_rules_schema r (entry_rules_table before)) row ∙ entry_rules_put before e
        ∙ ap entry_rules_table (sym (take-suc M k d there) ∙ ap (λ (n : ℕ). take n M) (let one : suc k ≡ k + 1 = omega arith in one)) in
        subst (λ (rows : List TableRow). Keeps (with_rows table.EntryRules rows f) c) more kept

pub given_none : (a : Database) → GivesSome 0 a a
given_none a L f first long held = held

pub given_all : (entries : ℕ) (a b : Database) → GivesSome entries a b → GivesRules entries a b
given_all entries a b some L f first count held =
    subst (λ (M : List Entry). Keeps (with_rows table.EntryRules (entry_rules_table M) f) b) (ap (λ (n : ℕ). take n L) count ∙ take-length L) (some L f first (omega (arith, count)) held)

-- The version.

pub version_set : (old new : State) (count : ℕ) → Executes set_version_text (value.Int (pos 2) ∷ []) old new (Ok count) → SetsVersion old.now new.now
version_set old new count h W f k =
    let first : Filled = with_rows table.Book (book_table One W) f in
    let did = sets_version (pos 2) (pos 1) W.qualifier W.id old new count k.schema (k.rows table.Book) h in
    subst (λ (g : Filled). Keeps g new.now) (with_twice table.Book (book_table One W) (book_table Two W) f)
    (keeps_with table.Book (book_table Two W) _ first old.now new.now k did did.rows tt (λ row there. tt))

-- The whole.

-- the rows of a register in version 1 are in their order, as those in version 2 are
first_ordered : (W : Who) (L : List Entry) → AreOrdered (first_filled W L)
first_ordered W L = rows_ordered table.EntryRules [] (with_rows table.Book (book_table One W) (filled W L)) (λ row none. absurd none) (λ row none. absurd none)
    (rows_ordered table.Book (book_table One W) (filled W L) tt (λ row there. tt) (all_ordered W L))

pub carried_over : (entries : ℕ) (old b c new : State) → IsDatabase old.now → IsTrue old.is_open → Widens old.now b.now → GivesRules entries b.now c.now → SetsVersion c.now new.now → CarriesOver entries old new
carried_over entries old b c new sound opened wide ruled versioned W L count while_open =
    let stands = while_open opened in
    let first = legal-first W L stands.legal in
    let f : Filled = with_rows table.Book (book_table One W) (filled W L) in
    let kept : KeepsFirst (first_filled W L) old.now = record { schema = stands.schema; sound = sound; rows = stands.rows; dates = lot_expiry-first L first; rules = refl; ordered = first_ordered W L } in
    let two = ruled L f first count (wide (first_filled W L) kept) in
    let three = versioned W (filled W L) (subst (λ (g : Filled). Keeps g c.now) (with_own table.EntryRules f) two) in
    let all : Keeps (filled W L) new.now = subst (λ (g : Filled). Keeps g new.now) (with_own table.Book (filled W L)) three in
    record {
      stands = record { legal = legal-carried W L stands.legal; schema = all.schema; rows = all.rows };
      sound = all.sound;
      ordered = all.ordered;
    }

-- what asking leaves of a book of either version
pub stands_open_later : (q : Rules) (old mid : State) (W : Who) (L : List Entry) → HasCleanDisk mid → IsAsked old mid → StandsOpenAs q old W L → StandsOpenAs q mid W L
stands_open_later q old mid W L clean asked stands =
    let before = asked.same clean in
    (λ o. subst (StandsAs q W L) (sym (before.now o)) (stands (before.was_open o)))

-- what stands for a register in version 2 doesn't name version 1
pub not_first : (W : Who) (L : List Entry) (db : Database) → StandsSecond W L db → IsOfFirst db → ⊥
not_first W L db stands h =
    let two : IsHouse Two h.0 W = house_found Two W L db h.0 stands h.1 in
    no (one_house h.0 One Two h.2.0 W h.2.1 two).0
  where
    no : One ≡ Two → ⊥
    no e = let f : ◌≡◌ {A = ℕ} 1 2 = ap rules_number e in absurd (cc)
