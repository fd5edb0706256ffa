-- The rows of `entry` under a key of a depositor have the numbers of its entries under that key.
use Rattle.std.proofs.Common.{◌≡◌, ◌<◌, ◌+◌, ℕ, suc, pos, List, [], ◌∷◌, ◌++◌, map, filter, take, get_or, length, length-append, ◌&&◌, Bool, true, false, bytes_eq, None, Some, Option, refl, sym, ap, subst, ◌∙◌, arith, Less}
use Rattle.std.specs.Prelude.{if◌then◌else◌, find, slice_get}
use Rattle.std.specs.List.{list_all}
use Rattle.std.specs.Ordering.{is_eq, ordering_then}
use Rattle.std.proofs.lemmas.Map.Text.{is_eq-slice_cmp}
use Rattle.std.specs.declared.cmp.Ordering.TheVariants.{Equal}
use Rattle.sqlite.specs.declared.types.Value.TheVariants as value
use Rattle.sqlite.specs.Order.{Row, column}
use Rattle.sqlite.specs.Collation.TheVariants.{Binary}
use Rattle.sqlite.specs.Query.{IsAnswer, output, Output, output_cmp}
use Rattle.sqlite.specs.Program.{overlay}
use Rattle.sqlite.specs.Term.{Env}
use Rattle.sqlite.specs.Tree.{Trees, IsTable}
use Rattle.sqlite.specs.Effect.{Database}
use Rattle.sqlite_value.proofs.OrderLemmas.{value_cmp-Text}
use Rattle.sqlite_schema.specs.Rules.{equal}
use Rattle.sqlite_trees.specs.Tree.{IsAscending}
use Rattle.sqlite_trees.proofs.ListLemmas.{ascending-filter, ascending-map, ascending_weaker}
use Rattle.definitions.specs.Rules.{Today}
use Rattle.definitions.specs.Header.{Who, is_partner, who_text}
use Rattle.definitions.specs.Register.{Entry, mark}
use Rattle.definitions.specs.Readings.{is_entry}
use Rattle.definitions.specs.Tables.{entry_row, entries_on}
use Rattle.definitions.proofs.RegisterLaws.{legal-entries}
use Rattle.definitions.proofs.TextLaws.{both_parts}
use Rattle.rules.specs.Written.{Written, written}
use Rattle.rules.proofs.Depositors.{partner_of}
use Rattle.store.specs.Replayed.{written_on, all_written, is_under}
use Rattle.book_statements.specs.declared.names.TableName.TheVariants as table
use Rattle.book_statements.specs.Held.{entry_values}
use Rattle.book_statements.specs.Standing.{StandsSecond}
use Rattle.book_statements.specs.Asking.{Finds}
use Rattle.book_statements.proofs.Asked.{found}
use Rattle.book_statements.proofs.Found.{flat_map-cond, map-both, entries_rise}
use Rattle.book_tables.proofs.InOrder.{in_order}
use Rattle.book_statements.proofs.KeyLemmas.{equal_texts}
use Rattle.book_statements.proofs.KnownTexts.{under_text, under_query, under_is, under_reads}
use Rattle.book_tables.proofs.Owned.{told_apart}

-- the number of a row
abbrev shows : Row → Row
shows r = column r 0 ∷ []

module _ (who key : List ℕ) where
  abbrev pub params : Row
  params = value.Text who ∷ value.Text key ∷ []

  abbrev env_of : Row → Env
  env_of r = params ∷ r ∷ []

  abbrev whose : Row → Bool
  whose r = equal Binary (column r 2) (value.Text who) && (equal Binary (column r 3) (value.Text key) && true)

  under_shown : (db : Trees) (rows : List Row) → IsTable (db 1) → IsAnswer under_query (overlay db []) params rows → rows ≡ map shows (filter whose (db 1))
  under_shown db rows up a =
      let is : a.kept ≡ map (output under_query) (map env_of (filter whose (db 1))) = a.distinct ∙ ap (map (output under_query)) (a.grouped ∙ flat_map-cond whose env_of (db 1)) in
      let rising : IsAscending (λ x y. output_cmp under_query x y ≡ Less) a.kept =
      subst (IsAscending (λ x y. output_cmp under_query x y ≡ Less)) (sym is)
      (ascending-map _ (output under_query) (map env_of (filter whose (db 1))) (ascending-map _ env_of (filter whose (db 1)) (ascending-filter _ whose (db 1)
      (ascending_weaker _ _ (λ r s h. ap (λ o. ordering_then o Equal) h) (db 1) up)))) in
      let same : a.ordered ≡ a.kept = in_order under_query a.kept a.ordered rising a.same a.sorted in
      a.shown ∙ ap (map (λ (o : Output). o.1)) (same ∙ is) ∙ map-both (output under_query) (λ (o : Output). o.1) (map env_of (filter whose (db 1))) ∙ map-both env_of (λ e. (output under_query e).1) (filter whose (db 1))

pub equal_bytes : (a b : List ℕ) → equal Binary (value.Text a) (value.Text b) ≡ bytes_eq a b
equal_bytes a b = equal_texts a b ∙ ap is_eq (value_cmp-Text a b) ∙ is_eq-slice_cmp a b

and_truth : (b : Bool) → (b && true) ≡ b
and_truth true = refl
and_truth false = refl

-- a row of `entry` passes where the entry is the depositor's, under the key
passes : (who : Who) (key : List ℕ) (before : List Entry) (e : Entry) → is_partner e.who ≡ true → is_partner who ≡ true
    → whose (who_text who) key (entry_values (entry_row before e)) ≡ is_under who key (written before e)
passes who key before e p q =
    λ i. (equal_bytes (who_text e.who) (who_text who) ∙ told_apart e.who who p q) i && (and_truth (equal Binary (value.Text (mark e)) (value.Text key)) ∙ equal_bytes (mark e) key) i

-- the numbers of those that pass, when so many stand before them
abbrev pub numbers_of : (Written → Bool) → ℕ → List Written → List ℕ
numbers_of p n [] = []
numbers_of p n (w ∷ ws) = if p w then (n + 1) ∷ numbers_of p (n + 1) ws else numbers_of p (n + 1) ws

abbrev pub seq_shown : ℕ → Row
seq_shown n = value.Int (pos n) ∷ []

under_told : (who : Who) (key : List ℕ) (before L : List Entry) → list_all is_entry L ≡ true → is_partner who ≡ true
    → map shows (filter (whose (who_text who) key) (map entry_values (entries_on before L))) ≡ map seq_shown (numbers_of (is_under who key) (length before) (written_on before L))
under_told who key before [] good partner = refl
under_told who key before (e ∷ L) good partner =
    let a = both_parts (is_entry e) (list_all is_entry L) good in
    ap (λ (b : Bool). map shows (if b then entry_values (entry_row before e) ∷ rest else rest)) (passes who key before e (partner_of e a.0) partner)
    ∙ by (is_under who key (written before e)) (under_told who key (before ++ e ∷ []) L a.1 partner ∙ ap (λ (n : ℕ). map seq_shown (numbers_of (is_under who key) n (written_on (before ++ e ∷ []) L))) (length-append before (e ∷ [])))
  where
    rest : List Row
    rest = filter (whose (who_text who) key) (map entry_values (entries_on (before ++ e ∷ []) L))

    ns : List ℕ
    ns = numbers_of (is_under who key) (length before + 1) (written_on (before ++ e ∷ []) L)

    by : (b : Bool) → map shows rest ≡ map seq_shown ns
        → map shows (if b then entry_values (entry_row before e) ∷ rest else rest) ≡ map seq_shown (if b then (length before + 1) ∷ ns else ns)
    by true later = ap (λ rs. seq_shown (length before + 1) ∷ rs) later
    by false later = later

pub under_found : (W : Who) (L : List Entry) (who : Who) (key : List ℕ) (db : Database) (rows : List Row) → is_partner who ≡ true → StandsSecond W L db
    → Finds under_text (params (who_text who) key) db rows → rows ≡ map seq_shown (numbers_of (is_under who key) 0 (all_written L))
under_found W L who key db rows partner stands h =
    let read = found under_text (params (who_text who) key) db rows _ stands.schema under_reads under_is h in
    let entries = let r = stands.rows in r table.Entry in
    under_shown (who_text who) key db.trees rows (subst IsTable (sym entries) (entries_rise [] L)) (read.answer value.Null)
    ∙ ap (λ src. map shows (filter (whose (who_text who) key) src)) entries
    ∙ under_told who key [] L (legal-entries Today W L stands.legal) partner

-- The first that passes.

pub find_none : (p : Written → Bool) (n : ℕ) (ws : List Written) → numbers_of p n ws ≡ [] → find p ws ≡ None
find_none p n [] h = refl
find_none p n (w ∷ ws) h = by (p w) refl (find_none p (n + 1) ws)
  where
    by : (b : Bool) → p w ≡ b → (numbers_of p (n + 1) ws ≡ [] → find p ws ≡ None) → find p (w ∷ ws) ≡ None
    by true t again = let k : numbers_of p n (w ∷ ws) ≡ (n + 1) ∷ numbers_of p (n + 1) ws = rw t refl in let none : ◌≡◌ {A = List ℕ} ((n + 1) ∷ numbers_of p (n + 1) ws) [] = sym k ∙ h in absurd (cc)
    by false t again =
        let k : numbers_of p n (w ∷ ws) ≡ numbers_of p (n + 1) ws = rw t refl in
        let later : find p (w ∷ ws) ≡ find p ws = rw t refl in
        later ∙ again (sym k ∙ h)

head_is : (a b : ℕ) (us vs : List ℕ) → ◌≡◌ {A = List ℕ} (a ∷ us) (b ∷ vs) → b ≡ a
head_is a b us vs e = cc

some_is : (a b : Written) → ◌≡◌ {A = Option Written} (Some a) (Some b) → a ≡ b
some_is a b e = cc

-- the entry under the first number
pub find_some : (p : Written → Bool) (n : ℕ) (ws : List Written) (seq : ℕ) (more : List ℕ) → numbers_of p n ws ≡ seq ∷ more → (i : ℕ) × (seq ≡ n + 1 + i) × (slice_get ws i ≡ find p ws)
find_some p n [] seq more h = absurd (cc)
find_some p n (w ∷ ws) seq more h = by (p w) refl (find_some p (n + 1) ws seq more)
  where
    by : (b : Bool) → p w ≡ b → (numbers_of p (n + 1) ws ≡ seq ∷ more → (i : ℕ) × (seq ≡ n + 1 + 1 + i) × (slice_get ws i ≡ find p ws)) → (i : ℕ) × (seq ≡ n + 1 + i) × (slice_get (w ∷ ws) i ≡ find p (w ∷ ws))
    by true t again =
        let k : numbers_of p n (w ∷ ws) ≡ (n + 1) ∷ numbers_of p (n + 1) ws = rw t refl in
        let here : find p (w ∷ ws) ≡ Some w = rw t refl in
        let first = head_is (n + 1) seq (numbers_of p (n + 1) ws) more (sym k ∙ h) in
        (0, omega (arith, first), sym here)
    by false t again =
        let k : numbers_of p n (w ∷ ws) ≡ numbers_of p (n + 1) ws = rw t refl in
        let later : find p (w ∷ ws) ≡ find p ws = rw t refl in
        let it = again (sym k ∙ h) in
        (suc it.0, omega (arith, it.1), it.2 ∙ sym later)

-- where the first that passes stands
pub record IsFirst (p : Written → Bool) (ws : List Written) (i : ℕ) (w : Written) : Type 0 where
  pub within : i < length ws
  pub at : w ≡ get_or ws i w
  pub before : find p (take i ws) ≡ None
  pub here : p w ≡ true

pub first_found : (p : Written → Bool) (ws : List Written) (w : Written) → find p ws ≡ Some w → (i : ℕ) × IsFirst p ws i w
first_found p [] w h = absurd (cc)
first_found p (x ∷ ws) w h = by (p x) refl (first_found p ws w)
  where
    by : (b : Bool) → p x ≡ b → (find p ws ≡ Some w → (i : ℕ) × IsFirst p ws i w) → (i : ℕ) × IsFirst p (x ∷ ws) i w
    by true t again =
        let here : find p (x ∷ ws) ≡ Some x = rw t refl in
        let same : x ≡ w = some_is x w (sym here ∙ h) in
        (0, record { within = omega arith; at = sym same; before = refl; here = ap p (sym same) ∙ t })
    by false t again =
        let later : find p (x ∷ ws) ≡ find p ws = rw t refl in
        let f = again (sym later ∙ h) in
        let it = f.1 in
        let skipped : find p (x ∷ take f.0 ws) ≡ find p (take f.0 ws) = ap (λ (b : Bool). if b then Some x else find p (take f.0 ws)) t in
        (suc f.0, record { within = omega (arith, it.within); at = it.at; before = skipped ∙ it.before; here = it.here })
