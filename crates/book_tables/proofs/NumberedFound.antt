-- The row of `entry` with a number is that of the entry there, and that of `entry_rules` has its
-- rules.
use Rattle.std.proofs.Common.{◌≡◌, ◌≤◌, ◌<◌, inl, inr, ℕ, zero, suc, ◌+◌, pos, List, [], ◌∷◌, ◌++◌, length, length-append, map, filter, ◌&&◌, Bool, true, false, None, Some, Option, codes, slice_get, refl, sym, ap, subst, ◌∙◌, arith, IsTrue}
use Rattle.std.specs.Prelude.{◌==◌, if◌then◌else◌, option_map}
use Rattle.std.specs.List.{list_all, AllByRecursion}
use Rattle.std.specs.List.Sorted.{IsPermutation}
use Rattle.std.proofs.lemmas.Bool.{cases_Bool}
use Rattle.std.proofs.lemmas.Bool.Decides.{nat_tests}
use Rattle.std.proofs.lemmas.List.Sorted.{length_permutation}
use Rattle.sqlite.specs.declared.types.Value.{Value}
use Rattle.sqlite.specs.declared.types.Value.TheVariants as value
use Rattle.sqlite.specs.Order.{Row, column}
use Rattle.sqlite.specs.Collation.TheVariants.{Binary}
use Rattle.sqlite.specs.Command.TheVariants.{Select}
use Rattle.sqlite.specs.Term.{Env, col, op2}
use Rattle.sqlite_sql.specs.declared.ops.BinaryOp.TheVariants.{Compare}
use Rattle.sqlite_sql.specs.declared.ops.CompareOp.TheVariants.{Eq}
use Rattle.sqlite.specs.Query.{Query, IsAnswer, output, Output}
use Rattle.sqlite.specs.Program.{overlay}
use Rattle.sqlite.specs.Effect.{Database}
use Rattle.sqlite.specs.State.{State}
use Rattle.sqlite.specs.Listing.{understood, reads_listing}
use Rattle.sqlite.proofs.Callers.{command_of, one_permutation}
use Rattle.sqlite_tied.specs.Compute.{everything}
use Rattle.sqlite_schema.specs.Rules.{equal}
use Rattle.sqlite_rules.specs.Lists.{Has}
use Rattle.sqlite_rules.proofs.ListLemmas.{all_has, has_kept}
use Rattle.definitions.specs.declared.rules.Rules.{Rules}
use Rattle.definitions.specs.Rules.{Today}
use Rattle.definitions.specs.Header.{Who, is_partner, who_eq, who_of, who_text}
use Rattle.definitions.specs.Moments.{Moment, stamp}
use Rattle.definitions.specs.Register.{Entry, own}
use Rattle.definitions.specs.Readings.{is_entry, moment_of}
use Rattle.definitions.proofs.ReadingLaws.{who_of-who_text, moment_of-stamp}
use Rattle.definitions.specs.Tables.{entry_row, entries_on, entry_rules_row, entry_rules_on}
use Rattle.definitions.proofs.RegisterLaws.{legal-entries}
use Rattle.definitions.proofs.TextLaws.{both_parts}
use Rattle.rules.specs.Written.{Written, written}
use Rattle.rules.proofs.Depositors.{partner_of}
use Rattle.rules.proofs.Registers.{same_who}
use Rattle.store.specs.Replayed.{written_on, all_written}
use Rattle.book_statements.specs.declared.names.TableName.TheVariants as table
use Rattle.book_statements.specs.Asking.{OnlyReads, Finds}
use Rattle.book_statements.specs.Exits.{StandsWhileOpen}
use Rattle.book_statements.specs.Held.{entry_values}
use Rattle.book_statements.specs.Layout.{Others, beside, book_trees, rules_tree}
use Rattle.book_statements.specs.Recorded.{numbered_shown, numbered_text, rules_shown, rules_text, written_at, IsRecorded, IsOfPartner}
use Rattle.book_statements.specs.Standing.{StandsSecond}
use Rattle.book_statements.proofs.Asked.{found, found_placed}
use Rattle.book_statements.proofs.RulesReads.{rules_is}
use Rattle.book_statements.proofs.Found.{flat_map-cond, map-both}
use Rattle.book_statements.proofs.KeyLemmas.{int_itself, same_int}
use Rattle.book_tables.proofs.OwnEntries.{each_recorded}
use Rattle.book_tables.proofs.Owned.{own_written}
use Rattle.book_tables.proofs.ReadLemmas.{same_text_value, same_number_value, same_some}
use Rattle.book_statements.proofs.ReadingTexts.{ordered_from}
use Rattle.book_statements.proofs.Selects.{query_reads}

-- The texts.

abbrev pub numbered_query : Query
numbered_query = ordered_from 1 (op2 (Compare Eq Binary) (col 1 0) (col 0 0) ∷ []) (col 1 2 ∷ col 1 3 ∷ col 1 4 ∷ col 1 5 ∷ col 1 6 ∷ []) []

pub numbered_is : (others : Others)
    → (command_of (understood (beside others) numbered_text) ≡ Select (record { lets = []; body = numbered_query }) (codes "who" ∷ codes "mark" ∷ codes "n" ∷ codes "moment" ∷ codes "body" ∷ []))
    × (reads_listing (beside others) numbered_text ≡ false)
unfolding understood everything
numbered_is others = (refl, refl)

pub numbered_reads : OnlyReads numbered_text
unfolding everything
numbered_reads = query_reads numbered_text (λ schema base. refl)

abbrev pub rules_query : Query
rules_query = ordered_from 18 (op2 (Compare Eq Binary) (col 1 0) (col 0 0) ∷ []) (col 1 2 ∷ []) []

abbrev pub rules_names : List (List ℕ)
rules_names = codes "rules" ∷ []

pub rules_reads : OnlyReads rules_text
unfolding everything
rules_reads = query_reads rules_text (λ schema base. refl)

-- The entry with a number, as a list.

abbrev picked : ℕ → ℕ → List Written → List Written
picked seq before [] = []
picked seq before (w ∷ ws) = if before + 1 == seq then w ∷ picked seq (before + 1) ws else picked seq (before + 1) ws

same_number : (a b : ℕ) → (a == b) ≡ true → a ≡ b
same_number a b h = grind (arith, nat_tests, h)

number_apart : (a b : ℕ) → b < a → (a == b) ≡ false
number_apart a b h = grind (arith, nat_tests, h)

number_itself : (a b : ℕ) → a ≡ b → (a == b) ≡ true
number_itself a b h = grind (arith, nat_tests, h)

number_above : (a b : ℕ) → a < b → (a == b) ≡ false
number_above a b h = grind (arith, nat_tests, h)

none_picked : (seq before : ℕ) (ws : List Written) → seq ≤ before → picked seq before ws ≡ []
none_picked seq before [] h = refl
none_picked seq before (w ∷ ws) h = rw (number_apart (before + 1) seq (omega (arith, h))) (none_picked seq (before + 1) ws (omega (arith, h)))

abbrev listed : Option Written → List Written
listed None = []
listed (Some w) = w ∷ []

picked_at : (i seq before : ℕ) (ws : List Written) → seq ≡ before + 1 + i → picked seq before ws ≡ listed (slice_get ws i)
picked_at i seq before [] h = refl
picked_at zero seq before (w ∷ ws) h =
    rw (number_itself (before + 1) seq (omega (arith, h))) (ap (λ (vs : List Written). w ∷ vs) (none_picked seq (before + 1) ws (omega (arith, h))))
picked_at (suc i) seq before (w ∷ ws) h = rw (number_above (before + 1) seq (omega (arith, h))) (picked_at i seq (before + 1) ws (omega (arith, h)))

picked_is : (seq : ℕ) (ws : List Written) → picked seq 0 ws ≡ listed (written_at ws seq)
picked_is zero ws = none_picked 0 0 ws (omega arith)
picked_is (suc i) ws = picked_at i (suc i) 0 ws (omega arith)

-- What is shown under the number.

int_apart : (a b : ℕ) → (a == b) ≡ false → equal Binary (value.Int (pos a)) (value.Int (pos b)) ≡ false
int_apart a b h = elim (cases_Bool (equal Binary (value.Int (pos a)) (value.Int (pos b)))) [
  | inl e ↦ absurd (let same = same_int (pos a) (pos b) e in let numbers = nats a b same in let f : ◌≡◌ {A = Bool} true false = sym (number_itself a b numbers) ∙ h in cc)
  | inr e ↦ e
]
  where
    nats : (a b : ℕ) → pos a ≡ pos b → a ≡ b
    nats a b e = cc

module _ (seq : ℕ) where
  abbrev env_of : Row → Env
  env_of r = (value.Int (pos seq) ∷ []) ∷ r ∷ []

  abbrev has_number : Row → Bool
  has_number r = equal Binary (column r 0) (value.Int (pos seq)) && true

  abbrev shows : Row → Row
  shows r = column r 2 ∷ column r 3 ∷ column r 4 ∷ column r 5 ∷ column r 6 ∷ []

  numbered_told : (before L : List Entry) → map shows (filter has_number (map entry_values (entries_on before L))) ≡ map numbered_shown (picked seq (length before) (written_on before L))
  numbered_told before [] = refl
  numbered_told before (e ∷ L) =
      let later = numbered_told (before ++ e ∷ []) L ∙ ap (λ (n : ℕ). map numbered_shown (picked seq n (written_on (before ++ e ∷ []) L))) (length-append before (e ∷ [])) in
      elim (cases_Bool (length before + 1 == seq)) [
        | inl is ↦
            let passes : has_number (entry_values (entry_row before e)) ≡ true =
            ap (λ b. b && true) (subst (λ (n : ℕ). equal Binary (value.Int (pos (length before + 1))) (value.Int (pos n)) ≡ true) (same_number (length before + 1) seq is) (int_itself (pos (length before + 1)))) in
            rw (passes, is) (ap (λ rs. numbered_shown (written before e) ∷ rs) later)
        | inr other ↦
            let fails : has_number (entry_values (entry_row before e)) ≡ false = ap (λ b. b && true) (int_apart (length before + 1) seq other) in
            rw (fails, other) later
      ]

  abbrev shows_rules : Row → Row
  shows_rules r = column r 2 ∷ []

  rules_told : (before L : List Entry) → map shows_rules (filter has_number (map entry_values (entry_rules_on before L))) ≡ map rules_shown (picked seq (length before) (written_on before L))
  rules_told before [] = refl
  rules_told before (e ∷ L) =
      let later = rules_told (before ++ e ∷ []) L ∙ ap (λ (n : ℕ). map rules_shown (picked seq n (written_on (before ++ e ∷ []) L))) (length-append before (e ∷ [])) in
      elim (cases_Bool (length before + 1 == seq)) [
        | inl is ↦
            let passes : has_number (entry_values (entry_rules_row before e)) ≡ true =
            ap (λ b. b && true) (subst (λ (n : ℕ). equal Binary (value.Int (pos (length before + 1))) (value.Int (pos n)) ≡ true) (same_number (length before + 1) seq is) (int_itself (pos (length before + 1)))) in
            rw (passes, is) (ap (λ rs. rules_shown (written before e) ∷ rs) later)
        | inr other ↦
            let fails : has_number (entry_values (entry_rules_row before e)) ≡ false = ap (λ b. b && true) (int_apart (length before + 1) seq other) in
            rw (fails, other) later
      ]

  -- one at most is in any order
  in_any_order : (shown : Written → Row) (w : Option Written) (kept ordered : List Output) → IsPermutation kept ordered → map (λ (o : Output). o.1) kept ≡ map shown (listed w) → map (λ (o : Output). o.1) ordered ≡ map shown (listed w)
  in_any_order shown None [] [] moved is = refl
  in_any_order shown None [] (o ∷ os) moved is = absurd (omega (arith, length_permutation [] (o ∷ os) moved))
  in_any_order shown None (o ∷ os) ordered moved is = absurd (cc)
  in_any_order shown (Some w) [] ordered moved is = absurd (cc)
  in_any_order shown (Some w) (o ∷ []) ordered moved is = ap (map (λ (p : Output). p.1)) (one_permutation o ordered moved) ∙ is
  in_any_order shown (Some w) (o ∷ p ∷ os) ordered moved is = absurd (omega (arith, ap length is))

  pub numbered_found : (W : Who) (L : List Entry) (db : Database) (rows : List Row) → StandsSecond W L db → Finds numbered_text (value.Int (pos seq) ∷ []) db rows → rows ≡ map numbered_shown (listed (written_at (all_written L) seq))
  numbered_found W L db rows stands h =
      let read = found numbered_text (value.Int (pos seq) ∷ []) db rows _ stands.schema numbered_reads numbered_is h in
      let a : IsAnswer numbered_query (overlay db.trees []) (value.Int (pos seq) ∷ []) rows = read.answer value.Null in
      let entries = let r = stands.rows in r table.Entry in
      let is : a.kept ≡ map (output numbered_query) (map env_of (filter has_number (db.trees 1))) = a.distinct ∙ ap (map (output numbered_query)) (a.grouped ∙ flat_map-cond has_number env_of (db.trees 1)) in
      let all : map (λ (o : Output). o.1) a.kept ≡ map numbered_shown (listed (written_at (all_written L) seq)) =
      ap (map (λ (o : Output). o.1)) is ∙ map-both (output numbered_query) (λ (o : Output). o.1) (map env_of (filter has_number (db.trees 1))) ∙ map-both env_of (λ e. (output numbered_query e).1) (filter has_number (db.trees 1))
      ∙ ap (λ src. map shows (filter has_number src)) entries ∙ numbered_told [] L ∙ ap (map numbered_shown) (picked_is seq (all_written L)) in
      a.shown ∙ in_any_order numbered_shown (written_at (all_written L) seq) a.kept a.ordered a.same all

  pub rules_found : (W : Who) (L : List Entry) (db : Database) (rows : List Row) → StandsSecond W L db → Finds rules_text (value.Int (pos seq) ∷ []) db rows → rows ≡ map rules_shown (listed (written_at (all_written L) seq))
  rules_found W L db rows stands h =
      let lies = stands.schema in
      let a : IsAnswer rules_query (overlay (book_trees db) []) (value.Int (pos seq) ∷ []) rows = found_placed rules_text (value.Int (pos seq) ∷ []) db rows rules_query rules_names 18 rules_reads (rules_is db.schema lies.rules_place (rules_tree db.schema) lies.rules) h in
      let stored : List Row = book_trees db 18 in
      let rules = let r = stands.rows in r table.EntryRules in
      let is : a.kept ≡ map (output rules_query) (map env_of (filter has_number stored)) = a.distinct ∙ ap (map (output rules_query)) (a.grouped ∙ flat_map-cond has_number env_of stored) in
      let all : map (λ (o : Output). o.1) a.kept ≡ map rules_shown (listed (written_at (all_written L) seq)) =
      ap (map (λ (o : Output). o.1)) is ∙ map-both (output rules_query) (λ (o : Output). o.1) (map env_of (filter has_number stored)) ∙ map-both env_of (λ e. (output rules_query e).1) (filter has_number stored)
      ∙ ap (λ src. map shows_rules (filter has_number src)) rules ∙ rules_told [] L ∙ ap (map rules_shown) (picked_is seq (all_written L)) in
      a.shown ∙ in_any_order rules_shown (written_at (all_written L) seq) a.kept a.ordered a.same all

-- Each entry can be read back.

partners_on : (before L : List Entry) → list_all is_entry L ≡ true → AllByRecursion (λ (w : Written). is_partner w.who ≡ true) (written_on before L)
partners_on before [] h = tt
partners_on before (e ∷ L) h = let a = both_parts (is_entry e) (list_all is_entry L) h in (partner_of e a.0, partners_on (before ++ e ∷ []) L a.1)

there_at : (ws : List Written) (i : ℕ) (w : Written) → slice_get ws i ≡ Some w → Has ws w
there_at [] i w h = absurd (cc)
there_at (x ∷ ws) zero w h = inl (some x w h)
  where
    some : (a b : Written) → ◌≡◌ {A = Option Written} (Some a) (Some b) → b ≡ a
    some a b e = cc
there_at (x ∷ ws) (suc i) w h = inr (there_at ws i w h)

numbered_there : (ws : List Written) (seq : ℕ) (w : Written) → written_at ws seq ≡ Some w → Has ws w
numbered_there ws zero w h = absurd (cc)
numbered_there ws (suc i) w h = there_at ws i w h

of_partner : (W : Who) (L : List Entry) (db : Database) → StandsSecond W L db → (w : Written) → Has (all_written L) w → IsOfPartner w
of_partner W L db stands w there =
    let legal = stands.legal in
    let its = subst (λ (ws : List Written). Has ws w) (own_written L w.who) (has_kept (λ (v : Written). who_eq v.who w.who) (all_written L) w there (same_who w.who)) in
    record {
      partner = all_has (λ (v : Written). is_partner v.who ≡ true) (all_written L) w (partners_on [] L (legal-entries Today W L legal)) there;
      recorded = all_has (IsRecorded w.who) (all_written (own L w.who)) w (each_recorded W L w.who legal) its;
    }

-- a list that is shown as a row and others begins with what the row shows
head_shown : (shown : Written → Row) (o : Option Written) (row : Row) (more : List Row) → map shown (listed o) ≡ row ∷ more → (w : Written) × (o ≡ Some w) × (row ≡ shown w)
head_shown shown None row more h = absurd (cc)
head_shown shown (Some w) row more h = (w, refl, head (shown w) row [] more h)
  where
    head : (a b : Row) (us vs : List Row) → ◌≡◌ {A = List Row} (a ∷ us) (b ∷ vs) → b ≡ a
    head a b us vs e = cc

nothing_shown : (shown : Written → Row) (o : Option Written) → map shown (listed o) ≡ [] → None ≡ o
nothing_shown shown None h = refl
nothing_shown shown (Some w) h = absurd (cc)

module _ (old : State) (W : Who) (L : List Entry) (seq : ℕ) (stands : StandsWhileOpen old W L) (rows : List Row) where
  module _ (finds : IsTrue old.is_open × Finds numbered_text (value.Int (pos seq) ∷ []) old.now rows) where
    shown : rows ≡ map numbered_shown (listed (written_at (all_written L) seq))
    shown = numbered_found seq W L old.now rows (stands finds.0) finds.1

    pub none_numbered : rows ≡ [] → None ≡ written_at (all_written L) seq
    none_numbered none = nothing_shown numbered_shown (written_at (all_written L) seq) (sym shown ∙ none)

    -- the row is that of an entry that can be read back
    pub one_numbered : (row : Row) (more : List Row) → rows ≡ row ∷ more → (w : Written) × (written_at (all_written L) seq ≡ Some w) × (row ≡ numbered_shown w) × IsOfPartner w
    one_numbered row more is =
        let it = head_shown numbered_shown (written_at (all_written L) seq) row more (sym shown ∙ is) in
        (it.0, it.1, it.2, of_partner W L old.now (stands finds.0) it.0 (numbered_there (all_written L) seq it.0 it.1))

  module _ (finds : IsTrue old.is_open × Finds rules_text (value.Int (pos seq) ∷ []) old.now rows) where
    rules_are : rows ≡ map rules_shown (listed (written_at (all_written L) seq))
    rules_are = rules_found seq W L old.now rows (stands finds.0) finds.1

    pub none_ruled : rows ≡ [] → None ≡ option_map (λ (w : Written). w.rules) (written_at (all_written L) seq)
    none_ruled none = ap (option_map (λ (w : Written). w.rules)) (nothing_shown rules_shown (written_at (all_written L) seq) (sym rules_are ∙ none))

    pub one_ruled : (row : Row) (more : List Row) → rows ≡ row ∷ more → (read : Option Rules) → ((w : Written) → row ≡ rules_shown w → read ≡ Some w.rules)
        → (w : Written) × (read ≡ Some w.rules) × (written_at (all_written L) seq ≡ Some w)
    one_ruled row more is read right =
        let it = head_shown rules_shown (written_at (all_written L) seq) row more (sym rules_are ∙ is) in
        (it.0, right it.0 it.2, it.1)

-- what is read of the row of an entry and of its rules
pub with_rules : (o : Option Written) (w : Written) (rules : Rules) → o ≡ Some w → Some rules ≡ option_map (λ (v : Written). v.rules) o → Some (record w { rules = rules }) ≡ o
with_rules None w rules h k = absurd (cc)
with_rules (Some v) w rules h k = by v w rules (same h) (one k)
  where
    same : Some v ≡ Some w → v ≡ w
    same e = cc

    one : Some rules ≡ Some v.rules → rules ≡ v.rules
    one e = cc

    by : (v w : Written) (r : Rules) → v ≡ w → r ≡ v.rules → Some (record w { rules = r }) ≡ Some v
    by v w r e f = λ i. Some (record { who = (sym e i).who; key = (sym e i).key; n = (sym e i).n; moment = (sym e i).moment; body = (sym e i).body; rules = f i })

-- an entry that has a row has rules
pub rules_there : (o : Option Written) (w : Written) (read : Option Rules) → o ≡ Some w → read ≡ option_map (λ (v : Written). v.rules) o → read ≡ None → ⊥
rules_there o w read h k none = clash read w.rules none (k ∙ ap (option_map (λ (v : Written). v.rules)) h)
  where
    clash : (o : Option Rules) (r : Rules) → o ≡ None → o ≡ Some r → ⊥
    clash o r p q = cc

-- What is read of a row that shows an entry with its depositor.

same_blob : (v w : List ℕ) → ◌≡◌ {A = Value} (value.Blob v) (value.Blob w) → v ≡ w
same_blob v w e = cc

module _ (row : Row) (w : Written) (of : IsOfPartner w) (is : row ≡ numbered_shown w) where
  pub who_shown : (text : List ℕ) → column row 0 ≡ value.Text text → who_of text ≡ Some w.who
  who_shown text at = ap who_of (same_text_value text (who_text w.who) (sym at ∙ ap (λ (r : Row). column r 0) is)) ∙ who_of-who_text w.who of.partner

  pub stamp_shown : (text : List ℕ) → column row 3 ≡ value.Text text → moment_of text ≡ Some w.moment
  stamp_shown text at =
      let recorded = of.recorded in
      ap moment_of (same_text_value text (stamp w.moment) (sym at ∙ ap (λ (r : Row). column r 3) is)) ∙ moment_of-stamp w.moment recorded.good

  pub numbered_entry : (text : List ℕ) (who : Who) (key : List ℕ) (n : ℕ) (at : List ℕ) (m : Moment) (body : List ℕ) → column row 0 ≡ value.Text text → Some who ≡ who_of text → column row 1 ≡ value.Text key
      → column row 2 ≡ value.Int (pos n) → column row 3 ≡ value.Text at → Some m ≡ moment_of at → column row 4 ≡ value.Blob body
      → (rules : Rules) → ◌≡◌ {A = Written} (record { who = who; key = key; n = n; moment = m; body = body; rules = rules }) (record w { rules = rules })
  numbered_entry text who key n at m body o p q r s t u rules =
      let whose : who ≡ w.who = same_some who w.who (p ∙ who_shown text o) in
      let keys : key ≡ w.key = same_text_value key w.key (sym q ∙ ap (λ (x : Row). column x 1) is) in
      let numbers : n ≡ w.n = same_number_value n w.n (sym r ∙ ap (λ (x : Row). column x 2) is) in
      let moments : m ≡ w.moment = same_some m w.moment (t ∙ stamp_shown at s) in
      let bodies : body ≡ w.body = same_blob body w.body (sym u ∙ ap (λ (x : Row). column x 4) is) in
      (λ i. record { who = whose i; key = keys i; n = numbers i; moment = moments i; body = bodies i; rules = rules })
