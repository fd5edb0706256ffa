-- The last row of `outgoing` under a depositor has the number of its last entry, so it tells how
-- many there are.
use Rattle.std.proofs.Common.{◌≡◌, ◌≤◌, ◌<◌, ◌⊎◌, inl, inr, ℕ, ℤ, ◌+◌, pos, codes, List, [], ◌∷◌, ◌++◌, map, filter, take, ◌&&◌, Bool, true, false, cond, None, Less, Equal, Greater, IsTrue, refl, sym, ap, subst, ◌∙◌, arith, append_assoc, append-nil}
use Rattle.std.specs.Prelude.{if◌then◌else◌, nat_lt}
use Rattle.std.specs.Ordering.{is_gt, ordering_then}
use Rattle.std.proofs.lemmas.Bool.{lt-ltb, le-ltb, cases_lt}
use Rattle.std.proofs.lemmas.List.Sorted.{Contains-permutation, IsPermutation-sym}
use Rattle.std.specs.List.Sorted.{IsSorted}
use Rattle.std.specs.List.{AllByRecursion}
use Rattle.sqlite.specs.State.{State}
use Rattle.sqlite.specs.declared.types.Value.TheVariants as value
use Rattle.sqlite.specs.Order.{Row, column, value_cmp}
use Rattle.sqlite.specs.Collation.TheVariants.{Binary}
use Rattle.sqlite.specs.Query.{Query, IsAnswer, output, Output, output_cmp, inner, end}
use Rattle.sqlite.specs.Program.{overlay}
use Rattle.sqlite.specs.Term.{Env, lit, col}
use Rattle.sqlite.specs.Tree.{Trees}
use Rattle.sqlite.specs.Listing.{understood}
use Rattle.sqlite_tied.specs.Compute.{everything}
use Rattle.sqlite_sql.proofs.QueryLemmas.{output_cmp_total}
use Rattle.sqlite_value.specs.declared.keys.Key.{Key}
use Rattle.sqlite_value.proofs.OrderLemmas.{value_cmp-Int}
use Rattle.sqlite_schema.specs.Rules.{equal}
use Rattle.sqlite_rules.specs.Lists.{Has}
use Rattle.sqlite_rules.proofs.ListLemmas.{all_has, has_filtered, has_kept, has_contained, contains_had}
use Rattle.sqlite_rules.proofs.ProbeLemmas.{has_mapped, mapped_has}
use Rattle.definitions.specs.Rules.{Today}
use Rattle.definitions.specs.Header.{Who, is_partner, who_text}
use Rattle.definitions.specs.Register.{Entry, own, is_numbered, next_number}
use Rattle.definitions.specs.Events.{Event}
use Rattle.definitions.specs.History.{history, events}
use Rattle.definitions.specs.Page.{page_of}
use Rattle.definitions.specs.Accepted.{IsLegal}
use Rattle.definitions.specs.Rows.{OutRow, out_row, outgoing_on, outgoing_rows}
use Rattle.definitions.specs.Tables.{Text, TableRow, outgoing_cells, outgoing_table}
use Rattle.definitions.proofs.HistoryLaws.{history-numbered}
use Rattle.rules.proofs.SentRows.{next_snoc}
use Rattle.book_statements.specs.Asking.{OnlyReads, Finds}
use Rattle.book_statements.specs.Exits.{StandsWhileOpen}
use Rattle.book_statements.specs.Held.{values, Holds}
use Rattle.book_statements.specs.Layout.{Others}
use Rattle.book_statements.specs.declared.names.TableName.TheVariants.{Outgoing}
use Rattle.book_statements.proofs.Asked.{found}
use Rattle.book_statements.proofs.Found.{flat_map-cond}
use Rattle.book_tables.proofs.InOrder.{ascending_from_sorted}
use Rattle.book_statements.proofs.KeyLemmas.{text_itself}
use Rattle.book_statements.proofs.NeedTexts.{Reads}
use Rattle.book_statements.proofs.Ordered.{row_number}
use Rattle.book_tables.proofs.Under.{own_row, table_row}
use Rattle.book_statements.proofs.Values.{and_true}
use Rattle.book_statements.proofs.WritingTexts.{where_key}
use Rattle.book_statements.proofs.Selects.{query_reads}

abbrev pub last_text : List ℕ
last_text = codes "SELECT n FROM outgoing WHERE who = ?1 ORDER BY n DESC LIMIT 1"

abbrev falling : Key
falling = record { collation = Binary; descending = true }

abbrev pub last_query : Query
last_query = record {
  from = inner 4 end;
  filter = where_key 0 1;
  group = None;
  project = col 1 2 ∷ [];
  distinct = false;
  collations = [];
  order = (col 1 2, falling) ∷ [];
  limit = lit (value.Int (pos 1));
  offset = lit (value.Int (pos 0));
}

pub last_is : (others : Others) → Reads last_text last_query (codes "n" ∷ []) others
unfolding understood everything
last_is others = (refl, refl)

pub last_reads : OnlyReads last_text
unfolding everything
last_reads = query_reads last_text (λ schema base. refl)

-- The numbers.

next_le : (before M : List Entry) → next_number before ≤ next_number (before ++ M)
next_le before [] = omega (arith, ap next_number (append-nil before))
next_le before (e ∷ M) = omega (arith, next_le (before ++ e ∷ []) M, ap next_number (append_assoc before (e ∷ []) M), next_snoc before e, step (is_numbered e))
  where
    step : (b : Bool) → 0 ≤ (if b then 1 else 0)
    step true = omega arith
    step false = omega arith

-- every row's number is below the next one
rows_below : (W : Who) (es : List Event) (before M : List Entry) (r : OutRow) → Has (outgoing_on W es before M) r → r.n < next_number (before ++ M)
rows_below W es before [] r h = absurd h
rows_below W es before (e ∷ M) r h = by (is_numbered e) refl h (λ there. omega (arith, rows_below W es (before ++ e ∷ []) M r there, ap next_number (append_assoc before (e ∷ []) M)))
  where
    by : (b : Bool) → is_numbered e ≡ b → Has ((if b then out_row W es before e ∷ [] else []) ++ outgoing_on W es (before ++ e ∷ []) M) r
        → (Has (outgoing_on W es (before ++ e ∷ []) M) r → r.n < next_number (before ++ e ∷ M)) → r.n < next_number (before ++ e ∷ M)
    by true is (inl same) later =
        let up : next_number (before ++ e ∷ []) ≡ next_number before + 1 = next_snoc before e ∙ ap (λ (b : Bool). next_number before + (if b then 1 else 0)) is in
        omega (arith, ap (λ (q : OutRow). q.n) same, row_number W es before e, up, next_le (before ++ e ∷ []) M, ap next_number (append_assoc before (e ∷ []) M))
    by true is (inr there) later = later there
    by false is there later = later there

-- and the last of them has a row, unless there is none
last_there : (W : Who) (es : List Event) (before M : List Entry)
    → (next_number (before ++ M) ≡ next_number before) ⊎ ((r : OutRow) × Has (outgoing_on W es before M) r × (r.n + 1 ≡ next_number (before ++ M)))
last_there W es before [] = inl (ap next_number (append-nil before))
last_there W es before (e ∷ M) = by (is_numbered e) refl (last_there W es (before ++ e ∷ []) M)
  where
    all : next_number ((before ++ e ∷ []) ++ M) ≡ next_number (before ++ e ∷ M)
    all = ap next_number (append_assoc before (e ∷ []) M)

    by : (b : Bool) → is_numbered e ≡ b
        → (next_number ((before ++ e ∷ []) ++ M) ≡ next_number (before ++ e ∷ [])) ⊎ ((r : OutRow) × Has (outgoing_on W es (before ++ e ∷ []) M) r × (r.n + 1 ≡ next_number ((before ++ e ∷ []) ++ M)))
        → (next_number (before ++ e ∷ M) ≡ next_number before)
        ⊎ ((r : OutRow) × Has ((if b then out_row W es before e ∷ [] else []) ++ outgoing_on W es (before ++ e ∷ []) M) r × (r.n + 1 ≡ next_number (before ++ e ∷ M)))
    by true is (inl none) =
        let up : next_number (before ++ e ∷ []) ≡ next_number before + 1 = next_snoc before e ∙ ap (λ (b : Bool). next_number before + (if b then 1 else 0)) is in
        inr (out_row W es before e, inl refl, ap (λ (k : ℕ). k + 1) (row_number W es before e) ∙ sym up ∙ sym none ∙ all)
    by false is (inl none) =
        let same : next_number (before ++ e ∷ []) ≡ next_number before = next_snoc before e ∙ ap (λ (b : Bool). next_number before + (if b then 1 else 0)) is ∙ (let z : next_number before + 0 ≡ next_number before = omega arith in z) in
        inl (sym all ∙ none ∙ same)
    by true is (inr later) = inr (later.0, inr later.1, later.2 ∙ all)
    by false is (inr later) = inr (later.0, later.1, later.2 ∙ all)

-- The order of falling numbers.

not_above : (m n : ℕ) → is_gt (ordering_then (value_cmp (value.Int (pos n)) (value.Int (pos m))) Equal) ≡ false → n ≤ m
not_above m n h = by (nat_lt n m) (nat_lt m n) refl refl (sym (λ p. is_gt (ordering_then (value_cmp-Int (pos n) (pos m) p) Equal)) ∙ h)
  where
    at_most : (k l : ℕ) → nat_lt l k ≡ false → k ≤ l
    at_most k l e = elim (cases_lt l k) [
      | inl lt ↦ absurd (let f : ◌≡◌ {A = Bool} true false = sym (lt-ltb l k lt) ∙ e in cc)
      | inr ge ↦ ge
    ]

    by : (b d : Bool) → nat_lt n m ≡ b → nat_lt m n ≡ d → is_gt (ordering_then (cond b Less (cond d Greater Equal)) Equal) ≡ false → n ≤ m
    by true d e f g = elim (cases_lt n m) [
      | inl lt ↦ omega (arith, lt)
      | inr ge ↦ absurd (let k : ◌≡◌ {A = Bool} false true = sym (le-ltb n m ge) ∙ e in cc)
    ]
    by false true e f g = absurd (let k : ◌≡◌ {A = Bool} true false = g in cc)
    by false false e f g = at_most n m f

abbrev pub IsLast : List Row → ℕ → Type 0
IsLast [] n = n ≡ 0
IsLast (row ∷ more) n = row ≡ value.Int (pos n) ∷ []

module _ (W : Who) (L : List Entry) (who : Who) (legal : IsLegal Today W L) (partner : is_partner who ≡ true) (db : Trees) (held : Holds (outgoing_table W L) (db 4)) where
  abbrev t : List ℕ
  t = who_text who

  abbrev sent : List OutRow
  sent = outgoing_rows W (own L who)

  abbrev params : Row
  params = value.Text t ∷ []

  abbrev env_of : Row → Env
  env_of r = params ∷ r ∷ []

  abbrev whose : Row → Bool
  whose r = equal Binary (column r 1) (value.Text t) && true

  abbrev stored_as : ℤ → OutRow → Row
  stored_as id r = value.Int id ∷ values (Text t ∷ outgoing_cells r)

  abbrev out : OutRow → Output
  out r = (value.Int (pos r.n) ∷ [], value.Int (pos r.n) ∷ [])

  abbrev entries : ℕ
  entries = (history (own L who)).numbered

  module _ (rows : List Row) (a : IsAnswer last_query (overlay db []) params rows) where
    kept_is : a.kept ≡ map (output last_query) (map env_of (filter whose (db 4)))
    kept_is = a.distinct ∙ ap (map (output last_query)) (a.grouped ∙ flat_map-cond whose env_of (db 4))

    kept_row : (o : Output) → Has a.kept o → (r : OutRow) × Has sent r × (o ≡ out r)
    kept_row o there =
        let e = has_mapped (output last_query) (map env_of (filter whose (db 4))) o (subst (λ (os : List Output). Has os o) kept_is there) in
        let r = has_mapped env_of (filter whose (db 4)) e.0 e.1 in
        let f = has_filtered whose (db 4) r.0 r.1 in
        let it = held.sound r.0 f.0 in
        let passes = subst (λ (x : Row). whose x ≡ true) it.3 f.1 in
        let mine = own_row W L who (λ M. map outgoing_cells (outgoing_rows W M)) legal partner refl it.0 it.1 it.2 (and_true _ _ passes).0 in
        let m = has_mapped outgoing_cells sent mine.0 mine.1 in
        let shown : r.0 ≡ stored_as it.0 m.0 = it.3 ∙ ap (λ (c : TableRow). value.Int it.0 ∷ values c) (mine.2 ∙ ap (λ (c : TableRow). Text t ∷ c) m.2) in
        (m.0, m.1, e.2 ∙ ap (output last_query) r.2 ∙ ap (λ (x : Row). output last_query (env_of x)) shown)

    row_kept : (r : OutRow) → Has sent r → Has a.kept (out r)
    row_kept r there =
        let stored = held.complete (Text t ∷ outgoing_cells r) (table_row W L who (λ M. map outgoing_cells (outgoing_rows W M)) legal partner refl (outgoing_cells r) (mapped_has outgoing_cells sent r there)) in
        let passes : whose (stored_as stored.0 r) ≡ true = (λ i. text_itself t i && true) in
        let kept_it = has_kept whose (db 4) (stored_as stored.0 r) stored.1 passes in
        subst (λ (os : List Output). Has os (out r)) (sym kept_is) (mapped_has (output last_query) (map env_of (filter whose (db 4))) (env_of (stored_as stored.0 r)) (mapped_has env_of (filter whose (db 4)) (stored_as stored.0 r) kept_it))

    ordered_row : (o : Output) → Has a.ordered o → (r : OutRow) × Has sent r × (o ≡ out r)
    ordered_row o there = kept_row o (has_contained a.kept o (Contains-permutation a.ordered a.kept o (IsPermutation-sym a.kept a.ordered a.same) (contains_had a.ordered o there)))

    row_ordered : (r : OutRow) → Has sent r → Has a.ordered (out r)
    row_ordered r there = has_contained a.ordered (out r) (Contains-permutation a.kept a.ordered (out r) a.same (contains_had a.kept (out r) (row_kept r there)))

    total : entries + 1 ≡ next_number (own L who)
    total = history-numbered (own L who)

    last : IsLast rows entries
    last = by a.ordered a.shown ordered_row row_ordered a.sorted (last_there W (events (own L who)) [] (own L who))
      where
        by : (os : List Output) → rows ≡ take 1 (map (λ (o : Output). o.1) os) → ((o : Output) → Has os o → (r : OutRow) × Has sent r × (o ≡ out r)) → ((r : OutRow) → Has sent r → Has os (out r))
            → IsSorted (output_cmp last_query) os → (next_number (own L who) ≡ 1) ⊎ ((r : OutRow) × Has sent r × (r.n + 1 ≡ next_number (own L who))) → IsLast rows entries
        by [] is each there sorted (inl none) = subst (λ (rs : List Row). IsLast rs entries) (sym is) (omega (arith, total, none))
        by [] is each there sorted (inr last) = absurd (there last.0 last.1)
        by (o ∷ os) is each there sorted top =
            let r = each o (inl refl) in
            let below = rows_below W (events (own L who)) [] (own L who) r.0 r.1 in
            let up = (ascending_from_sorted (output_cmp last_query) (output_cmp_total last_query) (o ∷ os) sorted).0 in
            let number : r.0.n ≡ entries = least r.0 r.2 below top up in
            subst (λ (rs : List Row). IsLast rs entries) (sym is) (ap (λ (x : Output). x.1) r.2 ∙ ap (λ (k : ℕ). value.Int (pos k) ∷ []) number)
          where
            number_value : (m n : ℕ) → ◌≡◌ {A = Row} (value.Int (pos m) ∷ []) (value.Int (pos n) ∷ []) → m ≡ n
            number_value m n e = cc

            numbers : (p q : OutRow) → out p ≡ out q → p.n ≡ q.n
            numbers p q e = number_value p.n q.n (ap (λ (x : Output). x.1) e)

            least : (r : OutRow) → o ≡ out r → r.n < next_number (own L who) → (next_number (own L who) ≡ 1) ⊎ ((q : OutRow) × Has sent q × (q.n + 1 ≡ next_number (own L who)))
                → AllByRecursion (λ (p : Output). is_gt (output_cmp last_query o p) ≡ false) os → r.n ≡ entries
            least r first below (inl none) up = omega (arith, below, none, total)
            least r first below (inr top) up =
                let reached : top.0.n ≤ r.n = elim (there top.0 top.1) [
                  | inl same ↦ (let e = numbers top.0 r (same ∙ first) in omega (arith, e))
                  | inr later ↦ not_above r.n top.0.n (subst (λ (p : Output). is_gt (output_cmp last_query p (out top.0)) ≡ false) first (all_has (λ (p : Output). is_gt (output_cmp last_query o p) ≡ false) os (out top.0) up later))
                ] in
                omega (arith, below, top.2, reached, total)

-- what the rows of a partner tell, of tables that stand while they are open
pub last_read : (old : State) (W : Who) (L : List Entry) (who : Who) → IsTrue (is_partner who) → StandsWhileOpen old W L → (rows : List Row) → IsTrue old.is_open × Finds last_text (value.Text (who_text who) ∷ []) old.now rows
    → IsLast rows (page_of (own L who)).entries
last_read old W L who partner stands rows finds =
    let here = stands finds.0 in
    let held = here.rows in
    let read = found last_text (value.Text (who_text who) ∷ []) old.now rows _ here.schema last_reads last_is finds.1 in
    last W L who here.legal partner old.now.trees (held Outgoing) rows (read.answer value.Null)
