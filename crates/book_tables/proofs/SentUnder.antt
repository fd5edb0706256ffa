-- What an entry sent out stands in the one row of `outgoing` under its number.
use Rattle.std.proofs.Common.{◌≡◌, ℕ, ℤ, pos, List, [], ◌∷◌, ◌++◌, map, filter, ◌&&◌, Bool, true, false, refl, sym, ap, subst, ◌∙◌, inl, inr, arith, append-nil, append_assoc}
use Rattle.std.specs.Prelude.{if◌then◌else◌, nat_lt}
use Rattle.std.specs.List.{list_all}
use Rattle.std.proofs.lemmas.Bool.{and_parts, both_ways}
use Rattle.sqlite.specs.declared.types.Value.TheVariants as value
use Rattle.sqlite.specs.Order.{Row, column}
use Rattle.sqlite.specs.Collation.TheVariants.{Binary}
use Rattle.sqlite.specs.Query.{IsAnswer, output}
use Rattle.sqlite.specs.Program.{overlay}
use Rattle.sqlite.specs.Tree.{Trees}
use Rattle.sqlite.specs.Effect.{Database}
use Rattle.sqlite_schema.specs.Rules.{equal}
use Rattle.sqlite_rules.specs.Lists.{Has}
use Rattle.sqlite_rules.proofs.ListLemmas.{test_has, has_filtered, has_kept}
use Rattle.sqlite_rules.proofs.ProbeLemmas.{has_mapped, mapped_has}
use Rattle.definitions.specs.declared.rules.Rules.{Rules}
use Rattle.definitions.specs.Rules.{Today}
use Rattle.definitions.specs.Header.{Who, is_partner, who_text}
use Rattle.definitions.specs.Moments.{Moment}
use Rattle.definitions.specs.Register.{Entry, Deed, Enrolled, Received, Performed, own, is_numbered, next_number}
use Rattle.definitions.specs.Events.{Event}
use Rattle.definitions.specs.History.{events}
use Rattle.definitions.specs.Accepted.{IsLegal}
use Rattle.definitions.specs.Reply.{out}
use Rattle.definitions.specs.Rows.{OutRow, out_row, outgoing_on, outgoing_rows}
use Rattle.definitions.specs.Tables.{Text, TableRow, outgoing_cells, outgoing_table}
use Rattle.definitions.proofs.TextLaws.{same_text}
use Rattle.rules.specs.Keyed.{rises_by}
use Rattle.rules.proofs.KeyLemmas.{numbers_strict}
use Rattle.book_statements.specs.Asking.{Finds}
use Rattle.book_tables.specs.Contents.{IsContent}
use Rattle.book_statements.specs.Held.{values, Holds}
use Rattle.book_statements.specs.declared.names.TableName.TheVariants.{Outgoing}
use Rattle.book_statements.specs.Standing.{StandsSecond}
use Rattle.book_statements.proofs.Asked.{found}
use Rattle.book_statements.proofs.KeyLemmas.{text_itself, int_itself, same_int, same_text as equal_text}
use Rattle.book_tables.specs.Outgoing.{content_text}
use Rattle.book_tables.specs.Showing.{content_shown}
use Rattle.book_tables.proofs.ContentText.{content_query, content_is, content_reads}
use Rattle.book_tables.proofs.Sendings.{is_read, legal_sent}
use Rattle.book_statements.proofs.Ordered.{numbers_over, row_number, sent_rise}
use Rattle.book_tables.proofs.Parts.{begins, outgoing_part}
use Rattle.book_statements.proofs.Passing.{flat_map-cond, from_row, to_row, whose}
use Rattle.book_tables.proofs.ShownRows.{begun}
use Rattle.book_statements.proofs.Values.{and_true}

-- The model's rows.

-- two rows under one number are one
same_number : (xs : List OutRow) (a b : OutRow) → rises_by nat_lt (λ (q : OutRow). q.n) xs ≡ true → Has xs a → Has xs b → a.n ≡ b.n → a ≡ b
same_number [] a b rise h g same = absurd h
same_number (x ∷ xs) a b rise h g same =
    let p = and_parts (list_all (λ (q : OutRow). nat_lt x.n q.n) xs) (rises_by nat_lt (λ (q : OutRow). q.n) xs) rise in
    by p.0 h g (λ e f. same_number xs a b p.1 e f same)
  where
    never : list_all (λ (q : OutRow). nat_lt x.n q.n) xs ≡ true → (r : OutRow) → Has xs r → r.n ≡ x.n → ⊥
    never over r there is = both_ways (nat_lt x.n x.n) (numbers_strict.never x.n) (subst (λ (k : ℕ). nat_lt x.n k ≡ true) is (test_has (λ (q : OutRow). nat_lt x.n q.n) xs r over there))

    by : list_all (λ (q : OutRow). nat_lt x.n q.n) xs ≡ true → Has (x ∷ xs) a → Has (x ∷ xs) b → (Has xs a → Has xs b → a ≡ b) → a ≡ b
    by over (inl e) (inl f) again = e ∙ sym f
    by over (inl e) (inr f) again = absurd (never over b f (sym same ∙ ap (λ (q : OutRow). q.n) e))
    by over (inr e) (inl f) again = absurd (never over a e (same ∙ ap (λ (q : OutRow). q.n) f))
    by over (inr e) (inr f) again = again e f

-- a numbered entry has a row
row_there : (W : Who) (es : List Event) (pre front back : List Entry) (e : Entry) → is_numbered e ≡ true → Has (outgoing_on W es pre (front ++ e ∷ back)) (out_row W es (pre ++ front) e)
row_there W es pre [] back e h = subst (λ (B : List Entry). Has (outgoing_on W es pre (e ∷ back)) (out_row W es B e)) (sym (append-nil pre)) (here (is_numbered e) h)
  where
    here : (b : Bool) → b ≡ true → Has ((if b then out_row W es pre e ∷ [] else []) ++ outgoing_on W es (pre ++ e ∷ []) back) (out_row W es pre e)
    here true t = inl refl
    here false t = absurd (let f : ◌≡◌ {A = Bool} false true = t in cc)
row_there W es pre (x ∷ front) back e h =
    by (is_numbered x) (subst (λ (B : List Entry). Has (outgoing_on W es (pre ++ x ∷ []) (front ++ e ∷ back)) (out_row W es B e)) (append_assoc pre (x ∷ []) front) (row_there W es (pre ++ x ∷ []) front back e h))
  where
    by : (b : Bool) → Has (outgoing_on W es (pre ++ x ∷ []) (front ++ e ∷ back)) (out_row W es (pre ++ x ∷ front) e)
        → Has ((if b then out_row W es pre x ∷ [] else []) ++ outgoing_on W es (pre ++ x ∷ []) (front ++ e ∷ back)) (out_row W es (pre ++ x ∷ front) e)
    by true later = inr later
    by false later = later

row_content : (W : Who) (es : List Event) (before : List Entry) (e : Entry) → (out_row W es before e).content ≡ out W before e
row_content W es before e = by e.who e.moment e.rules e.deed
  where
    by : (w : Who) (t : Moment) (q : Rules) (d : Deed) → (out_row W es before (record { who = w; moment = t; deed = d; rules = q })).content ≡ out W before (record { who = w; moment = t; deed = d; rules = q })
    by w t q Enrolled = refl
    by w t q (Received text) = refl
    by w t q (Performed ticket act) = refl

-- an entry without a number sends nothing out
nothing_sent : (W : Who) (before : List Entry) (e : Entry) → is_numbered e ≡ false → out W before e ≡ []
nothing_sent W before e = by e.who e.moment e.rules e.deed
  where
    by : (w : Who) (t : Moment) (q : Rules) (d : Deed) → is_numbered (record { who = w; moment = t; deed = d; rules = q }) ≡ false → out W before (record { who = w; moment = t; deed = d; rules = q }) ≡ []
    by w t q Enrolled h = refl
    by w t q (Received text) h = absurd (let f : ◌≡◌ {A = Bool} true false = h in cc)
    by w t q (Performed ticket act) h = absurd (let f : ◌≡◌ {A = Bool} true false = h in cc)

-- no row has the number 0
never_zero : (W : Who) (M : List Entry) (r : OutRow) → Has (outgoing_rows W M) r → r.n ≡ 0 → ⊥
never_zero W M r there is =
    let over = numbers_over W (events M) 0 [] M (omega arith) in
    both_ways (nat_lt 0 0) (numbers_strict.never 0) (subst (λ (k : ℕ). nat_lt 0 k ≡ true) is (test_has (λ (q : OutRow). nat_lt 0 q.n) (outgoing_rows W M) r over there))

-- The stored rows.

pos_is : (m n : ℕ) → pos m ≡ pos n → m ≡ n
pos_is m n e = cc e

module _ (W : Who) (L : List Entry) (who : Who) (legal : IsLegal Today W L) (partner : is_partner who ≡ true) (n : ℕ) (db : Trees) (held : Holds (outgoing_table W L) (db 4)) where
  abbrev t : List ℕ
  t = who_text who

  abbrev params : Row
  params = value.Text t ∷ value.Int (pos n) ∷ []

  abbrev test : Row → Bool
  test = whose (value.Text t) (value.Int (pos n))

  abbrev ms : List OutRow
  ms = outgoing_rows W (own L who)

  abbrev stored_as : ℤ → OutRow → Row
  stored_as id m = value.Int id ∷ values (Text t ∷ outgoing_cells m)

  -- a stored row that passes is one of the model, under the number
  row_of : (r : Row) → Has (db 4) r → test r ≡ true → (m : OutRow) × Has ms m × (m.n ≡ n) × (column r 4 ≡ value.Blob m.content) × (column r 3 ≡ value.Text m.kind) × (column r 5 ≡ value.Text m.state)
  row_of r there passes =
      let it = held.sound r there in
      let first = begun L (λ M. map outgoing_cells (outgoing_rows W M)) it.1 it.2 in
      let r_is : r ≡ value.Int it.0 ∷ values (Text first.0 ∷ first.1) = it.3 ∙ ap (λ (c : TableRow). value.Int it.0 ∷ values c) first.2 in
      let both = and_true _ _ passes in
      let mine : first.0 ≡ t = equal_text first.0 t (subst (λ (v : _). equal Binary v (value.Text t) ≡ true) (ap (λ (x : Row). column x 1) r_is) both.0) in
      let starts : begins t it.1 ≡ true = ap (begins t) first.2 ∙ ap (λ (s : List ℕ). begins t (Text s ∷ first.1)) mine ∙ same_text t in
      let kept = subst (λ (rs : List TableRow). Has rs it.1) (outgoing_part W L who legal partner) (has_kept (begins t) (outgoing_table W L) it.1 it.2 starts) in
      let cell = has_mapped (λ (c : TableRow). Text t ∷ c) (map outgoing_cells ms) it.1 kept in
      let model = has_mapped outgoing_cells ms cell.0 cell.1 in
      let shown : r ≡ stored_as it.0 model.0 = it.3 ∙ ap (λ (c : TableRow). value.Int it.0 ∷ values c) (cell.2 ∙ ap (λ (c : TableRow). Text t ∷ c) model.2) in
      let number : model.0.n ≡ n = pos_is model.0.n n (same_int (pos model.0.n) (pos n) (subst (λ (v : _). equal Binary v (value.Int (pos n)) ≡ true) (ap (λ (x : Row). column x 2) shown) (and_true _ _ both.1).0)) in
      (model.0, model.1, number, ap (λ (x : Row). column x 4) shown, ap (λ (x : Row). column x 3) shown, ap (λ (x : Row). column x 5) shown)

  -- and a row of the model is stored and passes
  model_held : (m : OutRow) → Has ms m → m.n ≡ n → (id : ℤ) × Has (db 4) (stored_as id m) × (test (stored_as id m) ≡ true)
  model_held m there is =
      let shown = mapped_has (λ (c : TableRow). Text t ∷ c) (map outgoing_cells ms) (outgoing_cells m) (mapped_has outgoing_cells ms m there) in
      let listed = has_filtered (begins t) (outgoing_table W L) (Text t ∷ outgoing_cells m) (subst (λ (rs : List TableRow). Has rs (Text t ∷ outgoing_cells m)) (sym (outgoing_part W L who legal partner)) shown) in
      let stored = held.complete (Text t ∷ outgoing_cells m) listed.0 in
      let number : equal Binary (value.Int (pos m.n)) (value.Int (pos n)) ≡ true = ap (λ (k : ℕ). equal Binary (value.Int (pos k)) (value.Int (pos n))) is ∙ int_itself (pos n) in
      (stored.0, stored.1, (λ i. text_itself t i && (number i && true)))

  module _ (rows : List Row) (a : IsAnswer content_query (overlay db []) params rows) where
    kept_is : a.kept ≡ map (output content_query) (map (λ (r : Row). params ∷ r ∷ []) (filter test (db 4)))
    kept_is = a.distinct ∙ ap (map (output content_query)) (a.grouped ∙ flat_map-cond test (λ (r : Row). params ∷ r ∷ []) (db 4))

    of_row : (row : Row) → Has rows row → (m : OutRow) × Has ms m × (m.n ≡ n) × (row ≡ content_shown m)
    of_row row there =
        let it = from_row content_query params test (db 4) rows a.kept a.ordered kept_is a.same a.shown row there in
        let m = row_of it.0 it.1 it.2 in
        (m.0, m.1, m.2, it.3 ∙ (λ i. m.3 i ∷ m.4 i ∷ m.5 i ∷ []))

    has_row : (m : OutRow) → Has ms m → m.n ≡ n → Has rows (content_shown m)
    has_row m there is =
        let stored = model_held m there is in
        to_row content_query params test (db 4) rows a.kept a.ordered kept_is a.same a.shown (stored_as stored.0 m) stored.1 stored.2

    module _ (before : List Entry) (e : Entry) (back : List Entry) (split : own L who ≡ before ++ e ∷ back) where
      abbrev its : OutRow
      its = out_row W (events (own L who)) before e

      its_there : is_numbered e ≡ true → Has ms its
      its_there h = subst (λ (M : List Entry). Has (outgoing_on W (events (own L who)) [] M) its) (sym split) (row_there W (events (own L who)) [] before back e h)

      numbered : is_numbered e ≡ true → n ≡ next_number before → IsContent rows (out W before e)
      numbered h is = by rows (has_row its (its_there h) (row_number W (events (own L who)) before e ∙ sym is)) of_row
        where
          by : (rs : List Row) → Has rs (content_shown its) → ((row : Row) → Has rs row → (m : OutRow) × Has ms m × (m.n ≡ n) × (row ≡ content_shown m)) → IsContent rs (out W before e)
          by [] none each = absurd none
          by (row ∷ rs) there each =
              let m = each row (inl refl) in
              let same : m.0 ≡ its = same_number ms m.0 its (sent_rise W (events (own L who)) [] (own L who)) m.1 (its_there h) (m.2 ∙ is ∙ sym (row_number W (events (own L who)) before e)) in
              (ap (λ (x : Row). column x 0) m.3 ∙ ap (λ (r : OutRow). value.Blob r.content) same ∙ ap value.Blob (row_content W (events (own L who)) before e), is_read row m.0 m.3 (legal_sent W L who legal m.0 m.1))

      unnumbered : is_numbered e ≡ false → n ≡ 0 → IsContent rows (out W before e)
      unnumbered h is = by rows of_row
        where
          by : (rs : List Row) → ((row : Row) → Has rs row → (m : OutRow) × Has ms m × (m.n ≡ n) × (row ≡ content_shown m)) → IsContent rs (out W before e)
          by [] each = nothing_sent W before e h
          by (row ∷ rs) each = absurd (let m = each row (inl refl) in never_zero W (own L who) m.0 m.1 (m.2 ∙ is))

      content_told : n ≡ (if is_numbered e then next_number before else 0) → IsContent rows (out W before e)
      content_told is = by (is_numbered e) refl is
        where
          by : (b : Bool) → is_numbered e ≡ b → n ≡ (if b then next_number before else 0) → IsContent rows (out W before e)
          by true h i = numbered h i
          by false h i = unnumbered h i

pub content_found : (W : Who) (L : List Entry) (who : Who) (n : ℕ) (db : Database) (rows : List Row) → is_partner who ≡ true → StandsSecond W L db
    → Finds content_text (value.Text (who_text who) ∷ value.Int (pos n) ∷ []) db rows → (before : List Entry) (e : Entry) (back : List Entry) → own L who ≡ before ++ e ∷ back
    → n ≡ (if is_numbered e then next_number before else 0) → IsContent rows (out W before e)
content_found W L who n db rows partner stands h before e back split is =
    let read = found content_text (value.Text (who_text who) ∷ value.Int (pos n) ∷ []) db rows _ stands.schema content_reads content_is h in
    let held = stands.rows in
    content_told W L who stands.legal partner n db.trees (held Outgoing) rows (read.answer value.Null) before e back split is

-- whatever is under a number shows a content
pub some_content : (W : Who) (L : List Entry) (who : Who) (n : ℕ) (db : Database) (rows : List Row) → is_partner who ≡ true → StandsSecond W L db
    → Finds content_text (value.Text (who_text who) ∷ value.Int (pos n) ∷ []) db rows → (content : List ℕ) × IsContent rows content
some_content W L who n db rows partner stands h =
    let read = found content_text (value.Text (who_text who) ∷ value.Int (pos n) ∷ []) db rows _ stands.schema content_reads content_is h in
    let held = stands.rows in
    by rows (of_row W L who stands.legal partner n db.trees (held Outgoing) rows (read.answer value.Null))
  where
    by : (rs : List Row) → ((row : Row) → Has rs row → (m : OutRow) × Has (outgoing_rows W (own L who)) m × (m.n ≡ n) × (row ≡ content_shown m)) → (content : List ℕ) × IsContent rs content
    by [] each = ([], refl)
    by (row ∷ rs) each = let m = each row (inl refl) in (m.0.content, (ap (λ (x : Row). column x 0) m.3, is_read row m.0 m.3 (legal_sent W L who stands.legal m.0 m.1)))
