-- What it tells of two databases that each table shows the same rows in both.
use Rattle.std.proofs.Common.{◌≡◌, List, [], map, Bool, true, false, Result, Ok, Err, IsTrue, OnOk, refl, sym, ap, subst, ◌∙◌}
use Rattle.std.specs.Prelude.{IfOk}
use Rattle.sqlite.specs.Order.{Row}
use Rattle.sqlite.specs.Query.{Query, IsAnswer}
use Rattle.sqlite.specs.Program.{overlay}
use Rattle.sqlite.specs.Tree.{IsTable}
use Rattle.sqlite.specs.Effect.{Database, IsDatabase}
use Rattle.sqlite.specs.State.{State, IsLive}
use Rattle.definitions.specs.Header.{Who}
use Rattle.definitions.specs.Register.{Entry}
use Rattle.book_statements.specs.declared.names.TableName.{TableName}
use Rattle.book_statements.specs.declared.names.TableName.TheVariants as name
use Rattle.book_statements.specs.Whole.{whole_text}
use Rattle.book_tables.specs.Comparing.{AreTables, FindBoth, IsLaid, Compares}
use Rattle.book_statements.specs.Exits.{StandsWhileOpen}
use Rattle.book_statements.specs.Layout.{IsLayout, book_trees}
use Rattle.book_statements.specs.Standing.{ByColumns, keying_of, schema_of, tree_of, width_of, StandsSecond, TreesHold, HeldAs, OrderedAs, filled}
use Rattle.book_statements.proofs.Found.{entries_rise, rules_rise}
use Rattle.book_statements.proofs.Ordered.{all_ordered}
use Rattle.book_tables.proofs.WholeBook.{book_same, book_shown, entries_same, entries_shown, rules_same, rules_shown}
use Rattle.book_tables.proofs.WholeFound.{whole_found}
use Rattle.book_tables.proofs.WholeKeyed.{holds_too, shaped_at}
use Rattle.book_tables.proofs.WholeSorted.{same_shown}
use Rattle.book_statements.proofs.WholeTexts.{whole_query, keyed_is}

module _ (one two : Database) (lies : IsLayout one.schema) (its : IsLayout two.schema) (sound : IsDatabase one) (its_sound : IsDatabase two) where
  -- the answers that both give
  answer : (t : TableName) (same : Bool) (f : FindBoth (whole_text t) one two same) → IsAnswer (whole_query t) (overlay (book_trees one) []) [] f.rows
  answer t same f = whole_found t one f.rows lies f.finds

  its_answer : (t : TableName) (same : Bool) (f : FindBoth (whole_text t) one two same) → IsAnswer (whole_query t) (overlay (book_trees two) []) [] f.others
  its_answer t same f = whole_found t two f.others its f.other_finds

  same_answer : (t : TableName) (f : FindBoth (whole_text t) one two true) → IsAnswer (whole_query t) (overlay (book_trees two) []) [] f.rows
  same_answer t f = subst (λ (rows : List Row). IsAnswer (whole_query t) (overlay (book_trees two) []) [] rows) (sym (f.told.0 refl)) (its_answer t true f)

  -- all are the same: what the one stands for, the other stands for
  pub stands_too : (W : Who) (L : List Entry) → AreTables one → StandsSecond W L two → ((t : TableName) → FindBoth (whole_text t) one two true) → StandsSecond W L one
  stands_too W L tables stands same =
      record { legal = stands.legal; schema = lies; rows = by }
    where
      held : TreesHold (filled W L) (book_trees two)
      held = stands.rows

      its_up : IsTable (book_trees two 1)
      its_up = subst IsTable (sym (held name.Entry)) (entries_rise [] L)

      its_rules_up : IsTable (book_trees two 18)
      its_rules_up = subst IsTable (sym (held name.EntryRules)) (rules_rise [] L)

      keyed : (t : TableName) → keying_of t ≡ ByColumns → HeldAs (keying_of t) (filled W L t) (book_trees one (tree_of t))
      keyed t is =
          let f = same t in
          subst (λ g. HeldAs g (filled W L t) (book_trees one (tree_of t))) (sym is)
          (holds_too t one two lies its sound its_sound tables f.rows
          (subst (λ (q : Query). IsAnswer q (overlay (book_trees one) []) [] f.rows) (keyed_is t is) (answer t true f))
          (subst (λ (q : Query). IsAnswer q (overlay (book_trees two) []) [] f.rows) (keyed_is t is) (same_answer t f)) (filled W L t)
          (subst (λ g. HeldAs g (filled W L t) (book_trees two (tree_of t))) is (held t)))

      by : TreesHold (filled W L) (book_trees one)
      by name.Book = book_same one two lies its sound its_sound _ (answer name.Book true (same name.Book)) (same_answer name.Book (same name.Book)) _ (held name.Book)
      by name.Entry = entries_same one two lies its sound its_sound _ (shaped_at name.Entry one tables).0 its_up (answer name.Entry true (same name.Entry)) (same_answer name.Entry (same name.Entry)) ∙ held name.Entry
      by name.EntryRules =
          rules_same one two lies its sound its_sound _ (shaped_at name.EntryRules one tables).0 its_rules_up (answer name.EntryRules true (same name.EntryRules)) (same_answer name.EntryRules (same name.EntryRules)) ∙ held name.EntryRules
      by name.Outgoing = keyed name.Outgoing refl
      by name.Stock = keyed name.Stock refl
      by name.Advice = keyed name.Advice refl
      by name.AdviceLine = keyed name.AdviceLine refl
      by name.Orders = keyed name.Orders refl
      by name.OrderLine = keyed name.OrderLine refl
      by name.Reservation = keyed name.Reservation refl
      by name.LotExpiry = keyed name.LotExpiry refl

  module _ (W : Who) (L : List Entry) (stands : StandsSecond W L one) (its_stands : StandsSecond W L two) where
    abbrev held : TreesHold (filled W L) (book_trees one)
    held = stands.rows

    abbrev its_held : TreesHold (filled W L) (book_trees two)
    its_held = its_stands.rows

    keyed_alike : (t : TableName) → keying_of t ≡ ByColumns → (same : Bool) (f : FindBoth (whole_text t) one two same) → f.rows ≡ f.others
    keyed_alike t is same f =
        let ordered = all_ordered W L in
        same_shown t is one two lies its sound its_sound (filled W L t) (subst (λ g. OrderedAs g (schema_of t) (width_of t) (filled W L t)) is (ordered.each t))
        (subst (λ g. HeldAs g (filled W L t) (book_trees one (tree_of t))) is (held t)) (subst (λ g. HeldAs g (filled W L t) (book_trees two (tree_of t))) is (its_held t)) f.rows f.others
        (subst (λ (q : Query). IsAnswer q (overlay (book_trees one) []) [] f.rows) (keyed_is t is) (answer t same f))
        (subst (λ (q : Query). IsAnswer q (overlay (book_trees two) []) [] f.others) (keyed_is t is) (its_answer t same f))

    book_alike : (same : Bool) (f : FindBoth (whole_text name.Book) one two same) → f.rows ≡ f.others
    book_alike same f =
        book_shown (book_trees one) f.rows (answer name.Book same f) _ (held name.Book) ∙ sym (book_shown (book_trees two) f.others (its_answer name.Book same f) _ (its_held name.Book))

    entry_alike : (same : Bool) (f : FindBoth (whole_text name.Entry) one two same) → f.rows ≡ f.others
    entry_alike same f =
        let up : IsTable (book_trees one 1) = subst IsTable (sym (held name.Entry)) (entries_rise [] L) in
        let its_up : IsTable (book_trees two 1) = subst IsTable (sym (its_held name.Entry)) (entries_rise [] L) in
        entries_shown (book_trees one) f.rows up (answer name.Entry same f) ∙ ap (map _) (held name.Entry ∙ sym (its_held name.Entry)) ∙ sym (entries_shown (book_trees two) f.others its_up (its_answer name.Entry same f))

    rules_alike : (same : Bool) (f : FindBoth (whole_text name.EntryRules) one two same) → f.rows ≡ f.others
    rules_alike same f =
        let up : IsTable (book_trees one 18) = subst IsTable (sym (held name.EntryRules)) (rules_rise [] L) in
        let its_up : IsTable (book_trees two 18) = subst IsTable (sym (its_held name.EntryRules)) (rules_rise [] L) in
        rules_shown (book_trees one) f.rows up (answer name.EntryRules same f) ∙ ap (map _) (held name.EntryRules ∙ sym (its_held name.EntryRules)) ∙ sym (rules_shown (book_trees two) f.others its_up (its_answer name.EntryRules same f))

    -- both stand for one register: no table differs
    pub shown_too : (t : TableName) (same : Bool) → FindBoth (whole_text t) one two same → IsTrue same
    shown_too name.Book same f = f.told.1 (book_alike same f)
    shown_too name.Entry same f = f.told.1 (entry_alike same f)
    shown_too name.Outgoing same f = f.told.1 (keyed_alike name.Outgoing refl same f)
    shown_too name.Stock same f = f.told.1 (keyed_alike name.Stock refl same f)
    shown_too name.Advice same f = f.told.1 (keyed_alike name.Advice refl same f)
    shown_too name.AdviceLine same f = f.told.1 (keyed_alike name.AdviceLine refl same f)
    shown_too name.Orders same f = f.told.1 (keyed_alike name.Orders refl same f)
    shown_too name.OrderLine same f = f.told.1 (keyed_alike name.OrderLine refl same f)
    shown_too name.Reservation same f = f.told.1 (keyed_alike name.Reservation refl same f)
    shown_too name.EntryRules same f = f.told.1 (rules_alike same f)
    shown_too name.LotExpiry same f = f.told.1 (keyed_alike name.LotExpiry refl same f)

-- The same of connections.

-- they show something, so both are open
opened : (one two : State) (same : Bool) → Compares same one two → IsTrue one.is_open × IsTrue two.is_open
opened one two true h = let s = h name.Book in (s.is_open, s.other_open)
opened one two false h = let s = h.1 in (s.is_open, s.other_open)

module _ (one two : State) (live : IsLive one) (its_live : IsLive two) where
  pub compared_stands : (W : Who) (L : List Entry) → IsLaid one → AreTables one.now → StandsWhileOpen two W L → (same : Bool) → Compares same one two → IsTrue same → StandsSecond W L one.now
  compared_stands W L laid tables stands true h _ =
      let s = h name.Book in
      let here = stands s.other_open in
      stands_too one.now two.now (laid s.is_open) here.schema (live s.is_open).0 (its_live s.other_open).0 W L tables here (λ t. let f = h t in f.find)
  compared_stands W L laid tables stands false h is = absurd (let e : ◌≡◌ {A = Bool} false true = is in cc)

  pub compared_same : (W : Who) (L : List Entry) → StandsWhileOpen one W L → StandsWhileOpen two W L → (same : Bool) → Compares same one two → IsTrue same
  compared_same W L stands its_stands true h = refl
  compared_same W L stands its_stands false h =
      let s = h.1 in
      let here = stands s.is_open in
      let there = its_stands s.other_open in
      shown_too one.now two.now here.schema there.schema (live s.is_open).0 (its_live s.other_open).0 W L here there h.0 false s.find

-- what is told in Ok
pub ok_map : {T E : Type 0} {P Q : T → Type 0} (r : Result T E) → ((t : T) → P t → Q t) → IfOk r P → IfOk r Q
ok_map (Ok t) f h = f t h
ok_map (Err e) f h = tt

pub ok_open : {E : Type 0} (one two : State) (r : Result Bool E) → IfOk r (λ same. Compares same one two) → OnOk r (IsTrue one.is_open)
ok_open one two (Ok same) h = (opened one two same h).0
ok_open one two (Err e) h = tt
