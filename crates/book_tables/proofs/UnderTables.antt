-- The tables of depositors under a depositor and one more value: what a table's rows are of a model
-- that tells them so.
use Rattle.std.proofs.Common.{◌≡◌, ℕ, ℤ, List, [], ◌∷◌, map, filter, flat_map, ◌&&◌, Bool, true, bytes_eq, None, Some, Option, refl, sym, ap, subst, ◌∙◌}
use Rattle.std.specs.Prelude.{find}
use Rattle.sqlite.specs.declared.types.Value.{Value}
use Rattle.sqlite.specs.declared.types.Value.TheVariants as value
use Rattle.sqlite.specs.Order.{column}
use Rattle.sqlite.specs.Collation.TheVariants.{Binary}
use Rattle.sqlite.specs.Query.{Output, output}
use Rattle.sqlite.specs.Program.{overlay}
use Rattle.sqlite.specs.Term.{Term}
use Rattle.sqlite.specs.Tree.{Trees}
use Rattle.sqlite_value.specs.declared.keys.Key.{Key}
use Rattle.sqlite_schema.specs.Rules.{equal}
use Rattle.sqlite_rules.specs.Lists.{Has}
use Rattle.sqlite_rules.proofs.ListLemmas.{has_filtered, has_found, has_kept}
use Rattle.sqlite_rules.proofs.ProbeLemmas.{has_mapped, mapped_has}
use Rattle.definitions.specs.Rules.{Today}
use Rattle.definitions.specs.Bytes.{comes_before}
use Rattle.definitions.specs.Header.{Who, is_partner, who_text}
use Rattle.definitions.specs.Register.{Entry, own}
use Rattle.definitions.specs.Accepted.{IsLegal}
use Rattle.definitions.specs.Tables.{Text, TableRow, for_each}
use Rattle.definitions.proofs.TextLaws.{text_is as bytes_same}
use Rattle.rules.specs.Keyed.{rises_by}
use Rattle.rules.proofs.KeyLemmas.{texts_strict}
use Rattle.book_statements.specs.Held.{values}
use Rattle.book_tables.proofs.Finding.{one_found, one_key, flat_has}
use Rattle.book_statements.proofs.KeyLemmas.{text_itself}
use Rattle.book_statements.proofs.NeedTexts.{under_at, under_where}
use Rattle.book_statements.proofs.Rising.{has_flat}
use Rattle.book_tables.proofs.Under.{own_row, table_row, IsUnder}
use Rattle.book_tables.proofs.UnderKey.{equal_bytes}
use Rattle.book_statements.proofs.Values.{and_true}

module _ (W : Who) (L : List Entry) (who : Who) (legal : IsLegal Today W L) (partner : is_partner who ≡ true) (rows : List Entry → List TableRow) (nothing : rows [] ≡ []) where
  abbrev t : List ℕ
  t = who_text who

  -- a table whose rows are the cells of models, of which a test tells those with the value
  module _ {M : Type 0} (cell : M → TableRow) (models : List M) (made : rows (own L who) ≡ map cell models) (test : M → Bool) (q : Value) (at : ℕ) (told : (id : ℤ) (m : M) → equal Binary (column (value.Int id ∷ values (Text t ∷ cell m)) at) q ≡ test m)
      (tree : ℕ) (project : List Term) (order : List (Term × Key)) (out : M → Output) (lies : (db : Trees) → overlay db [] tree ≡ db tree)
      (puts : (id : ℤ) (m : M) → output (under_at at tree project order) ((value.Text t ∷ q ∷ []) ∷ (value.Int id ∷ values (Text t ∷ cell m)) ∷ []) ≡ out m) where
    pub cells_under : IsUnder at (λ m. Text t ∷ cell m) tree project order out (value.Text t) q (for_each L rows) (filter test models)
    cells_under = record {
      lies = lies;
      sound = λ id c there passes.
          let both = and_true _ _ passes in
          let mine = own_row W L who rows legal partner nothing id c there both.0 in
          let m = has_mapped cell models mine.0 (subst (λ (rs : List TableRow). Has rs mine.0) made mine.1) in
          let shown : c ≡ Text t ∷ cell m.0 = mine.2 ∙ ap (λ (r : TableRow). Text t ∷ r) m.2 in
          (m.0, has_kept test models m.0 m.1 (sym (told id m.0) ∙ subst (λ (x : TableRow). equal Binary (column (value.Int id ∷ values x) at) q ≡ true) shown (and_true _ _ both.1).0), shown);
      listed = λ m there. table_row W L who rows legal partner nothing (cell m) (subst (λ (rs : List TableRow). Has rs (cell m)) (sym made) (mapped_has cell models m (has_filtered test models m there).0));
      passes = λ id m there.
          let its = told id m ∙ (has_filtered test models m there).1 in
          (λ i. text_itself t i && (its i && true));
      puts = puts;
    }

  -- a table whose rows are the parts of owners, each after its owner's name
  module _ {A P : Type 0} (name : A → List ℕ) (parts : A → List P) (cell : P → TableRow) (owners : List A) (made : rows (own L who) ≡ flat_map (λ a. map (λ p. Text (name a) ∷ cell p) (parts a)) owners)
      (rise : rises_by comes_before name owners ≡ true) (text : List ℕ) (tree : ℕ) (project : List Term) (order : List (Term × Key)) (out : P → Output) (lies : (db : Trees) → overlay db [] tree ≡ db tree)
      (puts : (id : ℤ) (p : P) → output (under_where tree project order) ((value.Text t ∷ value.Text text ∷ []) ∷ (value.Int id ∷ values (Text t ∷ Text text ∷ cell p)) ∷ []) ≡ out p)
      (parts_of : Option A → List P) (of_none : parts_of None ≡ []) (of_some : (a : A) → parts_of (Some a) ≡ parts a) where
    abbrev test : A → Bool
    test a = bytes_eq (name a) text

    abbrev block : A → List TableRow
    block a = map (λ p. Text (name a) ∷ cell p) (parts a)

    its_parts : (a : A) → Has owners a → name a ≡ text → find test owners ≡ Some a
    its_parts a there is =
        one_found test owners a there (equal_itself is) (λ b listed passes. one_key comes_before name texts_strict owners b a rise listed there (bytes_same (name b) text passes ∙ sym is))
      where
        equal_itself : name a ≡ text → bytes_eq (name a) text ≡ true
        equal_itself e = sym (equal_bytes (name a) text) ∙ ap (λ (s : List ℕ). equal Binary (value.Text s) (value.Text text)) e ∙ text_itself text

    listed_part : (o : Option A) → find test owners ≡ o → (p : P) → Has (parts_of o) p → Has (flat_map block owners) (Text text ∷ cell p)
    listed_part None e p there = absurd (subst (λ (ps : List P). Has ps p) of_none there)
    listed_part (Some a) e p there =
        let it = has_found test owners a e in
        flat_has block owners a (Text text ∷ cell p) it.0
        (subst (λ (s : List ℕ). Has (block a) (Text s ∷ cell p)) (bytes_same (name a) text it.1) (mapped_has (λ q. Text (name a) ∷ cell q) (parts a) p (subst (λ (ps : List P). Has ps p) (of_some a) there)))

    pub parts_under : IsUnder 2 (λ p. Text t ∷ Text text ∷ cell p) tree project order out (value.Text t) (value.Text text) (for_each L rows) (parts_of (find test owners))
    parts_under = record {
      lies = lies;
      sound = λ id c there passes.
          let both = and_true _ _ passes in
          let mine = own_row W L who rows legal partner nothing id c there both.0 in
          let a = has_flat block owners mine.0 (subst (λ (rs : List TableRow). Has rs mine.0) made mine.1) in
          let p = has_mapped (λ q. Text (name a.0) ∷ cell q) (parts a.0) mine.0 a.2 in
          let shown : c ≡ Text t ∷ Text (name a.0) ∷ cell p.0 = mine.2 ∙ ap (λ (r : TableRow). Text t ∷ r) p.2 in
          let named : name a.0 ≡ text = bytes_same (name a.0) text (sym (equal_bytes (name a.0) text) ∙ subst (λ (x : TableRow). equal Binary (column (value.Int id ∷ values x) 2) (value.Text text) ≡ true) shown (and_true _ _ both.1).0) in
          let found = its_parts a.0 a.1 named in
          (p.0, subst (λ (o : Option A). Has (parts_of o) p.0) (sym found) (subst (λ (ps : List P). Has ps p.0) (sym (of_some a.0)) p.1), shown ∙ ap (λ (s : List ℕ). Text t ∷ Text s ∷ cell p.0) named);
      listed = λ p there. table_row W L who rows legal partner nothing (Text text ∷ cell p) (subst (λ (rs : List TableRow). Has rs (Text text ∷ cell p)) (sym made) (listed_part (find test owners) refl p there));
      passes = λ id p there. (λ i. text_itself t i && (text_itself text i && true));
      puts = puts;
    }
