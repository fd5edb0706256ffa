-- What a query of a keyed table shows of a depositor: its rows in the order of their keys, each
-- once.
use Rattle.std.proofs.Common.{◌≡◌, inl, inr, ℕ, ℤ, List, [], ◌∷◌, map, filter, flat_map, take, ◌&&◌, Bool, true, cond, bytes_eq, refl, sym, ap, subst, ◌∙◌}
use Rattle.std.specs.List.{IsDistinct}
use Rattle.std.specs.Ordering.{is_lt, is_eq, eq_by_cmp}
use Rattle.std.proofs.lemmas.Bool.{cases_Bool}
use Rattle.sqlite.specs.declared.types.Value.TheVariants as value
use Rattle.sqlite.specs.Order.{Row, column}
use Rattle.sqlite.specs.Collation.TheVariants.{Binary}
use Rattle.sqlite.specs.Query.{Query, IsAnswer, output, Output, output_cmp}
use Rattle.sqlite.specs.Program.{overlay}
use Rattle.sqlite.specs.Term.{Term, Env}
use Rattle.sqlite.specs.Tree.{Trees}
use Rattle.sqlite_sql.proofs.QueryLemmas.{output_cmp_total}
use Rattle.sqlite_value.specs.declared.keys.Key.{Key}
use Rattle.sqlite_schema.specs.Rules.{equal}
use Rattle.sqlite_rules.specs.Lists.{Has}
use Rattle.sqlite_rules.proofs.ListLemmas.{has_filtered, has_kept}
use Rattle.sqlite_rules.proofs.ProbeLemmas.{has_mapped, mapped_has}
use Rattle.definitions.specs.Tables.{Text, TableRow}
use Rattle.definitions.proofs.TextLaws.{same_text}
use Rattle.rules.specs.Keyed.{rises_by}
use Rattle.rules.proofs.Blocks.{prefixed}
use Rattle.book_statements.specs.Held.{values, Holds}
use Rattle.book_statements.specs.Steps.{key_of}
use Rattle.book_statements.proofs.KeyLemmas.{text_itself, same_text as equal_text}
use Rattle.book_tables.proofs.Parts.{begins}
use Rattle.book_statements.proofs.ShowingTexts.{shown_where}
use Rattle.book_tables.proofs.Sorts.{ordered_is, shown_apart}
use Rattle.book_statements.proofs.Values.{and_true}

passing_map : {A B : Type 0} (t : A → Bool) (f : A → B) (xs : List A) → flat_map (λ x. cond (t x) (f x ∷ []) []) xs ≡ map f (filter t xs)
passing_map t f [] = refl
passing_map t f (x ∷ xs) = elim (cases_Bool (t x)) [ inl e ↦ rw e (ap (λ ys. f x ∷ ys) (passing_map t f xs)) | inr e ↦ rw e (passing_map t f xs) ]

map_map : {A B C : Type 0} (f : A → B) (g : B → C) (xs : List A) → map g (map f xs) ≡ map (λ x. g (f x)) xs
map_map f g [] = refl
map_map f g (x ∷ xs) = ap (λ ys. g (f x) ∷ ys) (map_map f g xs)

-- A table whose rows begin with texts, of which a depositor's are the cells of some model's rows,
-- which rise by their keys.
module _ {M K : Type 0} (less : K → K → Bool) (key : M → K) (cells : M → TableRow) (tree k : ℕ) (project : List Term) (order : List (Term × Key)) (out : M → Output) (t : List ℕ) (table : List TableRow) (ms : List M) where
  abbrev pub query : Query
  query = shown_where tree project order

  abbrev pub env_of : Row → Env
  env_of r = (value.Text t ∷ []) ∷ r ∷ []

  abbrev pub whose : Row → Bool
  whose r = equal Binary (column r 1) (value.Text t) && true

  abbrev pub stored_as : ℤ → M → Row
  stored_as id m = value.Int id ∷ values (Text t ∷ cells m)

  -- what is known of the table, the query and the order
  pub record IsShown : Type 0 where
    pub lies : (db : Trees) → overlay db [] tree ≡ db tree
    pub part : filter (begins t) table ≡ prefixed t (map cells ms)
    pub firsts : (row : TableRow) → Has table row → (s : List ℕ) × (r : TableRow) × (row ≡ Text s ∷ r)
    pub rises : rises_by less key ms ≡ true
    pub puts : (id : ℤ) (m : M) → output query (env_of (stored_as id m)) ≡ out m
    pub ranks : (m n : M) → is_lt (output_cmp query (out m) (out n)) ≡ less (key m) (key n)
    pub tied : (m n : M) → is_eq (output_cmp query (out m) (out n)) ≡ true → take k (values (Text t ∷ cells m)) ≡ take k (values (Text t ∷ cells n))

  module _ (is : IsShown) (db : Trees) (held : Holds table (db tree)) (one : (a b : Row) → Has (db tree) a → Has (db tree) b → key_of k a ≡ key_of k b → a ≡ b) where
    -- a stored row of the depositor is one of the model
    row_of : (r : Row) → Has (db tree) r → whose r ≡ true → (id : ℤ) × (m : M) × Has ms m × (r ≡ stored_as id m)
    row_of r there passes =
        let it = held.sound r there in
        let first = is.firsts it.1 it.2 in
        let r_is : r ≡ value.Int it.0 ∷ values (Text first.0 ∷ first.1) = it.3 ∙ ap (λ (c : TableRow). value.Int it.0 ∷ values c) first.2 in
        let mine : first.0 ≡ t = equal_text first.0 t (subst (λ (v : _). equal Binary v (value.Text t) ≡ true) (ap (λ (x : Row). column x 1) r_is) (and_true _ _ passes).0) in
        let begun : begins t it.1 ≡ true = ap (begins t) first.2 ∙ ap (λ (s : List ℕ). bytes_eq s t) mine ∙ same_text t in
        let kept = subst (λ (rs : List TableRow). Has rs it.1) is.part (has_kept (begins t) table it.1 it.2 begun) in
        let cell = has_mapped (λ (c : TableRow). Text t ∷ c) (map cells ms) it.1 kept in
        let model = has_mapped cells ms cell.0 cell.1 in
        (it.0, model.0, model.1, it.3 ∙ ap (λ (c : TableRow). value.Int it.0 ∷ values c) (cell.2 ∙ ap (λ (c : TableRow). Text t ∷ c) model.2))

    model_held : (m : M) → Has ms m → (id : ℤ) × Has (db tree) (stored_as id m)
    model_held m there =
        let shown = mapped_has (λ (c : TableRow). Text t ∷ c) (map cells ms) (cells m) (mapped_has cells ms m there) in
        let listed = has_filtered (begins t) table (Text t ∷ cells m) (subst (λ (rs : List TableRow). Has rs (Text t ∷ cells m)) (sym is.part) shown) in
        held.complete (Text t ∷ cells m) listed.0

    apart : IsDistinct (eq_by_cmp (output_cmp query)) (map (λ (r : Row). output query (env_of r)) (filter whose (db tree)))
    apart = shown_apart (eq_by_cmp (output_cmp query)) (λ (r : Row). output query (env_of r)) whose (db tree) held.rise (λ a b here there p q alike.
        let x = row_of a here p in
        let y = row_of b there q in
        let outs : is_eq (output_cmp query (out x.1) (out y.1)) ≡ true =
        ap (λ (o : Output). is_eq (output_cmp query o (out y.1))) (sym (ap (λ (r : Row). output query (env_of r)) x.3 ∙ is.puts x.0 x.1))
        ∙ ap (λ (o : Output). is_eq (output_cmp query (output query (env_of a)) o)) (sym (ap (λ (r : Row). output query (env_of r)) y.3 ∙ is.puts y.0 y.1)) ∙ alike in
        one a b here there (ap (key_of k) x.3 ∙ is.tied x.1 y.1 outs ∙ sym (ap (key_of k) y.3)))

    -- the rows of the answer are what the model's rows show, in their order
    pub shown_rows : (rows : List Row) → IsAnswer query (overlay db []) (value.Text t ∷ []) rows → rows ≡ map (λ (m : M). (out m).1) ms
    shown_rows rows a =
        let kept_is : a.kept ≡ map (λ (r : Row). output query (env_of r)) (filter whose (db tree)) =
        a.distinct ∙ ap (map (output query)) (a.grouped ∙ ap (flat_map (λ (r : Row). cond (whose r) (env_of r ∷ []) [])) (is.lies db) ∙ passing_map whose env_of (db tree)) ∙ map_map env_of (output query) (filter whose (db tree)) in
        let ordered : a.ordered ≡ map out ms = ordered_is (output_cmp query) (output_cmp_total query) less key out is.ranks ms is.rises a.kept a.ordered ([], []) a.same a.sorted
        (subst (IsDistinct (eq_by_cmp (output_cmp query))) (sym kept_is) apart)
        (λ o there.
        let r = has_mapped (λ (r : Row). output query (env_of r)) (filter whose (db tree)) o (subst (λ (os : List Output). Has os o) kept_is there) in
        let f = has_filtered whose (db tree) r.0 r.1 in
        let x = row_of r.0 f.0 f.1 in
        (x.1, x.2, r.2 ∙ ap (λ (y : Row). output query (env_of y)) x.3 ∙ is.puts x.0 x.1))
        (λ m there.
        let x = model_held m there in
        let passes : whose (stored_as x.0 m) ≡ true = ap (λ (b : Bool). b && true) (text_itself t) in
        let shown = mapped_has (λ (r : Row). output query (env_of r)) (filter whose (db tree)) (stored_as x.0 m) (has_kept whose (db tree) (stored_as x.0 m) x.1 passes) in
        subst (Has a.kept) (is.puts x.0 m) (subst (λ (os : List Output). Has os (output query (env_of (stored_as x.0 m)))) (sym kept_is) shown)) in
        a.shown ∙ ap (map (λ (o : Output). o.1)) ordered ∙ map_map out (λ (o : Output). o.1) ms
