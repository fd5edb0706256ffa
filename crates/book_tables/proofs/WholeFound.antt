-- What the whole of a table shows: each row once, and where it is keyed in the order of its keys.
use Rattle.std.proofs.Common.{◌≡◌, ℕ, List, [], ◌∷◌, map, flat_map, refl, sym, ap, subst, ◌∙◌}
use Rattle.std.proofs.lemmas.List.Sorted.{Contains-permutation, IsPermutation-sym}
use Rattle.sqlite.specs.Order.{Row}
use Rattle.sqlite.specs.Query.{Query, IsAnswer, output, Output}
use Rattle.sqlite.specs.Program.{overlay}
use Rattle.sqlite.specs.Term.{Term, Env}
use Rattle.sqlite.specs.Tree.{Trees}
use Rattle.sqlite.specs.Effect.{Database}
use Rattle.sqlite_value.specs.declared.keys.Key.{Key}
use Rattle.sqlite_rules.specs.Lists.{Has}
use Rattle.sqlite_rules.proofs.ListLemmas.{has_contained, contains_had}
use Rattle.sqlite_rules.proofs.ProbeLemmas.{has_mapped, mapped_has}
use Rattle.book_statements.specs.declared.names.TableName.{TableName}
use Rattle.book_statements.specs.Asking.{Finds}
use Rattle.book_statements.specs.Whole.{whole_text}
use Rattle.book_statements.specs.Layout.{IsLayout, book_trees}
use Rattle.book_statements.proofs.Asked.{found_placed}
use Rattle.book_statements.proofs.ReadingTexts.{ordered_from}
use Rattle.book_statements.specs.Standing.{tree_of}
use Rattle.book_statements.proofs.WholeTexts.{whole_query, whole_names, over_its_tree, whole_is, whole_reads}

pub whole_found : (t : TableName) (db : Database) (rows : List Row) → IsLayout db.schema → Finds (whole_text t) [] db rows → IsAnswer (whole_query t) (overlay (book_trees db) []) [] rows
whole_found t db rows lies h =
    subst (λ (q : Query). IsAnswer q (overlay (book_trees db) []) [] rows) (over_its_tree t)
    (found_placed (whole_text t) [] db rows (whole_query t) (whole_names t) (tree_of t) (whole_reads t) (whole_is t db.schema lies) h)

singles : {A B : Type 0} (f : A → B) (xs : List A) → flat_map (λ x. f x ∷ []) xs ≡ map f xs
singles f [] = refl
singles f (x ∷ xs) = ap (λ ys. f x ∷ ys) (singles f xs)

map_map : {A B C : Type 0} (f : A → B) (g : B → C) (xs : List A) → map g (map f xs) ≡ map (λ x. g (f x)) xs
map_map f g [] = refl
map_map f g (x ∷ xs) = ap (λ ys. g (f x) ∷ ys) (map_map f g xs)

-- All rows of a tree, as these terms.
module _ (tree : ℕ) (project : List Term) (order : List (Term × Key)) where
  abbrev pub query : Query
  query = ordered_from tree [] project order

  abbrev pub out : Row → Output
  out r = output query ([] ∷ r ∷ [])

  module _ (lies : (db : Trees) → overlay db [] tree ≡ db tree) (db : Trees) (rows : List Row) (a : IsAnswer query (overlay db []) [] rows) where
    pub kept_is : a.kept ≡ map out (db tree)
    kept_is =
        let env : Row → Env = λ r. [] ∷ r ∷ [] in
        a.distinct ∙ ap (map (output query)) (a.grouped ∙ ap (flat_map (λ (r : Row). env r ∷ [])) (lies db) ∙ singles env (db tree)) ∙ map_map env (output query) (db tree)

    pub into : (o : Output) → Has a.kept o → Has a.ordered o
    into o h = has_contained a.ordered o (Contains-permutation a.kept a.ordered o a.same (contains_had a.kept o h))

    pub back : (o : Output) → Has a.ordered o → Has a.kept o
    back o h = has_contained a.kept o (Contains-permutation a.ordered a.kept o (IsPermutation-sym a.kept a.ordered a.same) (contains_had a.ordered o h))

    -- each row of the answer is what some stored row shows
    pub row_stored : (row : Row) → Has rows row → (r : Row) × Has (db tree) r × (row ≡ (out r).1)
    row_stored row there =
        let o = has_mapped (λ (o : Output). o.1) a.ordered row (subst (λ (rs : List Row). Has rs row) a.shown there) in
        let r = has_mapped out (db tree) o.0 (subst (λ (os : List Output). Has os o.0) kept_is (back o.0 o.1)) in
        (r.0, r.1, o.2 ∙ ap (λ (p : Output). p.1) r.2)

    -- and what each stored row shows is in the answer
    pub stored_shown : (r : Row) → Has (db tree) r → Has rows (out r).1
    stored_shown r there =
        let kept = subst (λ (os : List Output). Has os (out r)) (sym kept_is) (mapped_has out (db tree) r there) in
        subst (λ (rs : List Row). Has rs (out r).1) (sym a.shown) (mapped_has (λ (o : Output). o.1) a.ordered (out r) (into (out r) kept))
