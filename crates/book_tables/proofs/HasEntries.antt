-- Whether a depositor has entries, as one row of `entry` tells.
use Rattle.std.proofs.Common.{◌≡◌, ℕ, suc, List, [], ◌∷◌, ◌++◌, map, filter, flat_map, take, length, ◌&&◌, Bool, true, false, cond, IsTrue, refl, sym, ap, subst, ◌∙◌, inl, inr, arith}
use Rattle.std.specs.Prelude.{◌==◌, if◌then◌else◌}
use Rattle.std.specs.List.{list_all}
use Rattle.std.specs.Ordering.{is_eq}
use Rattle.std.proofs.lemmas.Bool.{cases_Bool, eqb-true}
use Rattle.std.proofs.lemmas.List.{length-map}
use Rattle.std.proofs.lemmas.List.Sorted.{length_permutation}
use Rattle.std.proofs.lemmas.Map.Text.{is_eq-slice_cmp}
use Rattle.sqlite.specs.declared.types.Value.TheVariants as value
use Rattle.sqlite.specs.Order.{Row, column}
use Rattle.sqlite.specs.Collation.TheVariants.{Binary}
use Rattle.sqlite.specs.Query.{IsAnswer, output, Output}
use Rattle.sqlite.specs.Program.{overlay}
use Rattle.sqlite.specs.Term.{Env}
use Rattle.sqlite.specs.Tree.{Trees}
use Rattle.sqlite.specs.State.{State}
use Rattle.sqlite_value.proofs.OrderLemmas.{value_cmp-Text}
use Rattle.sqlite_schema.specs.Rules.{equal}
use Rattle.definitions.specs.Rules.{Today}
use Rattle.definitions.specs.Header.{Who, is_partner, who_eq, who_text}
use Rattle.definitions.specs.Register.{Entry, own}
use Rattle.definitions.specs.Readings.{is_entry}
use Rattle.definitions.specs.Tables.{entry_row, entries_on, entry_table}
use Rattle.definitions.proofs.RegisterLaws.{legal-entries}
use Rattle.definitions.proofs.TextLaws.{both_parts}
use Rattle.rules.proofs.Depositors.{partner_of}
use Rattle.book_statements.specs.declared.names.TableName.TheVariants as table
use Rattle.book_statements.specs.Asking.{Finds}
use Rattle.book_statements.specs.Exits.{StandsWhileOpen}
use Rattle.book_statements.specs.Held.{entry_values}
use Rattle.book_statements.proofs.Asked.{found}
use Rattle.book_statements.proofs.KeyLemmas.{equal_texts}
use Rattle.book_tables.proofs.Owned.{told_apart}
use Rattle.book_statements.proofs.ShowingTexts.{has_text, has_query, has_is, has_reads}

passing_map : {A B : Type 0} (t : A → Bool) (f : A → B) (xs : List A) → flat_map (λ x. cond (t x) (f x ∷ []) []) xs ≡ map f (filter t xs)
passing_map t f [] = refl
passing_map t f (x ∷ xs) = elim (cases_Bool (t x)) [ inl e ↦ rw e (ap (λ ys. f x ∷ ys) (passing_map t f xs)) | inr e ↦ rw e (passing_map t f xs) ]

not_zero : (n : ℕ) → (suc n == 0) ≡ false
not_zero n = by (suc n == 0) refl
  where
    by : (b : Bool) → (suc n == 0) ≡ b → b ≡ false
    by true h = absurd (omega (arith, eqb-true (suc n) 0 h))
    by false h = refl

module _ (who : Who) where
  abbrev whose : Row → Bool
  whose r = equal Binary (column r 2) (value.Text (who_text who)) && true

  abbrev env_of : Row → Env
  env_of r = (value.Text (who_text who) ∷ []) ∷ r ∷ []

  and_truth : (b : Bool) → (b && true) ≡ b
  and_truth true = refl
  and_truth false = refl

  -- a row of `entry` passes where the entry is the depositor's
  whose_is : (before : List Entry) (e : Entry) → is_partner e.who ≡ true → is_partner who ≡ true → whose (entry_values (entry_row before e)) ≡ who_eq e.who who
  whose_is before e p q =
      and_truth (equal Binary (value.Text (who_text e.who)) (value.Text (who_text who)))
      ∙ equal_texts (who_text e.who) (who_text who) ∙ ap is_eq (value_cmp-Text (who_text e.who) (who_text who)) ∙ is_eq-slice_cmp (who_text e.who) (who_text who) ∙ told_apart e.who who p q

  own_long : (before L : List Entry) → list_all is_entry L ≡ true → is_partner who ≡ true → length (filter whose (map entry_values (entries_on before L))) ≡ length (own L who)
  own_long before [] good partner = refl
  own_long before (e ∷ L) good partner =
      let a = both_parts (is_entry e) (list_all is_entry L) good in
      ap (λ (b : Bool). length (if b then entry_values (entry_row before e) ∷ rest else rest)) (whose_is before e (partner_of e a.0) partner)
      ∙ by (who_eq e.who who) (own_long (before ++ e ∷ []) L a.1 partner)
    where
      rest : List Row
      rest = filter whose (map entry_values (entries_on (before ++ e ∷ []) L))

      by : (b : Bool) → length rest ≡ length (own L who) → length (if b then entry_values (entry_row before e) ∷ rest else rest) ≡ length (if b then e ∷ own L who else own L who)
      by true later = ap suc later
      by false later = later

  -- the first of the rows tells whether there is one
  first_tells : (os : List Output) (rows : List Row) (n : ℕ) → rows ≡ take 1 (map (λ (o : Output). o.1) os) → length os ≡ n → (length rows == 0) ≡ (n == 0)
  first_tells [] rows n is long = ap (λ (rs : List Row). length rs == 0) is ∙ ap (λ (m : ℕ). m == 0) long
  first_tells (o ∷ os) rows n is long = ap (λ (rs : List Row). length rs == 0) is ∙ sym (not_zero (length os)) ∙ ap (λ (m : ℕ). m == 0) long

  none_shown : (L : List Entry) (db : Trees) (rows : List Row) → list_all is_entry L ≡ true → is_partner who ≡ true → db 1 ≡ map entry_values (entry_table L)
      → IsAnswer has_query (overlay db []) (value.Text (who_text who) ∷ []) rows → (length rows == 0) ≡ (length (own L who) == 0)
  none_shown L db rows good partner held a =
      let kept : a.kept ≡ map (output has_query) (map env_of (filter whose (db 1))) = a.distinct ∙ ap (map (output has_query)) (a.grouped ∙ passing_map whose env_of (db 1)) in
      first_tells a.ordered rows (length (own L who)) a.shown
      (length_permutation a.kept a.ordered a.same ∙ ap length kept ∙ length-map (map env_of (filter whose (db 1))) (output has_query) ∙ length-map (filter whose (db 1)) env_of
      ∙ ap (λ (rs : List Row). length (filter whose rs)) held ∙ own_long [] L good partner)

-- no row is shown exactly where the depositor has no entry
pub none_read : (old : State) (W : Who) (L : List Entry) (who : Who) → IsTrue (is_partner who) → StandsWhileOpen old W L → (text : List ℕ) → text ≡ who_text who → (rows : List Row)
    → IsTrue old.is_open × Finds has_text (value.Text text ∷ []) old.now rows → (length rows == 0) ≡ (length (own L who) == 0)
none_read old W L who partner stands text told rows finds =
    let here = stands finds.0 in
    let held = here.rows in
    let h = subst (λ t. Finds has_text (value.Text t ∷ []) old.now rows) told finds.1 in
    let read = found has_text (value.Text (who_text who) ∷ []) old.now rows _ here.schema has_reads has_is h in
    none_shown who L old.now.trees rows (legal-entries Today W L here.legal) partner (held table.Entry) (read.answer value.Null)
