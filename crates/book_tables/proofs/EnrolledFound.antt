-- The text that asks for the first enrolment from a text on, and what its row shows.
use Rattle.std.proofs.Common.{◌≡◌, inl, inr, ℕ, ◌+◌, pos, length, length-append, codes, List, [], ◌∷◌, ◌++◌, map, filter, take, ◌&&◌, Bool, true, false, not, None, Some, IsTrue, refl, sym, ap, subst, ◌∙◌, arith}
use Rattle.std.specs.Prelude.{◌==◌, if◌then◌else◌, count_by}
use Rattle.std.specs.Ordering.{is_lt, is_gt, is_ge, ordering_reverse, ordering_then, nat_cmp}
use Rattle.std.specs.Cmp.Lexicographic.{slice_cmp}
use Rattle.std.specs.List.{AllByRecursion}
use Rattle.std.specs.List.Sorted.{IsSorted}
use Rattle.std.specs.declared.cmp.Ordering.{Ordering}
use Rattle.std.specs.declared.cmp.Ordering.TheVariants.{Less, Equal, Greater}
use Rattle.std.proofs.lemmas.Bool.Decides.{nat_tests}
use Rattle.std.proofs.lemmas.Cmp.{nat_list_cmp_total}
use Rattle.std.proofs.lemmas.List.Sorted.{Contains-permutation, IsPermutation-sym}
use Rattle.sqlite.specs.State.{State}
use Rattle.sqlite.specs.declared.types.Value.{Value}
use Rattle.sqlite.specs.declared.types.Value.TheVariants as value
use Rattle.sqlite.specs.Order.{Row, column, value_cmp}
use Rattle.sqlite.specs.Ops.{binary, is_true, from_truth}
use Rattle.sqlite.specs.Collation.TheVariants.{Binary}
use Rattle.sqlite.specs.Query.{Query, IsAnswer, output, Output, output_cmp, inner, end}
use Rattle.sqlite.specs.Program.{overlay}
use Rattle.sqlite.specs.Term.{Env, lit, col, op2}
use Rattle.sqlite.specs.Tree.{Trees}
use Rattle.sqlite.specs.Listing.{understood}
use Rattle.sqlite_tied.specs.Compute.{everything}
use Rattle.sqlite_schema.specs.Rules.{equal}
use Rattle.sqlite_sql.specs.declared.ops.BinaryOp.TheVariants.{Compare}
use Rattle.sqlite_sql.specs.declared.ops.CompareOp.TheVariants.{Eq, Ge}
use Rattle.sqlite_sql.proofs.QueryLemmas.{output_cmp_total}
use Rattle.sqlite_value.proofs.OrderLemmas.{value_cmp-Text}
use Rattle.sqlite_rules.specs.Lists.{Has}
use Rattle.sqlite_rules.proofs.ListLemmas.{all_has, has_contained, contains_had, has_filtered}
use Rattle.sqlite_rules.proofs.ProbeLemmas.{has_mapped, mapped_has}
use Rattle.definitions.specs.Bytes.{comes_before}
use Rattle.definitions.specs.Header.{Who, is_partner, who_text}
use Rattle.definitions.specs.Register.{Entry, own, is_numbered}
use Rattle.definitions.specs.Tables.{entry_row, entries_on, entry_table}
use Rattle.rules.proofs.Texts.{texts_never}
use Rattle.book_statements.specs.declared.names.TableName.TheVariants as table
use Rattle.book_statements.specs.Asking.{Finds, OnlyReads}
use Rattle.book_tables.specs.Enrolments.{EnrolmentFacts, enrolments_after, enrolments, from_text, IsFirstFrom, enrolment_shown, enrolment_text}
use Rattle.book_statements.specs.Exits.{StandsWhileOpen}
use Rattle.book_statements.specs.Held.{entry_values}
use Rattle.book_statements.specs.Layout.{Others}
use Rattle.book_statements.proofs.Asked.{found}
use Rattle.book_tables.proofs.EnrolledOnce.{enrolled_partner}
use Rattle.book_statements.proofs.Found.{flat_map-cond, map-both}
use Rattle.book_tables.proofs.InOrder.{ascending_from_sorted}
use Rattle.book_statements.proofs.KeyLemmas.{equal_numbers}
use Rattle.book_statements.proofs.NeedTexts.{Reads}
use Rattle.book_tables.proofs.NextNames.{name}
use Rattle.book_statements.proofs.ShowingTexts.{rising}
use Rattle.book_statements.proofs.Selects.{query_reads}

abbrev pub enrolment_query : Query
enrolment_query = record {
  from = inner 1 end;
  filter = op2 (Compare Ge Binary) (col 1 2) (col 0 0) ∷ op2 (Compare Eq Binary) (col 1 4) (lit (value.Int (pos 0))) ∷ [];
  group = None;
  project = col 1 0 ∷ col 1 2 ∷ [];
  distinct = false;
  collations = [];
  order = rising 2 ∷ [];
  limit = lit (value.Int (pos 1));
  offset = lit (value.Int (pos 0));
}

pub enrolment_is : (others : Others) → Reads enrolment_text enrolment_query (codes "seq" ∷ codes "who" ∷ []) others
unfolding understood everything
enrolment_is others = (refl, refl)

pub enrolment_reads : OnlyReads enrolment_text
unfolding everything
enrolment_reads = query_reads enrolment_text (λ schema base. refl)

-- The tests of a row.

abbrev at_least : Value → Value → Bool
at_least a b = is_true (binary (Compare Ge Binary) a b)

true_of : (b : Bool) → is_true (from_truth (Some b)) ≡ b
true_of true = refl
true_of false = refl

at_least_texts : (a b : List ℕ) → at_least (value.Text a) (value.Text b) ≡ is_ge (value_cmp (value.Text a) (value.Text b))
unfolding binary
at_least_texts a b = true_of _

not_less : (o : Ordering) → is_ge o ≡ not (is_lt o)
not_less Less = refl
not_less Equal = refl
not_less Greater = refl

-- SQL finds a text at least another one where it doesn't come before it
at_least_is : (a b : List ℕ) → at_least (value.Text a) (value.Text b) ≡ not (comes_before a b)
at_least_is a b = at_least_texts a b ∙ ap is_ge (value_cmp-Text a b) ∙ not_less (slice_cmp nat_cmp a b)

abbrev unnumbered : Value → Bool
unnumbered v = equal Binary v (value.Int (pos 0)) && true

-- an entry has the number 0 where it has none
zero_told : (n : ℕ) (b : Bool) → unnumbered (value.Int (pos (if b then n + 1 else 0))) ≡ not b
zero_told n true = ap (λ (b : Bool). b && true) (equal_numbers (n + 1) 0 ∙ not_zero)
  where
    not_zero : (n + 1 == 0) ≡ false
    not_zero = grind (arith, nat_tests)
zero_told n false = ap (λ (b : Bool). b && true) (equal_numbers 0 0)

-- The order of what is put out.

not_greater : (o : Ordering) → is_gt (ordering_then o Equal) ≡ false → is_lt (ordering_reverse o) ≡ false
not_greater Less h = refl
not_greater Equal h = refl
not_greater Greater h = absurd (let e : ◌≡◌ {A = Bool} true false = h in cc)

not_after : (a b : List ℕ) → is_gt (ordering_then (value_cmp (value.Text a) (value.Text b)) Equal) ≡ false → comes_before b a ≡ false
not_after a b h = ap is_lt (nat_list_cmp_total.antisymm b a) ∙ not_greater (slice_cmp nat_cmp a b) (ap (λ (o : Ordering). is_gt (ordering_then o Equal)) (sym (value_cmp-Text a b)) ∙ h)

abbrev out : EnrolmentFacts → Output
out x = (value.Text (name x) ∷ [], enrolment_shown x)

-- the row of the first enrolment from a text on, if there is one: of a partner
abbrev pub ShowsFirst : List Row → List ℕ → List EnrolmentFacts → Type 0
ShowsFirst [] t es = IsFirstFrom t es None
ShowsFirst (row ∷ more) t es = (e : EnrolmentFacts) × IsFirstFrom t es (Some e) × (is_partner e.who ≡ true) × (row ≡ enrolment_shown e)

module _ (t : List ℕ) where
  abbrev params : Row
  params = value.Text t ∷ []

  abbrev env_of : Row → Env
  env_of r = params ∷ r ∷ []

  abbrev passes : Row → Bool
  passes r = at_least (column r 2) (value.Text t) && unnumbered (column r 4)

  abbrev put : Row → Output
  put r = output enrolment_query (env_of r)

  passes_entry : (before : List Entry) (e : Entry) → passes (entry_values (entry_row before e)) ≡ (not (comes_before (who_text e.who) t) && not (is_numbered e))
  passes_entry before e = λ i. at_least_is (who_text e.who) t i && zero_told (count_by is_numbered (own before e.who)) (is_numbered e) i

  -- the rows that pass are put out as the enrolments from the text on
  put_out : (n : ℕ) (before L : List Entry) → n ≡ length before → map put (filter passes (map entry_values (entries_on before L))) ≡ map out (from_text t (enrolments_after n L))
  put_out n before [] at = refl
  put_out n before (e ∷ L) at =
      ap (λ (b : Bool). map put (if b then entry_values (entry_row before e) ∷ rest else rest)) (passes_entry before e)
      ∙ by (is_numbered e) (put_out (n + 1) (before ++ e ∷ []) L (omega (arith, at, length-append before (e ∷ []))))
    where
      rest : List Row
      rest = filter passes (map entry_values (entries_on (before ++ e ∷ []) L))

      more : List EnrolmentFacts
      more = enrolments_after (n + 1) L

      here : Bool
      here = not (comes_before (who_text e.who) t)

      head : put (entry_values (entry_row before e)) ≡ out (record { seq = n + 1; who = e.who })
      head = ap (λ (k : ℕ). out (record { seq = k + 1; who = e.who })) (sym at)

      by : (b : Bool) → map put rest ≡ map out (from_text t more)
          → map put (if here && not b then entry_values (entry_row before e) ∷ rest else rest) ≡ map out (from_text t (if b then more else record { seq = n + 1; who = e.who } ∷ more))
      by true later = pick here
        where
          pick : (b : Bool) → map put (if b && false then entry_values (entry_row before e) ∷ rest else rest) ≡ map out (from_text t more)
          pick true = later
          pick false = later
      by false later = pick here
        where
          pick : (b : Bool) → map put (if b && true then entry_values (entry_row before e) ∷ rest else rest) ≡ map out (if b then record { seq = n + 1; who = e.who } ∷ from_text t more else from_text t more)
          pick true = λ i. head i ∷ later i
          pick false = later

  module _ (L : List Entry) (partners : (x : EnrolmentFacts) → Has (enrolments L) x → is_partner x.who ≡ true) (db : Trees) (held : db 1 ≡ map entry_values (entry_table L)) (rows : List Row)
      (a : IsAnswer enrolment_query (overlay db []) params rows) where
    abbrev here : List EnrolmentFacts
    here = from_text t (enrolments L)

    kept_is : a.kept ≡ map out here
    kept_is =
        a.distinct ∙ ap (map (output enrolment_query)) (a.grouped ∙ flat_map-cond passes env_of (db 1)) ∙ map-both env_of (output enrolment_query) (filter passes (db 1))
        ∙ ap (λ (src : List Row). map put (filter passes src)) held ∙ put_out 0 [] L refl

    ordered_row : (o : Output) → Has a.ordered o → (x : EnrolmentFacts) × Has here x × (o ≡ out x)
    ordered_row o there =
        has_mapped out here o (subst (λ (os : List Output). Has os o) kept_is
        (has_contained a.kept o (Contains-permutation a.ordered a.kept o (IsPermutation-sym a.kept a.ordered a.same) (contains_had a.ordered o there))))

    row_ordered : (x : EnrolmentFacts) → Has here x → Has a.ordered (out x)
    row_ordered x there =
        has_contained a.ordered (out x) (Contains-permutation a.kept a.ordered (out x) a.same
        (contains_had a.kept (out x) (subst (λ (os : List Output). Has os (out x)) (sym kept_is) (mapped_has out here x there))))

    one_name : (x y : EnrolmentFacts) → out x ≡ out y → name x ≡ name y
    one_name x y e = texts (name x) (name y) (ap (λ (o : Output). o.0) e)
      where
        texts : (s u : List ℕ) → ◌≡◌ {A = Row} (value.Text s ∷ []) (value.Text u ∷ []) → s ≡ u
        texts s u h = cc

    first_shown : ShowsFirst rows t (enrolments L)
    first_shown = by a.ordered a.shown ordered_row row_ordered a.sorted
      where
        nothing : (xs : List EnrolmentFacts) → ((x : EnrolmentFacts) → Has xs x → ⊥) → xs ≡ []
        nothing [] h = refl
        nothing (x ∷ xs) h = absurd (h x (inl refl))

        by : (os : List Output) → rows ≡ take 1 (map (λ (o : Output). o.1) os) → ((o : Output) → Has os o → (x : EnrolmentFacts) × Has here x × (o ≡ out x)) → ((x : EnrolmentFacts) → Has here x → Has os (out x))
            → IsSorted (output_cmp enrolment_query) os → ShowsFirst rows t (enrolments L)
        by [] is each there sorted = subst (λ (rs : List Row). ShowsFirst rs t (enrolments L)) (sym is) (nothing here there)
        by (o ∷ os) is each there sorted =
            let it = each o (inl refl) in
            let up = (ascending_from_sorted (output_cmp enrolment_query) (output_cmp_total enrolment_query) (o ∷ os) sorted).0 in
            let partner = partners it.0 (has_filtered (λ (x : EnrolmentFacts). not (comes_before (name x) t)) (enrolments L) it.0 it.1).0 in
            subst (λ (rs : List Row). ShowsFirst rs t (enrolments L)) (sym is) (it.0, (it.1, least it.0 it.2 up), partner, ap (λ (p : Output). p.1) it.2)
          where
            least : (e : EnrolmentFacts) → o ≡ out e → AllByRecursion (λ (p : Output). is_gt (output_cmp enrolment_query o p) ≡ false) os → (x : EnrolmentFacts) → Has here x → comes_before (name x) (name e) ≡ false
            least e first up x has = elim (there x has) [
              | inl same ↦ subst (λ (n : List ℕ). comes_before (name x) n ≡ false) (one_name x e (same ∙ first)) (texts_never (name x))
              | inr later ↦ not_after (name e) (name x)
                  (subst (λ (p : Output). is_gt (output_cmp enrolment_query p (out x)) ≡ false) first (all_has (λ (p : Output). is_gt (output_cmp enrolment_query o p) ≡ false) os (out x) up later))
            ]

-- what the rows tell, of tables that stand while they are open
pub first_read : (old : State) (W : Who) (L : List Entry) (t : List ℕ) → StandsWhileOpen old W L → (rows : List Row) → IsTrue old.is_open × Finds enrolment_text (value.Text t ∷ []) old.now rows
    → ShowsFirst rows t (enrolments L)
first_read old W L t stands rows finds =
    let here = stands finds.0 in
    let held = here.rows in
    let read = found enrolment_text (value.Text t ∷ []) old.now rows _ here.schema enrolment_reads enrolment_is finds.1 in
    first_shown t L (enrolled_partner W L here.legal) old.now.trees (held table.Entry) rows (read.answer value.Null)
