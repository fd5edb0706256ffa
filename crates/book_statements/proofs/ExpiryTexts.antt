-- The text that puts a date into lot_expiry, under any schema in which the table stands with the
-- index of its key.
use Rattle.std.proofs.Common.{◌≡◌, codes, ℕ, pos, negsuc, List, [], ◌∷◌, length, refl, Some, None, Ok, false, ◌∙◌}
use Rattle.std.proofs.Common.{sym, subst, ap, inl, inr, filter, cond, Bool, true, Option, ◌&&◌, ◌==◌, eq-eqb}
use Rattle.std.proofs.lemmas.Bool.{cases_Bool}
use Rattle.std.specs.Prelude.{find}
use Rattle.sqlite.specs.declared.types.Value.TheVariants.{Int}
use Rattle.sqlite.specs.Command.{Command}
use Rattle.sqlite.specs.Command.TheVariants.{InsertOr}
use Rattle.sqlite.specs.Source.TheVariants.{Values}
use Rattle.sqlite.specs.Collation.TheVariants.{Binary}
use Rattle.sqlite.specs.Schema.{Schema}
use Rattle.sqlite.specs.Term.{lit, col, op2}
use Rattle.sqlite.specs.Listing.{understood}
use Rattle.sqlite.proofs.Callers.{command_of, IsPlain}
use Rattle.sqlite_tied.specs.Compute.{everything}
use Rattle.sqlite_sql.specs.declared.ops.BinaryOp.TheVariants.{Compare}
use Rattle.sqlite_sql.specs.declared.ops.CompareOp.TheVariants.{Eq}
use Rattle.sqlite_schema.specs.declared.schema.Index.{Index}
use Rattle.sqlite_schema.specs.declared.command.Upsert.{Upsert}
use Rattle.sqlite_schema.specs.declared.command.Conflict.TheVariants.{Abort}
use Rattle.sqlite_ast.specs.declared.Upsert as read
use Rattle.sqlite_ast.specs.declared.Rows.{Rows}
use Rattle.sqlite_ast.specs.declared.Rows.TheVariants as rows
use Rattle.sqlite_ast.specs.declared.Conflict.TheVariants as conflict
use Rattle.sqlite_ast.specs.declared.Statement.{Statement}
use Rattle.sqlite_ast.specs.declared.Statement.TheVariants as written
use Rattle.sqlite_ast.specs.declared.Expr.TheVariants.{Parameter}
use Rattle.sqlite_syntax.specs.declared.statement.Parsed.{Parsed}
use Rattle.sqlite_draft.specs.declared.query.Draft.{Draft}
use Rattle.sqlite_draft.specs.Join.{chain}
use Rattle.sqlite_draft.specs.declared.join.Step.TheVariants.{Inner}
use Rattle.sqlite_resolve.specs.Scope.{Name}
use Rattle.sqlite_resolve.specs.Write.{places}
use Rattle.sqlite_resolve.specs.Given.{are_among, is_key_at, key_at, key_meant, do_update, update, upsert, upserts}
use Rattle.sqlite_resolve.specs.Compile.{first, command, new_rows, insert_or, insert_or_abort, timed, returning, shows, with_command}
use Rattle.book_statements.specs.Layout.{StandsAt, lot_expiry_at, indexes_on, key_index}
use Rattle.book_statements.proofs.WritingTexts.{put_expiry_text, source, renewed, update_query, on_conflict}
use Rattle.book_statements.proofs.TextSteps.{on_table_is, planned_is, compiled_is, understood_is}
use Rattle.book_statements.proofs.RulesTexts.{formats_is}
use Rattle.book_statements.proofs.SelectedParts.{IsOfTree, accepts_is, program_is}

-- What the parser reads.

abbrev key_names : List Name
key_names = codes "who" ∷ codes "item" ∷ codes "lot" ∷ []

abbrev put_names : List Name
put_names = codes "who" ∷ codes "item" ∷ codes "lot" ∷ codes "expiry" ∷ []

abbrev put_rows : Rows
put_rows = rows.Values ((Parameter 1 ∷ Parameter 2 ∷ Parameter 3 ∷ Parameter 4 ∷ []) ∷ [])

abbrev put_clause : read.Upsert
put_clause = record { target = key_names; sets = (codes "expiry", Parameter 4) ∷ []; filter = None }

abbrev put_statement : Statement
put_statement = written.Insert conflict.Abort (codes "lot_expiry") put_names put_rows (put_clause ∷ []) []

abbrev put_parsed : Parsed
put_parsed = record {
  statement = put_statement;
  names = codes "?1" ∷ codes "?2" ∷ codes "?3" ∷ codes "?4" ∷ [];
  formats = [];
  start = 0;
  end = length put_expiry_text;
  tail = length put_expiry_text;
}

put_first : first put_expiry_text ≡ Ok put_parsed
unfolding everything
put_first = refl

-- the first index by which the three columns are a key of the table has them in this order
pub record HasKeyIndex (schema : Schema) (tree : ℕ) : Type 0 where
  pub index : Index
  pub is : find (is_key_at (lot_expiry_at tree) (1 ∷ 2 ∷ 3 ∷ [])) schema.indexes ≡ Some index
  pub columns : index.columns ≡ 1 ∷ 2 ∷ 3 ∷ []

abbrev put_draft : ℕ → Draft
put_draft tree = record {
  from = chain (Inner tree ∷ []);
  filter = op2 (Compare Eq Binary) (col 1 0) (col 0 4) ∷ [];
  group = None;
  project = renewed 3 4;
  distinct = false;
  collations = [];
  order = [];
  limit = lit (Int (negsuc 0));
  offset = lit (Int (pos 0));
}

module _ (schema : Schema) (at tree : ℕ) (s : StandsAt schema at (lot_expiry_at tree)) where
  rows_are : new_rows schema (lot_expiry_at tree) 4 put_names put_rows ≡ Ok (Values (source 4) 5)
  unfolding everything
  rows_are = refl

  draft_is : do_update schema at (lot_expiry_at tree) 4 put_clause ≡ Ok (put_draft tree)
  unfolding everything
  draft_is = refl

  update_is : IsOfTree schema (lot_expiry_at tree) → update schema at (lot_expiry_at tree) 4 put_clause
      ≡ Ok (Some (record { lets = []; body = update_query tree 3 4 }))
  unfolding update
  update_is of = rw (draft_is) (rw (program_is schema (put_draft tree) (accepts_is schema (lot_expiry_at tree) (update_query tree 3 4) of refl refl)) refl)

  places_are : places (lot_expiry_at tree) key_names ≡ Ok (1 ∷ 2 ∷ 3 ∷ [])
  unfolding everything
  places_are = refl

  key_is : HasKeyIndex schema tree → key_at schema (lot_expiry_at tree) (1 ∷ 2 ∷ 3 ∷ []) ≡ Ok (1 ∷ 2 ∷ 3 ∷ [])
  unfolding key_at
  key_is has = rw (has.is) (ap Ok has.columns)

  key_meant_is : HasKeyIndex schema tree → key_meant schema (lot_expiry_at tree) key_names ≡ Ok (Some (1 ∷ 2 ∷ 3 ∷ []))
  unfolding key_meant
  key_meant_is has = rw (places_are) (rw (key_is has) refl)

  abbrev put_found : Upsert
  put_found = on_conflict (1 ∷ 2 ∷ 3 ∷ []) (update_query tree 3 4)

  upserts_are : IsOfTree schema (lot_expiry_at tree) → HasKeyIndex schema tree → upserts schema at (lot_expiry_at tree) 4 (put_clause ∷ [])
      ≡ Ok (put_found ∷ [])
  unfolding upserts upsert
  upserts_are of has = rw (key_meant_is has) (rw (update_is of) refl)

  abbrev put_command : Command
  put_command = InsertOr at Abort (Values (source 4) 5) (put_found ∷ [])

  command_is : IsOfTree schema (lot_expiry_at tree) → HasKeyIndex schema tree → command schema [] 4 put_statement ≡ Ok put_command
  unfolding command insert_or_abort insert_or
  command_is of has = on_table_is schema at (lot_expiry_at tree) s _ ∙ rw (rows_are) (rw (upserts_are of has) refl)

  untimed_is : timed schema [] put_statement ≡ []
  unfolding timed
  untimed_is = formats_is schema at (lot_expiry_at tree) s

  returning_is : (base : ℕ) → returning schema base put_statement ≡ Ok None
  unfolding returning shows
  returning_is base = refl

  put_understood : IsOfTree schema (lot_expiry_at tree) → HasKeyIndex schema tree → understood schema put_expiry_text
      ≡ Ok (with_command put_parsed ([], (put_command, None)))
  put_understood of has =
      understood_is schema put_expiry_text _ (compiled_is schema put_expiry_text put_parsed put_command put_first
      (planned_is schema put_parsed put_command untimed_is (returning_is 4) (command_is of has)))

  -- the command of the text
  pub put_expiry_is : IsOfTree schema (lot_expiry_at tree) → HasKeyIndex schema tree
      → command_of (understood schema put_expiry_text) ≡ InsertOr at Abort (Values (source 4) 5) (on_conflict (1 ∷ 2 ∷ 3 ∷ []) (update_query tree 3 4) ∷ [])
  put_expiry_is of has = ap command_of (put_understood of has)

  -- it gives no row back, and does not read the time
  pub put_expiry_plain : IsOfTree schema (lot_expiry_at tree) → HasKeyIndex schema tree → IsPlain (understood schema put_expiry_text)
  put_expiry_plain of has = subst IsPlain (sym (put_understood of has)) (refl, refl)

-- The index of the key is the first by which the columns are one, where no other is on the table.

found_or : (b : Bool) (i : Index) (a c : Option Index) → a ≡ c → cond b (Some i) a ≡ cond b (Some i) c
found_or b i a c e = ap (λ o. cond b (Some i) o) e

find_on : (p q : Index → Bool) (xs : List Index) → ((i : Index) → q i ≡ false → p i ≡ false) → find p xs ≡ find p (filter q xs)
find_on p q [] h = refl
find_on p q (i ∷ xs) h =
    let later = find_on p q xs h in
    elim (cases_Bool (q i)) [
      | inl on ↦ found_or (p i) i (find p xs) (find p (filter q xs)) later ∙ ap (λ b. find p (cond b (i ∷ filter q xs) (filter q xs))) (sym on)
      | inr off ↦ ap (λ b. cond b (Some i) (find p xs)) (h i off) ∙ later ∙ ap (λ b. find p (cond b (i ∷ filter q xs) (filter q xs))) (sym off)
    ]

not_at : (tree : ℕ) (i : Index) → (i.table == tree) ≡ false → is_key_at (lot_expiry_at tree) (1 ∷ 2 ∷ 3 ∷ []) i ≡ false
unfolding is_key_at
not_at tree i off = rw off (by i.is_unique (length i.columns == 3) (are_among (1 ∷ 2 ∷ 3 ∷ []) i.columns) (are_among i.columns (1 ∷ 2 ∷ 3 ∷ [])))
  where
    by : (b c d e : Bool) → ((((b && false) && c) && d) && e) ≡ false
    by true c d e = refl
    by false c d e = refl

is_at : (tree : ℕ) → is_key_at (lot_expiry_at tree) (1 ∷ 2 ∷ 3 ∷ []) (key_index (lot_expiry_at tree)) ≡ true
unfolding is_key_at
is_at tree = rw (eq-eqb tree tree refl) refl

pub has_key : (schema : Schema) (tree : ℕ) → indexes_on schema tree ≡ key_index (lot_expiry_at tree) ∷ [] → HasKeyIndex schema tree
has_key schema tree on = record {
  index = key_index (lot_expiry_at tree);
  is = find_on (is_key_at (lot_expiry_at tree) (1 ∷ 2 ∷ 3 ∷ [])) (λ (i : Index). i.table == tree) schema.indexes (not_at tree)
      ∙ ap (find (is_key_at (lot_expiry_at tree) (1 ∷ 2 ∷ 3 ∷ []))) on ∙ one;
  columns = refl;
}
  where
    one : find (is_key_at (lot_expiry_at tree) (1 ∷ 2 ∷ 3 ∷ [])) (key_index (lot_expiry_at tree) ∷ []) ≡ Some (key_index (lot_expiry_at tree))
    one = rw (is_at tree) refl
