-- What a text means under any schema in which its table stands, a step after another.
use Rattle.std.proofs.Common.{◌≡◌, codes, ℕ, List, [], ◌∷◌, refl, None, Ok, ◌∙◌, ◌+◌}
use Rattle.sqlite.specs.declared.types.Value.TheVariants.{Null}
use Rattle.sqlite.specs.Command.TheVariants.{Insert}
use Rattle.sqlite.specs.Source.TheVariants.{Values}
use Rattle.sqlite.specs.Term.{lit, col}
use Rattle.sqlite_tied.specs.Compute.{everything}
use Rattle.sqlite.specs.Listing.{understood}
use Rattle.sqlite.specs.Table.{Table}
use Rattle.sqlite.specs.Schema.{Schema}
use Rattle.sqlite_resolve.specs.Compile.{first, compiled, on_table, command, timed, returning, small, planned, meaning, with_command}
use Rattle.sqlite_resolve.specs.declared.compiled.Compiled.{Compiled}
use Rattle.sqlite_schema.specs.declared.command.Command.{Command}
use Rattle.sqlite_ast.specs.declared.Statement.{Statement}
use Rattle.sqlite_resolve.specs.Lowering.{Checked}
use Rattle.sqlite_syntax.specs.declared.statement.Parsed.{Parsed}
use Rattle.sqlite_ast.specs.declared.Statement.TheVariants as written
use Rattle.sqlite_ast.specs.declared.Conflict.TheVariants as conflict
use Rattle.sqlite_ast.specs.declared.Rows.TheVariants as rows
use Rattle.sqlite_ast.specs.declared.Expr.TheVariants.{Parameter}
use Rattle.book_statements.specs.Layout.{StandsAt, entry_rules_at}
use Rattle.book_statements.proofs.WritingTexts.{insert_rules_text}

abbrev pub insert_rules_parsed : Parsed
insert_rules_parsed = record {
  statement = written.Insert conflict.Abort (codes "entry_rules") (codes "seq" ∷ codes "rules" ∷ []) (rows.Values ((Parameter 1 ∷ Parameter 2 ∷ []) ∷ []))
      [] [];
  names = codes "?1" ∷ codes "?2" ∷ [];
  formats = [];
  start = 0;
  end = 52;
  tail = 52;
}

pub insert_first : first insert_rules_text ≡ Ok insert_rules_parsed
unfolding everything
insert_first = refl

abbrev pub insert_rules_statement : Statement
insert_rules_statement = written.Insert conflict.Abort (codes "entry_rules") (codes "seq" ∷ codes "rules" ∷ [])
    (rows.Values ((Parameter 1 ∷ Parameter 2 ∷ []) ∷ [])) [] []

pub on_table_is : (schema : Schema) (at : ℕ) (t : Table) → StandsAt schema at t → (f : ℕ → Table → Checked Command) → on_table schema t.name f ≡ f at t
on_table_is schema at t s f = rw (s.found, s.there) refl

pub insert_command : (schema : Schema) (at tree : ℕ) (base : ℕ) → StandsAt schema at (entry_rules_at tree) → command schema [] base insert_rules_statement
    ≡ Ok (Insert at (Values (col 0 0 ∷ lit Null ∷ col 0 1 ∷ []) 3))
unfolding everything
insert_command schema at tree base s = on_table_is schema at (entry_rules_at tree) s _ ∙ refl

-- what is planned of a parsed text whose command is known, and which asks for no time and gives
-- nothing back
pub planned_is : (schema : Schema) (p : Parsed) (c : Command) → timed schema p.formats p.statement ≡ [] → returning schema (small p.names + 0) p.statement
    ≡ Ok None
    → command schema p.formats (small p.names + 0) p.statement ≡ Ok c → planned schema p ≡ Ok ([], (c, None))
unfolding planned meaning
planned_is schema p c untimed none is = rw (untimed) (rw (none) (rw (is) refl))

pub compiled_is : (schema : Schema) (text : List ℕ) (p : Parsed) (c : Command) → first text ≡ Ok p → planned schema p ≡ Ok ([], (c, None))
    → compiled schema text ≡ Ok (with_command p ([], (c, None)))
unfolding compiled
compiled_is schema text p c parsed plan = rw (parsed) (rw (plan) refl)

pub understood_is : (schema : Schema) (text : List ℕ) (k : Compiled) → compiled schema text ≡ Ok k → understood schema text ≡ Ok k
unfolding understood
understood_is schema text k is = rw (is) refl
