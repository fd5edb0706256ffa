-- The text that inserts into entry_rules, under any schema in which the table stands.
use Rattle.std.proofs.Common.{◌≡◌, ℕ, [], ◌∷◌, refl, None, Ok, sym, subst, ap}
use Rattle.sqlite.specs.declared.types.Value.TheVariants.{Null}
use Rattle.sqlite.specs.Command.TheVariants.{Insert}
use Rattle.sqlite.specs.Source.TheVariants.{Values}
use Rattle.sqlite.specs.Term.{lit, col}
use Rattle.sqlite.specs.Table.{Table}
use Rattle.sqlite.specs.Schema.{Schema}
use Rattle.sqlite.specs.Listing.{understood}
use Rattle.sqlite.proofs.Callers.{command_of, IsPlain}
use Rattle.sqlite_schema.specs.declared.command.Command.{Command}
use Rattle.sqlite_resolve.specs.Compile.{formats_of, timed, returning, with_command, shows}
use Rattle.book_statements.specs.Layout.{StandsAt, entry_rules_at}
use Rattle.book_statements.proofs.WritingTexts.{insert_rules_text}
use Rattle.book_statements.proofs.TextSteps.{insert_rules_parsed, insert_rules_statement, insert_first, insert_command}
use Rattle.book_statements.proofs.TextSteps.{planned_is, compiled_is, understood_is}

-- the formats of the table that stands there
pub formats_is : (schema : Schema) (at : ℕ) (t : Table) → StandsAt schema at t → formats_of schema t.name ≡ t.stamps.formats
formats_is schema at t s = rw (s.found) (rw (s.there) refl)

insert_untimed : (schema : Schema) (at tree : ℕ) → StandsAt schema at (entry_rules_at tree) → timed schema [] insert_rules_statement ≡ []
unfolding timed
insert_untimed schema at tree s = formats_is schema at (entry_rules_at tree) s

insert_shows : (schema : Schema) (base : ℕ) → returning schema base insert_rules_statement ≡ Ok None
unfolding returning shows
insert_shows schema base = refl

abbrev insert_command_at : ℕ → Command
insert_command_at at = Insert at (Values (col 0 0 ∷ lit Null ∷ col 0 1 ∷ []) 3)

insert_understood : (schema : Schema) (at tree : ℕ) → StandsAt schema at (entry_rules_at tree)
    → understood schema insert_rules_text ≡ Ok (with_command insert_rules_parsed ([], (insert_command_at at, None)))
insert_understood schema at tree s =
    understood_is schema insert_rules_text _ (compiled_is schema insert_rules_text insert_rules_parsed (insert_command_at at) insert_first
    (planned_is schema insert_rules_parsed (insert_command_at at) (insert_untimed schema at tree s) (insert_shows schema 2)
    (insert_command schema at tree 2 s)))

-- the command of the text
pub insert_rules_is : (schema : Schema) (at tree : ℕ) → StandsAt schema at (entry_rules_at tree)
    → command_of (understood schema insert_rules_text) ≡ Insert at (Values (col 0 0 ∷ lit Null ∷ col 0 1 ∷ []) 3)
insert_rules_is schema at tree s = ap command_of (insert_understood schema at tree s)

-- it gives no row back, and does not read the time
pub insert_rules_plain : (schema : Schema) (at tree : ℕ) → StandsAt schema at (entry_rules_at tree) → IsPlain (understood schema insert_rules_text)
insert_rules_plain schema at tree s = subst IsPlain (sym (insert_understood schema at tree s)) (refl, refl)
