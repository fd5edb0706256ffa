-- The texts that make a table: wherever one is understood, its name was free.
use Rattle.std.proofs.Common.{◌≡◌, codes, ℕ, List, [], ◌∷◌, refl, Some, None, Option, Ok, Err, Bool, true, false, ◌∙◌, sym, subst, ap, ◌&&◌, not, length}
use Rattle.std.proofs.Common.{is_some}
use Rattle.std.specs.Prelude.{slice_range, ◌==◌, ◌||◌, if◌then◌else◌}
use Rattle.std.specs.Option.{option_or}
use Rattle.sqlite.specs.Command.TheVariants.{CreateTable}
use Rattle.sqlite.specs.Schema.{Schema}
use Rattle.sqlite.specs.Listing.{understood, if_select, misses_table, listing_schema}
use Rattle.sqlite.specs.State.{text_of}
use Rattle.sqlite.proofs.Callers.{command_of, IsPlain}
use Rattle.sqlite_tied.specs.Compute.{everything}
use Rattle.sqlite_catalog.specs.Change.{is_used}
use Rattle.sqlite_schema.specs.Names.{table_named, view_named, index_named}
use Rattle.sqlite_schema.specs.declared.command.Command.{Command}
use Rattle.sqlite_schema.specs.declared.command.Command.TheVariants.{Nothing}
use Rattle.sqlite_resolve.specs.declared.compiled.Compiled.{Compiled}
use Rattle.sqlite_resolve.specs.declared.error.CompileError.TheVariants.{Unsupported, NoSuchTable}
use Rattle.sqlite_resolve.specs.Lowering.{Checked, and_then}
use Rattle.sqlite_resolve.specs.Define as define
use Rattle.sqlite_resolve.specs.Compile.{first, compiled, planned, meaning, timed, returning, command, with_command, creates, is_attached}
use Rattle.sqlite_resolve.specs.Compile.{create_table, is_reserved}
use Rattle.sqlite_syntax.specs.declared.statement.Parsed.{Parsed}
use Rattle.sqlite_ast.specs.declared.CreateTable.{CreateTable as Written}
use Rattle.sqlite_ast.specs.declared.Keyed.{Keyed}
use Rattle.sqlite_ast.specs.declared.Rule.TheVariants as rule
use Rattle.sqlite_ast.specs.declared.Statement.TheVariants as written
use Rattle.book_statements.specs.Layout.{entry_rules_text, lot_expiry_text}

-- What the parser reads.

abbrev pub parsed_as : Written → ℕ → Parsed
parsed_as def end = record { statement = written.CreateTable def; names = []; formats = []; start = 0; end = end; tail = end }

abbrev plainly : List ℕ → Keyed
plainly name = record { name = name; collation = None; descending = false }

abbrev pub entry_rules_def : Written
entry_rules_def = record {
  if_missing = false;
  name = codes "entry_rules";
  body = record {
    columns = (codes "seq", codes "INTEGER") ∷ (codes "rules", codes "INTEGER") ∷ [];
    rules = rule.PrimaryKey (plainly (codes "seq") ∷ []) ∷ rule.NotNull (codes "rules") ∷ [];
  };
  is_strict = true;
  resolves = false;
}

abbrev pub lot_expiry_def : Written
lot_expiry_def = record {
  if_missing = false;
  name = codes "lot_expiry";
  body = record {
    columns = (codes "who", codes "TEXT") ∷ (codes "item", codes "TEXT") ∷ (codes "lot", codes "TEXT") ∷ (codes "expiry", codes "TEXT") ∷ [];
    rules = rule.NotNull (codes "who") ∷ rule.NotNull (codes "item") ∷ rule.NotNull (codes "lot") ∷ rule.NotNull (codes "expiry")
        ∷ rule.PrimaryKey (plainly (codes "who") ∷ plainly (codes "item") ∷ plainly (codes "lot") ∷ []) ∷ [];
  };
  is_strict = true;
  resolves = false;
}

entry_rules_first : first entry_rules_text ≡ Ok (parsed_as entry_rules_def 81)
unfolding everything
entry_rules_first = refl

lot_expiry_first : first lot_expiry_text ≡ Ok (parsed_as lot_expiry_def 141)
unfolding everything
lot_expiry_first = refl

-- The steps, in which what the schema says is a variable.

abbrev defined : Written → Checked Command
defined def = and_then (define.table [] def) (λ t. if length t.computed == length t.stamps.places && not def.resolves then Ok CreateTable else Err
    Unsupported)

abbrev chosen : Checked Command → Bool → Checked Command
chosen made is_new = if is_new then made else Ok Nothing

-- a name that is made where it may not stand was free
made_free : (attached : Bool) (name : List ℕ) (same other : Option ℕ) (made : Checked Command) (c : Command) → is_reserved name ≡ false
    → (if attached then Err Unsupported else and_then (creates false name same other) (chosen made)) ≡ Ok c
    → (made ≡ Ok c) × (is_some same ≡ false) × (is_some other ≡ false)
unfolding creates
made_free true name same other made c plain h = absurd cc
made_free false name same (Some o) made c plain h = absurd (let g = rw plain at h in cc)
made_free false name (Some s) None made c plain h = absurd (let g = rw plain at h in cc)
made_free false name None None made c plain h = (rw plain at h, refl, refl)

none_of_three : (a b c : Option ℕ) → is_some (option_or a b) ≡ false → is_some c ≡ false → (is_some a || is_some c || is_some b) ≡ false
none_of_three (Some a) b c h k = absurd cc
none_of_three None (Some b) c h k = absurd cc
none_of_three None None c h k = rw k refl

-- what is compiled has the command
peeled : (r : Checked Command) (p : Parsed) (k : Compiled)
    → and_then (and_then (and_then r (λ c. Ok (c, None))) (λ found. Ok ([], found))) (λ plan. Ok (with_command p plan)) ≡ Ok k
    → (c : Command) × (r ≡ Ok c) × (k ≡ with_command p ([], (c, None)))
peeled (Ok c) p k h = (c, refl, cc)
peeled (Err e) p k h = absurd cc

-- a text that is understood, and no query on sqlite_schema, is compiled
as_compiled : (r s : Checked Compiled) (k : Compiled) → s ≡ Err NoSuchTable → (if misses_table r then s else r) ≡ Ok k → r ≡ Ok k
as_compiled (Ok c) s k none h = h
as_compiled (Err NoSuchTable) s k none h = absurd cc
as_compiled (Err e) s k none h = absurd cc

compiled_table : (schema : Schema) (text : List ℕ) (def : Written) (end : ℕ) (k : Compiled) → first text ≡ Ok (parsed_as def end) → compiled schema text
    ≡ Ok k
    → (c : Command) × (create_table schema [] def ≡ Ok c) × (k ≡ with_command (parsed_as def end) ([], (c, None)))
unfolding compiled planned meaning timed returning command
compiled_table schema text def end k parsed h = peeled (create_table schema [] def) (parsed_as def end) k (rw parsed at h)

-- a table is made, and its name is free
free_where_made : (schema : Schema) (def : Written) (c : Command) → def.if_missing ≡ false → is_reserved def.name ≡ false → create_table schema [] def
    ≡ Ok c
    → (defined def ≡ Ok c) × (is_used schema def.name ≡ false)
unfolding create_table define.table define.unchecked
free_where_made schema def c bare plain h =
    let same = option_or (table_named schema def.name) (view_named schema def.name) in
    let other = index_named schema def.name in
    let found = made_free (is_attached schema def.name) def.name same other (defined def) c plain (rw bare at h) in
    (found.0, none_of_three (table_named schema def.name) (view_named schema def.name) other found.1 found.2)

table_known : (schema : Schema) (text : List ℕ) (def : Written) (end : ℕ) (k : Compiled) → def.if_missing ≡ false → is_reserved def.name ≡ false
    → defined def ≡ Ok CreateTable
    → if_select (compiled listing_schema text) ≡ Err NoSuchTable → first text ≡ Ok (parsed_as def end) → understood schema text ≡ Ok k
    → (k ≡ with_command (parsed_as def end) ([], (CreateTable, None))) × (is_used schema def.name ≡ false)
unfolding understood
table_known schema text def end k bare plain is unlisted parsed h =
    let found = compiled_table schema text def end k parsed (as_compiled (compiled schema text) (if_select (compiled listing_schema text)) k unlisted h) in
    let free = free_where_made schema def found.0 bare plain found.1 in
    let same : Ok found.0 ≡ Ok CreateTable = sym free.0 ∙ is in
    let command_is : found.0 ≡ CreateTable = cc in
    (found.2 ∙ ap (λ c. with_command (parsed_as def end) ([], (c, None))) command_is, free.1)

-- The two texts.

entry_rules_defined : defined entry_rules_def ≡ Ok CreateTable
unfolding everything
entry_rules_defined = refl

lot_expiry_defined : defined lot_expiry_def ≡ Ok CreateTable
unfolding everything
lot_expiry_defined = refl

entry_rules_unlisted : if_select (compiled listing_schema entry_rules_text) ≡ Err NoSuchTable
unfolding everything listing_schema
entry_rules_unlisted = refl

lot_expiry_unlisted : if_select (compiled listing_schema lot_expiry_text) ≡ Err NoSuchTable
unfolding everything listing_schema
lot_expiry_unlisted = refl

entry_rules_plainly_named : is_reserved entry_rules_def.name ≡ false
unfolding everything
entry_rules_plainly_named = refl

lot_expiry_plainly_named : is_reserved lot_expiry_def.name ≡ false
unfolding everything
lot_expiry_plainly_named = refl

abbrev pub MakesTable : Schema → List ℕ → List ℕ → Compiled → Type 0
MakesTable schema text name c = (c.command ≡ CreateTable) × (c.returning ≡ None) × (c.formats ≡ []) × (text_of text c ≡ text)
    × (is_used schema name ≡ false)

makes_table : (schema : Schema) (text name : List ℕ) (def : Written) (end : ℕ) (c : Compiled)
    → c ≡ with_command (parsed_as def end) ([], (CreateTable, None)) → slice_range text 0 end ≡ text
    → is_used schema name ≡ false → MakesTable schema text name c
makes_table schema text name def end c is whole free =
    (ap (λ (k : Compiled). k.command) is, ap (λ (k : Compiled). k.returning) is, ap (λ (k : Compiled). k.formats) is, ap (text_of text) is ∙ whole, free)

-- wherever the text is understood, it makes a table whose name was free
pub entry_rules_made : (schema : Schema) (c : Compiled) → understood schema entry_rules_text ≡ Ok c
    → (c.command ≡ CreateTable) × (c.returning ≡ None) × (c.formats ≡ []) × (text_of entry_rules_text c ≡ entry_rules_text)
    × (is_used schema (codes "entry_rules") ≡ false)
entry_rules_made schema c h =
    let known = table_known schema entry_rules_text entry_rules_def 81 c refl entry_rules_plainly_named entry_rules_defined entry_rules_unlisted
    entry_rules_first h in
    makes_table schema entry_rules_text (codes "entry_rules") entry_rules_def 81 c known.0 refl known.1

pub lot_expiry_made : (schema : Schema) (c : Compiled) → understood schema lot_expiry_text ≡ Ok c
    → (c.command ≡ CreateTable) × (c.returning ≡ None) × (c.formats ≡ []) × (text_of lot_expiry_text c ≡ lot_expiry_text)
    × (is_used schema (codes "lot_expiry") ≡ false)
lot_expiry_made schema c h =
    let known = table_known schema lot_expiry_text lot_expiry_def 141 c refl lot_expiry_plainly_named lot_expiry_defined lot_expiry_unlisted
    lot_expiry_first h in
    makes_table schema lot_expiry_text (codes "lot_expiry") lot_expiry_def 141 c known.0 refl known.1

-- the same, as a caller asks for it
pub entry_rules_is : (schema : Schema) (c : Compiled) → understood schema entry_rules_text ≡ Ok c
    → command_of (understood schema entry_rules_text) ≡ CreateTable
entry_rules_is schema c h = ap command_of h ∙ (entry_rules_made schema c h).0

pub entry_rules_plain : (schema : Schema) (c : Compiled) → understood schema entry_rules_text ≡ Ok c → IsPlain (understood schema entry_rules_text)
entry_rules_plain schema c h = let made = entry_rules_made schema c h in subst IsPlain (sym h) (made.1, made.2)

pub lot_expiry_is : (schema : Schema) (c : Compiled) → understood schema lot_expiry_text ≡ Ok c
    → command_of (understood schema lot_expiry_text) ≡ CreateTable
lot_expiry_is schema c h = ap command_of h ∙ (lot_expiry_made schema c h).0

pub lot_expiry_plain : (schema : Schema) (c : Compiled) → understood schema lot_expiry_text ≡ Ok c → IsPlain (understood schema lot_expiry_text)
lot_expiry_plain schema c h = let made = lot_expiry_made schema c h in subst IsPlain (sym h) (made.1, made.2)
