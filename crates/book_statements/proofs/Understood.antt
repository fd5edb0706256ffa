-- What a text is understood as is what it is compiled to. A proof that computes what a text is
-- compiled to reads it once, where one that computes what it is understood as reads it at each use.
use Rattle.std.proofs.Common.{◌≡◌, ℕ, List, [], ◌∷◌, length, take, ◌-◌, ◌∙◌, refl, sym, ap, subst, Ok, None, codes, false, arith}
use Rattle.sqlite.specs.Schema.{Schema}
use Rattle.sqlite.specs.Listing.{understood, reads_listing, misses_table}
use Rattle.sqlite.specs.Given.{IsPlain}
use Rattle.sqlite.specs.Query.{Query}
use Rattle.sqlite.proofs.Callers.{command_of, statement_of}
use Rattle.sqlite_schema.specs.declared.command.Command.{Command}
use Rattle.sqlite_schema.specs.declared.command.Command.TheVariants.{Select}
use Rattle.sqlite_resolve.specs.declared.compiled.Compiled.{Compiled}
use Rattle.sqlite_resolve.specs.Compile.{compiled}

-- a text that is one statement, with so many parameters
abbrev pub statement : List ℕ → ℕ → Command → Compiled
statement text n command = record {
  command = command;
  returning = None;
  names = take n (codes "?1" ∷ codes "?2" ∷ codes "?3" ∷ codes "?4" ∷ codes "?5" ∷ codes "?6" ∷ codes "?7" ∷ codes "?8" ∷ []);
  formats = [];
  start = 0;
  end = length text;
  tail = length text;
}

-- under a schema the text is this command and no more
abbrev pub Compiles : Schema → List ℕ → ℕ → Command → Type 0
Compiles schema text n command = compiled schema text ≡ Ok (statement text n command)

taken_whole : {A : Type 0} (xs : List A) → take (length xs) xs ≡ xs
taken_whole [] = refl
taken_whole (x ∷ xs) = ap (λ l. x ∷ l) (taken_whole xs)

module _ (schema : Schema) (text : List ℕ) (n : ℕ) (command : Command) (is : Compiles schema text n command) where
  understood_is : understood schema text ≡ Ok (statement text n command)
  unfolding understood
  understood_is = rw is refl

  pub command_is : command_of (understood schema text) ≡ command
  command_is = ap command_of understood_is

  pub statement_is : statement_of text (understood schema text) ≡ text
  statement_is = let e : length text - 0 ≡ length text = omega arith in rw understood_is (ap (λ k. take k text) e ∙ taken_whole text)

  pub plain_is : IsPlain (understood schema text)
  plain_is = subst IsPlain (sym understood_is) (refl, refl)

  pub unlisted_is : reads_listing schema text ≡ false
  unlisted_is = ap misses_table is

-- a query's answer has these columns
module _ (schema : Schema) (text : List ℕ) (n : ℕ) (query : Query) (names : List (List ℕ)) where
  pub query_is : Compiles schema text n (Select (record { lets = []; body = query }) names)
      → (command_of (understood schema text) ≡ Select (record { lets = []; body = query }) names) × (reads_listing schema text ≡ false)
  query_is is = (command_is schema text n _ is, unlisted_is schema text n _ is)
