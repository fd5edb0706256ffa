-- The texts that read the book's rows, and what they mean.
use Rattle.std.proofs.Common.{◌≡◌, codes, ℕ, List, [], ◌∷◌, refl, false, None, pos, negsuc}
use Rattle.sqlite.specs.declared.types.Value.TheVariants.{Int}
use Rattle.sqlite.specs.Command.TheVariants.{Select}
use Rattle.sqlite.specs.Term.{Term, lit, col}
use Rattle.sqlite_value.specs.declared.keys.Key.{Key}
use Rattle.sqlite.specs.Query.{Query, inner, end}
use Rattle.sqlite_tied.specs.Compute.{everything}
use Rattle.sqlite.specs.Listing.{understood, reads_listing}
use Rattle.sqlite.proofs.Callers.{command_of}
use Rattle.book_statements.specs.Layout.{Others, beside}
use Rattle.book_statements.specs.Asking.{OnlyReads, house_text}
use Rattle.book_statements.proofs.Understood.{Compiles, query_is}
use Rattle.book_statements.proofs.Selects.{query_reads}

-- the rows of a table that pass, as these terms, in an order
abbrev pub ordered_from : ℕ → List Term → List Term → List (Term × Key) → Query
ordered_from tree filter project order = record {
  from = inner tree end;
  filter = filter;
  group = None;
  project = project;
  distinct = false;
  collations = [];
  order = order;
  limit = lit (Int (negsuc 0));
  offset = lit (Int (pos 0));
}

-- The numbers of the entries.

abbrev pub count_text : List ℕ
count_text = codes "SELECT seq FROM entry"

abbrev pub count_query : Query
count_query = ordered_from 1 [] (col 1 0 ∷ []) []

count_compiles : (others : Others) → Compiles (beside others) count_text 0 (Select (record { lets = []; body = count_query }) (codes "seq" ∷ []))
unfolding everything
count_compiles others = refl

pub count_is : (others : Others) → (command_of (understood (beside others) count_text) ≡ Select (record { lets = []; body = count_query }) (codes "seq" ∷ [])) × (reads_listing (beside others) count_text ≡ false)
count_is others = query_is (beside others) count_text 0 _ _ (count_compiles others)

pub count_reads : OnlyReads count_text
unfolding everything
count_reads = query_reads count_text (λ schema base. refl)

-- The warehouse.

abbrev pub house_query : Query
house_query = ordered_from 0 [] (col 1 1 ∷ col 1 2 ∷ col 1 3 ∷ []) []

house_compiles : (others : Others) → Compiles (beside others) house_text 0 (Select (record { lets = []; body = house_query }) (codes "version" ∷ codes "qualifier" ∷ codes "id" ∷ []))
unfolding everything
house_compiles others = refl

pub house_is : (others : Others) → (command_of (understood (beside others) house_text) ≡ Select (record { lets = []; body = house_query }) (codes "version" ∷ codes "qualifier" ∷ codes "id" ∷ [])) × (reads_listing (beside others) house_text ≡ false)
house_is others = query_is (beside others) house_text 0 _ _ (house_compiles others)

pub house_reads : OnlyReads house_text
unfolding everything
house_reads = query_reads house_text (λ schema base. refl)
