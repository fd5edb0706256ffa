-- The text that asks for what went out under a number, and what it means.
use Rattle.std.proofs.Common.{codes, List, ℕ, [], ◌∷◌, refl}
use Rattle.sqlite.specs.Listing.{understood}
use Rattle.sqlite.specs.Query.{Query}
use Rattle.sqlite.specs.Term.{Term, col}
use Rattle.sqlite_tied.specs.Compute.{everything}
use Rattle.book_statements.specs.Asking.{OnlyReads}
use Rattle.book_statements.specs.Layout.{Others}
use Rattle.book_statements.proofs.NeedTexts.{Reads, under_where}
use Rattle.book_statements.proofs.Selects.{query_reads}
use Rattle.book_tables.specs.Outgoing.{content_text}

abbrev pub content_columns : List Term
content_columns = col 1 4 ∷ col 1 3 ∷ col 1 5 ∷ []

abbrev pub content_query : Query
content_query = under_where 4 content_columns []

abbrev content_names : List (List ℕ)
content_names = codes "content" ∷ codes "kind" ∷ codes "state" ∷ []

pub content_is : (others : Others) → Reads content_text content_query content_names others
unfolding understood everything
content_is others = (refl, refl)

pub content_reads : OnlyReads content_text
unfolding everything
content_reads = query_reads content_text (λ schema base. refl)
