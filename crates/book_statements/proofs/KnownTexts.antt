-- The texts that look up a depositor's entry under a key, and what an entry sent out.
use Rattle.std.proofs.Common.{◌≡◌, codes, ℕ, List, [], ◌∷◌, refl, false}
use Rattle.sqlite.specs.Command.TheVariants.{Select}
use Rattle.sqlite.specs.Term.{col, op2}
use Rattle.sqlite_sql.specs.declared.ops.BinaryOp.TheVariants.{Compare}
use Rattle.sqlite_sql.specs.declared.ops.CompareOp.TheVariants.{Eq}
use Rattle.sqlite.specs.Collation.TheVariants.{Binary}
use Rattle.sqlite_value.specs.Keys.{ascending}
use Rattle.sqlite.specs.Query.{Query}
use Rattle.sqlite_tied.specs.Compute.{everything}
use Rattle.sqlite.specs.Listing.{understood, reads_listing}
use Rattle.sqlite.proofs.Callers.{command_of}
use Rattle.book_statements.specs.Asking.{OnlyReads}
use Rattle.book_statements.specs.Layout.{Others, beside}
use Rattle.book_statements.proofs.Understood.{Compiles, query_is}
use Rattle.book_statements.proofs.ReadingTexts.{ordered_from}
use Rattle.book_statements.proofs.WritingTexts.{where_key}
use Rattle.book_statements.proofs.Selects.{query_reads}

-- The number of the entry under a key.

abbrev pub under_text : List ℕ
under_text = codes "SELECT seq FROM entry WHERE who = ?1 AND mark = ?2 ORDER BY seq"

abbrev pub under_query : Query
under_query = ordered_from 1 (op2 (Compare Eq Binary) (col 1 2) (col 0 0) ∷ op2 (Compare Eq Binary) (col 1 3) (col 0 1) ∷ []) (col 1 0 ∷ []) ((col 1 0, ascending Binary) ∷ [])

under_compiles : (others : Others) → Compiles (beside others) under_text 2 (Select (record { lets = []; body = under_query }) (codes "seq" ∷ []))
unfolding everything
under_compiles others = refl

pub under_is : (others : Others) → (command_of (understood (beside others) under_text) ≡ Select (record { lets = []; body = under_query }) (codes "seq" ∷ [])) × (reads_listing (beside others) under_text ≡ false)
under_is others = query_is (beside others) under_text 2 _ _ (under_compiles others)

pub under_reads : OnlyReads under_text
unfolding everything
under_reads = query_reads under_text (λ schema base. refl)

-- What an entry sent out.

abbrev pub content_text : List ℕ
content_text = codes "SELECT content FROM outgoing WHERE who = ?1 AND n = ?2"

abbrev pub content_query : Query
content_query = ordered_from 4 (where_key 0 2) (col 1 4 ∷ []) []

content_compiles : (others : Others) → Compiles (beside others) content_text 2 (Select (record { lets = []; body = content_query }) (codes "content" ∷ []))
unfolding everything
content_compiles others = refl

pub content_is : (others : Others) → (command_of (understood (beside others) content_text) ≡ Select (record { lets = []; body = content_query }) (codes "content" ∷ [])) × (reads_listing (beside others) content_text ≡ false)
content_is others = query_is (beside others) content_text 2 _ _ (content_compiles others)

pub content_reads : OnlyReads content_text
unfolding everything
content_reads = query_reads content_text (λ schema base. refl)
