-- The texts that ask for what a depositor has that isn't closed, and what they mean.
use Rattle.std.proofs.Common.{◌≡◌, codes, ℕ, ℤ, [], ◌∷◌, pos, Some, Bool, true, false, not, refl, sym, ap, ◌∙◌}
use Rattle.std.specs.Prelude.{if◌then◌else◌}
use Rattle.sqlite.specs.Collation.TheVariants.{Binary}
use Rattle.sqlite.specs.Listing.{understood}
use Rattle.sqlite.specs.Ops.{unary, binary, truth, not3, is_true, from_truth}
use Rattle.sqlite.specs.Term.{Term, lit, col, op1, op2}
use Rattle.sqlite.specs.Query.{Query}
use Rattle.sqlite.specs.declared.types.Value.{Value}
use Rattle.sqlite.specs.declared.types.Value.TheVariants.{Int}
use Rattle.sqlite_sql.specs.declared.ops.BinaryOp.TheVariants.{Compare, Is}
use Rattle.sqlite_sql.specs.declared.ops.CompareOp.TheVariants.{Eq}
use Rattle.sqlite_sql.specs.declared.ops.UnaryOp.TheVariants.{Not}
use Rattle.sqlite_schema.specs.Rules.{equal}
use Rattle.sqlite_tied.specs.Compute.{everything}
use Rattle.book_statements.specs.Asking.{OnlyReads}
use Rattle.book_statements.specs.Layout.{Others}
use Rattle.book_statements.proofs.KeyLemmas.{equal_ints, equal_numbers}
use Rattle.book_statements.proofs.NeedTexts.{Reads}
use Rattle.book_statements.proofs.OpenTexts.{name_order}
use Rattle.book_statements.proofs.ReadingTexts.{ordered_from}
use Rattle.book_statements.proofs.Selects.{query_reads}
use Rattle.book_tables.specs.Opened.{numbers_text, shipments_text}

-- `is_open` stands at a place, and isn't 0
abbrev pub not_closed : ℕ → Term
not_closed at = op1 Not (op2 (Is Binary) (col 1 at) (lit (Int (pos 0))))

-- the name and `is_open` of those of the first parameter
abbrev pub unclosed : ℕ → ℕ → Query
unclosed at tree = ordered_from tree (op2 (Compare Eq Binary) (col 1 1) (col 0 0) ∷ not_closed at ∷ []) (col 1 2 ∷ col 1 at ∷ []) name_order

-- Advices.

pub shipments_is : (others : Others) → Reads shipments_text (unclosed 4 8) (codes "shipment" ∷ codes "is_open" ∷ []) others
unfolding understood everything
shipments_is others = (refl, refl)

pub shipments_reads : OnlyReads shipments_text
unfolding everything
shipments_reads = query_reads shipments_text (λ schema base. refl)

-- Orders.

pub numbers_is : (others : Others) → Reads numbers_text (unclosed 3 12) (codes "ord" ∷ codes "is_open" ∷ []) others
unfolding understood everything
numbers_is others = (refl, refl)

pub numbers_reads : OnlyReads numbers_text
unfolding everything
numbers_reads = query_reads numbers_text (λ schema base. refl)

-- What passes: 1 stands for what is open, and 0 for what isn't.

abbrev pub is_unclosed : Value → Bool
is_unclosed v = is_true (unary Not (binary (Is Binary) v (Int (pos 0))))

turned : (b : Bool) → is_true (from_truth (not3 (truth (from_truth (Some b))))) ≡ not b
turned true = refl
turned false = refl

unclosed_ints : (m n : ℤ) → is_true (unary Not (binary (Is Binary) (Int m) (Int n))) ≡ not (equal Binary (Int m) (Int n))
unfolding unary binary
unclosed_ints m n = turned _ ∙ ap not (sym (equal_ints m n))

pub unclosed_told : (b : Bool) → is_unclosed (Int (pos (if b then 1 else 0))) ≡ b
unclosed_told true = unclosed_ints (pos 1) (pos 0) ∙ ap not (equal_numbers 1 0)
unclosed_told false = unclosed_ints (pos 0) (pos 0) ∙ ap not (equal_numbers 0 0)
