-- The texts that ask what a depositor has open, and what they mean.
use Rattle.std.proofs.Common.{codes, ℕ, List, [], ◌∷◌, refl}
use Rattle.sqlite.specs.Command.TheVariants.{Select}
use Rattle.sqlite.specs.Term.{Term, col}
use Rattle.sqlite_value.specs.declared.keys.Key.{Key}
use Rattle.sqlite_tied.specs.Compute.{everything}
use Rattle.book_statements.specs.Asking.{OnlyReads}
use Rattle.book_statements.specs.Layout.{Others, beside}
use Rattle.book_statements.proofs.Understood.{Compiles, query_is}
use Rattle.book_statements.proofs.NeedTexts.{under_at, Reads}
use Rattle.book_statements.proofs.ShowingTexts.{rising}
use Rattle.book_statements.proofs.Selects.{query_reads}

-- The second column alone, in its order: of `advice` and of `orders` it is the name.

abbrev pub name_columns : List Term
name_columns = col 1 2 ∷ []

abbrev pub name_order : List (Term × Key)
name_order = rising 2 ∷ []

-- The shipment numbers of open advices.

abbrev pub shipments_text : List ℕ
shipments_text = codes "SELECT shipment FROM advice WHERE who = ?1 AND is_open = ?2 ORDER BY shipment"

shipments_compiles : (others : Others) → Compiles (beside others) shipments_text 2 (Select (record { lets = []; body = under_at 4 8 name_columns name_order }) (codes "shipment" ∷ []))
unfolding everything
shipments_compiles others = refl

pub shipments_is : (others : Others) → Reads shipments_text (under_at 4 8 name_columns name_order) (codes "shipment" ∷ []) others
shipments_is others = query_is (beside others) shipments_text 2 _ _ (shipments_compiles others)

pub shipments_reads : OnlyReads shipments_text
unfolding everything
shipments_reads = query_reads shipments_text (λ schema base. refl)

-- The numbers of open orders.

abbrev pub numbers_text : List ℕ
numbers_text = codes "SELECT ord FROM orders WHERE who = ?1 AND is_open = ?2 ORDER BY ord"

numbers_compiles : (others : Others) → Compiles (beside others) numbers_text 2 (Select (record { lets = []; body = under_at 3 12 name_columns name_order }) (codes "ord" ∷ []))
unfolding everything
numbers_compiles others = refl

pub numbers_is : (others : Others) → Reads numbers_text (under_at 3 12 name_columns name_order) (codes "ord" ∷ []) others
numbers_is others = query_is (beside others) numbers_text 2 _ _ (numbers_compiles others)

pub numbers_reads : OnlyReads numbers_text
unfolding everything
numbers_reads = query_reads numbers_text (λ schema base. refl)
