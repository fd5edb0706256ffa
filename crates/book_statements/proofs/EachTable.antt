-- What is so of each of the book's tables.
use Rattle.std.proofs.Common.{◌≡◌, ◌≢◌, inl, inr, ℕ, List, Bool, true, false, refl, sym, ap, subst, ◌∙◌, arith}
use Rattle.std.specs.Prelude.{nat_eq, find, unwrap_or, if◌then◌else◌}
use Rattle.std.proofs.lemmas.Bool.{cases_Bool}
use Rattle.std.proofs.lemmas.Bool.Decides.{nat_tests}
use Rattle.sqlite_rules.specs.Lists.{Has}
use Rattle.sqlite_rules.proofs.ProbeLemmas.{mapped_has}
use Rattle.definitions.specs.Tables.{TableRow}
use Rattle.book_statements.specs.declared.names.TableName.{TableName}
use Rattle.book_statements.specs.declared.names.TableName.TheVariants as table
use Rattle.book_statements.specs.Layout.{book_tables}
use Rattle.book_statements.specs.Standing.{layout_of, tree_of, all_tables, Filled, with_rows}

-- it is one of them, and laid out among the book's
pub among : (t : TableName) → Has all_tables t
among table.Book = inl refl
among table.Entry = inr (inl refl)
among table.Outgoing = inr (inr (inl refl))
among table.Stock = inr (inr (inr (inl refl)))
among table.Advice = inr (inr (inr (inr (inl refl))))
among table.AdviceLine = inr (inr (inr (inr (inr (inl refl)))))
among table.Orders = inr (inr (inr (inr (inr (inr (inl refl))))))
among table.OrderLine = inr (inr (inr (inr (inr (inr (inr (inl refl)))))))
among table.Reservation = inr (inr (inr (inr (inr (inr (inr (inr (inl refl))))))))
among table.EntryRules = inr (inr (inr (inr (inr (inr (inr (inr (inr (inl refl)))))))))
among table.LotExpiry = inr (inr (inr (inr (inr (inr (inr (inr (inr (inr (inl refl))))))))))

pub listed : (t : TableName) → Has book_tables (layout_of t)
listed t = mapped_has layout_of all_tables t (among t)

-- Each has a tree of its own.

same_number : (n : ℕ) → nat_eq n n ≡ true
same_number n = grind (arith, nat_tests)

pub apart : (m n : ℕ) → nat_eq m n ≡ false → m ≢ n
apart m n h e = let f : ◌≡◌ {A = Bool} true false = sym (same_number n) ∙ subst (λ (x : ℕ). nat_eq x n ≡ false) e h in cc

are_one : (m n : ℕ) → nat_eq m n ≡ true → m ≡ n
are_one m n h = grind (arith, nat_tests, h)

-- the table with a tree
abbrev table_at : ℕ → TableName
table_at n = unwrap_or (find (λ (t : TableName). nat_eq (tree_of t) n) all_tables) table.Book

is_at : (t : TableName) → table_at (tree_of t) ≡ t
is_at table.Book = refl
is_at table.Entry = refl
is_at table.Outgoing = refl
is_at table.Stock = refl
is_at table.Advice = refl
is_at table.AdviceLine = refl
is_at table.Orders = refl
is_at table.OrderLine = refl
is_at table.Reservation = refl
is_at table.EntryRules = refl
is_at table.LotExpiry = refl

one_tree : (t u : TableName) → tree_of t ≡ tree_of u → t ≡ u
one_tree t u e = sym (is_at t) ∙ ap table_at e ∙ is_at u

-- what holds of a table's new rows and of the others' old ones holds of all
pub each_table : (P : TableName → List TableRow → Type 0) (t : TableName) (rows : List TableRow) (f : Filled) → P t rows
    → ((u : TableName) → nat_eq (tree_of t) (tree_of u) ≡ false → P u (f u)) → (u : TableName) → P u (if nat_eq (tree_of t) (tree_of u) then rows else f u)
each_table P t rows f here others u = elim (cases_Bool (nat_eq (tree_of t) (tree_of u))) [
  | inl same ↦ rw same (subst (λ v. P v rows) (one_tree t u (are_one (tree_of t) (tree_of u) same)) here)
  | inr other ↦ rw other (others u other)
]

-- a table that gets the rows that it has is as it was
pub with_own : (t : TableName) (f : Filled) → with_rows t (f t) f ≡ f
with_own t f = λ i u. each_table (λ v rows. rows ≡ f v) t (f t) f refl (λ v other. refl) u i

-- of rows that are given one after the other, the last stay
pub with_twice : (t : TableName) (rows last : List TableRow) (f : Filled) → with_rows t last (with_rows t rows f) ≡ with_rows t last f
with_twice t rows last f = λ i u. by u i
  where
    by : (u : TableName) → (if nat_eq (tree_of t) (tree_of u) then last else (if nat_eq (tree_of t) (tree_of u) then rows else f u)) ≡ (if nat_eq (tree_of t) (tree_of u) then last else f u)
    by u = elim (cases_Bool (nat_eq (tree_of t) (tree_of u))) [
      | inl same ↦ rw same refl
      | inr other ↦ rw other refl
    ]
