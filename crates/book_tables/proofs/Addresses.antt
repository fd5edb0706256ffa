-- The columns of an order's row that have an address.
use Rattle.std.proofs.Common.{◌≡◌, ◌<◌, ℕ, zero, suc, Option, Some, None, List, [], ◌∷◌, length, ap, arith}
use Rattle.sqlite.specs.Order.{Row, column}
use Rattle.sqlite.specs.declared.types.Value.{Value}
use Rattle.sqlite.specs.declared.types.Value.TheVariants.{Null, Text}
use Rattle.definitions.specs.Means.{Address}
use Rattle.definitions.specs.Page.{PageOrder}
use Rattle.definitions.specs.Tables.{address_cells, flag, text_or_null}
use Rattle.book_statements.specs.Held.{value_of, values}
use Rattle.book_tables.specs.Showing.{AreAt, order_shown}

-- a column that has a text is there
has_text : (row : Row) (at : ℕ) (text : List ℕ) → column row at ≡ Text text → at < length row
has_text [] at text h = absurd (let wrong : ◌≡◌ {A = Value} Null (Text text) = h in cc)
has_text (v ∷ row) zero text h = omega arith
has_text (v ∷ row) (suc at) text h = omega (arith, has_text row at text h)

-- without a name that can be read, or NULL, there is no address
pub no_name : (row : Row) → ((name : Option (List ℕ)) → 2 < length row → column row 2 ≡ value_of (text_or_null name) → ⊥)
    → (a : Option Address) → AreAt row 2 (address_cells a) → ⊥
no_name row not None h = not None (omega (arith, has_text row 5 [] h.1.1.1.0)) h.0
no_name row not (Some a) h = not (Some a.name) (omega (arith, has_text row 5 a.place h.1.1.1.0)) h.0

-- an order's row has its address
by_address : (row : Row) (number : List ℕ) (is_open : Value) (a : Option Address) → row ≡ Text number ∷ is_open ∷ values (address_cells a) → AreAt row 2 (address_cells a)
by_address row number is_open None h =
    (ap (λ (r : Row). column r 2) h, (ap (λ (r : Row). column r 3) h, (ap (λ (r : Row). column r 4) h, (ap (λ (r : Row). column r 5) h, tt))))
by_address row number is_open (Some a) h =
    (ap (λ (r : Row). column r 2) h, (ap (λ (r : Row). column r 3) h, (ap (λ (r : Row). column r 4) h, (ap (λ (r : Row). column r 5) h, tt))))

pub has_address : (row : Row) (o : PageOrder) → row ≡ order_shown o → AreAt row 2 (address_cells o.address)
has_address row o h = by_address row o.number (value_of (flag o.is_open)) o.address h
