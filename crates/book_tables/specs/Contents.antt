-- What rows of content, kind and state show: the content of the first, of which it can be read what
-- it is and what was said of it; nothing where there is none.
use Rattle.std.specs.Prelude.{◌≡◌, ℕ, List, [], ◌∷◌}
use Rattle.sqlite.specs.declared.types.Value.TheVariants.{Blob}
use Rattle.sqlite.specs.Order.{Row, column}
use Rattle.book_tables.specs.Showing.{HasKindAndState}

abbrev pub IsContent : List Row → List ℕ → Type 0
IsContent [] content = content ≡ []
IsContent (row ∷ rows) content = (column row 0 ≡ Blob content) × HasKindAndState row 1 2
