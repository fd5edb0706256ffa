-- Rows of tables stand for one register alone.
use Rattle.std.proofs.Common.{◌≡◌, ℕ, List, [], ◌∷◌, ap, sym, ◌∙◌, arith}
use Rattle.definitions.specs.Header.{Who}
use Rattle.definitions.specs.Register.{Entry}
use Rattle.definitions.specs.declared.rules.Rules.TheVariants.{One, Two}
use Rattle.definitions.specs.Tables.{TableRow, Number, Text, book_table}
use Rattle.definitions.specs.Schema.{Contents, Stands}
use Rattle.definitions.proofs.RegisterLaws.{entry_table-determines, entry_table-determines_first}

-- the warehouse that a row of `book` names
abbrev who_in : Who → List TableRow → Who
who_in w ((version ∷ Text qualifier ∷ Text id ∷ []) ∷ rows) = record { qualifier = qualifier; id = id }
who_in w rows = w

pub stands-determine : (rows : Contents) (V W : Who) (L M : List Entry) → Stands Two V L rows → Stands Two W M rows → (V ≡ W) × (L ≡ M)
stands-determine rows V W L M s t = (
  ap (who_in V) (sym s.same.0 ∙ t.same.0),
  entry_table-determines V W L M s.legal t.legal (sym s.same.1.0 ∙ t.same.1.0)
      (sym s.same.1.1.1.1.1.1.1.1.1.0 ∙ t.same.1.1.1.1.1.1.1.1.1.0),
)

-- and of version 1
pub stands-determine_first : (rows : Contents) (V W : Who) (L M : List Entry) → Stands One V L rows → Stands One W M rows → (V ≡ W) × (L ≡ M)
stands-determine_first rows V W L M s t = (
  ap (who_in V) (sym s.same.0 ∙ t.same.0),
  entry_table-determines_first V W L M s.legal t.legal (sym s.same.1.0 ∙ t.same.1.0),
)

-- rows stand for a register in one version alone
pub stands-version : (rows : Contents) (V W : Who) (L M : List Entry) → Stands One V L rows → Stands Two W M rows → ⊥
stands-version rows V W L M s t = version_differs (sym s.same.0 ∙ t.same.0)
  where
    version_in : List TableRow → ℕ
    version_in ((Number n ∷ cells) ∷ rows) = n
    version_in rows = 0

    version_differs : book_table One V ≡ book_table Two W → ⊥
    version_differs e = omega (arith, ap version_in e)
