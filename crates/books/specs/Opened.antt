-- What a book is, as a value: its tables, its warehouse, how many entries it knows of, and whether
-- it has to be opened again.
use Rattle.std.specs.Prelude.{ℕ, Bool, List, refl}
use Rattle.std.specs.Coded.{Coded, code_by, coded×, coded_ℕ, coded_bool, coded_list}
use Rattle.sqlite.specs.Store.{Ghosts}
use Rattle.sqlite.specs.Held.{state}
use Rattle.definitions.specs.Header.{Who}
use Rattle.store.specs.Standing.{Standing}
use Rattle.book_statements.specs.Kept.{Kept, kept_code}
use Rattle.books.specs.Keeping.{standing_in}

pub record Opened (S : Type 0) : Type 0 where
  pub tables : Kept S
  pub warehouse : Who
  pub entries : ℕ
  pub shut : Bool

abbrev pub opened_code : {S : Type 0} → Coded S → Coded (Opened S)
opened_code {S} store =
    code_by (Kept S × (List ℕ × (List ℕ × (ℕ × Bool))))
    (coded× (kept_code store)
    (coded× (coded_list coded_ℕ) (coded× (coded_list coded_ℕ) (coded× coded_ℕ coded_bool))))
    (λ b. (b.tables, (b.warehouse.qualifier, (b.warehouse.id, (b.entries, b.shut)))))
    (λ p. record {
      tables = p.0;
      warehouse = record { qualifier = p.1.0; id = p.1.1.0 };
      entries = p.1.1.1.0;
      shut = p.1.1.1.1;
    })
    (λ _. refl)

-- how a book stands
abbrev pub standing_of : {S : Type 0} → Ghosts S → Opened S → Standing
standing_of g b = standing_in (state g b.tables.conn) b.warehouse b.entries b.tables.refused b.shut
