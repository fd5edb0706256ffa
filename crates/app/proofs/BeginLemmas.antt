-- The book that a job begins with, or why there is none.
use Rattle.std.proofs.Common.{◌≡◌, ◌≢◌, [], true, refl, sym, ap, subst, ◌∙◌}
use Rattle.sqlite.specs.Held.{Held, state}
use Rattle.sqlite.specs.Schema.{Schema}
use Rattle.sqlite.specs.State.{HasCleanDisk, Survives}
use Rattle.sqlite.proofs.StateLemmas.{survives_weaker}
use Rattle.sqlite.specs.Store.{Ghosts}
use Rattle.definitions.specs.Header.{Who}
use Rattle.store.specs.Standing.{IsUsable}
use Rattle.store.specs.Fault.{Fault}
use Rattle.store.specs.Fault.TheVariants.{NotThisBook}
use Rattle.book_statements.specs.Exits.{IsAsBefore}
use Rattle.book_statements.specs.Faults.{IsOpeningFault}
use Rattle.book_statements.specs.Kept.{Kept}
use Rattle.book_statements.specs.Layout.{no_layout}
use Rattle.book_statements.specs.Standing.{StandsIn}
use Rattle.book_tables.specs.Taken.{has_book_table}
use Rattle.books.specs.Opened.{Opened, standing_of}
use Rattle.books.specs.Opening.{IsHandedBack, IsOpened}
use Rattle.app.specs.Done.{IsBegun, IsNotBegun}
use Rattle.app.specs.Opening.{IsNotMade, IsOfFile}
use Rattle.app.specs.declared.over_file.Job.{Job}
use Rattle.app.specs.declared.over_file.Job.TheVariants as job

none_named : has_book_table (let k = no_layout in k.tables) ≡ true → ⊥
none_named e = cc

module _ {S : Type 0} (store : Ghosts S) (database : Held S) where
  -- a book that is made is the one to begin with
  pub begun_new : (W : Who) (b : Opened S) → (HasCleanDisk (state store b.tables.conn) → IsUsable (standing_of store b) []) → b.warehouse ≡ W → IsBegun store database (job.Make W) b
  begun_new W b usable named = λ clean. record { warehouse = named; usable = usable clean }

  -- and one that is opened, for another job
  of_file : (t : Kept S) (b : Opened S) → t.conn ≡ database → IsOpened store t b → IsOfFile store database b
  of_file t b same ok = subst (λ (h : Held S). IsOfFile store h b) same (record {
    clean = let still = ok.still in still.clean;
    stood = λ clean q W L stands. record { warehouse = (ok.keeps clean q W L stands).0; usable = ok.usable clean q W L stands };
  })

  pub begun_old : (j : Job) (t : Kept S) (b : Opened S) → ((W : Who) → j ≢ job.Make W) → t.conn ≡ database → IsOpened store t b → IsBegun store database j b
  begun_old (job.Make W) t b not same ok = absurd (not W refl)
  begun_old (job.Change ready moment) t b not same ok = of_file t b same ok
  begun_old (job.Try ready moment) t b not same ok = of_file t b same ok
  begun_old (job.Look asked) t b not same ok = of_file t b same ok
  begun_old (job.Play text) t b not same ok = of_file t b same ok
  begun_old (job.Listen service first has_clock file) t b not same ok = of_file t b same ok
  begun_old (job.Seal first) t b not same ok = of_file t b same ok
  begun_old (job.HandOn who dir) t b not same ok = of_file t b same ok
  begun_old (job.Check noted) t b not same ok = of_file t b same ok

  -- what is handed back where there is none
  pub none_old : (j : Job) (t back : Kept S) (left : Held S) (f : Fault) → ((W : Who) → j ≢ job.Make W) → t.conn ≡ database → back.conn ≡ left → IsHandedBack store t f back
      → IsNotBegun store database left j f
  none_old (job.Make W) t back left f not same last why = absurd (not W refl)
  none_old (job.Change ready moment) t back left f not same last why = record { tables = t; handed = back; before = same; after = last; why = why }
  none_old (job.Try ready moment) t back left f not same last why = record { tables = t; handed = back; before = same; after = last; why = why }
  none_old (job.Look asked) t back left f not same last why = record { tables = t; handed = back; before = same; after = last; why = why }
  none_old (job.Play text) t back left f not same last why = record { tables = t; handed = back; before = same; after = last; why = why }
  none_old (job.Listen service first has_clock file) t back left f not same last why = record { tables = t; handed = back; before = same; after = last; why = why }
  none_old (job.Seal first) t back left f not same last why = record { tables = t; handed = back; before = same; after = last; why = why }
  none_old (job.HandOn who dir) t back left f not same last why = record { tables = t; handed = back; before = same; after = last; why = why }
  none_old (job.Check noted) t back left f not same last why = record { tables = t; handed = back; before = same; after = last; why = why }

  -- why none was made in a database that held nothing
  pub not_made : (W : Who) (t back : Kept S) (left : Held S) (f : Fault) → t.conn ≡ database → left ≡ back.conn → (state store database).now.schema ≡ no_layout
      → (f ≡ NotThisBook → has_book_table ((state store t.conn).now.schema.tables) ≡ true)
      → (HasCleanDisk (state store back.conn) → IsAsBefore (state store t.conn) (state store back.conn))
      → Survives (state store t.conn) (state store back.conn) (λ db. (state store t.conn).now.schema ≡ no_layout → StandsIn W [] db)
      → IsOpeningFault f → IsNotMade store database left W f
  not_made W t back left f same last blank free before crash named =
      let here : (state store t.conn).now.schema ≡ no_layout = subst (λ d. (state store d).now.schema ≡ no_layout) (sym same) blank in
      subst (λ d. IsNotMade store d left W f) same (subst (λ l. IsNotMade store t.conn l W f) (sym last) (record {
        taken = λ is. absurd (none_named (ap (λ (k : Schema). has_book_table k.tables) (sym here) ∙ free is));
        before = λ _. before;
        crash = λ _. survives_weaker _ _ _ _ (λ _ db stands. stands here) crash;
        named = named;
      }))
