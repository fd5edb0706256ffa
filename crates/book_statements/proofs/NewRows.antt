-- The inserts of what is new: an advice or an order, its lines, and what is reserved for it.
use Rattle.std.proofs.Common.{◌≡◌, inl, inr, ℕ, ℤ, List, [], ◌∷◌, Ok, Some, refl}
use Rattle.std.specs.Prelude.{slice_get}
use Rattle.sqlite.specs.Command.TheVariants.{Insert}
use Rattle.sqlite.specs.Source.TheVariants.{Values}
use Rattle.sqlite.specs.Listing.{understood}
use Rattle.sqlite.specs.Given.{IsPlain}
use Rattle.sqlite.proofs.Callers.{command_of}
use Rattle.sqlite.specs.declared.types.Value.{Value}
use Rattle.sqlite.specs.declared.types.Value.TheVariants.{Int, Text}
use Rattle.sqlite.specs.Kind.TheVariants as kind
use Rattle.sqlite.specs.Cast.{cast}
use Rattle.sqlite.specs.State.{State, Executes}
use Rattle.book_statements.specs.Layout.{IsLayout, advice_layout, advice_line_layout, orders_layout, order_line_layout, reservation_layout}
use Rattle.book_statements.specs.Steps.{PutByKey, AreKeyed, WritesInto}
use Rattle.book_statements.proofs.WritingTexts.{source, insert_advice_text, insert_advice_is, insert_advice_plain, insert_advice_line_text, insert_advice_line_is, insert_advice_line_plain, insert_orders_text, insert_orders_is, insert_orders_plain, insert_order_line_text, insert_order_line_is, insert_order_line_plain, insert_reservation_text, insert_reservation_is, insert_reservation_plain}
use Rattle.book_statements.proofs.Beside.{into_book, under}
use Rattle.book_statements.proofs.KeyedInserts.{inserts}
use Rattle.book_statements.proofs.UpsertLemmas.{IsUpsert}
use Rattle.book_statements.proofs.Upserts.{advice_known, orders_known}
use Rattle.book_statements.proofs.Values.{cast_int}

-- advice
module _ (who shipment ord : List ℕ) (is_open : ℤ) where
  pub inserts_advice : (old new : State) (count : ℕ) → IsLayout old.now.schema → AreKeyed 2 (old.now.trees 8)
      → Executes insert_advice_text (Text who ∷ Text shipment ∷ Text ord ∷ Int is_open ∷ []) old new (Ok count) → WritesInto 8 (PutByKey 2 (Text who ∷ Text shipment ∷ Text ord ∷ Int is_open ∷ [])) old.now new.now
  inserts_advice old new count lies tidy h =
      into_book 8 refl (PutByKey 2 (Text who ∷ Text shipment ∷ Text ord ∷ Int is_open ∷ [])) old.now new.now lies (inserts advice_layout.name 4 advice_layout.tree 2 4 advice_layout.checks advice_layout.columns (Text who ∷ Text shipment ∷ Text ord ∷ Int is_open ∷ []) (advice_known who shipment ord is_open) insert_advice_text
      old new count lies (inr (inr (inr (inr (inl refl))))) (under (λ s. slice_get s.tables 4 ≡ Some advice_layout) old.now.schema lies (λ others. refl))
      (under (λ s. command_of (understood s insert_advice_text) ≡ Insert 4 (Values (source 4) 5)) old.now.schema lies insert_advice_is)
      (under (λ s. IsPlain (understood s insert_advice_text)) old.now.schema lies insert_advice_plain) tidy h)

-- advice_line
module _ (who shipment : List ℕ) (line : ℤ) (item lot : List ℕ) (quantity : ℤ) where
  advice_line_known : IsUpsert advice_line_layout.name 5 advice_line_layout.tree 3 6 advice_line_layout.checks advice_line_layout.columns (Text who ∷ Text shipment ∷ Int line ∷ Text item ∷ Text lot ∷ Int quantity ∷ [])
  advice_line_known = record {
    guarded = λ new r. refl;
    read = λ db. refl;
    is_key = refl;
    cast = rw (cast_int line, cast_int quantity) refl;
    given = refl;
    named = λ id more. refl;
    projects = λ id param rest more. refl;
  }

  pub inserts_advice_line : (old new : State) (count : ℕ) → IsLayout old.now.schema → AreKeyed 3 (old.now.trees 10)
      → Executes insert_advice_line_text (Text who ∷ Text shipment ∷ Int line ∷ Text item ∷ Text lot ∷ Int quantity ∷ []) old new (Ok count) → WritesInto 10 (PutByKey 3 (Text who ∷ Text shipment ∷ Int line ∷ Text item ∷ Text lot ∷ Int quantity ∷ [])) old.now new.now
  inserts_advice_line old new count lies tidy h =
      into_book 10 refl (PutByKey 3 (Text who ∷ Text shipment ∷ Int line ∷ Text item ∷ Text lot ∷ Int quantity ∷ [])) old.now new.now lies (inserts advice_line_layout.name 5 advice_line_layout.tree 3 6 advice_line_layout.checks advice_line_layout.columns (Text who ∷ Text shipment ∷ Int line ∷ Text item ∷ Text lot ∷ Int quantity ∷ []) advice_line_known insert_advice_line_text
      old new count lies (inr (inr (inr (inr (inr (inl refl)))))) (under (λ s. slice_get s.tables 5 ≡ Some advice_line_layout) old.now.schema lies (λ others. refl))
      (under (λ s. command_of (understood s insert_advice_line_text) ≡ Insert 5 (Values (source 6) 7)) old.now.schema lies insert_advice_line_is)
      (under (λ s. IsPlain (understood s insert_advice_line_text)) old.now.schema lies insert_advice_line_plain) tidy h)

-- orders
module _ (who ord : List ℕ) (is_open : ℤ) (to_name : Value) (to_one to_two to_place : List ℕ) (to_name_kept : cast kind.Text to_name ≡ to_name) where
  pub inserts_orders : (old new : State) (count : ℕ) → IsLayout old.now.schema → AreKeyed 2 (old.now.trees 12)
      → Executes insert_orders_text (Text who ∷ Text ord ∷ Int is_open ∷ to_name ∷ Text to_one ∷ Text to_two ∷ Text to_place ∷ []) old new (Ok count) → WritesInto 12 (PutByKey 2 (Text who ∷ Text ord ∷ Int is_open ∷ to_name ∷ Text to_one ∷ Text to_two ∷ Text to_place ∷ [])) old.now new.now
  inserts_orders old new count lies tidy h =
      into_book 12 refl (PutByKey 2 (Text who ∷ Text ord ∷ Int is_open ∷ to_name ∷ Text to_one ∷ Text to_two ∷ Text to_place ∷ [])) old.now new.now lies (inserts orders_layout.name 6 orders_layout.tree 2 7 orders_layout.checks orders_layout.columns (Text who ∷ Text ord ∷ Int is_open ∷ to_name ∷ Text to_one ∷ Text to_two ∷ Text to_place ∷ []) (orders_known who ord is_open to_name to_one to_two to_place to_name_kept) insert_orders_text
      old new count lies (inr (inr (inr (inr (inr (inr (inl refl))))))) (under (λ s. slice_get s.tables 6 ≡ Some orders_layout) old.now.schema lies (λ others. refl))
      (under (λ s. command_of (understood s insert_orders_text) ≡ Insert 6 (Values (source 7) 8)) old.now.schema lies insert_orders_is)
      (under (λ s. IsPlain (understood s insert_orders_text)) old.now.schema lies insert_orders_plain) tidy h)

-- order_line
module _ (who ord : List ℕ) (line : ℤ) (item : List ℕ) (lot : Value) (quantity : ℤ) (lot_kept : cast kind.Text lot ≡ lot) where
  order_line_known : IsUpsert order_line_layout.name 7 order_line_layout.tree 3 6 order_line_layout.checks order_line_layout.columns (Text who ∷ Text ord ∷ Int line ∷ Text item ∷ lot ∷ Int quantity ∷ [])
  order_line_known = record {
    guarded = λ new r. refl;
    read = λ db. refl;
    is_key = refl;
    cast = rw (cast_int line, cast_int quantity, lot_kept) refl;
    given = refl;
    named = λ id more. refl;
    projects = λ id param rest more. refl;
  }

  pub inserts_order_line : (old new : State) (count : ℕ) → IsLayout old.now.schema → AreKeyed 3 (old.now.trees 14)
      → Executes insert_order_line_text (Text who ∷ Text ord ∷ Int line ∷ Text item ∷ lot ∷ Int quantity ∷ []) old new (Ok count) → WritesInto 14 (PutByKey 3 (Text who ∷ Text ord ∷ Int line ∷ Text item ∷ lot ∷ Int quantity ∷ [])) old.now new.now
  inserts_order_line old new count lies tidy h =
      into_book 14 refl (PutByKey 3 (Text who ∷ Text ord ∷ Int line ∷ Text item ∷ lot ∷ Int quantity ∷ [])) old.now new.now lies (inserts order_line_layout.name 7 order_line_layout.tree 3 6 order_line_layout.checks order_line_layout.columns (Text who ∷ Text ord ∷ Int line ∷ Text item ∷ lot ∷ Int quantity ∷ []) order_line_known insert_order_line_text
      old new count lies (inr (inr (inr (inr (inr (inr (inr (inl refl)))))))) (under (λ s. slice_get s.tables 7 ≡ Some order_line_layout) old.now.schema lies (λ others. refl))
      (under (λ s. command_of (understood s insert_order_line_text) ≡ Insert 7 (Values (source 6) 7)) old.now.schema lies insert_order_line_is)
      (under (λ s. IsPlain (understood s insert_order_line_text)) old.now.schema lies insert_order_line_plain) tidy h)

-- reservation
module _ (who ord item lot : List ℕ) (quantity : ℤ) where
  reservation_known : IsUpsert reservation_layout.name 8 reservation_layout.tree 4 5 reservation_layout.checks reservation_layout.columns (Text who ∷ Text ord ∷ Text item ∷ Text lot ∷ Int quantity ∷ [])
  reservation_known = record {
    guarded = λ new r. refl;
    read = λ db. refl;
    is_key = refl;
    cast = rw (cast_int quantity) refl;
    given = refl;
    named = λ id more. refl;
    projects = λ id param rest more. refl;
  }

  pub inserts_reservation : (old new : State) (count : ℕ) → IsLayout old.now.schema → AreKeyed 4 (old.now.trees 16)
      → Executes insert_reservation_text (Text who ∷ Text ord ∷ Text item ∷ Text lot ∷ Int quantity ∷ []) old new (Ok count) → WritesInto 16 (PutByKey 4 (Text who ∷ Text ord ∷ Text item ∷ Text lot ∷ Int quantity ∷ [])) old.now new.now
  inserts_reservation old new count lies tidy h =
      into_book 16 refl (PutByKey 4 (Text who ∷ Text ord ∷ Text item ∷ Text lot ∷ Int quantity ∷ [])) old.now new.now lies (inserts reservation_layout.name 8 reservation_layout.tree 4 5 reservation_layout.checks reservation_layout.columns (Text who ∷ Text ord ∷ Text item ∷ Text lot ∷ Int quantity ∷ []) reservation_known insert_reservation_text
      old new count lies (inr (inr (inr (inr (inr (inr (inr (inr (inl refl))))))))) (under (λ s. slice_get s.tables 8 ≡ Some reservation_layout) old.now.schema lies (λ others. refl))
      (under (λ s. command_of (understood s insert_reservation_text) ≡ Insert 8 (Values (source 5) 6)) old.now.schema lies insert_reservation_is)
      (under (λ s. IsPlain (understood s insert_reservation_text)) old.now.schema lies insert_reservation_plain) tidy h)
