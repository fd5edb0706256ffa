-- The upserts of the book's tables.
use Rattle.std.proofs.Common.{◌≡◌, ◌+◌, inl, inr, ℕ, ℤ, List, [], ◌∷◌, Ok, Some, refl, eq-eqb}
use Rattle.std.specs.Prelude.{slice_get}
use Rattle.sqlite.specs.Command.TheVariants.{InsertOr}
use Rattle.sqlite.specs.Source.TheVariants.{Values}
use Rattle.sqlite_schema.specs.declared.command.Conflict.TheVariants.{Abort}
use Rattle.sqlite.specs.Listing.{understood}
use Rattle.sqlite.specs.Given.{IsPlain}
use Rattle.sqlite.proofs.Callers.{command_of}
use Rattle.sqlite_rules.specs.Lists.{Has}
use Rattle.sqlite_rules.proofs.ListLemmas.{all_has}
use Rattle.sqlite.specs.Table.{Table}
use Rattle.sqlite.specs.declared.types.Value.{Value}
use Rattle.sqlite.specs.declared.types.Value.TheVariants.{Int, Text}
use Rattle.sqlite.specs.Kind.TheVariants as kind
use Rattle.sqlite.specs.Order.{Row}
use Rattle.sqlite.specs.Cast.{cast}
use Rattle.sqlite.specs.Effect.{IsDatabase}
use Rattle.sqlite.specs.State.{State, Executes}
use Rattle.book_statements.specs.Layout.{IsLayout, ours, indexes_on, indexes_of, book_trees, expiry_tree, lot_expiry_at, stock_layout, advice_layout, orders_layout, lot_expiry_layout}
use Rattle.book_statements.specs.Steps.{PutByKey, AreKeyed, WritesInto}
use Rattle.book_statements.proofs.WritingTexts.{put_stock_text, put_stock_is, put_stock_plain, put_advice_text, put_advice_is, put_advice_plain, put_orders_text, put_orders_is, put_orders_plain, put_expiry_text, source, update_query, on_conflict}
use Rattle.book_statements.proofs.KeyLemmas.{places}
use Rattle.book_statements.proofs.Beside.{into_book, under}
use Rattle.book_statements.proofs.ExpiryTexts.{put_expiry_is, put_expiry_plain, has_key}
use Rattle.book_statements.proofs.SelectedParts.{of_tree}
use Rattle.book_statements.proofs.UpsertLemmas.{IsUpsert, puts}
use Rattle.book_statements.proofs.Values.{cast_int, overlay_lies}

-- stock
module _ (who item lot : List ℕ) (since expected on_hand reserved shipped : ℤ) where
  stock_known : IsUpsert stock_layout.name 3 stock_layout.tree 3 8 stock_layout.checks stock_layout.columns (Text who ∷ Text item ∷ Text lot ∷ Int since ∷ Int expected ∷ Int on_hand ∷ Int reserved ∷ Int shipped ∷ [])
  stock_known = record {
    guarded = λ new r. refl;
    read = λ db. refl;
    is_key = refl;
    cast = rw (cast_int since, cast_int expected, cast_int on_hand, cast_int reserved, cast_int shipped) refl;
    given = refl;
    named = λ id more. refl;
    projects = λ id param rest more. refl;
  }

  pub puts_stock : (old new : State) (count : ℕ) → IsLayout old.now.schema → IsDatabase old.now → AreKeyed 3 (old.now.trees 6)
      → Executes put_stock_text (Text who ∷ Text item ∷ Text lot ∷ Int since ∷ Int expected ∷ Int on_hand ∷ Int reserved ∷ Int shipped ∷ []) old new (Ok count) → WritesInto 6 (PutByKey 3 (Text who ∷ Text item ∷ Text lot ∷ Int since ∷ Int expected ∷ Int on_hand ∷ Int reserved ∷ Int shipped ∷ [])) old.now new.now
  puts_stock old new count lies live tidy h =
      into_book 6 refl (PutByKey 3 (Text who ∷ Text item ∷ Text lot ∷ Int since ∷ Int expected ∷ Int on_hand ∷ Int reserved ∷ Int shipped ∷ [])) old.now new.now lies (puts stock_layout.name 3 stock_layout.tree 3 8 stock_layout.checks stock_layout.columns (Text who ∷ Text item ∷ Text lot ∷ Int since ∷ Int expected ∷ Int on_hand ∷ Int reserved ∷ Int shipped ∷ []) stock_known put_stock_text
      old new count lies (inr (inr (inr (inl refl)))) (under (λ s. slice_get s.tables 3 ≡ Some stock_layout) old.now.schema lies (λ others. refl))
      (under (λ s. command_of (understood s put_stock_text) ≡ InsertOr 3 Abort (Values (source 8) (8 + 1)) (on_conflict (places 1 3) (update_query 6 3 8) ∷ [])) old.now.schema lies put_stock_is)
      (under (λ s. IsPlain (understood s put_stock_text)) old.now.schema lies put_stock_plain) live tidy h)

-- advice
module _ (who shipment ord : List ℕ) (is_open : ℤ) where
  pub advice_known : IsUpsert advice_layout.name 4 advice_layout.tree 2 4 advice_layout.checks advice_layout.columns (Text who ∷ Text shipment ∷ Text ord ∷ Int is_open ∷ [])
  advice_known = record {
    guarded = λ new r. refl;
    read = λ db. refl;
    is_key = refl;
    cast = rw (cast_int is_open) refl;
    given = refl;
    named = λ id more. refl;
    projects = λ id param rest more. refl;
  }

  pub puts_advice : (old new : State) (count : ℕ) → IsLayout old.now.schema → IsDatabase old.now → AreKeyed 2 (old.now.trees 8)
      → Executes put_advice_text (Text who ∷ Text shipment ∷ Text ord ∷ Int is_open ∷ []) old new (Ok count) → WritesInto 8 (PutByKey 2 (Text who ∷ Text shipment ∷ Text ord ∷ Int is_open ∷ [])) old.now new.now
  puts_advice old new count lies live tidy h =
      into_book 8 refl (PutByKey 2 (Text who ∷ Text shipment ∷ Text ord ∷ Int is_open ∷ [])) old.now new.now lies (puts advice_layout.name 4 advice_layout.tree 2 4 advice_layout.checks advice_layout.columns (Text who ∷ Text shipment ∷ Text ord ∷ Int is_open ∷ []) advice_known put_advice_text
      old new count lies (inr (inr (inr (inr (inl refl))))) (under (λ s. slice_get s.tables 4 ≡ Some advice_layout) old.now.schema lies (λ others. refl))
      (under (λ s. command_of (understood s put_advice_text) ≡ InsertOr 4 Abort (Values (source 4) (4 + 1)) (on_conflict (places 1 2) (update_query 8 2 4) ∷ [])) old.now.schema lies put_advice_is)
      (under (λ s. IsPlain (understood s put_advice_text)) old.now.schema lies put_advice_plain) live tidy h)

-- orders
module _ (who ord : List ℕ) (is_open : ℤ) (to_name : Value) (to_one to_two to_place : List ℕ) (to_name_kept : cast kind.Text to_name ≡ to_name) where
  pub orders_known : IsUpsert orders_layout.name 6 orders_layout.tree 2 7 orders_layout.checks orders_layout.columns (Text who ∷ Text ord ∷ Int is_open ∷ to_name ∷ Text to_one ∷ Text to_two ∷ Text to_place ∷ [])
  orders_known = record {
    guarded = λ new r. refl;
    read = λ db. refl;
    is_key = refl;
    cast = rw (cast_int is_open, to_name_kept) refl;
    given = refl;
    named = λ id more. refl;
    projects = λ id param rest more. refl;
  }

  pub puts_orders : (old new : State) (count : ℕ) → IsLayout old.now.schema → IsDatabase old.now → AreKeyed 2 (old.now.trees 12)
      → Executes put_orders_text (Text who ∷ Text ord ∷ Int is_open ∷ to_name ∷ Text to_one ∷ Text to_two ∷ Text to_place ∷ []) old new (Ok count) → WritesInto 12 (PutByKey 2 (Text who ∷ Text ord ∷ Int is_open ∷ to_name ∷ Text to_one ∷ Text to_two ∷ Text to_place ∷ [])) old.now new.now
  puts_orders old new count lies live tidy h =
      into_book 12 refl (PutByKey 2 (Text who ∷ Text ord ∷ Int is_open ∷ to_name ∷ Text to_one ∷ Text to_two ∷ Text to_place ∷ [])) old.now new.now lies (puts orders_layout.name 6 orders_layout.tree 2 7 orders_layout.checks orders_layout.columns (Text who ∷ Text ord ∷ Int is_open ∷ to_name ∷ Text to_one ∷ Text to_two ∷ Text to_place ∷ []) orders_known put_orders_text
      old new count lies (inr (inr (inr (inr (inr (inr (inl refl))))))) (under (λ s. slice_get s.tables 6 ≡ Some orders_layout) old.now.schema lies (λ others. refl))
      (under (λ s. command_of (understood s put_orders_text) ≡ InsertOr 6 Abort (Values (source 7) (7 + 1)) (on_conflict (places 1 2) (update_query 12 2 7) ∷ [])) old.now.schema lies put_orders_is)
      (under (λ s. IsPlain (understood s put_orders_text)) old.now.schema lies put_orders_plain) live tidy h)

-- lot_expiry, wherever it stands
module _ (who item lot expiry : List ℕ) where
  abbrev expiry_row : Row
  expiry_row = Text who ∷ Text item ∷ Text lot ∷ Text expiry ∷ []

  lot_expiry_known : (at tree : ℕ) → IsUpsert lot_expiry_layout.name at tree 3 4 [] lot_expiry_layout.columns expiry_row
  lot_expiry_known at tree = record {
    guarded = λ new r. rw (eq-eqb tree tree refl) refl;
    read = λ db. overlay_lies db tree;
    is_key = refl;
    cast = refl;
    given = refl;
    named = λ id more. refl;
    projects = λ id param rest more. refl;
  }

  pub puts_expiry : (old new : State) (count : ℕ) → IsLayout old.now.schema → IsDatabase old.now → AreKeyed 3 (book_trees old.now 19)
      → Executes put_expiry_text expiry_row old new (Ok count) → WritesInto 19 (PutByKey 3 expiry_row) old.now new.now
  puts_expiry old new count lies live tidy h =
      let schema = old.now.schema in
      let tree = expiry_tree schema in
      let place = lies.expiry in
      let of = of_tree schema lies.expiry_place (lot_expiry_at tree) place in
      let apart = lies.apart in
      let keyed = has_key schema tree (all_has (λ (t : Table). indexes_on schema t.tree ≡ indexes_of t) (ours schema) (lot_expiry_at tree) apart.indexes last) in
      into_book 19 refl (PutByKey 3 expiry_row) old.now new.now lies (puts lot_expiry_layout.name lies.expiry_place tree 3 4 [] lot_expiry_layout.columns expiry_row (lot_expiry_known lies.expiry_place tree) put_expiry_text
      old new count lies last place.there (put_expiry_is schema lies.expiry_place tree place of keyed) (put_expiry_plain schema lies.expiry_place tree place of keyed) live tidy h)
    where
      last : Has (ours old.now.schema) (lot_expiry_at (expiry_tree old.now.schema))
      last = inr (inr (inr (inr (inr (inr (inr (inr (inr (inr (inl refl))))))))))
