-- What is found in files that hold nothing: a database without a table.
use Rattle.std.proofs.Common.{◌<◌, ◌≡◌, ℕ, ◌-◌, ◌*◌, ◌≤◌, List, [], ◌∷◌, length, take, slice_index, Option, Some, unwrap_or, sym, subst, refl, ◌∙◌, ap, inl, inr, arith, get_or-take, zero-add, true}
use Rattle.std.proofs.lemmas.List.{length-take}
use Rattle.std.proofs.Math.Logic.{∥∥₁_elim}
use Rattle.sqlite_pool.specs.Stored.{stored_size, Adopts}
use Rattle.sqlite_wal.specs.Format.{part}
use Rattle.sqlite_wal.specs.Recovery.{Image, pages_after}
use Rattle.sqlite_pool.specs.StoredLaws.{trimmed_some}
use Rattle.sqlite_wal.proofs.PartLemmas.{slice_index-part, part_within}
use Rattle.sqlite_wal.proofs.RecoveryLemmas.{replays_once}
use Rattle.sqlite_wal.proofs.AppendLemmas.{some_value, page_from_pages}
use Rattle.sqlite_pages.specs.PageMap.{PageMap}
use Rattle.sqlite_pool.specs.Opening.{IsBlankFile}
use Rattle.sqlite_pool.specs.File.{header_in, IsSoundFile}
use Rattle.sqlite_pool.proofs.ProbeLemmas.{first_byte}
use Rattle.sqlite_store.specs.Listing.{IsOurs}
use Rattle.sqlite.specs.Tree.{Trees}
use Rattle.std.specs.Prelude.{filter}
use Rattle.std.specs.List.{AllZip}
use Rattle.sqlite_value.specs.Order.{Row}
use Rattle.sqlite.specs.Effect.{Database, IsDatabase}
use Rattle.sqlite_catalog.specs.Listing.{IsIndexRow, IsTableRow, IsViewRow, is_index_row, is_table_row, is_view_row}
use Rattle.book_statements.specs.Layout.{no_layout}
use Rattle.sqlite.specs.Start.{FindsIn}
use Rattle.sqlite.specs.State.{State, IsLive, Opens}
use Rattle.app.specs.FromFile.{HoldNothing}
use Rattle.sqlite.specs.Files.{AreFoundIn, IsEmpty, IsNothing}

-- files that recover begin as a database, and so they are no blank ones
module _ (size : ℕ) (image : Image) (pages : PageMap) (found : Adopts size image pages) (sound : IsSoundFile size pages) where
  some_size : 16 ≤ size
  some_size =
      let (page, at) = some_value (found.stored 1) found.whole.first in
      let used : pages 1 ≡ Some (take size page) = ap (λ (p : PageMap). p 1) (sym found.shows) ∙ trimmed_some size _ 1 page at in
      let head : header_in pages ≡ take 100 (take size page) = ap (λ (o : Option (List ℕ)). take 100 (unwrap_or o [])) used in
      let magic : 16 ≡ length (take 16 (take 100 (take size page))) = ap length (sym (sound.header.0.magic) ∙ ap (take 16) head) in
      let one = length-take 16 (take 100 (take size page)) in
      let two = length-take 100 (take size page) in
      let three = length-take size page in
      omega (arith, magic, one, two, three)

  begins : found.found.frames ≡ 0 → (16 ≤ length image.db) × (slice_index image.db 0 ≡ 83)
  begins none =
      let some = some_size in
      let whole = stored_size size in
      let raw = found.found in
      let (page, is) = some_value (found.stored 1) found.whole.first in
      let alone : pages_after whole image.log image.db 0 1 ≡ Some page = ap (λ (p : PageMap). p 1) (ap (pages_after whole image.log image.db) (sym none) ∙ raw.gives) ∙ is in
      let start : (1 - 1) * whole ≡ 0 = omega arith in
      let front : part image.db 0 whole ≡ page = ap (λ (at : ℕ). part image.db at whole) (sym start) ∙ (page_from_pages whole image.log image.db 0 1 page alone).0 in
      let long = part_within image.db 0 whole (omega (arith, some)) (ap length front ∙ found.whole.sized 1 page is) in
      let used : pages 1 ≡ Some (take size page) = ap (λ (p : PageMap). p 1) (sym found.shows) ∙ trimmed_some size _ 1 page is in
      let head : header_in pages ≡ take 100 (take size (part image.db 0 whole)) = ap (λ (o : Option (List ℕ)). take 100 (unwrap_or o [])) used ∙ ap (λ (b : List ℕ). take 100 (take size b)) (sym front) in
      let byte : slice_index (header_in pages) 0 ≡ slice_index image.db 0 =
      ap (λ (b : List ℕ). slice_index b 0) head ∙ get_or-take 100 (take size (part image.db 0 whole)) 0 0 (omega arith)
      ∙ get_or-take size (part image.db 0 whole) 0 0 (omega arith) ∙ slice_index-part image.db 0 whole 0 (omega arith) ∙ ap (slice_index image.db) (zero-add 0) in
      (omega (arith, some, long), sym byte ∙ sym (get_or-take 16 (header_in pages) 0 0 (omega arith)) ∙ ap (λ (b : List ℕ). slice_index b 0) sound.header.0.magic)

  something : (other : ℕ) → 0 < other → ¬ IsBlankFile other image
  something other some (inl none) = omega (arith, found.found.present)
  something other some (inr blank) =
      let raw = found.found in
      let none : raw.frames ≡ 0 = elim blank.0 [
        | inl ignored ↦ replays_once (stored_size size) image.log raw.frames 0 raw.replays (inl (ignored.0, refl))
        | inr taken ↦ elim raw.replays [
          | inl ignored ↦ ignored.1
          | inr ours ↦ replays_once (stored_size size) image.log raw.frames 0 raw.replays (rw (sym ours.0.head.size ∙ taken.0.head.size) blank.0)
        ]
      ] in
      let (long, magic) = begins none in
      elim blank.1.0 [
        | inl short ↦ omega (arith, short, long)
        | inr more ↦ elim more [ inl zero' ↦ omega (arith, zero'.1) | inr rest ↦ rest.1 (magic ∙ sym (first_byte other some)) ]
      ]

nothing_found : (image : Image) (db : Trees) → IsNothing image → AreFoundIn image db → IsEmpty db
nothing_found image db none (inr found) = found.1
nothing_found image db none (inl (size, pages, wanted, adopts, ours, is)) =
    let never : IsOurs size true wanted pages → ⊥ = λ it. elim none [
      | inl plain ↦ something size image pages adopts it.file.sound _ (omega arith) plain
      | inr summed ↦ something size image pages adopts it.file.sound _ (omega arith) summed
    ] in
    absurd (∥∥₁_elim ours (λ x y. absurd x) never)

-- nothing is paired with nothing alone
no_pair : {A B : Type 0} (R : A → B → Type 0) (ys : List B) → AllZip R [] ys → ys ≡ []
no_pair R [] h = refl
no_pair R (y ∷ ys) h = absurd h

nothing_listed : (d : Database) → IsDatabase d → IsEmpty d.trees → d.schema ≡ no_layout
nothing_listed d is empty =
    let listed = is.lists.listed in
    let rows = empty.1 in
    let tables : d.schema.tables ≡ [] = no_pair IsTableRow _ (subst (λ (rows : List Row). AllZip IsTableRow (filter is_table_row rows) d.schema.tables) rows listed.tables) in
    let indexes : d.schema.indexes ≡ [] = no_pair (IsIndexRow d.schema.tables) _ (subst (λ (rows : List Row). AllZip (IsIndexRow d.schema.tables) (filter is_index_row rows) d.schema.indexes) rows listed.indexes) in
    let views : d.schema.views ≡ [] = no_pair IsViewRow _ (subst (λ (rows : List Row). AllZip IsViewRow (filter is_view_row rows) d.schema.views) rows listed.views) in
    λ i. record { tables = tables i; indexes = indexes i; views = views i }

pub no_table : (image : Image) (s : State) → Opens s × IsLive s → FindsIn image s → HoldNothing image → s.now.schema ≡ no_layout
no_table image s opens found nothing =
    let first = opens.0 in
    let same : s.now.trees ≡ s.committed.trees = ap (λ (d : Database). d.trees) first.clean in
    let empty : IsEmpty s.committed.trees = elim nothing [
      | inl none ↦ nothing_found image _ none found.reads
      | inr some ↦ subst IsEmpty (sym (found.holds some.0 some.1)) some.2
    ] in
    nothing_listed s.now (opens.1 first.is_open).0 (subst IsEmpty (sym same) empty)
