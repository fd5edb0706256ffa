-- Rows in the order of their keys, and one that is put among them.
use Rattle.std.proofs.Common.{◌≡◌, ◌≢◌, ◌⊎◌, inl, inr, List, [], ◌∷◌, Bool, true, false, refl, sym, ap, ◌∙◌}
use Rattle.std.specs.Prelude.{filter, map}
use Rattle.std.proofs.lemmas.Bool.{cases_Bool}
use Rattle.definitions.specs.Tables.{TableRow, Cell}
use Rattle.definitions.specs.Schema.{Schema, key_before, key_in, put_row, is_by_key}
use Rattle.sqlite_rules.specs.Lists.{Has}
use Rattle.sqlite_rules.proofs.ListLemmas.{has_filtered}
use Rattle.sqlite_rules.proofs.ProbeLemmas.{has_mapped}
use Rattle.book_statements.proofs.Values.{and_true}
use Rattle.book_statements.proofs.CellOrder.{keys_never, keys_through, keys_total}

module _ (s : Schema) where
  abbrev key : TableRow → List Cell
  key = key_in s

  rest_by_key : (q : TableRow) (rows : List TableRow) → is_by_key s (q ∷ rows) ≡ true → is_by_key s rows ≡ true
  rest_by_key q [] h = refl
  rest_by_key q (r ∷ rows) h = (and_true _ _ h).1

  above : (q : TableRow) (rows : List TableRow) → is_by_key s (q ∷ rows) ≡ true → (x : TableRow) → Has rows x → key_before (key q) (key x) ≡ true
  above q [] h x none = absurd none
  above q (r ∷ rows) h x (inl here) = ap (λ (y : TableRow). key_before (key q) (key y)) here ∙ (and_true _ _ h).0
  above q (r ∷ rows) h x (inr later) = let both = and_true _ _ h in keys_through (key q) (key r) (key x) both.0 (above r rows both.1 x later)

  front : (q : TableRow) (rows : List TableRow) → ((x : TableRow) → Has rows x → key_before (key q) (key x) ≡ true) → is_by_key s rows ≡ true → is_by_key s (q ∷ rows) ≡ true
  front q [] h sorted = refl
  front q (r ∷ rows) h sorted = rw (h r (inl refl)) sorted

  -- the row is there
  pub put_there : (row : TableRow) (rows : List TableRow) → Has (put_row s row rows) row
  put_there row [] = inl refl
  put_there row (r ∷ rows) = go (key_before (key row) (key r)) (key_before (key r) (key row)) refl refl (put_there row rows)
    where
      go : (a b : Bool) → key_before (key row) (key r) ≡ a → key_before (key r) (key row) ≡ b → Has (put_row s row rows) row → Has (put_row s row (r ∷ rows)) row
      go true b p q more = rw p (inl refl)
      go false true p q more = rw (p, q) (inr more)
      go false false p q more = rw (p, q) (inl refl)

  -- others of another key stay
  pub put_kept : (row : TableRow) (rows : List TableRow) (x : TableRow) → Has rows x → key x ≢ key row → Has (put_row s row rows) x
  put_kept row [] x none other = absurd none
  put_kept row (r ∷ rows) x there other = go (key_before (key row) (key r)) (key_before (key r) (key row)) refl refl (λ later. put_kept row rows x later other)
    where
      go : (a b : Bool) → key_before (key row) (key r) ≡ a → key_before (key r) (key row) ≡ b → (Has rows x → Has (put_row s row rows) x) → Has (put_row s row (r ∷ rows)) x
      go true b p q more = rw p (inr there)
      go false true p q more = rw (p, q) (elim there [ inl here ↦ inl here | inr later ↦ inr (more later) ])
      go false false p q more = rw (p, q) (elim there [ inl here ↦ absurd (other (ap key here ∙ keys_total (key r) (key row) q p)) | inr later ↦ inr later ])

  pub put_old : (row : TableRow) (rows : List TableRow) (x : TableRow) → Has (put_row s row rows) x → (x ≡ row) ⊎ Has rows x
  put_old row [] x = λ there. there
  put_old row (r ∷ rows) x = go (key_before (key row) (key r)) (key_before (key r) (key row)) refl refl (put_old row rows x)
    where
      go : (a b : Bool) → key_before (key row) (key r) ≡ a → key_before (key r) (key row) ≡ b → (Has (put_row s row rows) x → (x ≡ row) ⊎ Has rows x) → Has (put_row s row (r ∷ rows)) x → (x ≡ row) ⊎ Has (r ∷ rows) x
      go true b p q more h = rw p at h
      go false true p q more h = elim (rw (p, q) at h) [ inl here ↦ inr (inl here) | inr later ↦ elim (more later) [ inl new ↦ inl new | inr old ↦ inr (inr old) ] ]
      go false false p q more h = elim (rw (p, q) at h) [ inl new ↦ inl new | inr later ↦ inr (inr later) ]

  -- and nothing else is there
  pub put_from : (row : TableRow) (rows : List TableRow) (x : TableRow) → is_by_key s rows ≡ true → Has (put_row s row rows) x → (x ≡ row) ⊎ (Has rows x × (key x ≢ key row))
  put_from row [] x sorted = λ there. elim there [ inl new ↦ inl new | inr none ↦ absurd none ]
  put_from row (r ∷ rows) x sorted = go (key_before (key row) (key r)) (key_before (key r) (key row)) refl refl (put_from row rows x (rest_by_key r rows sorted))
    where
      differs : key_before (key row) (key x) ≡ true → key x ≢ key row
      differs h same = let e : ◌≡◌ {A = Bool} true false = sym h ∙ ap (key_before (key row)) same ∙ keys_never (key row) in cc

      lower : key_before (key x) (key row) ≡ true → key x ≢ key row
      lower h same = let e : ◌≡◌ {A = Bool} true false = sym h ∙ ap (λ (k : List Cell). key_before k (key row)) same ∙ keys_never (key row) in cc

      go : (a b : Bool) → key_before (key row) (key r) ≡ a → key_before (key r) (key row) ≡ b → (Has (put_row s row rows) x → (x ≡ row) ⊎ (Has rows x × (key x ≢ key row))) → Has (put_row s row (r ∷ rows)) x → (x ≡ row) ⊎ (Has (r ∷ rows) x × (key x ≢ key row))
      go true b p q more h = elim (rw p at h) [
        | inl new ↦ inl new
        | inr old ↦ elim old [
          | inl here ↦ inr (inl here, differs (ap (λ (y : TableRow). key_before (key row) (key y)) here ∙ p))
          | inr later ↦ inr (inr later, differs (keys_through (key row) (key r) (key x) p (above r rows sorted x later)))
        ]
      ]
      go false true p q more h = elim (rw (p, q) at h) [
        | inl here ↦ inr (inl here, lower (ap (λ (y : TableRow). key_before (key y) (key row)) here ∙ q))
        | inr later ↦ elim (more later) [ inl new ↦ inl new | inr old ↦ inr (inr old.0, old.1) ]
      ]
      go false false p q more h = elim (rw (p, q) at h) [
        | inl new ↦ inl new
        | inr later ↦ inr (inr later, differs (ap (λ (k : List Cell). key_before k (key x)) (keys_total (key row) (key r) p q) ∙ above r rows sorted x later))
      ]

  -- and they stay in order
  pub put_by_key : (row : TableRow) (rows : List TableRow) → is_by_key s rows ≡ true → is_by_key s (put_row s row rows) ≡ true
  put_by_key row [] sorted = refl
  put_by_key row (r ∷ rows) sorted = go (key_before (key row) (key r)) (key_before (key r) (key row)) refl refl (put_by_key row rows (rest_by_key r rows sorted))
    where
      go : (a b : Bool) → key_before (key row) (key r) ≡ a → key_before (key r) (key row) ≡ b → is_by_key s (put_row s row rows) ≡ true → is_by_key s (put_row s row (r ∷ rows)) ≡ true
      go true b p q more = rw (p, p) sorted
      go false true p q more = rw (p, q) (front r (put_row s row rows) (λ x there. elim (put_old row rows x there) [
        | inl new ↦ ap (λ (y : TableRow). key_before (key r) (key y)) new ∙ q
        | inr old ↦ above r rows sorted x old
      ]) more)
      go false false p q more = rw (p, q) (front row rows (λ x there. ap (λ (k : List Cell). key_before k (key x)) (keys_total (key row) (key r) p q) ∙ above r rows sorted x there) (rest_by_key r rows sorted))

  -- some of them stay in order, and so do they with other cells after their keys
  pub filter_by_key : (t : TableRow → Bool) (rows : List TableRow) → is_by_key s rows ≡ true → is_by_key s (filter t rows) ≡ true
  filter_by_key t [] sorted = refl
  filter_by_key t (r ∷ rows) sorted = elim (cases_Bool (t r)) [
    | inl stays ↦ rw stays (front r (filter t rows) (λ x there. above r rows sorted x (has_filtered t rows x there).0) (filter_by_key t rows (rest_by_key r rows sorted)))
    | inr goes ↦ rw goes (filter_by_key t rows (rest_by_key r rows sorted))
  ]

  pub map_by_key : (f : TableRow → TableRow) (rows : List TableRow) → ((r : TableRow) → Has rows r → key (f r) ≡ key r) → is_by_key s rows ≡ true → is_by_key s (map f rows) ≡ true
  map_by_key f [] same sorted = refl
  map_by_key f (r ∷ rows) same sorted = front (f r) (map f rows)
      (λ x there.
      let it = has_mapped f rows x there in
      ap (λ (k : List Cell). key_before k (key x)) (same r (inl refl))
      ∙ ap (key_before (key r)) (ap key it.2 ∙ same it.0 (inr it.1)) ∙ above r rows sorted it.0 it.1)
      (map_by_key f rows (λ y there. same y (inr there)) (rest_by_key r rows sorted))

  -- a key has one row
  pub only_by_key : (rows : List TableRow) (a b : TableRow) → is_by_key s rows ≡ true → Has rows a → Has rows b → key a ≡ key b → a ≡ b
  only_by_key [] a b sorted p q same = absurd p
  only_by_key (r ∷ rows) a b sorted (inl p) (inl q) same = p ∙ sym q
  only_by_key (r ∷ rows) a b sorted (inl p) (inr q) same =
      let e : ◌≡◌ {A = Bool} true false = sym (above r rows sorted b q) ∙ ap (key_before (key r)) (sym same ∙ ap key p) ∙ keys_never (key r) in absurd cc
  only_by_key (r ∷ rows) a b sorted (inr p) (inl q) same =
      let e : ◌≡◌ {A = Bool} true false = sym (above r rows sorted a p) ∙ ap (key_before (key r)) (same ∙ ap key q) ∙ keys_never (key r) in absurd cc
  only_by_key (r ∷ rows) a b sorted (inr p) (inr q) same = only_by_key rows a b (rest_by_key r rows sorted) p q same
