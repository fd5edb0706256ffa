-- The lines of an item in a sheet: they stand together, in order.
use Rattle.std.proofs.Common.{◌≡◌, ℕ, zero, suc, ◌+◌, ◌-◌, ◌<◌, ◌≤◌, Bool, true, false, not, ◌&&◌, List, [], ◌∷◌, length, get_or, take, drop, refl, ap, sym, ◌∙◌, inl, inr, arith}
use Rattle.std.specs.Prelude.{bytes_eq, filter}
use Rattle.std.proofs.lemmas.Bool.{and_parts, cases_Bool, cases_lt, both_ways}
use Rattle.std.proofs.lemmas.Slice.Eq.{bytes_eq-Decides}
use Rattle.std.specs.List.{list_all}
use Rattle.std.specs.Prelude.{nat_le}
use Rattle.definitions.specs.Rules.{Today}
use Rattle.definitions.specs.Bytes.{comes_before}
use Rattle.definitions.specs.Clerk.{is_ascending, is_sheet, is_sheet_line}
use Rattle.definitions.specs.declared.sheet_kind.SheetKind.TheVariants.{Recount as RecountSheet}
use Rattle.definitions.specs.Limits.{most_lines}
use Rattle.definitions.specs.Means.{Line}
use Rattle.stock.specs.Keyed.{IsRank}
use Rattle.stock.proofs.KeyLemmas.{not_true, not_false}
use Rattle.stock.proofs.Texts.{texts_never, texts_through, texts_total}

-- those that pass a test, where they stand together
middle : {X : Type 0} (p : X → Bool) (xs : List X) (s n : ℕ) → s + n ≤ length xs → ((k : ℕ) (d : X) → k < s → p (get_or xs k d) ≡ false) → ((k : ℕ) (d : X) → s ≤ k → k < s + n → p (get_or xs k d) ≡ true)
    → ((k : ℕ) (d : X) → s + n ≤ k → k < length xs → p (get_or xs k d) ≡ false) → filter p xs ≡ take n (drop s xs)
middle p [] zero zero bound before here back = refl
middle p [] zero (suc n) bound before here back = absurd (omega (arith, bound))
middle p [] (suc s) n bound before here back = absurd (omega (arith, bound))
middle p (x ∷ xs) zero zero bound before here back =
    rw (back 0 x (omega arith) (omega arith)) (middle p xs zero zero (omega arith) (λ k d lt. absurd (omega (arith, lt))) (λ k d le lt. absurd (omega (arith, lt))) (λ k d le within. back (suc k) d (omega arith) (omega (arith, within))))
middle {X} p (x ∷ xs) zero (suc n) bound before here back =
    rw (here 0 x (omega arith) (omega arith)) (ap (λ (ys : List X). x ∷ ys) (middle p xs zero n (omega (arith, bound)) (λ k d lt. absurd (omega (arith, lt))) (λ k d le lt. here (suc k) d (omega arith) (omega (arith, lt)))
    (λ k d le within. back (suc k) d (omega (arith, le)) (omega (arith, within)))))
middle p (x ∷ xs) (suc s) n bound before here back =
    rw (before 0 x (omega arith)) (middle p xs s n (omega (arith, bound)) (λ k d lt. before (suc k) d (omega (arith, lt))) (λ k d le lt. here (suc k) d (omega (arith, le)) (omega (arith, lt)))
    (λ k d le within. back (suc k) d (omega (arith, le)) (omega (arith, within))))

other_item : (l : Line) (item : List ℕ) → (l.item ≡ item → ⊥) → bytes_eq l.item item ≡ false
other_item l item apart = elim (cases_Bool (bytes_eq l.item item)) [ inl e ↦ absurd (apart ((bytes_eq-Decides l.item item).0 e)) | inr e ↦ e ]

module _ (sheet : List Line) (item : List ℕ) (s e : ℕ) (start : IsRank comes_before (λ l. l.item) sheet item s) (end : IsRank (λ a b. not (comes_before b a)) (λ l. l.item) sheet item e) where
  pub item_within : s ≤ e
  item_within = elim (cases_lt e s) [
    | inl lt ↦
        let d : Line = record { item = []; lot = []; quantity = 0 } in
        let l : Line = get_or sheet e d in
        let before : comes_before l.item item ≡ true = start.below e d lt in
        let back : comes_before item l.item ≡ true = not_false (comes_before item l.item) (end.above e d (omega arith) (omega (arith, lt, start.bound))) in
        absurd (both_ways (comes_before item item) (texts_never item) (texts_through item l.item item back before))
    | inr ge ↦ ge
  ]

  pub item_lines : filter (λ k. bytes_eq k.item item) sheet ≡ take (e - s) (drop s sheet)
  item_lines = middle (λ k. bytes_eq k.item item) sheet s (e - s) (omega (arith, item_within, end.bound))
      (λ k d lt. other_item (get_or sheet k d) item (λ same. both_ways (comes_before item item) (texts_never item) (ap (λ (t : List ℕ). comes_before t item) (sym same) ∙ start.below k d lt)))
      (λ k d le lt. (bytes_eq-Decides (get_or sheet k d).item item).1 (texts_total (get_or sheet k d).item item (start.above k d le (omega (arith, lt, item_within, end.bound)))
      (not_true (comes_before item (get_or sheet k d).item) (end.below k d (omega (arith, lt, item_within))))))
      (λ k d le within. other_item (get_or sheet k d) item (λ same.
      both_ways (comes_before item item) (texts_never item) (ap (comes_before item) (sym same) ∙ not_false (comes_before item (get_or sheet k d).item) (end.above k d (omega (arith, le, item_within)) within))))

pub sheet_ascends : (ls : List Line) → is_sheet Today RecountSheet ls ≡ true → is_ascending ls ≡ true
sheet_ascends ls h = (and_parts (nat_le (length ls) (most_lines Today) && list_all (is_sheet_line Today RecountSheet) ls) (is_ascending ls) h).1

pub filter_length : {X : Type 0} (p : X → Bool) (xs : List X) → length (filter p xs) ≤ length xs
filter_length p [] = omega arith
filter_length p (x ∷ xs) = by_test (p x) refl (filter_length p xs)
  where
    by_test : (b : Bool) → p x ≡ b → length (filter p xs) ≤ length xs → length (filter p (x ∷ xs)) ≤ length (x ∷ xs)
    by_test true e h = rw e (omega (arith, h))
    by_test false e h = rw e (omega (arith, h))
