-- The shortest word is a word, and no word is shorter.
use Rattle.std.proofs.Common.{◌≡◌, ℕ, ◌<◌, ◌≤◌, Bool, true, false, cond, List, [], ◌∷◌, ◌++◌, length, refl, ap, arith, suc, zero, subst, inl, inr, Some, None, Option}
use Rattle.std.proofs.lemmas.Bool.{leb-true, leb-false, eqb-true}
use borrow.Author.Tests.{ltb-true, ltb-false}
use Rattle.std.proofs.lemmas.List.{length-append}
use Rattle.std.specs.Prelude.{◌⊎◌, nat_le, nat_lt, ◌==◌, option_map}
use Rattle.std.specs.List.{repeat}
use Rattle.definitions.specs.Words.{Words, Never, Empty, One, Then, Or, Times, IsRow, IsWord, IsShortestCompletion, words_after, words_after_all, shorter, both, shortest}
use Rattle.definitions.proofs.WordsLaws.{after_sound, after_complete}

abbrev Ids : Type 0
Ids = List (List ℕ)

-- the ids, if there are any, have P and are the shortest that do; if there are none, nothing has P
abbrev IsLeast : (Ids → Type 0) → Option Ids → Type 0
IsLeast P None = (other : Ids) → P other → ⊥
IsLeast P (Some ids) = P ids × ((other : Ids) → P other → length ids ≤ length other)

least_then : (v w : Words) (a b : Option Ids) → IsLeast (IsWord v) a → IsLeast (IsWord w) b → IsLeast (IsWord (Then v w)) (both a b)
least_then v w None b h k = λ other o. h o.0 o.3
least_then v w (Some a) None h k = λ other o. k o.1 o.4
least_then v w (Some a) (Some b) h k = (
  (a, b, refl, h.0, k.0),
  λ other o. (let x = h.1 o.0 o.3 in let y = k.1 o.1 o.4 in let e = ap length o.2 in omega (arith, length-append a b, length-append o.0 o.1, x, y, e)),
)

least_or : (v w : Words) (a b : Option Ids) → IsLeast (IsWord v) a → IsLeast (IsWord w) b → IsLeast (IsWord (Or v w)) (shorter a b)
least_or v w None None h k = λ other o. by_part other o
  where
    by_part : (other : Ids) → IsWord v other ⊎ IsWord w other → ⊥
    by_part other (inl x) = h other x
    by_part other (inr x) = k other x
least_or v w None (Some b) h k = (inr k.0, λ other o. by_part other o)
  where
    by_part : (other : Ids) → IsWord v other ⊎ IsWord w other → length b ≤ length other
    by_part other (inl x) = absurd (h other x)
    by_part other (inr x) = k.1 other x
least_or v w (Some a) None h k = (inl h.0, λ other o. by_part other o)
  where
    by_part : (other : Ids) → IsWord v other ⊎ IsWord w other → length a ≤ length other
    by_part other (inl x) = h.1 other x
    by_part other (inr x) = absurd (k other x)
least_or v w (Some a) (Some b) h k = by_test (nat_le (length a) (length b)) refl
  where
    by_test : (t : Bool) → nat_le (length a) (length b) ≡ t → IsLeast (IsWord (Or v w)) (cond t (Some a) (Some b))
    by_test true e = (inl h.0, λ other o. by_part other o)
      where
        by_part : (other : Ids) → IsWord v other ⊎ IsWord w other → length a ≤ length other
        by_part other (inl x) = h.1 other x
        by_part other (inr x) = let le : length a ≤ length b = leb-true (length a) (length b) e in omega (arith, k.1 other x)
    by_test false e = (inr k.0, λ other o. by_part other o)
      where
        by_part : (other : Ids) → IsWord v other ⊎ IsWord w other → length b ≤ length other
        by_part other (inl x) = let lt : length b < length a = leb-false (length a) (length b) e in omega (arith, h.1 other x)
        by_part other (inr x) = k.1 other x

row_repeat : (w : Words) (a : Ids) → IsWord w a → (n : ℕ) → IsRow (IsWord w) n (repeat n a)
row_repeat w a h zero = refl
row_repeat w a h (suc n) = (a, repeat n a, refl, h, row_repeat w a h n)

-- of more parts, each at least as long, the row is at least as long
row_long : (w : Words) (a : Ids) → ((other : Ids) → IsWord w other → length a ≤ length other) → (low n : ℕ) → low ≤ n
    → (ids : Ids) → IsRow (IsWord w) n ids → length (repeat low a) ≤ length ids
row_long w a f zero n le ids row = omega arith
row_long w a f (suc low) zero le ids row = absurd (omega arith)
row_long w a f (suc low) (suc n) le ids row =
    let ih = row_long w a f low n (omega arith) row.1 row.4 in
    let x = f row.0 row.3 in
    let e = ap length row.2 in
    omega (arith, length-append a (repeat low a), length-append row.0 row.1, ih, x, e)

least_times : (low high : ℕ) (w : Words) (a : Option Ids) → IsLeast (IsWord w) a
    → IsLeast (IsWord (Times low high w)) (cond (nat_lt high low) None (cond (low == 0) (Some []) (option_map (repeat low) a)))
least_times low high w a h = by_room (nat_lt high low) refl
  where
    by_parts : (o : Option Ids) → IsLeast (IsWord w) o → (t : Bool) → (low == 0) ≡ t → low ≤ high → IsLeast (IsWord (Times low high w)) (cond t (Some []) (option_map (repeat low) o))
    by_parts o k true e le = let none : low ≡ 0 = eqb-true low 0 e in ((0, omega arith, omega arith, refl), λ other x. omega arith)
    by_parts (Some ids) k false e le = (
      (low, omega arith, le, row_repeat w ids k.0 low),
      λ other x. row_long w ids k.1 low x.0 x.1 other x.3,
    )
    by_parts None k false e le = λ other x. by_count x.0 x.1 other x.3
      where
        by_count : (n : ℕ) → low ≤ n → (other : Ids) → IsRow (IsWord w) n other → ⊥
        by_count zero l other row = zero_low low l e
          where
            zero_low : (m : ℕ) → m ≤ 0 → (m == 0) ≡ false → ⊥
            zero_low zero l' e' = cc
            zero_low (suc m) l' e' = omega arith
        by_count (suc n) l other row = k row.0 row.3

    by_room : (t : Bool) → nat_lt high low ≡ t → IsLeast (IsWord (Times low high w)) (cond t None (cond (low == 0) (Some []) (option_map (repeat low) a)))
    by_room true e = let over : high < low = ltb-true high low e in λ other x. omega (arith, x.1, x.2)
    by_room false e = by_parts a h (low == 0) refl (ltb-false high low e)

pub least : (w : Words) → IsLeast (IsWord w) (shortest w)
least Never = λ other h. h
least Empty = (refl, λ other h. omega arith)
least (One id) = (refl, λ other h. (let e = ap length h in omega (arith, e)))
least (Then v w) = least_then v w (shortest v) (shortest w) (least v) (least w)
least (Or v w) = least_or v w (shortest v) (shortest w) (least v) (least w)
least (Times low high w) = least_times low high w (shortest w) (least w)

-- ---- completions

after_all_sound : (w : Words) (ids more : Ids) → IsWord (words_after_all w ids) more → IsWord w (ids ++ more)
after_all_sound w [] more h = h
after_all_sound w (id ∷ ids) more h = after_sound id w (ids ++ more) (after_all_sound (words_after id w) ids more h)

after_all_complete : (w : Words) (ids more : Ids) → IsWord w (ids ++ more) → IsWord (words_after_all w ids) more
after_all_complete w [] more h = h
after_all_complete w (id ∷ ids) more h = after_all_complete (words_after id w) ids more (after_complete id w (ids ++ more) h)

-- the shortest word of what may stand after the ids is their shortest completion
pub shortest_completes : (w : Words) (ids more : Ids) → shortest (words_after_all w ids) ≡ Some more → IsShortestCompletion w ids more
shortest_completes w ids more e =
    let h = subst (λ (o : Option Ids). IsLeast (IsWord (words_after_all w ids)) o) e (least (words_after_all w ids)) in
    (after_all_sound w ids more h.0, λ other k. h.1 other (after_all_complete w ids other k))
