-- How often an id may stand in a word, and in a set without a fault.
use Rattle.std.proofs.Common.{◌≡◌, ℕ, ◌+◌, ◌-◌, ◌*◌, ◌≤◌, inl, inr, Bool, true, false, List, [], ◌∷◌, length, map, refl, sym, ◌∙◌, ap, subst, None, arith, zero, suc}
use Rattle.std.specs.Prelude.{codes, if◌then◌else◌, bytes_eq, max, ◌==◌, filter, ◌⊎◌}
use Rattle.std.specs.List.{enumerate_from}
use Rattle.std.proofs.lemmas.Slice.Eq.{bytes_eq-Decides}
use Rattle.definitions.specs.declared.rules.Rules.{Rules}
use Rattle.definitions.specs.declared.rules.Rules.TheVariants as rules
use Rattle.definitions.specs.Bytes.{Delims}
use Rattle.definitions.specs.Cut.{Segment, id_of, has_id, places_of}
use Rattle.definitions.specs.Limits.{most_lines}
use Rattle.definitions.specs.Words.{Words, Never, Empty, One, Then, Or, Times, has_word, has_empty, words_after, then_words, or_words, times_words, words_943, words_940}
use Rattle.definitions.specs.Faults.{fault_from}
use Rattle.sets_in.proofs.Sound.{from_parts}

abbrev hit : List ℕ → List ℕ → ℕ
hit id x = if bytes_eq x id then 1 else 0

-- how often the id stands in a word, at most
abbrev most : List ℕ → Words → ℕ
most id Never = 0
most id Empty = 0
most id (One x) = hit id x
most id (Then v w) = most id v + most id w
most id (Or v w) = max (most id v) (most id w)
most id (Times low high w) = high * most id w

-- nothing is left, or the id stands in it at most n times with x in front
abbrev Leaves : List ℕ → List ℕ → ℕ → Words → Type 0
Leaves id x n w = (w ≡ Never) ⊎ (hit id x + most id w ≤ n)

widen : (id x : List ℕ) (n m : ℕ) (w : Words) → n ≤ m → Leaves id x n w → Leaves id x m w
widen id x n m w h (inl e) = inl e
widen id x n m w h (inr k) = inr (omega arith)

then_bound : (id x : List ℕ) (n : ℕ) (v w : Words) → hit id x + most id v ≤ n → Leaves id x (n + most id w) (then_words v w)
then_bound id x n Never w h = inl refl
then_bound id x n Empty w h = inr (omega arith)
then_bound id x n v w h = inr (omega arith)

leaves_then : (id x : List ℕ) (n : ℕ) (v w : Words) → Leaves id x n v → Leaves id x (n + most id w) (then_words v w)
leaves_then id x n v w (inl e) = inl (ap (λ u. then_words u w) e)
leaves_then id x n v w (inr h) = then_bound id x n v w h

or_never : (id x : List ℕ) (n : ℕ) (v : Words) → Leaves id x n v → Leaves id x n (or_words v Never)
or_never id x n Never h = inl refl
or_never id x n v h = h

or_bound : (id x : List ℕ) (n : ℕ) (v w : Words) → hit id x + most id v ≤ n → hit id x + most id w ≤ n → hit id x + most id (or_words v w) ≤ n
or_bound id x n Never w h k = k
or_bound id x n v Never h k = h
or_bound id x n v w h k = omega arith

leaves_or : (id x : List ℕ) (n : ℕ) (v w : Words) → Leaves id x n v → Leaves id x n w → Leaves id x n (or_words v w)
leaves_or id x n v w (inl e) k = subst (λ (u : Words). Leaves id x n (or_words u w)) (sym e) k
leaves_or id x n v w h (inl e) = subst (λ (u : Words). Leaves id x n (or_words v u)) (sym e) (or_never id x n v h)
leaves_or id x n v w (inr h) (inr k) = inr (or_bound id x n v w h k)

times_bound : (id : List ℕ) (low high : ℕ) (w : Words) → most id (times_words low high w) ≤ high * most id w
times_bound id low zero w = by_test (low == 0)
  where
    by_test : (b : Bool) → most id (if b then Empty else Never) ≤ 0 * most id w
    by_test true = omega arith
    by_test false = omega arith
times_bound id low (suc high) w = omega arith

one_after : (id x y : List ℕ) → Leaves id x (hit id y) (if bytes_eq x y then Empty else Never)
one_after id x y = by_test (bytes_eq x y) refl
  where
    by_test : (b : Bool) → bytes_eq x y ≡ b → Leaves id x (hit id y) (if b then Empty else Never)
    by_test true t = let same : hit id x ≡ hit id y = ap (hit id) ((bytes_eq-Decides x y).0 t) in inr (omega arith)
    by_test false t = inl refl

if_there : (id x : List ℕ) (n : ℕ) (b : Bool) (w : Words) → Leaves id x n w → Leaves id x n (if b then w else Never)
if_there id x n true w h = h
if_there id x n false w h = inl refl

unless_none : (id x : List ℕ) (n high : ℕ) (w : Words) → ((high == 0) ≡ false → Leaves id x n w) → Leaves id x n (if high == 0 then Never else w)
unless_none id x n high w h = by_test (high == 0) refl
  where
    by_test : (b : Bool) → (high == 0) ≡ b → Leaves id x n (if b then Never else w)
    by_test true t = inl refl
    by_test false t = h t

one_of_many : (high a b : ℕ) → (high == 0) ≡ false → b ≤ (high - 1) * a → a + b ≤ high * a
one_of_many zero a b t h = absurd (cc)
one_of_many (suc high) a b t h = let e : suc high - 1 ≡ high = omega arith in let k : b ≤ high * a = rw e at h in omega arith

most_after : (id x : List ℕ) (w : Words) → Leaves id x (most id w) (words_after x w)
most_after id x Never = inl refl
most_after id x Empty = inl refl
most_after id x (One y) = one_after id x y
most_after id x (Then v w) = leaves_or id x (most id v + most id w) (then_words (words_after x v) w) (if has_empty v then words_after x w else Never)
    (leaves_then id x (most id v) (words_after x v) w (most_after id x v))
    (if_there id x (most id v + most id w) (has_empty v) (words_after x w) (widen id x (most id w) (most id v + most id w) (words_after x w) (omega arith) (most_after id x w)))
most_after id x (Or v w) = leaves_or id x (max (most id v) (most id w)) (words_after x v) (words_after x w)
    (widen id x (most id v) (max (most id v) (most id w)) (words_after x v) (omega arith) (most_after id x v))
    (widen id x (most id w) (max (most id v) (most id w)) (words_after x w) (omega arith) (most_after id x w))
most_after id x (Times low high w) = unless_none id x (high * most id w) high (then_words (words_after x w) (times_words (low - 1) (high - 1) w))
    (λ t. widen id x (most id w + most id (times_words (low - 1) (high - 1) w)) (high * most id w) (then_words (words_after x w) (times_words (low - 1) (high - 1) w))
    (one_of_many high (most id w) (most id (times_words (low - 1) (high - 1) w)) t (times_bound id (low - 1) (high - 1) w))
    (leaves_then id x (most id w) (words_after x w) (times_words (low - 1) (high - 1) w) (most_after id x w)))

-- how often the id stands among segments
abbrev count : List ℕ → List Segment → ℕ
count id [] = 0
count id (s ∷ ss) = hit id (id_of s) + count id ss

-- in a set without a fault the id stands no more often than in a word
count_bound : (r : Rules) (id : List ℕ) (d : Delims) (words rest : Words) (after : List ℕ) (position : ℕ) (ss : List Segment) → fault_from r d words rest after position ss ≡ None
    → count id ss ≤ most id rest
count_bound r id d words rest after position [] h = omega arith
count_bound r id d words rest after position (s ∷ ss) h =
    let p = from_parts r d words rest after position s ss h in
    by_leaves (most_after id (id_of s) rest) p.0 (count_bound r id d words (words_after (id_of s) rest) (id_of s) (position + 1) ss p.2)
  where
    by_leaves : Leaves id (id_of s) (most id rest) (words_after (id_of s) rest) → has_word (words_after (id_of s) rest) ≡ true → count id ss ≤ most id (words_after (id_of s) rest)
        → count id (s ∷ ss) ≤ most id rest
    by_leaves (inl e) t k = let no : false ≡ true = sym (ap has_word e) ∙ t in absurd (cc)
    by_leaves (inr b) t k = omega arith

places_length : (id : List ℕ) (n : ℕ) (ss : List Segment) → length (map (λ p. p.0) (filter (λ (p : ℕ × Segment). has_id id p.1) (enumerate_from n ss))) ≡ count id ss
places_length id n [] = refl
places_length id n (s ∷ ss) = by_test (has_id id s) (places_length id (n + 1) ss)
  where
    by_test : (b : Bool) → length (map (λ p. p.0) (filter (λ (p : ℕ × Segment). has_id id p.1) (enumerate_from (n + 1) ss))) ≡ count id ss
        → length (map (λ p. p.0) (if b then (n, s) ∷ filter (λ (p : ℕ × Segment). has_id id p.1) (enumerate_from (n + 1) ss) else filter (λ (p : ℕ × Segment). has_id id p.1) (enumerate_from (n + 1) ss)))
        ≡ (if b then 1 else 0) + count id ss
    by_test true h = omega arith
    by_test false h = omega arith

pub few_goods : (r : Rules) (d : Delims) (ss : List Segment) → fault_from r d (words_943 r) (words_943 r) [] 1 ss ≡ None
    → length (places_of (codes "W04") ss) ≤ most_lines r
few_goods r d ss h = rw (places_length (codes "W04") 1 ss) (within r (count_bound r (codes "W04") d (words_943 r) (words_943 r) [] 1 ss h))
  where
    within : (r : Rules) → count (codes "W04") ss ≤ most (codes "W04") (words_943 r) → count (codes "W04") ss ≤ most_lines r
    within rules.One h = h
    within rules.Two h = h

pub few_ordered : (r : Rules) (d : Delims) (ss : List Segment) → fault_from r d (words_940 r) (words_940 r) [] 1 ss ≡ None
    → length (places_of (codes "W01") ss) ≤ most_lines r
few_ordered r d ss h = rw (places_length (codes "W01") 1 ss) (within r (count_bound r (codes "W01") d (words_940 r) (words_940 r) [] 1 ss h))
  where
    within : (r : Rules) → count (codes "W01") ss ≤ most (codes "W01") (words_940 r) → count (codes "W01") ss ≤ most_lines r
    within rules.One h = h
    within rules.Two h = h
