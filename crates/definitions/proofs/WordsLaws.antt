-- The computing functions on words are the languages: what may stand after an id, and which ids
-- begin a word.
use Rattle.std.proofs.Common.{◌≡◌, ℕ, ◌-◌, ◌≤◌, Bool, true, false, cond, List, [], ◌∷◌, ◌++◌, refl, sym, ap, arith, suc, zero, subst, inl, inr, eq-eqb}
use Rattle.std.proofs.lemmas.Bool.{leb-true, le-leb, eqb-true}
use Rattle.std.proofs.lemmas.Slice.Eq.{bytes_eq-Decides}
use Rattle.definitions.proofs.CutUniqueLaws.{both}
use Rattle.std.specs.Prelude.{◌⊎◌, bytes_eq, ◌&&◌, ◌||◌, nat_le, ◌==◌}
use Rattle.definitions.specs.Words.{Words, Never, Empty, One, Then, Or, Times, IsRow, IsWord, IsViable, has_empty, has_word, then_words, or_words, times_words, words_after, is_viable}

abbrev Ids : Type 0
Ids = List (List ℕ)

or_true : (b : Bool) → (b || true) ≡ true
or_true true = refl
or_true false = refl

positive : (n : ℕ) → (n == 0) ≡ false → 1 ≤ n
positive zero h = absurd (cc)
positive (suc n) h = omega arith

-- ---- the short forms mean the same

or_to : (v w : Words) (ids : Ids) → IsWord (or_words v w) ids → IsWord v ids ⊎ IsWord w ids
or_to Never w ids h = inr h
or_to v Never ids h = inl h
or_to v w ids h = h

or_from : (v w : Words) (ids : Ids) → IsWord v ids ⊎ IsWord w ids → IsWord (or_words v w) ids
or_from Never w ids (inl k) = absurd k
or_from Never w ids (inr k) = k
or_from v Never ids (inl k) = k
or_from v Never ids (inr k) = absurd k
or_from v w ids h = h

then_to : (v w : Words) (ids : Ids) → IsWord (then_words v w) ids → IsWord (Then v w) ids
then_to Never w ids h = absurd h
then_to Empty w ids h = ([], ids, refl, refl, h)
then_to v w ids h = h

then_from : (v w : Words) (a b : Ids) → IsWord v a → IsWord w b → IsWord (then_words v w) (a ++ b)
then_from Never w a b h k = absurd h
then_from Empty w a b h k = rw h k
then_from v w a b h k = (a, b, refl, h, k)

times_to : (low high : ℕ) (w : Words) (ids : Ids) → IsWord (times_words low high w) ids → IsWord (Times low high w) ids
times_to low zero w ids h = by_test (low == 0) refl h
  where
    by_test : (t : Bool) → (low == 0) ≡ t → IsWord (cond t Empty Never) ids → IsWord (Times low zero w) ids
    by_test true e k = let none : low ≡ 0 = eqb-true low 0 e in (0, omega arith, omega arith, k)
    by_test false e k = absurd k
times_to low (suc high) w ids h = h

times_from : (low high : ℕ) (w : Words) (ids : Ids) → IsWord (Times low high w) ids → IsWord (times_words low high w) ids
times_from low zero w ids h = by_count h.0 h.1 h.2 h.3
  where
    by_count : (n : ℕ) → low ≤ n → n ≤ 0 → IsRow (IsWord w) n ids → IsWord (times_words low zero w) ids
    by_count zero l u row =
        let none : low ≡ 0 = omega arith in
        let test : (low == 0) ≡ true = eq-eqb low 0 none in
        rw test row
    by_count (suc n) l u row = absurd (omega arith)
times_from low (suc high) w ids h = h

-- ---- the empty word

row_empty : (w : Words) → IsWord w [] → (n : ℕ) → IsRow (IsWord w) n []
row_empty w h zero = refl
row_empty w h (suc n) = ([], [], refl, h, row_empty w h n)

pub empty_word : (w : Words) → has_empty w ≡ true → IsWord w []
empty_word Never h = absurd (cc)
empty_word Empty h = refl
empty_word (One id) h = absurd (cc)
empty_word (Then v w) h =
    let parts = both (has_empty v) (has_empty w) h in
    ([], [], refl, empty_word v parts.0, empty_word w parts.1)
empty_word (Or v w) h = by_test (has_empty v) refl (empty_word v) (empty_word w)
  where
    by_test : (t : Bool) → has_empty v ≡ t → (has_empty v ≡ true → IsWord v []) → (has_empty w ≡ true → IsWord w []) → IsWord v [] ⊎ IsWord w []
    by_test true e f g = inl (f e)
    by_test false e f g = inr (g (rw e at h))
empty_word (Times low high w) h =
    let parts = both (nat_le low high) (low == 0 || has_empty w) h in
    by_test (low == 0) refl (leb-true low high parts.0) parts.1 (empty_word w)
  where
    by_test : (t : Bool) → (low == 0) ≡ t → low ≤ high → (low == 0 || has_empty w) ≡ true → (has_empty w ≡ true → IsWord w []) → IsWord (Times low high w) []
    by_test true e le k f = let none : low ≡ 0 = eqb-true low 0 e in (0, omega arith, omega arith, refl)
    by_test false e le k f = (low, omega arith, le, row_empty w (f (rw e at k)) low)

pub not_empty : (w : Words) → IsWord w [] → has_empty w ≡ true
not_empty Never h = absurd h
not_empty Empty h = refl
not_empty (One id) h = absurd (cc)
not_empty (Then v w) h = by_parts h.0 h.1 h.2 h.3 h.4 (not_empty v) (not_empty w)
  where
    by_parts : (a b : Ids) → [] ≡ a ++ b → IsWord v a → IsWord w b → (IsWord v [] → has_empty v ≡ true) → (IsWord w [] → has_empty w ≡ true) → (has_empty v && has_empty w) ≡ true
    by_parts [] [] e x y f g = rw (f x, g y) refl
    by_parts [] (b ∷ bs) e x y f g = absurd (cc)
    by_parts (a ∷ xs) bs e x y f g = absurd (cc)
not_empty (Or v w) h = by_part h (not_empty v) (not_empty w)
  where
    by_part : IsWord v [] ⊎ IsWord w [] → (IsWord v [] → has_empty v ≡ true) → (IsWord w [] → has_empty w ≡ true) → (has_empty v || has_empty w) ≡ true
    by_part (inl k) f g = rw (f k) refl
    by_part (inr k) f g = rw (g k) (or_true (has_empty v))
not_empty (Times low high w) h = by_count h.0 h.1 h.2 h.3 (not_empty w)
  where
    by_count : (n : ℕ) → low ≤ n → n ≤ high → IsRow (IsWord w) n [] → (IsWord w [] → has_empty w ≡ true) → (nat_le low high && (low == 0 || has_empty w)) ≡ true
    by_count zero l u row f =
        let none : low ≡ 0 = omega arith in
        let test : (low == 0) ≡ true = eq-eqb low 0 none in
        let room : nat_le low high ≡ true = le-leb low high (omega arith) in
        rw (room, test) refl
    by_count (suc n) l u row f =
        let room : nat_le low high ≡ true = le-leb low high (omega arith) in
        rw (room, f (front_empty row.0 row.1 row.2 row.3)) (or_true (low == 0))
      where
        front_empty : (a b : Ids) → [] ≡ a ++ b → IsWord w a → IsWord w []
        front_empty [] b e x = x
        front_empty (z ∷ a) b e x = absurd (cc)

-- ---- whether there is a word

row_of : (w : Words) (a : Ids) → IsWord w a → (n : ℕ) → (ids : Ids) × IsRow (IsWord w) n ids
row_of w a h zero = ([], refl)
row_of w a h (suc n) = let r = row_of w a h n in (a ++ r.0, (a, r.0, refl, h, r.1))

pub has_word_to : (w : Words) → has_word w ≡ true → (ids : Ids) × IsWord w ids
has_word_to Never h = absurd (cc)
has_word_to Empty h = ([], refl)
has_word_to (One id) h = (id ∷ [], refl)
has_word_to (Then v w) h =
    let parts = both (has_word v) (has_word w) h in
    let a = has_word_to v parts.0 in
    let b = has_word_to w parts.1 in
    (a.0 ++ b.0, (a.0, b.0, refl, a.1, b.1))
has_word_to (Or v w) h = by_test (has_word v) refl (has_word_to v) (has_word_to w)
  where
    by_test : (t : Bool) → has_word v ≡ t → (has_word v ≡ true → (ids : Ids) × IsWord v ids) → (has_word w ≡ true → (ids : Ids) × IsWord w ids) → (ids : Ids) × IsWord (Or v w) ids
    by_test true e f g = let a = f e in (a.0, inl a.1)
    by_test false e f g = let b = g (rw e at h) in (b.0, inr b.1)
has_word_to (Times low high w) h =
    let parts = both (nat_le low high) (low == 0 || has_word w) h in
    by_test (low == 0) refl (leb-true low high parts.0) parts.1 (has_word_to w)
  where
    by_test : (t : Bool) → (low == 0) ≡ t → low ≤ high → (low == 0 || has_word w) ≡ true → (has_word w ≡ true → (ids : Ids) × IsWord w ids) → (ids : Ids) × IsWord (Times low high w) ids
    by_test true e le k f = let none : low ≡ 0 = eqb-true low 0 e in ([], (0, omega arith, omega arith, refl))
    by_test false e le k f = let a = f (rw e at k) in let r = row_of w a.0 a.1 low in (r.0, (low, omega arith, le, r.1))

pub has_word_from : (w : Words) (ids : Ids) → IsWord w ids → has_word w ≡ true
has_word_from Never ids h = absurd h
has_word_from Empty ids h = refl
has_word_from (One id) ids h = refl
has_word_from (Then v w) ids h = rw (has_word_from v h.0 h.3, has_word_from w h.1 h.4) refl
has_word_from (Or v w) ids h = by_part h (λ k. has_word_from v ids k) (λ k. has_word_from w ids k)
  where
    by_part : IsWord v ids ⊎ IsWord w ids → (IsWord v ids → has_word v ≡ true) → (IsWord w ids → has_word w ≡ true) → (has_word v || has_word w) ≡ true
    by_part (inl k) f g = rw (f k) refl
    by_part (inr k) f g = rw (g k) (or_true (has_word v))
has_word_from (Times low high w) ids h = by_count h.0 h.1 h.2 h.3 (λ a. has_word_from w a)
  where
    by_count : (n : ℕ) → low ≤ n → n ≤ high → IsRow (IsWord w) n ids → ((a : Ids) → IsWord w a → has_word w ≡ true) → (nat_le low high && (low == 0 || has_word w)) ≡ true
    by_count zero l u row f =
        let none : low ≡ 0 = omega arith in
        let test : (low == 0) ≡ true = eq-eqb low 0 none in
        let room : nat_le low high ≡ true = le-leb low high (omega arith) in
        rw (room, test) refl
    by_count (suc n) l u row f =
        let room : nat_le low high ≡ true = le-leb low high (omega arith) in
        rw (room, f row.0 row.3) (or_true (low == 0))

-- ---- a word after an id

one_sound : (id x : List ℕ) (ids : Ids) (t : Bool) → bytes_eq id x ≡ t → IsWord (cond t Empty Never) ids → id ∷ ids ≡ x ∷ []
one_sound id x ids true e h = let same : id ≡ x = (bytes_eq-Decides id x).0 e in rw (same, h) refl
one_sound id x ids false e h = absurd h

-- what may stand after the id makes a word with the id in front
pub after_sound : (id : List ℕ) (w : Words) (ids : Ids) → IsWord (words_after id w) ids → IsWord w (id ∷ ids)
after_sound id Never ids h = absurd h
after_sound id Empty ids h = absurd h
after_sound id (One x) ids h = one_sound id x ids (bytes_eq id x) refl h
after_sound id (Or v w) ids h = by_part (or_to (words_after id v) (words_after id w) ids h) (after_sound id v ids) (after_sound id w ids)
  where
    by_part : IsWord (words_after id v) ids ⊎ IsWord (words_after id w) ids → (IsWord (words_after id v) ids → IsWord v (id ∷ ids)) → (IsWord (words_after id w) ids → IsWord w (id ∷ ids)) → IsWord v (id ∷ ids) ⊎ IsWord w (id ∷ ids)
    by_part (inl k) f g = inl (f k)
    by_part (inr k) f g = inr (g k)
after_sound id (Then v w) ids h =
    by_part (or_to (then_words (words_after id v) w) (cond (has_empty v) (words_after id w) Never) ids h) (λ a. after_sound id v a) (after_sound id w ids)
  where
    by_empty : (t : Bool) → has_empty v ≡ t → IsWord (cond t (words_after id w) Never) ids → (IsWord (words_after id w) ids → IsWord w (id ∷ ids)) → IsWord (Then v w) (id ∷ ids)
    by_empty true e k g = ([], id ∷ ids, refl, empty_word v e, g k)
    by_empty false e k g = absurd k

    by_part : IsWord (then_words (words_after id v) w) ids ⊎ IsWord (cond (has_empty v) (words_after id w) Never) ids
        → ((a : Ids) → IsWord (words_after id v) a → IsWord v (id ∷ a)) → (IsWord (words_after id w) ids → IsWord w (id ∷ ids)) → IsWord (Then v w) (id ∷ ids)
    by_part (inl k) f g = let s = then_to (words_after id v) w ids k in (id ∷ s.0, s.1, ap (λ x. id ∷ x) s.2, f s.0 s.3, s.4)
    by_part (inr k) f g = by_empty (has_empty v) refl k g
after_sound id (Times low high w) ids h = by_room (high == 0) refl h (λ a. after_sound id w a)
  where
    by_room : (t : Bool) → (high == 0) ≡ t → IsWord (cond t Never (then_words (words_after id w) (times_words (low - 1) (high - 1) w))) ids
        → ((a : Ids) → IsWord (words_after id w) a → IsWord w (id ∷ a)) → IsWord (Times low high w) (id ∷ ids)
    by_room true e k f = absurd k
    by_room false e k f =
        let room : 1 ≤ high = positive high e in
        let s = then_to (words_after id w) (times_words (low - 1) (high - 1) w) ids k in
        let r = times_to (low - 1) (high - 1) w s.1 s.4 in
        (suc r.0, omega (arith, r.1), omega (arith, r.2, room), (id ∷ s.0, s.1, ap (λ x. id ∷ x) s.2, f s.0 s.3, r.3))

-- a row that begins with an id: its first part that isn't empty, and as many parts after it
row_front : (P : Ids → Type 0) (id : List ℕ) (ids : Ids) (n : ℕ) → IsRow P n (id ∷ ids)
    → (a b : Ids) × (m : ℕ) × (n ≡ suc m) × (ids ≡ a ++ b) × P (id ∷ a) × IsRow P m b
row_front P id ids zero h = absurd (cc)
row_front P id ids (suc n) h = by_part h.0 h.1 h.2 h.3 h.4 (row_front P id ids n)
  where
    by_part : (a b : Ids) → id ∷ ids ≡ a ++ b → P a → IsRow P n b
        → (IsRow P n (id ∷ ids) → (a' b' : Ids) × (m : ℕ) × (n ≡ suc m) × (ids ≡ a' ++ b') × P (id ∷ a') × IsRow P m b')
        → (a' b' : Ids) × (m : ℕ) × (suc n ≡ suc m) × (ids ≡ a' ++ b') × P (id ∷ a') × IsRow P m b'
    by_part [] b e x row f =
        let r = f (subst (λ (s : Ids). IsRow P n s) (sym e) row) in
        (r.0, r.1, n, refl, r.4, r.5, subst (λ (k : ℕ). IsRow P k r.1) (sym r.3) ([], r.1, refl, x, r.6))
    by_part (z ∷ a) b e x row f =
        let same : z ≡ id = cc in
        let others : ids ≡ a ++ b = cc in
        (a, b, n, refl, others, subst (λ (i : List ℕ). P (i ∷ a)) same x, row)

-- and the other way round
pub after_complete : (id : List ℕ) (w : Words) (ids : Ids) → IsWord w (id ∷ ids) → IsWord (words_after id w) ids
after_complete id Never ids h = absurd h
after_complete id Empty ids h = absurd (cc)
after_complete id (One x) ids h =
    let same : id ≡ x = cc in
    let none : ids ≡ [] = cc in
    let yes : bytes_eq id x ≡ true = (bytes_eq-Decides id x).1 same in
    rw (yes, none) refl
after_complete id (Or v w) ids h = or_from (words_after id v) (words_after id w) ids (by_part h (after_complete id v ids) (after_complete id w ids))
  where
    by_part : IsWord v (id ∷ ids) ⊎ IsWord w (id ∷ ids) → (IsWord v (id ∷ ids) → IsWord (words_after id v) ids) → (IsWord w (id ∷ ids) → IsWord (words_after id w) ids) → IsWord (words_after id v) ids ⊎ IsWord (words_after id w) ids
    by_part (inl k) f g = inl (f k)
    by_part (inr k) f g = inr (g k)
after_complete id (Then v w) ids h =
    or_from (then_words (words_after id v) w) (cond (has_empty v) (words_after id w) Never) ids (by_front h.0 h.1 h.2 h.3 h.4 (λ a. after_complete id v a) (after_complete id w ids))
  where
    by_front : (a b : Ids) → id ∷ ids ≡ a ++ b → IsWord v a → IsWord w b → ((c : Ids) → IsWord v (id ∷ c) → IsWord (words_after id v) c) → (IsWord w (id ∷ ids) → IsWord (words_after id w) ids)
        → IsWord (then_words (words_after id v) w) ids ⊎ IsWord (cond (has_empty v) (words_after id w) Never) ids
    by_front [] b e x y f g =
        let empty : has_empty v ≡ true = not_empty v x in
        inr (rw empty (g (rw e y)))
    by_front (z ∷ a) b e x y f g =
        let same : z ≡ id = cc in
        let others : ids ≡ a ++ b = cc in
        inl (rw others (then_from (words_after id v) w a b (f a (subst (λ (i : List ℕ). IsWord v (i ∷ a)) same x)) y))
after_complete id (Times low high w) ids h =
    let r = row_front (IsWord w) id ids h.0 h.3 in
    by_room (high == 0) refl r.0 r.1 r.2 (rw r.3 at h.1) (rw r.3 at h.2) r.4 (after_complete id w r.0 r.5) r.6
  where
    by_room : (t : Bool) → (high == 0) ≡ t → (a b : Ids) (n : ℕ) → low ≤ suc n → suc n ≤ high → ids ≡ a ++ b → IsWord (words_after id w) a → IsRow (IsWord w) n b
        → IsWord (cond t Never (then_words (words_after id w) (times_words (low - 1) (high - 1) w))) ids
    by_room true e a b n l u s x row = let none : high ≡ 0 = eqb-true high 0 e in absurd (omega arith)
    by_room false e a b n l u s x row =
        rw s (then_from (words_after id w) (times_words (low - 1) (high - 1) w) a b x
        (times_from (low - 1) (high - 1) w b (n, omega arith, omega arith, row)))

-- ---- which ids begin a word

pub viable_to : (w : Words) (ids : Ids) → is_viable w ids ≡ true → IsViable w ids
viable_to w [] h = has_word_to w h
viable_to w (id ∷ ids) h =
    let ih = viable_to (words_after id w) ids h in
    (ih.0, after_sound id w (ids ++ ih.0) ih.1)

pub viable_from : (w : Words) (ids : Ids) → IsViable w ids → is_viable w ids ≡ true
viable_from w [] h = has_word_from w h.0 h.1
viable_from w (id ∷ ids) h = viable_from (words_after id w) ids (h.0, after_complete id w (ids ++ h.0) h.1)
