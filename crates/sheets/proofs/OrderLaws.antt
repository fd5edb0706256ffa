-- Lines that were sorted are the sheet's lines.
use Rattle.std.proofs.Common.{◌≡◌, ℕ, suc, ◌+◌, ◌≤◌, Bool, true, false, not, cond, ◌&&◌, ◌||◌, List, [], ◌∷◌, map, refl, ap, sym, ◌∙◌, subst, arith, bytes_eq, sum_by, get_or, is_lt, IsPermutation}
use Rattle.std.specs.List.{list_any}
use Rattle.std.specs.List.Sorted.{IsSorted}
use Rattle.std.specs.Cmp.Derive.{both_true}
use Rattle.std.proofs.lemmas.Bool.{both_ways}
use Rattle.std.proofs.lemmas.List.Sorted.{IsPermutation-map, sum_by-IsPermutation}
use Rattle.std.proofs.lemmas.List.Sums.{sum_by-cons}
use Rattle.definitions.specs.Lists.{has_repeats}
use Rattle.definitions.specs.Means.{Line}
use Rattle.definitions.specs.Events.{pair_before}
use Rattle.definitions.specs.Clerk.{RawLine, line_of, same_raw_pair, is_ascending}
use Rattle.definitions.proofs.TextLaws.{both_parts, same_text, text_is}
use Rattle.sheets.specs.Pairs.{pair_cmp}
use Rattle.sheets.proofs.PairLaws.{before_is, never_before, before_through, one_pair}

pub neither : (a b : Bool) → (a || b) ≡ false → (a ≡ false) × (b ≡ false)
neither true b h = absurd (cc)
neither false b h = (refl, h)

-- how many of the lines are of a pair

abbrev pub is_of_pair : List ℕ → List ℕ → Line → Bool
is_of_pair item lot l = bytes_eq item l.item && bytes_eq lot l.lot

abbrev pub one_of : List ℕ → List ℕ → Line → ℕ
one_of item lot l = cond (is_of_pair item lot l) 1 0

abbrev pub told : List ℕ → List ℕ → List Line → ℕ
told item lot ls = sum_by (one_of item lot) ls

none_told : (x : RawLine) (ls : List RawLine) → list_any (same_raw_pair x) ls ≡ false → told x.item x.lot (map line_of ls) ≡ 0
none_told x [] h = refl
none_told x (l ∷ ls) h =
    let p = neither (same_raw_pair x l) (list_any (same_raw_pair x) ls) h in
    let here : one_of x.item x.lot (line_of l) ≡ 0 = ap (λ (t : Bool). cond {A = ℕ} t 1 0) p.0 in
    omega (arith, sum_by-cons (one_of x.item x.lot) (line_of l) (map line_of ls), here, none_told x ls p.1)

-- without repeats at most one
pub told_once : (ls : List RawLine) → has_repeats same_raw_pair ls ≡ false → (item lot : List ℕ) → told item lot (map line_of ls) ≤ 1
told_once [] h item lot = omega arith
told_once (l ∷ ls) h item lot =
    let p = neither (list_any (same_raw_pair l) ls) (has_repeats same_raw_pair ls) h in
    by_test (is_of_pair item lot (line_of l)) refl p.0 (told_once ls p.1 item lot)
  where
    by_test : (t : Bool) → is_of_pair item lot (line_of l) ≡ t → list_any (same_raw_pair l) ls ≡ false → told item lot (map line_of ls) ≤ 1 → told item lot (map line_of (l ∷ ls)) ≤ 1
    by_test false e lone rest =
        let here : one_of item lot (line_of l) ≡ 0 = ap (λ (t : Bool). cond {A = ℕ} t 1 0) e in
        omega (arith, sum_by-cons (one_of item lot) (line_of l) (map line_of ls), here, rest)
    by_test true e lone rest =
        let q = both_parts (bytes_eq item l.item) (bytes_eq lot l.lot) e in
        let here : one_of item lot (line_of l) ≡ 1 = ap (λ (t : Bool). cond {A = ℕ} t 1 0) e in
        let others : told item lot (map line_of ls) ≡ 0 = (λ i. told (text_is item l.item q.0 i) (text_is lot l.lot q.1 i) (map line_of ls)) ∙ none_told l ls lone in
        omega (arith, sum_by-cons (one_of item lot) (line_of l) (map line_of ls), here, others)

told_itself : (l : Line) → one_of l.item l.lot l ≡ 1
told_itself l = ap (λ (t : Bool). cond {A = ℕ} t 1 0) (both_true (same_text l.item) (same_text l.lot))

-- sorted lines of which each pair stands once ascend
pub sorted_ascends : (ls : List RawLine) → IsSorted pair_cmp ls → ((item lot : List ℕ) → told item lot (map line_of ls) ≤ 1) → is_ascending (map line_of ls) ≡ true
sorted_ascends [] s once = refl
sorted_ascends (l ∷ []) s once = refl
sorted_ascends (k ∷ l ∷ ls) s once =
    both_true (first (pair_before (line_of k) (line_of l)) refl)
    (sorted_ascends (l ∷ ls) (λ i d a b.
    let next : suc i + 1 ≡ suc (i + 1) = omega arith in
    subst (λ n. is_lt (pair_cmp (get_or (k ∷ l ∷ ls) n d) (get_or (l ∷ ls) i d)) ≡ false) next (s (suc i) d (omega arith) (omega (arith, b))))
    (λ item lot. omega (arith, once item lot, sum_by-cons (one_of item lot) (line_of k) (map line_of (l ∷ ls)))))
  where
    first : (t : Bool) → pair_before (line_of k) (line_of l) ≡ t → t ≡ true
    first true e = refl
    first false e =
        let back : pair_before (line_of l) (line_of k) ≡ false = before_is (line_of l) (line_of k) ∙ s 0 k (omega arith) (omega arith) in
        let same = one_pair (line_of k) (line_of l) e back in
        let here = told_itself (line_of k) in
        let next : one_of k.item k.lot (line_of l) ≡ 1 = (λ i. one_of (same.0 i) (same.1 i) (line_of l)) ∙ told_itself (line_of l) in
        absurd (omega (arith, once k.item k.lot, sum_by-cons (one_of k.item k.lot) (line_of k) (map line_of (l ∷ ls)), sum_by-cons (one_of k.item k.lot) (line_of l) (map line_of ls), here, next))

-- ascending lists of the same lines are one

rest_ascends : (k : Line) (ls : List Line) → is_ascending (k ∷ ls) ≡ true → is_ascending ls ≡ true
rest_ascends k [] h = refl
rest_ascends k (l ∷ ls) h = (both_parts (pair_before k l) (is_ascending (l ∷ ls)) h).1

-- what is 0 of all lines after k is 0 of those that ascend after it
none_after : (f : Line → ℕ) (k : Line) (ls : List Line) → ((z : Line) → pair_before k z ≡ true → f z ≡ 0) → is_ascending (k ∷ ls) ≡ true → sum_by f ls ≡ 0
none_after f k [] zero h = refl
none_after f k (l ∷ ls) zero h =
    let p = both_parts (pair_before k l) (is_ascending (l ∷ ls)) h in
    omega (arith, sum_by-cons f l ls, zero l p.0, none_after f l ls (λ z g. zero z (before_through k l z p.0 g)) p.1)

not_back : (k z : Line) → pair_before k z ≡ true → pair_before z k ≡ false
not_back k z h = by_test (pair_before z k) refl
  where
    by_test : (t : Bool) → pair_before z k ≡ t → pair_before z k ≡ false
    by_test true e = absurd (both_ways (pair_before k k) (never_before k) (before_through k z k h e))
    by_test false e = e

abbrev ahead : Line → Line → ℕ
ahead k z = cond (pair_before z k) 1 0

-- nothing stands ahead of the first
none_ahead : (k : Line) (ls : List Line) → is_ascending (k ∷ ls) ≡ true → sum_by (ahead k) (k ∷ ls) ≡ 0
none_ahead k ls h =
    let here : ahead k k ≡ 0 = ap (λ (t : Bool). cond {A = ℕ} t 1 0) (never_before k) in
    omega (arith, sum_by-cons (ahead k) k ls, here, none_after (ahead k) k ls (λ z g. ap (λ (t : Bool). cond {A = ℕ} t 1 0) (not_back k z g)) h)

-- so no first is ahead of another
first_not_ahead : (k l : Line) (ks ls : List Line) → is_ascending (k ∷ ks) ≡ true → sum_by (ahead k) (l ∷ ls) ≡ sum_by (ahead k) (k ∷ ks) → pair_before l k ≡ false
first_not_ahead k l ks ls h e = by_test (pair_before l k) refl
  where
    by_test : (t : Bool) → pair_before l k ≡ t → pair_before l k ≡ false
    by_test true g =
        let here : ahead k l ≡ 1 = ap (λ (t : Bool). cond {A = ℕ} t 1 0) g in
        absurd (omega (arith, e, none_ahead k ks h, sum_by-cons (ahead k) l ls, here))
    by_test false g = g

-- the quantity of a pair
abbrev much_of : List ℕ → List ℕ → Line → ℕ
much_of item lot l = cond (is_of_pair item lot l) l.quantity 0

apart : (k z : Line) → pair_before k z ≡ true → is_of_pair k.item k.lot z ≡ false
apart k z h = by_test (is_of_pair k.item k.lot z) refl
  where
    by_test : (t : Bool) → is_of_pair k.item k.lot z ≡ t → is_of_pair k.item k.lot z ≡ false
    by_test false e = e
    by_test true e =
        let q = both_parts (bytes_eq k.item z.item) (bytes_eq k.lot z.lot) e in
        let same : Line = record { item = k.item; lot = k.lot; quantity = z.quantity } in
        let back : pair_before k z ≡ pair_before k same = λ i. pair_before k (record { item = sym (text_is k.item z.item q.0) i; lot = sym (text_is k.lot z.lot q.1) i; quantity = z.quantity }) in
        absurd (both_ways (pair_before k k) (never_before k) (sym back ∙ h))

much_of_first : (k : Line) (ks : List Line) → is_ascending (k ∷ ks) ≡ true → sum_by (much_of k.item k.lot) (k ∷ ks) ≡ k.quantity
much_of_first k ks h =
    let here : much_of k.item k.lot k ≡ k.quantity = ap (λ (t : Bool). cond {A = ℕ} t k.quantity 0) (both_true (same_text k.item) (same_text k.lot)) in
    omega (
      arith,
      sum_by-cons (much_of k.item k.lot) k ks,
      here,
      none_after (much_of k.item k.lot) k ks (λ z g. ap (λ (t : Bool). cond {A = ℕ} t z.quantity 0) (apart k z g)) h,
    )

pub ascending_same : (ks ls : List Line) → is_ascending ks ≡ true → is_ascending ls ≡ true → ((f : Line → ℕ) → sum_by f ls ≡ sum_by f ks) → ks ≡ ls
ascending_same [] [] h g e = refl
ascending_same [] (l ∷ ls) h g e = absurd (omega (arith, e (λ z. 1), sum_by-cons (λ (z : Line). 1) l ls))
ascending_same (k ∷ ks) [] h g e = absurd (omega (arith, e (λ z. 1), sum_by-cons (λ (z : Line). 1) k ks))
ascending_same (k ∷ ks) (l ∷ ls) h g e =
    let pair = one_pair k l (first_not_ahead l k ls ks g (sym (e (ahead l)))) (first_not_ahead k l ks ls h (e (ahead k))) in
    let much : sum_by (much_of l.item l.lot) (l ∷ ls) ≡ sum_by (much_of k.item k.lot) (l ∷ ls) = λ i. sum_by (much_of (sym pair.0 i) (sym pair.1 i)) (l ∷ ls) in
    let quantity : k.quantity ≡ l.quantity = omega (arith, much_of_first k ks h, much_of_first l ls g, e (much_of k.item k.lot), much) in
    let first : k ≡ l = λ i. record { item = pair.0 i; lot = pair.1 i; quantity = quantity i } in
    let rest : ks ≡ ls = ascending_same ks ls (rest_ascends k ks h) (rest_ascends l ls g)
    (λ f. omega (arith, e f, sum_by-cons f k ks, sum_by-cons f l ls, ap f first)) in
    λ i. first i ∷ rest i

-- Lines ascend just where no pair stands twice, however they stood before they were sorted.

once_of : (item lot : List ℕ) (t : Bool) (l : Line) → is_of_pair item lot l ≡ t → one_of item lot l ≡ cond {A = ℕ} t 1 0
once_of item lot t l e = ap (λ (b : Bool). cond {A = ℕ} b 1 0) e

pub ascending_once : (ls : List Line) → is_ascending ls ≡ true → (item lot : List ℕ) → told item lot ls ≤ 1
ascending_once [] h item lot = omega arith
ascending_once (k ∷ ks) h item lot = by_test (is_of_pair item lot k) refl (ascending_once ks (rest_ascends k ks h) item lot)
  where
    by_test : (t : Bool) → is_of_pair item lot k ≡ t → told item lot ks ≤ 1 → told item lot (k ∷ ks) ≤ 1
    by_test false e rest = omega (arith, sum_by-cons (one_of item lot) k ks, once_of item lot false k e, rest)
    by_test true e rest =
        let q = both_parts (bytes_eq item k.item) (bytes_eq lot k.lot) e in
        let other : (z : Line) → pair_before k z ≡ true → one_of item lot z ≡ 0 =
        λ z g. (λ i. one_of (text_is item k.item q.0 i) (text_is lot k.lot q.1 i) z) ∙ once_of k.item k.lot false z (apart k z g) in
        omega (arith, sum_by-cons (one_of item lot) k ks, once_of item lot true k e, none_after (one_of item lot) k ks other h)

none_same : (x : RawLine) (ls : List RawLine) → told x.item x.lot (map line_of ls) ≡ 0 → list_any (same_raw_pair x) ls ≡ false
none_same x [] h = refl
none_same x (l ∷ ls) h =
    let rest : told x.item x.lot (map line_of ls) ≡ 0 = omega (arith, h, sum_by-cons (one_of x.item x.lot) (line_of l) (map line_of ls)) in
    by_test (same_raw_pair x l) refl (none_same x ls rest)
  where
    by_test : (t : Bool) → same_raw_pair x l ≡ t → list_any (same_raw_pair x) ls ≡ false → list_any (same_raw_pair x) (l ∷ ls) ≡ false
    by_test true e rest = absurd (omega (arith, h, sum_by-cons (one_of x.item x.lot) (line_of l) (map line_of ls), once_of x.item x.lot true (line_of l) e))
    by_test false e rest = rw e rest

once_apart : (ls : List RawLine) → ((item lot : List ℕ) → told item lot (map line_of ls) ≤ 1) → has_repeats same_raw_pair ls ≡ false
once_apart [] once = refl
once_apart (l ∷ ls) once =
    let after : told l.item l.lot (map line_of ls) ≡ 0 = omega (arith, once l.item l.lot, told_itself (line_of l), sum_by-cons (one_of l.item l.lot) (line_of l) (map line_of ls)) in
    let rest : has_repeats same_raw_pair ls ≡ false =
    once_apart ls (λ item lot. omega (arith, once item lot, sum_by-cons (one_of item lot) (line_of l) (map line_of ls))) in
    rw (none_same l ls after) rest

pub repeats_fall : (raw sorted : List RawLine) → IsPermutation raw sorted → IsSorted pair_cmp sorted → (t : Bool) → is_ascending (map line_of sorted) ≡ t → has_repeats same_raw_pair raw ≡ not t
repeats_fall raw sorted moved up t h = by_tests (has_repeats same_raw_pair raw) refl t h
  where
    counted : (f : Line → ℕ) → sum_by f (map line_of sorted) ≡ sum_by f (map line_of raw)
    counted f = sum_by-IsPermutation f (map line_of raw) (map line_of sorted) (IsPermutation-map line_of raw sorted moved)

    by_tests : (a : Bool) → has_repeats same_raw_pair raw ≡ a → (t : Bool) → is_ascending (map line_of sorted) ≡ t → has_repeats same_raw_pair raw ≡ not t
    by_tests false e true g = e
    by_tests true e false g = e
    by_tests false e false g =
        let once : (item lot : List ℕ) → told item lot (map line_of sorted) ≤ 1 =
        λ item lot. omega (arith, told_once raw e item lot, counted (one_of item lot)) in
        absurd (both_ways (is_ascending (map line_of sorted)) g (sorted_ascends sorted up once))
    by_tests true e true g =
        let once : (item lot : List ℕ) → told item lot (map line_of raw) ≤ 1 =
        λ item lot. omega (arith, ascending_once (map line_of sorted) g item lot, counted (one_of item lot)) in
        absurd (both_ways (has_repeats same_raw_pair raw) (once_apart raw once) e)
