-- Keys of rows: SQL finds two rows alike in their key exactly where they have the same key.
use Rattle.std.proofs.Common.{◌≡◌, ◌==◌, ℕ, zero, suc, ℤ, pos, List, [], ◌∷◌, take, ◌&&◌, Bool, true, false, Some, refl, sym, ap, subst, ◌∙◌}
use Rattle.std.specs.Ordering.{is_eq, is_ne, ordering_reverse}
use Rattle.std.specs.declared.cmp.Ordering.{Ordering}
use Rattle.std.specs.declared.cmp.Ordering.TheVariants.{Less, Equal, Greater}
use Rattle.sqlite.specs.declared.types.Value.{Value}
use Rattle.sqlite.specs.declared.types.Value.TheVariants.{Null, Int, Real, Text, Blob}
use Rattle.sqlite.specs.Order.{Row, column, value_cmp}
use Rattle.sqlite.specs.Ops.{binary, is_true, from_truth}
use Rattle.sqlite.specs.Collation.TheVariants.{Binary}
use Rattle.sqlite_value.specs.Keys.{plain, first_key}
use Rattle.sqlite_schema.specs.Rules.{equal, agree, differ}
use Rattle.sqlite_value.proofs.OrderLemmas.{value_cmp-Text, value_cmp-Int, value_cmp-apart, value_cmp_total}
use Rattle.sqlite_value.proofs.KeyLemmas.{first_key-plain}
use Rattle.std.proofs.lemmas.Bool.{eqb-true, eq-eqb}
use Rattle.std.proofs.lemmas.Map.Text.{is_eq-slice_cmp}
use Rattle.std.proofs.lemmas.Slice.Eq.{bytes_eq-Decides}
use Rattle.std.proofs.lemmas.Cmp.{int_ranked}
use Rattle.book_statements.specs.Steps.{has_key}
use Rattle.book_statements.proofs.Values.{and_true}

true_of : (b : Bool) → is_true (from_truth (Some b)) ≡ b
true_of true = refl
true_of false = refl

pub equal_texts : (a b : List ℕ) → equal Binary (Text a) (Text b) ≡ is_eq (value_cmp (Text a) (Text b))
unfolding binary
equal_texts a b = true_of _

pub equal_ints : (a b : ℤ) → equal Binary (Int a) (Int b) ≡ is_eq (value_cmp (Int a) (Int b))
unfolding binary
equal_ints a b = true_of _

equal_mixed : (a : ℤ) (b : List ℕ) → equal Binary (Int a) (Text b) ≡ is_eq (value_cmp (Int a) (Text b))
unfolding binary
equal_mixed a b = true_of _

equal_other : (a : List ℕ) (b : ℤ) → equal Binary (Text a) (Int b) ≡ is_eq (value_cmp (Text a) (Int b))
unfolding binary
equal_other a b = true_of _

pub differ_ints : (a b : ℤ) → differ (Int a) (Int b) ≡ is_ne (value_cmp (Int a) (Int b))
unfolding binary
differ_ints a b = true_of _

its_own : (o : Ordering) → o ≡ ordering_reverse o → is_eq o ≡ true
its_own Less h = absurd (let e : ◌≡◌ {A = Ordering} Less Greater = h in cc)
its_own Equal h = refl
its_own Greater h = absurd (let e : ◌≡◌ {A = Ordering} Greater Less = h in cc)

pub itself : (a : Value) → is_eq (value_cmp a a) ≡ true
itself a = its_own _ (value_cmp_total.antisymm a a)

pub is_equal : (o : Ordering) → is_eq o ≡ true → o ≡ Equal
is_equal Less h = absurd (let e : ◌≡◌ {A = Bool} false true = h in cc)
is_equal Equal h = refl
is_equal Greater h = absurd (let e : ◌≡◌ {A = Bool} false true = h in cc)

pub not_ne : (o : Ordering) → is_ne o ≡ false → o ≡ Equal
not_ne Less h = absurd (let e : ◌≡◌ {A = Bool} true false = h in cc)
not_ne Equal h = refl
not_ne Greater h = absurd (let e : ◌≡◌ {A = Bool} true false = h in cc)

pub irreflexive : (a : Value) → value_cmp a a ≡ Less → ⊥
irreflexive a h = let e = value_cmp_total.antisymm a a ∙ ap ordering_reverse h in let f : ◌≡◌ {A = Ordering} Less Greater = sym h ∙ e in cc

pub same_text : (a b : List ℕ) → equal Binary (Text a) (Text b) ≡ true → a ≡ b
same_text a b h = (bytes_eq-Decides a b).0 (sym (is_eq-slice_cmp a b) ∙ ap is_eq (sym (value_cmp-Text a b)) ∙ sym (equal_texts a b) ∙ h)

pub same_int : (a b : ℤ) → equal Binary (Int a) (Int b) ≡ true → a ≡ b
same_int a b h = int_ranked a b Equal (sym (is_equal _ (ap is_eq (sym (value_cmp-Int a b)) ∙ sym (equal_ints a b) ∙ h)))

pub text_itself : (a : List ℕ) → equal Binary (Text a) (Text a) ≡ true
text_itself a = equal_texts a a ∙ itself (Text a)

pub int_itself : (a : ℤ) → equal Binary (Int a) (Int a) ≡ true
int_itself a = equal_ints a a ∙ itself (Int a)

-- two numbers where they are equal
pub equal_numbers : (m n : ℕ) → equal Binary (Int (pos m)) (Int (pos n)) ≡ (m == n)
equal_numbers m n = by (equal Binary (Int (pos m)) (Int (pos n))) (m == n) refl refl
  where
    pos_is : pos m ≡ pos n → m ≡ n
    pos_is e = cc

    by : (b d : Bool) → equal Binary (Int (pos m)) (Int (pos n)) ≡ b → (m == n) ≡ d → b ≡ d
    by true true p q = refl
    by false false p q = refl
    by true false p q =
        let same = pos_is (same_int (pos m) (pos n) p) in
        let e : (m == n) ≡ true = eq-eqb m n same in
        let f : ◌≡◌ {A = Bool} false true = sym q ∙ e in absurd (cc)
    by false true p q =
        let same : m ≡ n = eqb-true m n q in
        let e : equal Binary (Int (pos m)) (Int (pos n)) ≡ true = ap (λ (k : ℕ). equal Binary (Int (pos k)) (Int (pos n))) same ∙ int_itself (pos n) in
        let f : ◌≡◌ {A = Bool} false true = sym p ∙ e in absurd (cc)

apart_never : (a : ℤ) (b : List ℕ) → equal Binary (Int a) (Text b) ≡ true → ⊥
apart_never a b h =
    let k = ap is_eq (sym (value_cmp-apart (Int a) (Text b) (λ e. let f : ◌≡◌ {A = ℕ} 1 2 = e in cc))) ∙ sym (equal_mixed a b) ∙ h in
    let e : ◌≡◌ {A = Bool} false true = k in cc

other_never : (a : List ℕ) (b : ℤ) → equal Binary (Text a) (Int b) ≡ true → ⊥
other_never a b h =
    let k = ap is_eq (sym (value_cmp-apart (Text a) (Int b) (λ e. let f : ◌≡◌ {A = ℕ} 2 1 = e in cc))) ∙ sym (equal_other a b) ∙ h in
    let e : ◌≡◌ {A = Bool} false true = k in cc

-- ---- keys of so many columns

-- the places of k columns, from one on
abbrev pub places : ℕ → ℕ → List ℕ
places at zero = []
places at (suc k) = at ∷ places (suc at) k

-- a row's columns stand one further where something stands before them
shifted : (k at : ℕ) (x y : Value) (a b : Row) → agree plain (places (suc at) k) (x ∷ a) (places (suc at) k) (y ∷ b) ≡ agree plain (places at k) a (places at k) b
shifted zero at x y a b = refl
shifted (suc k) at x y a b = ap (λ (t : Bool). equal (first_key plain).collation (column a at) (column b at) && t) (shifted k (suc at) x y a b)

first_agrees : (k : ℕ) (x y : Value) (a b : Row) → agree plain (places 0 (suc k)) (x ∷ a) (places 0 (suc k)) (y ∷ b) ≡ (equal Binary x y && agree plain (places 0 k) a (places 0 k) b)
first_agrees k x y a b = rw first_key-plain (ap (λ (t : Bool). equal Binary x y && t) (shifted k 0 x y a b))

no_key : (k : ℕ) (P : Type 0) → has_key (suc k) [] ≡ true → P
no_key k P h = absurd (let e : ◌≡◌ {A = Bool} false true = h in cc)

-- SQL finds the keys alike: they are the same
agree_same : (k : ℕ) (a b : Row) → has_key k a ≡ true → has_key k b ≡ true → agree plain (places 0 k) a (places 0 k) b ≡ true → take k a ≡ take k b
agree_same zero a b p q h = refl
agree_same (suc k) [] b p q h = no_key k _ p
agree_same (suc k) (Null ∷ a) b p q h = absurd (let e : ◌≡◌ {A = Bool} false true = p in cc)
agree_same (suc k) (Real x ∷ a) b p q h = absurd (let e : ◌≡◌ {A = Bool} false true = p in cc)
agree_same (suc k) (Blob x ∷ a) b p q h = absurd (let e : ◌≡◌ {A = Bool} false true = p in cc)
agree_same (suc k) (v ∷ a) [] p q h = no_key k _ q
agree_same (suc k) (v ∷ a) (Null ∷ b) p q h = absurd (let e : ◌≡◌ {A = Bool} false true = q in cc)
agree_same (suc k) (v ∷ a) (Real x ∷ b) p q h = absurd (let e : ◌≡◌ {A = Bool} false true = q in cc)
agree_same (suc k) (v ∷ a) (Blob x ∷ b) p q h = absurd (let e : ◌≡◌ {A = Bool} false true = q in cc)
agree_same (suc k) (Int x ∷ a) (Int y ∷ b) p q h =
    let both = and_true _ _ (sym (first_agrees k (Int x) (Int y) a b) ∙ h) in
    (λ i. Int (same_int x y both.0 i) ∷ agree_same k a b p q both.1 i)
agree_same (suc k) (Int x ∷ a) (Text y ∷ b) p q h = absurd (apart_never x y (and_true _ _ (sym (first_agrees k (Int x) (Text y) a b) ∙ h)).0)
agree_same (suc k) (Text x ∷ a) (Int y ∷ b) p q h = absurd (other_never x y (and_true _ _ (sym (first_agrees k (Text x) (Int y) a b) ∙ h)).0)
agree_same (suc k) (Text x ∷ a) (Text y ∷ b) p q h =
    let both = and_true _ _ (sym (first_agrees k (Text x) (Text y) a b) ∙ h) in
    (λ i. Text (same_text x y both.0 i) ∷ agree_same k a b p q both.1 i)

-- and the same keys are alike
key_value : (k : ℕ) (x : Value) (a : Row) → has_key (suc k) (x ∷ a) ≡ true → (equal Binary x x ≡ true) × (has_key k a ≡ true)
key_value k Null a p = absurd (let e : ◌≡◌ {A = Bool} false true = p in cc)
key_value k (Int x) a p = (int_itself x, p)
key_value k (Real x) a p = absurd (let e : ◌≡◌ {A = Bool} false true = p in cc)
key_value k (Text x) a p = (text_itself x, p)
key_value k (Blob x) a p = absurd (let e : ◌≡◌ {A = Bool} false true = p in cc)

heads : (x y : Value) (a b : Row) → x ∷ a ≡ y ∷ b → (x ≡ y) × (a ≡ b)
heads x y a b e = (cc, cc)

same_agree : (k : ℕ) (a b : Row) → has_key k a ≡ true → has_key k b ≡ true → take k a ≡ take k b → agree plain (places 0 k) a (places 0 k) b ≡ true
same_agree zero a b p q e = refl
same_agree (suc k) [] b p q e = no_key k _ p
same_agree (suc k) (x ∷ a) [] p q e = no_key k _ q
same_agree (suc k) (x ∷ a) (y ∷ b) p q e =
    let both = heads x y (take k a) (take k b) e in
    let mine = key_value k x a p in
    let its = key_value k y b q in
    first_agrees k x y a b ∙ rw (subst (λ (z : Value). equal Binary x z ≡ true) both.0 mine.0) (same_agree k a b mine.1 its.1 both.1)

-- ---- keys after a rowid

pub keys_same : (k : ℕ) (i j : Value) (a b : Row) → has_key k a ≡ true → has_key k b ≡ true → agree plain (places 1 k) (i ∷ a) (places 1 k) (j ∷ b) ≡ true → take k a ≡ take k b
keys_same k i j a b p q h = agree_same k a b p q (sym (shifted k 0 i j a b) ∙ h)

pub keys_agree : (k : ℕ) (i j : Value) (a b : Row) → has_key k a ≡ true → has_key k b ≡ true → take k a ≡ take k b → agree plain (places 1 k) (i ∷ a) (places 1 k) (j ∷ b) ≡ true
keys_agree k i j a b p q e = shifted k 0 i j a b ∙ same_agree k a b p q e
