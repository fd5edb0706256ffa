-- Texts by their bytes are in a strict order.
use Rattle.std.proofs.Common.{◌≡◌, ℕ, true, false, List, [], ◌∷◌, refl, ap, sym, ◌∙◌, Ordering}
use Rattle.std.specs.Cmp.Lexicographic.{slice_cmp}
use Rattle.std.specs.Ordering.{is_lt, nat_cmp, ordering_reverse}
use Rattle.std.proofs.lemmas.Cmp.{nat_list_cmp_total, tied_itself, ranked}
use Rattle.std.specs.declared.cmp.Ordering.TheVariants.{Less, Equal, Greater}
use Rattle.definitions.specs.Bytes.{comes_before}

lt_less : (o : Ordering) → is_lt o ≡ true → o ≡ Less
lt_less Less h = refl
lt_less Equal h = absurd (cc)
lt_less Greater h = absurd (cc)

nat_equal : (x y : ℕ) → nat_cmp x y ≡ Equal → x ≡ y
nat_equal x y h = ranked x y Equal (sym h)

texts_step : (x y : ℕ) (xs ys : List ℕ) (o : Ordering) → nat_cmp x y ≡ o → slice_cmp nat_cmp (x ∷ xs) (y ∷ ys) ≡ Equal → (x ≡ y) × (slice_cmp nat_cmp xs ys ≡ Equal)
texts_step x y xs ys Less e h = let g : Less ≡ Equal = rw e at h in absurd (cc)
texts_step x y xs ys Equal e h = (nat_equal x y e, rw e at h)
texts_step x y xs ys Greater e h = let g : Greater ≡ Equal = rw e at h in absurd (cc)

texts_equal : (xs ys : List ℕ) → slice_cmp nat_cmp xs ys ≡ Equal → xs ≡ ys
texts_equal [] [] h = refl
texts_equal [] (y ∷ ys) h = absurd (cc)
texts_equal (x ∷ xs) [] h = absurd (cc)
texts_equal (x ∷ xs) (y ∷ ys) h = let s = texts_step x y xs ys (nat_cmp x y) refl h in
    ap (λ (z : ℕ). z ∷ xs) s.0 ∙ ap (λ (zs : List ℕ). y ∷ zs) (texts_equal xs ys s.1)

pub texts_never : (a : List ℕ) → comes_before a a ≡ false
texts_never a = ap is_lt (tied_itself nat_list_cmp_total a)

pub texts_through : (a b c : List ℕ) → comes_before a b ≡ true → comes_before b c ≡ true → comes_before a c ≡ true
texts_through a b c h g = ap is_lt (nat_list_cmp_total.trans a b c (lt_less (slice_cmp nat_cmp a b) h) (lt_less (slice_cmp nat_cmp b c) g))

neither : (o p : Ordering) → o ≡ ordering_reverse p → is_lt o ≡ false → is_lt p ≡ false → o ≡ Equal
neither o Less e h g = absurd (cc)
neither o Equal e h g = e
neither o Greater e h g = let f : true ≡ false = sym (ap is_lt e) ∙ h in absurd (cc)

pub texts_total : (a b : List ℕ) → comes_before a b ≡ false → comes_before b a ≡ false → a ≡ b
texts_total a b h g = texts_equal a b (neither (slice_cmp nat_cmp a b) (slice_cmp nat_cmp b a) (nat_list_cmp_total.antisymm a b) h g)
