-- The order of lines by their pairs is an order.
use Rattle.std.proofs.Common.{◌≡◌, ℕ, Bool, true, false, List, [], ◌∷◌, refl, ap, sym, ◌∙◌, Ordering, bytes_eq}
use Rattle.std.specs.Cmp.{IsTotalOrder}
use Rattle.std.specs.Cmp.Lexicographic.{slice_cmp}
use Rattle.std.specs.Ordering.{is_lt, nat_cmp, ordering_reverse, ordering_then}
use Rattle.std.specs.declared.cmp.Ordering.TheVariants.{Less, Equal, Greater}
use Rattle.std.proofs.lemmas.Bool.{both_ways}
use Rattle.std.proofs.lemmas.Cmp.{nat_list_cmp_total, then_total, on_total, tied_itself, ranked}
use Rattle.definitions.specs.Means.{Line}
use Rattle.definitions.specs.Events.{pair_before}
use Rattle.definitions.specs.Clerk.{RawLine}
use Rattle.definitions.proofs.TextLaws.{same_text, text_is}
use Rattle.sheets.specs.Pairs.{pair_cmp}

abbrev pub line_cmp : Line → Line → Ordering
line_cmp a b = ordering_then (slice_cmp nat_cmp a.item b.item) (slice_cmp nat_cmp a.lot b.lot)

pub line_cmp_total : IsTotalOrder line_cmp
line_cmp_total = then_total (on_total (λ (l : Line). l.item) nat_list_cmp_total) (on_total (λ (l : Line). l.lot) nat_list_cmp_total)

lt_less : (o : Ordering) → is_lt o ≡ true → o ≡ Less
lt_less Less h = refl
lt_less Equal h = absurd (cc)
lt_less Greater h = absurd (cc)

-- texts that rank alike are the same

texts_step : (x y : ℕ) (xs ys : List ℕ) (o : Ordering) → nat_cmp x y ≡ o → slice_cmp nat_cmp (x ∷ xs) (y ∷ ys) ≡ Equal → (x ≡ y) × (slice_cmp nat_cmp xs ys ≡ Equal)
texts_step x y xs ys Less e h = let g : Less ≡ Equal = rw e at h in absurd (cc)
texts_step x y xs ys Equal e h = (ranked x y Equal (sym e), rw e at h)
texts_step x y xs ys Greater e h = let g : Greater ≡ Equal = rw e at h in absurd (cc)

texts_equal : (xs ys : List ℕ) → slice_cmp nat_cmp xs ys ≡ Equal → xs ≡ ys
texts_equal [] [] h = refl
texts_equal [] (y ∷ ys) h = absurd (cc)
texts_equal (x ∷ xs) [] h = absurd (cc)
texts_equal (x ∷ xs) (y ∷ ys) h =
    let s = texts_step x y xs ys (nat_cmp x y) refl h in
    ap (λ (z : ℕ). z ∷ xs) s.0 ∙ ap (λ (zs : List ℕ). y ∷ zs) (texts_equal xs ys s.1)

text_tied : (a : List ℕ) → slice_cmp nat_cmp a a ≡ Equal
text_tied a = tied_itself nat_list_cmp_total a

-- the definition's order is this one
pub before_is : (a b : Line) → pair_before a b ≡ is_lt (line_cmp a b)
before_is a b = by_items (slice_cmp nat_cmp a.item b.item) refl (bytes_eq a.item b.item) refl
  where
    by_items : (o : Ordering) → slice_cmp nat_cmp a.item b.item ≡ o → (t : Bool) → bytes_eq a.item b.item ≡ t → pair_before a b ≡ is_lt (line_cmp a b)
    by_items Less e t f = rw e refl
    by_items Equal e true f = rw (e, f) refl
    by_items Equal e false f = absurd (both_ways (bytes_eq a.item b.item) f (ap (bytes_eq a.item) (sym (texts_equal a.item b.item e)) ∙ same_text a.item))
    by_items Greater e true f =
        let same : slice_cmp nat_cmp a.item b.item ≡ Equal = ap (slice_cmp nat_cmp a.item) (sym (text_is a.item b.item f)) ∙ text_tied a.item in
        let bad : Greater ≡ Equal = sym e ∙ same in
        absurd (cc)
    by_items Greater e false f = rw (e, f) refl

pub never_before : (a : Line) → pair_before a a ≡ false
never_before a = before_is a a ∙ ap is_lt (tied_itself line_cmp_total a)

pub before_through : (a b c : Line) → pair_before a b ≡ true → pair_before b c ≡ true → pair_before a c ≡ true
before_through a b c h g =
    before_is a c ∙ ap is_lt (line_cmp_total.trans a b c (lt_less (line_cmp a b) (sym (before_is a b) ∙ h)) (lt_less (line_cmp b c) (sym (before_is b c) ∙ g)))

neither_way : (o p : Ordering) → o ≡ ordering_reverse p → is_lt o ≡ false → is_lt p ≡ false → o ≡ Equal
neither_way o Less e h g = absurd (cc)
neither_way o Equal e h g = e
neither_way o Greater e h g = let f : true ≡ false = sym (ap is_lt e) ∙ h in absurd (cc)

tied_parts : (o p : Ordering) → ordering_then o p ≡ Equal → (o ≡ Equal) × (p ≡ Equal)
tied_parts Less p h = absurd (cc)
tied_parts Equal p h = (refl, h)
tied_parts Greater p h = absurd (cc)

-- lines of which neither stands before the other are of one pair
pub one_pair : (a b : Line) → pair_before a b ≡ false → pair_before b a ≡ false → (a.item ≡ b.item) × (a.lot ≡ b.lot)
one_pair a b h g =
    let tied = neither_way (line_cmp a b) (line_cmp b a) (line_cmp_total.antisymm a b) (sym (before_is a b) ∙ h) (sym (before_is b a) ∙ g) in
    let parts = tied_parts (slice_cmp nat_cmp a.item b.item) (slice_cmp nat_cmp a.lot b.lot) tied in
    (texts_equal a.item b.item parts.0, texts_equal a.lot b.lot parts.1)

-- the same of lines as they were read
pub raw_total : IsTotalOrder pair_cmp
raw_total = then_total (on_total (λ (l : RawLine). l.item) nat_list_cmp_total) (on_total (λ (l : RawLine). l.lot) nat_list_cmp_total)
