-- The order of keys: strict, and total.
use Rattle.std.proofs.Common.{◌≡◌, ◌⊎◌, inl, inr, ℕ, List, [], ◌∷◌, not, ◌&&◌, ◌||◌, Bool, true, false, refl, sym, ap, subst, ◌∙◌, arith}
use Rattle.std.specs.Prelude.{nat_lt}
use Rattle.std.proofs.lemmas.Bool.Decides.{nat_tests}
use Rattle.definitions.specs.Bytes.{comes_before}
use Rattle.definitions.specs.Tables.{Cell, Null, Number, Text, Blob}
use Rattle.definitions.specs.Schema.{cell_before, key_before}
use Rattle.std.specs.Ordering.{is_lt, is_eq, ordering_reverse}
use Rattle.std.proofs.lemmas.Cmp.{nat_list_cmp_total, tied_itself}
use Rattle.std.specs.declared.cmp.Ordering.{Ordering}
use Rattle.std.specs.declared.cmp.Ordering.TheVariants.{Less, Equal, Greater}
use Rattle.std.proofs.lemmas.Map.Text.{is_eq-slice_cmp}
use Rattle.std.proofs.lemmas.Slice.Eq.{bytes_eq-Decides}

-- Texts.

less : (o : Ordering) → is_lt o ≡ true → o ≡ Less
less Less h = refl
less Equal h = absurd (let e : ◌≡◌ {A = Bool} false true = h in cc)
less Greater h = absurd (let e : ◌≡◌ {A = Bool} false true = h in cc)

texts_never : (a : List ℕ) → comes_before a a ≡ false
texts_never a = ap is_lt (tied_itself nat_list_cmp_total a)

texts_through : (a b c : List ℕ) → comes_before a b ≡ true → comes_before b c ≡ true → comes_before a c ≡ true
texts_through a b c h g = ap is_lt (nat_list_cmp_total.trans a b c (less _ h) (less _ g))

neither : (o p : Ordering) → o ≡ ordering_reverse p → is_lt o ≡ false → is_lt p ≡ false → is_eq o ≡ true
neither Less p e h g = absurd (let f : ◌≡◌ {A = Bool} true false = h in cc)
neither Equal p e h g = refl
neither Greater Less e h g = absurd (let f : ◌≡◌ {A = Bool} true false = g in cc)
neither Greater Equal e h g = absurd (let f : ◌≡◌ {A = Ordering} Greater Equal = e in cc)
neither Greater Greater e h g = absurd (let f : ◌≡◌ {A = Ordering} Greater Less = e in cc)

texts_total : (a b : List ℕ) → comes_before a b ≡ false → comes_before b a ≡ false → a ≡ b
texts_total a b h g = (bytes_eq-Decides a b).0 (sym (is_eq-slice_cmp a b) ∙ neither _ _ (nat_list_cmp_total.antisymm a b) h g)

-- Numbers.

nats_never : (n : ℕ) → nat_lt n n ≡ false
nats_never n = grind (arith, nat_tests)

nats_through : (a b c : ℕ) → nat_lt a b ≡ true → nat_lt b c ≡ true → nat_lt a c ≡ true
nats_through a b c h g = grind (arith, nat_tests, h, g)

nats_total : (a b : ℕ) → nat_lt a b ≡ false → nat_lt b a ≡ false → a ≡ b
nats_total a b h g = grind (arith, nat_tests, h, g)

-- Cells.

no : {P : Type 0} → ◌≡◌ {A = Bool} false true → P
no h = absurd cc

yes : {P : Type 0} → ◌≡◌ {A = Bool} true false → P
yes h = absurd cc

pub cells_never : (c : Cell) → cell_before c c ≡ false
cells_never Null = refl
cells_never (Number n) = nats_never n
cells_never (Text t) = texts_never t
cells_never (Blob b) = texts_never b

pub cells_through : (a b c : Cell) → cell_before a b ≡ true → cell_before b c ≡ true → cell_before a c ≡ true
cells_through Null Null c h g = no h
cells_through Null (Number n) Null h g = no g
cells_through Null (Number n) (Number m) h g = refl
cells_through Null (Number n) (Text m) h g = refl
cells_through Null (Number n) (Blob m) h g = refl
cells_through Null (Text n) Null h g = no g
cells_through Null (Text n) (Number m) h g = refl
cells_through Null (Text n) (Text m) h g = refl
cells_through Null (Text n) (Blob m) h g = refl
cells_through Null (Blob n) Null h g = no g
cells_through Null (Blob n) (Number m) h g = refl
cells_through Null (Blob n) (Text m) h g = refl
cells_through Null (Blob n) (Blob m) h g = refl
cells_through (Number a) Null c h g = no h
cells_through (Number a) (Number b) Null h g = no g
cells_through (Number a) (Number b) (Number c) h g = nats_through a b c h g
cells_through (Number a) (Number b) (Text c) h g = refl
cells_through (Number a) (Number b) (Blob c) h g = refl
cells_through (Number a) (Text b) Null h g = no g
cells_through (Number a) (Text b) (Number c) h g = no g
cells_through (Number a) (Text b) (Text c) h g = refl
cells_through (Number a) (Text b) (Blob c) h g = refl
cells_through (Number a) (Blob b) Null h g = no g
cells_through (Number a) (Blob b) (Number c) h g = no g
cells_through (Number a) (Blob b) (Text c) h g = no g
cells_through (Number a) (Blob b) (Blob c) h g = refl
cells_through (Text a) Null c h g = no h
cells_through (Text a) (Number b) c h g = no h
cells_through (Text a) (Text b) Null h g = no g
cells_through (Text a) (Text b) (Number c) h g = no g
cells_through (Text a) (Text b) (Text c) h g = texts_through a b c h g
cells_through (Text a) (Text b) (Blob c) h g = refl
cells_through (Text a) (Blob b) Null h g = no g
cells_through (Text a) (Blob b) (Number c) h g = no g
cells_through (Text a) (Blob b) (Text c) h g = no g
cells_through (Text a) (Blob b) (Blob c) h g = refl
cells_through (Blob a) Null c h g = no h
cells_through (Blob a) (Number b) c h g = no h
cells_through (Blob a) (Text b) c h g = no h
cells_through (Blob a) (Blob b) Null h g = no g
cells_through (Blob a) (Blob b) (Number c) h g = no g
cells_through (Blob a) (Blob b) (Text c) h g = no g
cells_through (Blob a) (Blob b) (Blob c) h g = texts_through a b c h g

pub cells_total : (a b : Cell) → cell_before a b ≡ false → cell_before b a ≡ false → a ≡ b
cells_total Null Null h g = refl
cells_total Null (Number b) h g = yes h
cells_total Null (Text b) h g = yes h
cells_total Null (Blob b) h g = yes h
cells_total (Number a) Null h g = yes g
cells_total (Number a) (Number b) h g = ap Number (nats_total a b h g)
cells_total (Number a) (Text b) h g = yes h
cells_total (Number a) (Blob b) h g = yes h
cells_total (Text a) Null h g = yes g
cells_total (Text a) (Number b) h g = yes g
cells_total (Text a) (Text b) h g = ap Text (texts_total a b h g)
cells_total (Text a) (Blob b) h g = yes h
cells_total (Blob a) Null h g = yes g
cells_total (Blob a) (Number b) h g = yes g
cells_total (Blob a) (Text b) h g = yes g
cells_total (Blob a) (Blob b) h g = ap Blob (texts_total a b h g)

-- Keys.

pub keys_never : (k : List Cell) → key_before k k ≡ false
keys_never [] = refl
keys_never (c ∷ k) = rw (cells_never c) (keys_never k)

-- what a key before another says of their first cells
abbrev Before : Cell → Cell → List Cell → List Cell → Type 0
Before a b as1 bs = (cell_before a b ≡ true) ⊎ ((a ≡ b) × (key_before as1 bs ≡ true))

split : (p q r : Bool) → (p || (not q && r)) ≡ true → (p ≡ true) ⊎ ((p ≡ false) × (q ≡ false) × (r ≡ true))
split true q r h = inl refl
split false true r h = no h
split false false r h = inr (refl, refl, h)

before_says : (a b : Cell) (as1 bs : List Cell) → key_before (a ∷ as1) (b ∷ bs) ≡ true → Before a b as1 bs
before_says a b as1 bs h = elim (split (cell_before a b) (cell_before b a) (key_before as1 bs) h) [ inl first ↦ inl first | inr rest ↦ inr (cells_total a b rest.0 rest.1, rest.2) ]

says_before : (a b : Cell) (as1 bs : List Cell) → Before a b as1 bs → key_before (a ∷ as1) (b ∷ bs) ≡ true
says_before a b as1 bs (inl first) = rw first refl
says_before a b as1 bs (inr rest) = subst (λ (c : Cell). key_before (a ∷ as1) (c ∷ bs) ≡ true) rest.0 (rw (cells_never a) rest.1)

pub keys_through : (a b c : List Cell) → key_before a b ≡ true → key_before b c ≡ true → key_before a c ≡ true
keys_through [] [] c h g = no h
keys_through [] (y ∷ b) [] h g = no g
keys_through [] (y ∷ b) (z ∷ c) h g = refl
keys_through (x ∷ a) [] c h g = no h
keys_through (x ∷ a) (y ∷ b) [] h g = no g
keys_through (x ∷ a) (y ∷ b) (z ∷ c) h g = says_before x z a c (elim (before_says x y a b h) [
  | inl p ↦ elim (before_says y z b c g) [
    | inl q ↦ inl (cells_through x y z p q)
    | inr q ↦ inl (subst (λ (w : Cell). cell_before x w ≡ true) q.0 p)
  ]
  | inr p ↦ elim (before_says y z b c g) [
    | inl q ↦ inl (subst (λ (w : Cell). cell_before w z ≡ true) (sym p.0) q)
    | inr q ↦ inr (p.0 ∙ q.0, keys_through a b c p.1 q.1)
  ]
])

miss : (p q r : Bool) → (p || (not q && r)) ≡ false → (p ≡ false) × ((q ≡ true) ⊎ (r ≡ false))
miss true q r h = yes h
miss false true r h = (refl, inl refl)
miss false false r h = (refl, inr h)

pub keys_total : (a b : List Cell) → key_before a b ≡ false → key_before b a ≡ false → a ≡ b
keys_total [] [] h g = refl
keys_total [] (y ∷ b) h g = yes h
keys_total (x ∷ a) [] h g = yes g
keys_total (x ∷ a) (y ∷ b) h g =
    let p = miss (cell_before x y) (cell_before y x) (key_before a b) h in
    let q = miss (cell_before y x) (cell_before x y) (key_before b a) g in
    let same = cells_total x y p.0 q.0 in
    (λ i. same i ∷ keys_total a b (rest p.0 q.0 p.1) (rest q.0 p.0 q.1) i)
  where
    rest : {m n r : Bool} → m ≡ false → n ≡ false → (n ≡ true) ⊎ (r ≡ false) → r ≡ false
    rest p q (inl e) = yes (sym e ∙ q)
    rest p q (inr e) = e
