-- Lists that get more at their end, and what is found in them.
use Rattle.std.proofs.Common.{◌≡◌, ◌+◌, ◌<◌, ℕ, suc, List, [], ◌∷◌, ◌++◌, length, filter, ◌||◌, ◌==◌, Bool, true, false, Some, None, Option, refl, sym, ap, ◌∙◌, inl, inr, arith, eq-eqb, eqb-true}
use Rattle.std.specs.Prelude.{is_some, slice_get, find}
use Rattle.std.specs.List.{list_any, position_from}
use Rattle.std.proofs.lemmas.Bool.{cases_Bool}
use Rattle.sqlite.specs.Table.{Table}
use Rattle.sqlite_rules.specs.Lists.{Has}
use Rattle.sqlite_rules.proofs.ListLemmas.{some_from}

pub filter-append : {A : Type 0} (p : A → Bool) (xs ys : List A) → filter p (xs ++ ys) ≡ filter p xs ++ filter p ys
filter-append p [] ys = refl
filter-append p (x ∷ xs) ys = elim (cases_Bool (p x)) [ inl e ↦ rw e (ap (λ z. x ∷ z) (filter-append p xs ys)) | inr e ↦ rw e (filter-append p xs ys) ]

pub none_pass : {A : Type 0} (p : A → Bool) (xs : List A) → ((x : A) → Has xs x → p x ≡ false) → filter p xs ≡ []
none_pass p [] h = refl
none_pass p (x ∷ xs) h = rw (h x (inl refl)) (none_pass p xs (λ y there. h y (inr there)))

pub none_of : {A : Type 0} (p : A → Bool) (xs : List A) → ((x : A) → Has xs x → p x ≡ false) → list_any p xs ≡ false
none_of p [] h = refl
none_of p (x ∷ xs) h = rw (h x (inl refl)) (none_of p xs (λ y there. h y (inr there)))

pub each_of : {A : Type 0} (p : A → Bool) (xs : List A) → list_any p xs ≡ false → (x : A) → Has xs x → p x ≡ false
each_of p xs h x there = elim (cases_Bool (p x)) [
  | inl hit ↦ absurd (let e : ◌≡◌ {A = Bool} true false = sym (some_from p xs x there hit) ∙ h in cc)
  | inr miss ↦ miss
]

pub placed_step : {A : Type 0} (p : A → Bool) (n : ℕ) (x : A) (zs : List A) → p x ≡ false → position_from p n (x ∷ zs) ≡ position_from p (n + 1) zs
placed_step p n x zs e = rw e refl

pub placed_here : {A : Type 0} (p : A → Bool) (n : ℕ) (x : A) (zs : List A) → p x ≡ true → position_from p n (x ∷ zs) ≡ Some n
placed_here p n x zs e = rw e refl

pub placed_after : {A : Type 0} (p : A → Bool) (n : ℕ) (xs ys : List A) (t : A) → position_from p n xs ≡ None → p t ≡ true → position_from p n (xs ++ t ∷ ys) ≡ Some (n + length xs)
placed_after p n [] ys t none it = placed_here p n t ys it ∙ ap Some (let e : n ≡ n + 0 = omega arith in e)
placed_after p n (x ∷ xs) ys t none it = elim (cases_Bool (p x)) [
  | inl e ↦ absurd (let f : ◌≡◌ {A = Option ℕ} (Some n) None = sym (placed_here p n x xs e) ∙ none in cc)
  | inr e ↦ placed_step p n x (xs ++ t ∷ ys) e ∙ placed_after p (n + 1) xs ys t (sym (placed_step p n x xs e) ∙ none) it ∙ ap Some (let f : n + 1 + length xs ≡ n + suc (length xs) = omega arith in f)
]

pub got_after : (xs ys : List Table) (t : Table) → slice_get (xs ++ t ∷ ys) (length xs) ≡ Some t
got_after [] ys t = refl
got_after (x ∷ xs) ys t = got_after xs ys t

pub found_after : (p : Table → Bool) (xs ys : List Table) (t : Table) → ((x : Table) → Has xs x → p x ≡ false) → p t ≡ true → find p (xs ++ t ∷ ys) ≡ Some t
found_after p [] ys t none it = rw it refl
found_after p (x ∷ xs) ys t none it = rw (none x (inl refl)) (found_after p xs ys t (λ y there. none y (inr there)) it)

pub append_one : {A : Type 0} (xs : List A) (a b : A) → (xs ++ a ∷ []) ++ b ∷ [] ≡ xs ++ a ∷ b ∷ []
append_one [] a b = refl
append_one (x ∷ xs) a b = ap (λ zs. x ∷ zs) (append_one xs a b)

pub not_some : {A : Type 0} (o : Option A) → is_some o ≡ false → o ≡ None
not_some None h = refl
not_some (Some a) h = absurd (let e : ◌≡◌ {A = Bool} true false = h in cc)

pub first_false : (a b c : Bool) → ((a || b) || c) ≡ false → a ≡ false
first_false true b c h = absurd (let e : ◌≡◌ {A = Bool} true false = h in cc)
first_false false b c h = refl

pub either_false : (a b : Bool) → (a || b) ≡ false → (a ≡ false) × (b ≡ false)
either_false true b h = absurd (let e : ◌≡◌ {A = Bool} true false = h in cc)
either_false false b h = (refl, h)

pub differs : (m n : ℕ) → m < n → (m == n) ≡ false
differs m n h = elim (cases_Bool (m == n)) [ inl e ↦ absurd (let f = eqb-true m n e in omega (arith, h, f)) | inr e ↦ e ]

pub flipped : (m n : ℕ) → (m == n) ≡ false → (n == m) ≡ false
flipped m n h = elim (cases_Bool (n == m)) [
  | inl e ↦ absurd (let f : ◌≡◌ {A = Bool} true false = sym (eq-eqb m n (sym (eqb-true n m e))) ∙ h in cc)
  | inr e ↦ e
]

pub has_last : {A : Type 0} (xs ys : List A) (a : A) → Has ys a → Has (xs ++ ys) a
has_last [] ys a h = h
has_last (x ∷ xs) ys a h = inr (has_last xs ys a h)

pub found_before : (p : Table → Bool) (xs ys : List Table) → ((y : Table) → Has ys y → p y ≡ false) → find p (xs ++ ys) ≡ find p xs
found_before p [] [] none = refl
found_before p [] (y ∷ ys) none = rw (none y (inl refl)) (found_before p [] ys (λ z there. none z (inr there)))
found_before p (x ∷ xs) ys none = elim (cases_Bool (p x)) [ inl e ↦ rw e refl | inr e ↦ rw e (found_before p xs ys none) ]

pub found_has : (p : Table → Bool) (xs : List Table) (t : Table) → find p xs ≡ Some t → Has xs t
found_has p [] t h = absurd (cc)
found_has p (x ∷ xs) t h = elim (cases_Bool (p x)) [
  | inl e ↦ inl (let f : Some x ≡ Some t = sym (here e) ∙ h in cc)
  | inr e ↦ inr (found_has p xs t (sym (later e) ∙ h))
]
  where
    here : p x ≡ true → find p (x ∷ xs) ≡ Some x
    here e = rw e refl

    later : p x ≡ false → find p (x ∷ xs) ≡ find p xs
    later e = rw e refl
