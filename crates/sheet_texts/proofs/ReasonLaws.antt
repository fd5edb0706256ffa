-- The first record that is a reason, found one after the other.
use Rattle.std.proofs.Common.{◌≡◌, ℕ, zero, suc, ◌+◌, ◌<◌, Bool, true, false, cond, ◌||◌, List, [], ◌∷◌, ◌++◌, map, length, take, drop, get_or, Option, Some, None, refl, ap, sym, ◌∙◌, append_assoc, arith, add-one}
use Rattle.std.specs.Prelude.{find, is_some, option_map}
use Rattle.std.specs.List.{list_any}
use Rattle.std.specs.Option.{option_or}
use Rattle.std.proofs.lemmas.List.{append-nil}
use Rattle.std.proofs.lemmas.List.Folds.{find-append}
use Rattle.definitions.specs.declared.sheet_kind.SheetKind.{SheetKind}
use Rattle.definitions.specs.declared.refusals.Refusal.{Refusal}
use Rattle.sheet_texts.specs.Reasons.{each_after, first_reason, is_reason, reason_text, where_so}

-- Lists.

-- one of a list at its place
at_place : {X : Type 0} (xs : List X) (i : ℕ) (x : X) → i < length xs → x ≡ get_or xs i x → (take (suc i) xs ≡ take i xs ++ x ∷ []) × (xs ≡ take i xs ++ x ∷ drop (suc i) xs)
at_place [] i x lt is = absurd (omega (arith, lt))
at_place (y ∷ xs) zero x lt is = (ap (λ z. z ∷ []) (sym is), ap (λ z. z ∷ xs) (sym is))
at_place (y ∷ xs) (suc i) x lt is =
    let h = at_place xs i x (omega (arith, lt)) is in
    (ap (λ zs. y ∷ zs) h.0, ap (λ zs. y ∷ zs) h.1)

-- the same of what is made of each
pub at_map : {X Y : Type 0} (f : X → Y) (xs : List X) (i : ℕ) (x : X) → i < length xs → x ≡ get_or xs i x
    → (i < length (map f xs)) × (f x ≡ get_or (map f xs) i (f x)) × (take i (map f xs) ≡ map f (take i xs))
at_map f [] i x lt is = absurd (omega (arith, lt))
at_map f (y ∷ xs) zero x lt is = (omega arith, ap f is, refl)
at_map f (y ∷ xs) (suc i) x lt is =
    let h = at_map f xs i x (omega (arith, lt)) is in
    (omega (arith, h.0), h.1, ap (λ zs. f y ∷ zs) h.2)

is_some-cond : {X : Type 0} (t : Bool) (x : X) (more : Option X) (rest : Bool) → is_some more ≡ rest → is_some (cond t (Some x) more) ≡ (t || rest)
is_some-cond true x more rest h = refl
is_some-cond false x more rest h = h

pub is_some-find : {X : Type 0} (p : X → Bool) (xs : List X) → is_some (find p xs) ≡ list_any p xs
is_some-find p [] = refl
is_some-find p (x ∷ xs) = is_some-cond (p x) x (find p xs) (list_any p xs) (is_some-find p xs)

pub is_some-option_map : {X Y : Type 0} (f : X → Y) (x : Option X) → is_some (option_map f x) ≡ is_some x
is_some-option_map f (Some x) = refl
is_some-option_map f None = refl

-- what is found is there
pub is_found : {X Y : Type 0} (f : X → Y) (found : Option X) (p : Y → Bool) (ys : List Y) → option_map f found ≡ find p ys → is_some found ≡ list_any p ys
is_found f found p ys h = sym (is_some-option_map f found) ∙ ap is_some h ∙ is_some-find p ys

option_map-cond : {X Y : Type 0} (f : X → Y) (t : Bool) (x : X) (more : Option X) (rest : Option Y) → option_map f more ≡ rest → option_map f (cond t (Some x) more) ≡ cond t (Some (f x)) rest
option_map-cond f true x more rest h = refl
option_map-cond f false x more rest h = h

-- a look through what is made of each
pub find-map : {X Y : Type 0} (f : X → Y) (p : Y → Bool) (xs : List X) → option_map f (find (λ x. p (f x)) xs) ≡ find p (map f xs)
find-map f p [] = refl
find-map f p (x ∷ xs) = option_map-cond f (p (f x)) x (find (λ y. p (f y)) xs) (find p (map f xs)) (find-map f p xs)

pub option_map-twice : {X Y Z : Type 0} (f : Y → Z) (g : X → Y) (x : Option X) → option_map (λ y. f (g y)) x ≡ option_map f (option_map g x)
option_map-twice f g (Some x) = refl
option_map-twice f g None = refl

-- Records.

each_after-append : (before xs ys : List (List (List ℕ))) → each_after before (xs ++ ys) ≡ each_after before xs ++ each_after (before ++ xs) ys
each_after-append before [] ys = ap (λ zs. each_after zs ys) (sym (append-nil before))
each_after-append before (x ∷ xs) ys =
    ap (λ zs. (before, x) ∷ zs) (each_after-append (before ++ x ∷ []) xs ys
    ∙ ap (λ zs. each_after (before ++ x ∷ []) xs ++ each_after zs ys) (append_assoc before (x ∷ []) xs))

-- records before which none is a reason
after_none : (kind : SheetKind) (n : Refusal) (xs ys : List (List (List ℕ))) → first_reason kind n xs ≡ None
    → first_reason kind n (xs ++ ys) ≡ find (λ p. is_reason kind p.0 p.1 n) (each_after xs ys)
after_none kind n xs ys none =
    ap (find (λ p. is_reason kind p.0 p.1 n)) (each_after-append [] xs ys)
    ∙ find-append (λ p. is_reason kind p.0 p.1 n) (each_after [] xs) (each_after xs ys)
    ∙ ap (λ found. option_or found (find (λ p. is_reason kind p.0 p.1 n) (each_after xs ys))) none

first_at : (kind : SheetKind) (n : Refusal) (before : List (List (List ℕ))) (fields : List (List ℕ)) (rest : List (List (List ℕ))) (t : Bool) → is_reason kind before fields n ≡ t
    → find (λ p. is_reason kind p.0 p.1 n) (each_after before (fields ∷ rest)) ≡ cond t (Some (before, fields)) (find (λ p. is_reason kind p.0 p.1 n) (each_after (before ++ fields ∷ []) rest))
first_at kind n before fields rest t e = ap (λ b. cond b (Some (before, fields)) (find (λ p. is_reason kind p.0 p.1 n) (each_after (before ++ fields ∷ []) rest))) e

-- where a text is told something is so
so : (t : Bool) (text why : List ℕ) → Some why ≡ where_so t text → (t ≡ true) × (why ≡ text)
so true text why h = (refl, cc)
so false text why h = absurd (cc)

not_so : (t : Bool) (text : List ℕ) → None ≡ where_so t text → t ≡ false
not_so true text h = absurd (cc)
not_so false text h = refl

pub reason_next : (kind : SheetKind) (n : Refusal) (rows : List (List (List ℕ))) (i : ℕ) (fields : List (List ℕ)) → i < length rows → fields ≡ get_or rows i fields
    → first_reason kind n (take i rows) ≡ None → None ≡ where_so (is_reason kind (take i rows) fields n) (reason_text kind fields n) → first_reason kind n (take (i + 1) rows) ≡ None
reason_next kind n rows i fields lt is none h =
    ap (λ k. first_reason kind n (take k rows)) (add-one i)
    ∙ ap (first_reason kind n) (at_place rows i fields lt is).0
    ∙ after_none kind n (take i rows) (fields ∷ []) none
    ∙ first_at kind n (take i rows) fields [] false (not_so (is_reason kind (take i rows) fields n) (reason_text kind fields n) h)

pub reason_here : (kind : SheetKind) (n : Refusal) (rows : List (List (List ℕ))) (i : ℕ) (fields : List (List ℕ)) (why : List ℕ) → i < length rows → fields ≡ get_or rows i fields
    → first_reason kind n (take i rows) ≡ None → Some why ≡ where_so (is_reason kind (take i rows) fields n) (reason_text kind fields n)
    → (first_reason kind n rows ≡ Some (take i rows, fields)) × (why ≡ reason_text kind fields n)
reason_here kind n rows i fields why lt is none h =
    let told = so (is_reason kind (take i rows) fields n) (reason_text kind fields n) why h in (
      ap (first_reason kind n) (at_place rows i fields lt is).1
          ∙ after_none kind n (take i rows) (fields ∷ drop (suc i) rows) none
          ∙ first_at kind n (take i rows) fields (drop (suc i) rows) true told.0,
      told.1,
    )
