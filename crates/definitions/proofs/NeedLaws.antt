-- What a need names: lists that stand together, and needs within needs.
use Rattle.std.proofs.Common.{◌≡◌, ℕ, Bool, true, false, ◌||◌, List, [], ◌∷◌, ◌++◌, refl, sym, ◌∙◌, bytes_eq}
use Rattle.std.specs.Prelude.{◌==◌}
use Rattle.std.specs.List.{list_any}
use Rattle.std.proofs.lemmas.List.Folds.{list_any-append}
use Rattle.definitions.specs.Bytes.{is_one_of}
use Rattle.definitions.specs.Need.{Need, Covers, nothing, together, is_number_of}
use Rattle.definitions.proofs.TextLaws.{same_text}

-- ---- what is named

pub or_left : (a b : Bool) → a ≡ true → (a || b) ≡ true
or_left true b h = refl
or_left false b h = absurd (cc)

pub or_right : (a b : Bool) → b ≡ true → (a || b) ≡ true
or_right true b h = refl
or_right false b h = h

pub in_left : (xs ys : List (List ℕ)) (t : List ℕ) → is_one_of xs t ≡ true → is_one_of (xs ++ ys) t ≡ true
in_left xs ys t h = list_any-append (bytes_eq t) xs ys ∙ or_left (list_any (bytes_eq t) xs) (list_any (bytes_eq t) ys) h

pub in_right : (xs ys : List (List ℕ)) (t : List ℕ) → is_one_of ys t ≡ true → is_one_of (xs ++ ys) t ≡ true
in_right xs ys t h = list_any-append (bytes_eq t) xs ys ∙ or_right (list_any (bytes_eq t) xs) (list_any (bytes_eq t) ys) h

pub alone : (t : List ℕ) → is_one_of (t ∷ []) t ≡ true
alone t = or_left (bytes_eq t t) false (same_text t)

pub number_left : (xs ys : List ℕ) (n : ℕ) → is_number_of xs n ≡ true → is_number_of (xs ++ ys) n ≡ true
number_left [] ys n h = absurd (cc)
number_left (x ∷ xs) ys n h = by_test (x == n) refl h (number_left xs ys n)
  where
    by_test : (b : Bool) → (x == n) ≡ b → (b || is_number_of xs n) ≡ true → (is_number_of xs n ≡ true → is_number_of (xs ++ ys) n ≡ true)
        → ((x == n) || is_number_of (xs ++ ys) n) ≡ true
    by_test true e k more = or_left (x == n) (is_number_of (xs ++ ys) n) e
    by_test false e k more = or_right (x == n) (is_number_of (xs ++ ys) n) (more k)

pub number_right : (xs ys : List ℕ) (n : ℕ) → is_number_of ys n ≡ true → is_number_of (xs ++ ys) n ≡ true
number_right [] ys n h = h
number_right (x ∷ xs) ys n h = or_right (x == n) (is_number_of (xs ++ ys) n) (number_right xs ys n h)

-- what one need names another names too
abbrev pub Within : Need → Need → Type 0
Within a b = Covers b a

pub within_left : (a b c : Need) → Within (together a b) c → Within a c
within_left a b c h = record {
  shipments = λ t k. h.shipments t (in_left a.shipments b.shipments t k);
  orders = λ t k. h.orders t (in_left a.orders b.orders t k);
  items = λ t k. h.items t (in_left a.items b.items t k);
  documents = λ n k. h.documents n (number_left a.documents b.documents n k);
}

pub within_right : (a b c : Need) → Within (together a b) c → Within b c
within_right a b c h = record {
  shipments = λ t k. h.shipments t (in_right a.shipments b.shipments t k);
  orders = λ t k. h.orders t (in_right a.orders b.orders t k);
  items = λ t k. h.items t (in_right a.items b.items t k);
  documents = λ n k. h.documents n (number_right a.documents b.documents n k);
}

pub within_itself : (a : Need) → Within a a
within_itself a = record { shipments = λ t k. k; orders = λ t k. k; items = λ t k. k; documents = λ n k. k }

-- what stands in either of two lists
pub in_either : (xs ys zs : List (List ℕ)) (t : List ℕ) → (is_one_of xs t ≡ true → is_one_of zs t ≡ true) → (is_one_of ys t ≡ true → is_one_of zs t ≡ true)
    → is_one_of (xs ++ ys) t ≡ true → is_one_of zs t ≡ true
in_either xs ys zs t f g h = by_first (is_one_of xs t) refl (sym (list_any-append (bytes_eq t) xs ys) ∙ h)
  where
    by_first : (b : Bool) → is_one_of xs t ≡ b → (b || is_one_of ys t) ≡ true → is_one_of zs t ≡ true
    by_first true e k = f e
    by_first false e k = g k

number_either : (xs ys zs : List ℕ) (n : ℕ) → (is_number_of xs n ≡ true → is_number_of zs n ≡ true) → (is_number_of ys n ≡ true → is_number_of zs n ≡ true)
    → is_number_of (xs ++ ys) n ≡ true → is_number_of zs n ≡ true
number_either [] ys zs n f g h = g h
number_either (x ∷ xs) ys zs n f g h = by_first (x == n) refl h (number_either xs ys zs n (λ k. f (or_right (x == n) (is_number_of xs n) k)) g)
  where
    by_first : (b : Bool) → (x == n) ≡ b → (b || is_number_of (xs ++ ys) n) ≡ true → (is_number_of (xs ++ ys) n ≡ true → is_number_of zs n ≡ true) → is_number_of zs n ≡ true
    by_first true e k more = f (or_left (x == n) (is_number_of xs n) e)
    by_first false e k more = more k

pub within_both : (a b c : Need) → Within a c → Within b c → Within (together a b) c
within_both a b c f g = record {
  shipments = λ t k. in_either a.shipments b.shipments c.shipments t (f.shipments t) (g.shipments t) k;
  orders = λ t k. in_either a.orders b.orders c.orders t (f.orders t) (g.orders t) k;
  items = λ t k. in_either a.items b.items c.items t (f.items t) (g.items t) k;
  documents = λ n k. number_either a.documents b.documents c.documents n (f.documents n) (g.documents n) k;
}

pub within_nothing : (c : Need) → Within nothing c
within_nothing c = record { shipments = λ t k. absurd (cc); orders = λ t k. absurd (cc); items = λ t k. absurd (cc); documents = λ n k. absurd (cc) }
