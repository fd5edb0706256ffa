-- Lists that are gone through with a number for each element.
use Rattle.std.proofs.Common.{◌≡◌, ℕ, ◌+◌, ◌<◌, List, [], ◌∷◌, ◌++◌, map, length, take, get_or, refl, append_assoc, arith, length-take}
use Rattle.std.specs.Prelude.{flat_map}
use Rattle.std.specs.List.{enumerate_from}
use Rattle.std.proofs.lemmas.List.{append-nil, length-map, map_more, take_more}

-- one element more
enumerate_snoc : {X Y : Type 0} (g : (ℕ × X) → List Y) (n m : ℕ) (xs : List X) (x : X) → m ≡ n + length xs
    → flat_map g (enumerate_from n (xs ++ x ∷ [])) ≡ flat_map g (enumerate_from n xs) ++ g (m, x)
enumerate_snoc g n m [] x e =
    let same : m ≡ n = omega (arith, e) in
    rw (same, append-nil) refl
enumerate_snoc g n m (y ∷ xs) x e =
    let further : m ≡ n + 1 + length xs = omega (arith, e) in
    rw (enumerate_snoc g (n + 1) m xs x further, append_assoc) refl

pub numbered_more : {X Y A : Type 0} (g : (ℕ × X) → List Y) (f : A → X) (all : List A) (i : ℕ) (a : A) → i < length all → a ≡ get_or all i a
    → flat_map g (enumerate_from 1 (map f (take (i + 1) all))) ≡ flat_map g (enumerate_from 1 (map f (take i all))) ++ g (i + 1, f a)
numbered_more g f all i a h e =
    let counted : i + 1 ≡ 1 + length (map f (take i all)) = grind (arith, length-take, length-map) in
    rw (map_more f all i a h, ← e) (enumerate_snoc g 1 (i + 1) (map f (take i all)) (f a) counted)

pub numbered_next : {X Y : Type 0} (g : (ℕ × X) → List Y) (all : List X) (i : ℕ) (x : X) → i < length all → x ≡ get_or all i x
    → flat_map g (enumerate_from 1 (take (i + 1) all)) ≡ flat_map g (enumerate_from 1 (take i all)) ++ g (i + 1, x)
numbered_next g all i x h e =
    let counted : i + 1 ≡ 1 + length (take i all) = grind (arith, length-take) in
    rw (take_more all i x h, ← e) (enumerate_snoc g 1 (i + 1) (take i all) x counted)
