-- Bytes that were printed, or a beginning of them.
use Rattle.std.proofs.Common.{◌≡◌, ◌∙◌, ℕ, ◌+◌, ◌-◌, ◌<◌, List, [], ◌∷◌, ◌++◌, Option, Some, None, Result, Ok, Err, OnErr, OnOk, length, take, drop, get_or, flat_map, sym, ap, subst, arith, append-nil, append_assoc, length-drop, take-take, take-append-drop}
use Rattle.std.proofs.lemmas.List.{drop-take, take_more}
use Rattle.std.proofs.lemmas.Grind.{flat_map-append}
use Rattle.std.proofs.Math.Seq.{take-length}
use Rattle.std.proofs.KnownBytes.{Appends-trans, Appends-kept}
use Rattle.std.specs.Io.KnownBytes.{Appends, Keeps}
use Rattle.std.specs.declared.io.Error.{Error}
use Rattle.commands.specs.Failures.{CountsIf, WasRefused}
use Rattle.commands.specs.Printing.{AppendsFront}

take_two : (bs : List ℕ) (at n : ℕ) → take (at + n) bs ≡ take at bs ++ take n (drop at bs)
take_two bs at n =
    let front : take at (take (at + n) bs) ≡ take at bs = grind (arith, take-take {A = ℕ}) in
    sym (take-append-drop at (take (at + n) bs)) ∙ ap (λ l. l ++ drop at (take (at + n) bs)) front ∙ ap (λ l. take at bs ++ l) (drop-take at n bs)

tail_is : (bs : List ℕ) (at : ℕ) → take (length bs - at) (drop at bs) ≡ drop at bs
tail_is bs at = rw (sym (length-drop at bs)) (take-length (drop at bs))

-- so many more were printed
pub printed_more : (a b c : Option (List ℕ)) (bs : List ℕ) (at n : ℕ) → Appends a b (take at bs) → Appends b c (take n (take (length bs - at) (drop at bs))) → Appends a c (take (at + n) bs)
printed_more a b c bs at n p q = subst (Appends a c) (sym (take_two bs at n)) (Appends-trans a b c _ _ p (subst (λ (l : List ℕ). Appends b c (take n l)) (tail_is bs at) q))

front_taken : (a b : Option (List ℕ)) (bs : List ℕ) (n : ℕ) → Appends a b (take n bs) → AppendsFront a b bs
front_taken a b bs n p = record { front = take n bs; back = drop n bs; whole = sym (take-append-drop n bs); appends = p }

-- the writer gave an error
pub front_kept : (a b c : Option (List ℕ)) (bs : List ℕ) (n : ℕ) → Appends a b (take n bs) → Keeps b c → AppendsFront a c bs
front_kept a b c bs n p q = front_taken a c bs n (Appends-kept a b c _ p q)

-- the writer took so many, which are none
pub front_still : (a b c : Option (List ℕ)) (bs : List ℕ) (at n : ℕ) → Appends a b (take at bs) → Appends b c (take n (take (length bs - at) (drop at bs))) → AppendsFront a c bs
front_still a b c bs at n p q = front_taken a c bs (at + n) (printed_more a b c bs at n p q)

-- a beginning of the first of two, or the first and a beginning of the second
pub front_first : (a b : Option (List ℕ)) (xs ys : List ℕ) → AppendsFront a b xs → AppendsFront a b (xs ++ ys)
front_first a b xs ys h = record {
  front = h.front;
  back = h.back ++ ys;
  whole = ap (λ l. l ++ ys) h.whole ∙ append_assoc h.front h.back ys;
  appends = h.appends;
}

pub front_second : (a b c : Option (List ℕ)) (xs ys : List ℕ) → Appends a b xs → AppendsFront b c ys → AppendsFront a c (xs ++ ys)
front_second a b c xs ys p h = record {
  front = xs ++ h.front;
  back = h.back;
  whole = ap (λ l. xs ++ l) h.whole ∙ sym (append_assoc xs h.front h.back);
  appends = Appends-trans a b c _ _ p h.appends;
}

-- all of it is a beginning, and so is nothing
pub front_all : (a b : Option (List ℕ)) (xs : List ℕ) → Appends a b xs → AppendsFront a b xs
front_all a b xs p = record { front = xs; back = []; whole = sym (append-nil xs); appends = p }

-- Things that are printed one after the other, each by its bytes.

bytes_more : {X : Type 0} (f : X → List ℕ) (xs : List X) (i : ℕ) (d : X) → i < length xs → flat_map f (take (i + 1) xs) ≡ flat_map f (take i xs) ++ f (get_or xs i d)
bytes_more f xs i d h =
    ap (flat_map f) (take_more xs i d h) ∙ flat_map-append f (take i xs) (get_or xs i d ∷ []) ∙ ap (λ (l : List ℕ). flat_map f (take i xs) ++ l) (append-nil (f (get_or xs i d)))

pub item_more : {X : Type 0} (f : X → List ℕ) (a b c : Option (List ℕ)) (xs : List X) (i : ℕ) (d : X) → i < length xs → Appends a b (flat_map f (take i xs)) → Appends b c (f (get_or xs i d))
    → Appends a c (flat_map f (take (i + 1) xs))
item_more f a b c xs i d h p q = subst (Appends a c) (sym (bytes_more f xs i d h)) (Appends-trans a b c _ _ p q)

-- a beginning of one more was printed
pub item_front : {X : Type 0} (f : X → List ℕ) (a b c : Option (List ℕ)) (xs : List X) (i : ℕ) (d : X) → i < length xs → Appends a b (flat_map f (take i xs)) → AppendsFront b c (f (get_or xs i d))
    → AppendsFront a c (flat_map f xs)
item_front f a b c xs i d h p q =
    let rest = flat_map f (drop (i + 1) xs) in
    let whole : flat_map f xs ≡ (flat_map f (take i xs) ++ f (get_or xs i d)) ++ rest =
    sym (ap (flat_map f) (take-append-drop (i + 1) xs)) ∙ flat_map-append f (take (i + 1) xs) (drop (i + 1) xs)
    ∙ ap (λ (l : List ℕ). l ++ rest) (bytes_more f xs i d h) in
    subst (AppendsFront a c) (sym whole) (front_first a c _ rest (front_second a b c _ _ p q))

-- what holds, holds at an error, and else
pub on_err : {T E : Type 0} {P : Type 0} (r : Result T E) → P → OnErr r P
on_err (Ok x) p = tt
on_err (Err e) p = p

pub on_ok : {T E : Type 0} {P : Type 0} (r : Result T E) → P → OnOk r P
on_ok (Ok x) p = p
on_ok (Err e) p = tt

-- Writes that were counted.

pub quiet_on : (a b c : Option ℕ) (n : ℕ) → b ≡ a → CountsIf {E = Error} (Ok n) b c → 0 < n → c ≡ a
quiet_on (Some a) (Some b) (Some c) n is counts some = ap Some (counts.1 some) ∙ is
quiet_on None None None n is counts some = is
quiet_on (Some a) (Some b) None n is counts some = sym counts ∙ is
quiet_on (Some a) None c n is counts some = sym counts ∙ is
quiet_on None (Some b) (Some c) n is counts some = ap Some (counts.1 some) ∙ is
quiet_on None (Some b) None n is counts some = sym counts ∙ is
quiet_on None None (Some c) n is counts some = sym counts ∙ is

pub refused_from : (a b c : Option ℕ) → b ≡ a → WasRefused b c → WasRefused a c
refused_from a b c is h = subst (λ (k : Option ℕ). WasRefused k c) is h

refused_err : (b c : Option ℕ) (e : Error) → CountsIf (Err e) b c → WasRefused b c
refused_err (Some b) (Some c) e h = h
refused_err (Some b) None e h = tt
refused_err None c e h = tt

pub refused_on : (a b c : Option ℕ) (e : Error) → b ≡ a → CountsIf (Err e) b c → WasRefused a c
refused_on a b c e is h = refused_from a b c is (refused_err b c e h)

refused_none : (b c : Option ℕ) (n : ℕ) → n ≡ 0 → CountsIf {E = Error} (Ok n) b c → WasRefused b c
refused_none (Some b) (Some c) n none h = h.0 none
refused_none (Some b) None n none h = tt
refused_none None c n none h = tt

pub refused_zero : (a b c : Option ℕ) (n : ℕ) → b ≡ a → n ≡ 0 → CountsIf {E = Error} (Ok n) b c → WasRefused a c
refused_zero a b c n is none h = refused_from a b c is (refused_none b c n none h)
