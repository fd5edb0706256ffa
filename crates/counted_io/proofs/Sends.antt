-- what two writes appended, one after the other
use Rattle.std.proofs.Common.{Result, Ok, Err, OnErr, ◌≡◌, ℕ, ◌+◌, ◌-◌, length-drop, take-take, append_assoc, append-nil, length-append, ◌≤◌, add-one, [], ◌∷◌, ◌<◌, List, ◌++◌, take, drop, Option, sym, subst, length, ◌∙◌, ap, refl, take-append-drop, arith}
use Rattle.std.proofs.lemmas.List.{drop-take, length-take-le}
use Rattle.std.proofs.Math.Seq.{take-length, take-suc}
use Rattle.std.proofs.KnownBytes.{Appends-trans, Appends-kept}
use Rattle.std.specs.Io.KnownBytes.{Appends, Keeps}
use Rattle.counted_io.specs.Gauges.{AppendsBeginning, joined}
use Rattle.std.proofs.Common.{Bor, get_or, Fits, w64, ◌^◌}

pub take_two : (bs : List ℕ) (at n : ℕ) → take (at + n) bs ≡ take at bs ++ take n (drop at bs)
take_two bs at n =
    let front : take at (take (at + n) bs) ≡ take at bs = grind (arith, take-take {A = ℕ}) in
    sym (take-append-drop at (take (at + n) bs)) ∙ ap (λ l. l ++ drop at (take (at + n) bs)) front ∙ ap (λ l. take at bs ++ l) (drop-take at n bs)

-- all that stands after a place
pub tail_is : (bs : List ℕ) (at : ℕ) → take (length bs - at) (drop at bs) ≡ drop at bs
tail_is bs at = rw (sym (length-drop at bs)) (take-length (drop at bs))

pub sent_more : (a b c : Option (List ℕ)) (bs : List ℕ) (at n : ℕ) → Appends a b (take at bs) → Appends b c (take n (take (length bs - at) (drop at bs))) → Appends a c (take (at + n) bs)
sent_more a b c bs at n p q = subst (Appends a c) (sym (take_two bs at n)) (Appends-trans a b c _ _ p (subst (λ (l : List ℕ). Appends b c (take n l)) (tail_is bs at) q))

pub beginning_taken : (a b : Option (List ℕ)) (bs : List ℕ) (n : ℕ) → n ≤ length bs → Appends a b (take n bs) → AppendsBeginning a b bs n
beginning_taken a b bs n h p = record {
  front = take n bs;
  back = drop n bs;
  whole = sym (take-append-drop n bs);
  appends = p;
  counted = sym (length-take-le n bs h);
}

pub beginning_kept : (a b c : Option (List ℕ)) (bs : List ℕ) (n : ℕ) → n ≤ length bs → Appends a b (take n bs) → Keeps b c → AppendsBeginning a c bs n
beginning_kept a b c bs n h p q = beginning_taken a c bs n h (Appends-kept a b c _ p q)

-- nothing more was taken
pub beginning_still : (a b c : Option (List ℕ)) (bs : List ℕ) (at n : ℕ) → at ≤ length bs → n ≡ 0 → Appends a b (take at bs)
    → Appends b c (take n (take (length bs - at) (drop at bs))) → AppendsBeginning a c bs at
beginning_still a b c bs at n h none p q =
    let e : at + n ≡ at = omega arith in
    beginning_taken a c bs at h (subst (λ (k : ℕ). Appends a c (take k bs)) e (sent_more a b c bs at n p q))

-- the bytes of two lists of pieces
pub joined-append : (xs ys : List (Bor (List ℕ))) → joined (xs ++ ys) ≡ joined xs ++ joined ys
joined-append [] ys = refl
joined-append (x ∷ xs) ys = ap (λ l. x.now ++ l) (joined-append xs ys) ∙ sym (append_assoc x.now (joined xs) (joined ys))

pub joined_next : (xs : List (Bor (List ℕ))) (i : ℕ) (d : Bor (List ℕ)) → i < length xs → joined (take (i + 1) xs) ≡ joined (take i xs) ++ (get_or xs i d).now
joined_next xs i d h =
    rw add-one
    (ap joined (take-suc xs i d h) ∙ joined-append (take i xs) (get_or xs i d ∷ []) ∙ ap (λ l. joined (take i xs) ++ l) (append-nil (get_or xs i d).now))

pub joined_split : (xs : List (Bor (List ℕ))) (i : ℕ) → joined xs ≡ joined (take i xs) ++ joined (drop i xs)
joined_split xs i = sym (ap joined (take-append-drop i xs)) ∙ joined-append (take i xs) (drop i xs)

-- one more piece
pub sent_piece : (a b c : Option (List ℕ)) (xs : List (Bor (List ℕ))) (i : ℕ) (d : Bor (List ℕ)) → i < length xs → Appends a b (joined (take i xs)) → Appends b c (get_or xs i d).now → Appends a c (joined (take (i + 1) xs))
sent_piece a b c xs i d h p q = subst (Appends a c) (sym (joined_next xs i d h)) (Appends-trans a b c _ _ p q)

-- a beginning of the bytes after what was written
pub beginning_more : (a b c : Option (List ℕ)) (front bytes rest whole : List ℕ) (had sent : ℕ) → whole ≡ front ++ (bytes ++ rest) → Appends a b front → had ≡ length front
    → AppendsBeginning b c bytes sent → AppendsBeginning a c whole (had + sent)
beginning_more a b c front bytes rest whole had sent e p h q = record {
  front = front ++ q.front;
  back = q.back ++ rest;
  whole = e ∙ ap (λ l. front ++ (l ++ rest)) q.whole ∙ ap (λ l. front ++ l) (append_assoc q.front q.back rest) ∙ sym (append_assoc front q.front (q.back ++ rest));
  appends = Appends-trans a b c _ _ p q.appends;
  counted = rw (h, q.counted) (sym (length-append front q.front));
}

-- how many bytes they have
pub counted_more : (xs : List (Bor (List ℕ))) (i : ℕ) (d : Bor (List ℕ)) (had : ℕ) → i < length xs → had ≡ length (joined (take i xs)) → had + length (get_or xs i d).now ≡ length (joined (take (i + 1) xs))
counted_more xs i d had h e = ap (λ n. n + length (get_or xs i d).now) e ∙ sym (ap length (joined_next xs i d h) ∙ length-append (joined (take i xs)) (get_or xs i d).now)

pub joined_from : (xs : List (Bor (List ℕ))) (i : ℕ) (d : Bor (List ℕ)) → i < length xs → joined xs ≡ joined (take i xs) ++ ((get_or xs i d).now ++ joined (drop (i + 1) xs))
joined_from xs i d h =
    joined_split xs (i + 1) ∙ ap (λ l. l ++ joined (drop (i + 1) xs)) (joined_next xs i d h)
    ∙ append_assoc (joined (take i xs)) (get_or xs i d).now (joined (drop (i + 1) xs))

-- a fact holds on an error too
pub on_err : {A E P : Type 0} (r : Result A E) → P → OnErr r P
on_err (Ok x) p = tt
on_err (Err e) p = p

-- as long as the length of all of them fits, that of those so far does, with one more or a
-- beginning of it
pub piece_fits : (xs : List (Bor (List ℕ))) (i : ℕ) (d : Bor (List ℕ)) (had : ℕ) → i < length xs → had ≡ length (joined (take i xs)) → length (joined xs) < 2 ^ 64
    → Fits w64 (had + length (get_or xs i d).now)
piece_fits xs i d had h counted fits =
    let e : length (joined xs) ≡ length (joined (take i xs)) + (length (get_or xs i d).now + length (joined (drop (i + 1) xs))) =
    ap length (joined_from xs i d h) ∙ (simp length-append refl) in
    omega arith

pub beginning_fits : (a b : Option (List ℕ)) (xs : List (Bor (List ℕ))) (i : ℕ) (d : Bor (List ℕ)) (had sent : ℕ) → i < length xs → had ≡ length (joined (take i xs)) → length (joined xs) < 2 ^ 64
    → AppendsBeginning a b (get_or xs i d).now sent → Fits w64 (had + sent)
beginning_fits a b xs i d had sent h counted fits p =
    let all = piece_fits xs i d had h counted fits in
    let e : length (get_or xs i d).now ≡ length p.front + length p.back = ap length p.whole ∙ length-append p.front p.back in
    let n = p.counted in
    omega arith
