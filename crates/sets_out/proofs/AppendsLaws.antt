-- Appends one after the other.
use Rattle.std.proofs.Common.{◌≡◌, ℕ, ◌+◌, ◌<◌, ◌≤◌, List, [], ◌∷◌, ◌++◌, length, take, get_or, map, refl, sym, subst, ◌∙◌, append_assoc, arith, length-append, false}
use Rattle.std.proofs.lemmas.List.{append-nil, length-map, take_all, take_more, map_more}
use Rattle.std.proofs.lemmas.Grind.{flat_map-append}
use Rattle.definitions.specs.Bytes.{Delims}
use Rattle.definitions.specs.Cut.{Segment, spelled}
use Rattle.std.specs.Prelude.{codes, decimal, flat_map, ◌==◌}
use Rattle.definitions.specs.Bytes.{zero_filled}
use Rattle.definitions.specs.Header.{Who}
use Rattle.definitions.specs.Moments.{Moment, date8, time4}
use Rattle.definitions.specs.Texts.{Receiver, Told, body_997, set_of_segments, sets_of_segments, group_of_sets, isa_segment, interchange}
use Rattle.segments.specs.Extends.{Extends}
use Rattle.segments.proofs.ExtendsLemmas.{extends_append}
use Rattle.sets_out.specs.Appends.{Writes}
use Rattle.sets_out.specs.Interchanges.{answers_group}

-- what is appended stands after what stood before
pub extends_by : (a b s : List ℕ) → b ≡ a ++ s → Extends a b
extends_by a b s e = rw e (extends_append a s)

-- nothing was appended
pub extends_same : (a : List ℕ) → Extends a a
extends_same a = extends_by a a [] (sym (append-nil a))

pub appends_none : (d : Delims) (a : List ℕ) → Writes d a a [] 0
appends_none d a = record { text = sym (append-nil a); count = refl; room = omega arith }

pub appends_one : (d : Delims) (a b : List ℕ) (s : Segment) → b ≡ a ++ spelled d s → Writes d a b (s ∷ []) 1
appends_one d a b s e = record {
  text = rw append-nil e;
  count = refl;
  room = rw (e, length-append, length-append) (omega arith);
}

pub appends_then : (d : Delims) (a b c : List ℕ) (ss ts : List Segment) (m n : ℕ) → Writes d a b ss m → Writes d b c ts n → Writes d a c (ss ++ ts) (m + n)
appends_then d a b c ss ts m n h k = record {
  text = k.text ∙ rw (h.text, append_assoc, flat_map-append (spelled d) ss ts) refl;
  count = rw (h.count, k.count, length-append) refl;
  room = omega (arith, h.room, k.room);
}

-- the segments of one element more, after those of the elements before it
pub appends_more : {X : Type 0} (d : Delims) (f : X → List Segment) (xs : List X) (i : ℕ) (x : X) (a b c : List ℕ) (m n : ℕ)
    → i < length xs → x ≡ get_or xs i x
    → Writes d a b (flat_map f (take i xs)) m → Writes d b c (f x) n → Writes d a c (flat_map f (take (i + 1) xs)) (m + n)
appends_more d f xs i x a b c m n h e told one =
    let more : flat_map f (take (i + 1) xs) ≡ flat_map f (take i xs) ++ f x =
    rw (take_more xs i x h, ← e, flat_map-append f (take i xs) (x ∷ []), append-nil (f x)) refl in
    let P : List Segment → Type 0 = λ s. Writes d a c s (m + n) in
    subst P (sym more) (appends_then d a b c _ _ m n told one)

-- and where each element has one segment
pub appends_more_one : {X : Type 0} (d : Delims) (f : X → Segment) (xs : List X) (i : ℕ) (x : X) (a b c : List ℕ) (m n : ℕ)
    → i < length xs → x ≡ get_or xs i x
    → Writes d a b (map f (take i xs)) m → Writes d b c (f x ∷ []) n → Writes d a c (map f (take (i + 1) xs)) (m + n)
appends_more_one d f xs i x a b c m n h e told one =
    let more : map f (take (i + 1) xs) ≡ map f (take i xs) ++ f x ∷ [] = rw (map_more f xs i x h, ← e) refl in
    let P : List Segment → Type 0 = λ s. Writes d a c s (m + n) in
    subst P (sym more) (appends_then d a b c _ _ m n told one)

-- the elements before the last place are all
pub appends_all : {X : Type 0} (d : Delims) (f : X → List Segment) (xs : List X) (i : ℕ) (a b : List ℕ) (m : ℕ)
    → length xs ≤ i → Writes d a b (flat_map f (take i xs)) m → Writes d a b (flat_map f xs) m
appends_all {X} d f xs i a b m h told =
    let P : List X → Type 0 = λ ys. Writes d a b (flat_map f ys) m in
    subst P (take_all i xs h) told

pub appends_all_one : {X : Type 0} (d : Delims) (f : X → Segment) (xs : List X) (i : ℕ) (a b : List ℕ) (m : ℕ)
    → length xs ≤ i → Writes d a b (map f (take i xs)) m → Writes d a b (map f xs) m
appends_all_one {X} d f xs i a b m h told =
    let P : List X → Type 0 = λ ys. Writes d a b (map f ys) m in
    subst P (take_all i xs h) told

-- ST, a body and SE make a set
pub appends_set : (d : Delims) (a b c e number : List ℕ) (place : ℕ) (body : List Segment) (m n k : ℕ)
    → Writes d a b ((codes "ST" ∷ number ∷ zero_filled 4 place ∷ []) ∷ []) m
    → Writes d b c body n
    → Writes d c e ((codes "SE" ∷ decimal (n + 2) ∷ zero_filled 4 place ∷ []) ∷ []) k
    → Writes d a e (set_of_segments number place body) (n + 2)
appends_set d a b c e number place body m n k st h se =
    let whole = appends_then d a b e _ _ m (n + k) st (appends_then d b c e body _ n k h se) in
    let two : m + (n + k) ≡ n + 2 = omega (arith, st.count, se.count) in
    let counted : ℕ → List Segment = λ x. (codes "ST" ∷ number ∷ zero_filled 4 place ∷ []) ∷ (body ++ (codes "SE" ∷ decimal (x + 2) ∷ zero_filled 4 place ∷ []) ∷ []) in
    let P : ℕ → Type 0 = λ x. Writes d a e (counted n) x in
    let Q : ℕ → Type 0 = λ x. Writes d a e (counted x) (n + 2) in
    subst Q h.count (subst P two whole)

-- ISA, what stands between, and IEA make an interchange
pub appends_interchange : (d : Delims) (a b c e : List ℕ) (W : Who) (r : Receiver) (t : Moment) (n groups : ℕ) (between : List Segment) (k m p : ℕ)
    → Writes d a b (isa_segment d W r t n ∷ []) k
    → Writes d b c between m
    → Writes d c e ((codes "IEA" ∷ decimal groups ∷ zero_filled 9 n ∷ []) ∷ []) p
    → e ≡ a ++ interchange d W r t n between groups
appends_interchange d a b c e W r t n groups between k m p isa h iea =
    (appends_then d a b e (isa_segment d W r t n ∷ []) _ k _ isa (appends_then d b c e between _ m p h iea)).text

-- GS, one set and GE make a group
pub appends_group : (d : Delims) (a b c e : List ℕ) (W w : Who) (t : Moment) (n : ℕ) (function number : List ℕ) (body : List Segment) (k m p : ℕ)
    → Writes d a b ((codes "GS" ∷ function ∷ W.id ∷ w.id ∷ date8 t ∷ time4 t ∷ decimal n ∷ codes "X" ∷ codes "004010" ∷ []) ∷ []) k
    → Writes d b c (set_of_segments number 1 body) m
    → Writes d c e ((codes "GE" ∷ decimal 1 ∷ decimal n ∷ []) ∷ []) p
    → Writes d a e (group_of_sets W w t n function number (body ∷ [])) (k + m + p)
appends_group d a b c e W w t n function number body k m p gs h ge =
    let P : List Segment → Type 0 = λ x. Writes d b c x m in
    let sets : Writes d b c (sets_of_segments number (body ∷ [])) m = subst P (sym (append-nil (set_of_segments number 1 body))) h in
    appends_then d a c e ((codes "GS" ∷ function ∷ W.id ∷ w.id ∷ date8 t ∷ time4 t ∷ decimal n ∷ codes "X" ∷ codes "004010" ∷ []) ∷ sets_of_segments number (body ∷ [])) _ (k + m) p
    (appends_then d a b c _ (sets_of_segments number (body ∷ [])) k m gs sets) ge

-- GS, a 997 for each group that is told something, and GE
pub appends_answers : (d : Delims) (a b c e : List ℕ) (W w : Who) (t : Moment) (n : ℕ) (ts : List Told) (k m p : ℕ) → (length ts == 0) ≡ false
    → Writes d a b ((codes "GS" ∷ codes "FA" ∷ W.id ∷ w.id ∷ date8 t ∷ time4 t ∷ decimal n ∷ codes "X" ∷ codes "004010" ∷ []) ∷ []) k
    → Writes d b c (sets_of_segments (codes "997") (map body_997 ts)) m
    → Writes d c e ((codes "GE" ∷ decimal (length ts) ∷ decimal n ∷ []) ∷ []) p
    → Writes d a e (answers_group W w t n ts) (k + m + p)
appends_answers d a b c e W w t n ts k m p some gs sets ge =
    let P : ℕ → Type 0 = λ x. Writes d c e ((codes "GE" ∷ decimal x ∷ decimal n ∷ []) ∷ []) p in
    let last : P (length (map body_997 ts)) = rw length-map ge in
    rw some (appends_then d a c e ((codes "GS" ∷ codes "FA" ∷ W.id ∷ w.id ∷ date8 t ∷ time4 t ∷ decimal n ∷ codes "X" ∷ codes "004010" ∷ []) ∷ sets_of_segments (codes "997") (map body_997 ts)) _ (k + m) p
    (appends_then d a b c _ _ k m gs sets) last)
