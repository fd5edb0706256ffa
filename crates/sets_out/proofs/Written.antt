-- What is written can be cut again, where no separator and no terminator stands in what was handed
-- over.
use Rattle.std.proofs.Common.{◌≡◌, ℕ, ◌+◌, true, false, List, [], ◌∷◌, ◌++◌, length, map, refl, ap, Option, Some, None}
use Rattle.std.specs.Prelude.{codes, decimal, ◌||◌, ◌==◌, IsTrue, flat_map}
use Rattle.std.specs.List.{list_all, AllByRecursion, enumerate_from}
use Rattle.std.specs.Cmp.Derive.{both_true}
use Rattle.definitions.specs.Bytes.{Delims, is_line_end, is_identifier_byte, is_alphanumeric, zero_filled}
use Rattle.definitions.specs.Cut.{Segment, IsWritten, is_inside}
use Rattle.definitions.specs.Header.{Who, is_partner, are_delimiters}
use Rattle.definitions.specs.Moments.{Moment, date8, time4}
use Rattle.definitions.specs.Texts.{set_of_segments, sets_of_segments, group_of_sets}
use Rattle.definitions.proofs.TextLaws.{both_parts, all_in}
use Rattle.sets_out.specs.Headings.{Heading, ta1_of}
use Rattle.sets_out.specs.Inside.{IsInside, IsHeadingInside}
use Rattle.sets_out.proofs.Inside.{is_plain, inside_plain, inside_identifier, inside_decimal, inside_zero_filled, inside_date8, inside_time4}

-- segments

-- elements in which nothing of the kind stands
pub record AreInside (d : Delims) (es : List (List ℕ)) : Type 0 where
  pub all : IsTrue (list_all (list_all (is_inside d)) es)

abbrev pub AreWritten : Delims → List Segment → Type 0
AreWritten d ss = AllByRecursion (IsWritten d) ss

pub done : (d : Delims) → AreInside d []
done d = record { all = refl }

-- one element more in front
pub with : {es : List (List ℕ)} (d : Delims) (e : List ℕ) → IsInside d e → AreInside d es → AreInside d (e ∷ es)
with d e h k = record { all = both_true h k.all }

-- an element that is always the same
pub fixed : {es : List (List ℕ)} (d : Delims) → are_delimiters d ≡ true → (e : List ℕ) → IsTrue (list_all is_plain e) → AreInside d es → AreInside d (e ∷ es)
fixed d g e p h = with d e (inside_plain d g e p) h

pub number : {es : List (List ℕ)} (d : Delims) → are_delimiters d ≡ true → (n : ℕ) → AreInside d es → AreInside d (decimal n ∷ es)
number d g n h = with d (decimal n) (inside_decimal d g n) h

pub filled : {es : List (List ℕ)} (d : Delims) → are_delimiters d ≡ true → (w n : ℕ) → AreInside d es → AreInside d (zero_filled w n ∷ es)
filled d g w n h = with d (zero_filled w n) (inside_zero_filled d g w n) h

-- an id, which begins with no CR and no LF
abbrev pub IsName : List ℕ → Type 0
IsName [] = ⊥
IsName (b ∷ bs) = (is_line_end b ≡ false) × IsTrue (list_all is_plain (b ∷ bs))

pub named : {es : List (List ℕ)} (d : Delims) → are_delimiters d ≡ true → (id : List ℕ) → IsName id → AreInside d es → IsWritten d (id ∷ es)
named d g [] n h = absurd n
named d g (b ∷ id) n h = (both_true (inside_plain d g (b ∷ id) n.1) h.all, n.0)

-- lists

pub all_both : {X : Type 0} (P : X → Type 0) (xs ys : List X) → AllByRecursion P xs → AllByRecursion P ys → AllByRecursion P (xs ++ ys)
all_both P [] ys h k = k
all_both P (x ∷ xs) ys h k = (h.0, all_both P xs ys h.1 k)

pub all_flat : {X : Type 0} (d : Delims) (P : X → Type 0) (f : X → List Segment) → ((x : X) → P x → AreWritten d (f x)) → (xs : List X) → AllByRecursion P xs → AreWritten d (flat_map f xs)
all_flat d P f each [] h = tt
all_flat d P f each (x ∷ xs) h = all_both (IsWritten d) (f x) (flat_map f xs) (each x h.0) (all_flat d P f each xs h.1)

pub all_numbered : {X : Type 0} (d : Delims) (P : X → Type 0) (f : ℕ → X → List Segment) → ((n : ℕ) (x : X) → P x → AreWritten d (f n x)) → (n : ℕ) (xs : List X) → AllByRecursion P xs
    → AreWritten d (flat_map (λ (p : ℕ × X). f p.0 p.1) (enumerate_from n xs))
all_numbered d P f each n [] h = tt
all_numbered {X} d P f each n (x ∷ xs) h =
    all_both (IsWritten d) (f n x) (flat_map (λ (p : ℕ × X). f p.0 p.1) (enumerate_from (n + 1) xs)) (each n x h.0) (all_numbered d P f each (n + 1) xs h.1)

pub all_map : {X : Type 0} (d : Delims) (P : X → Type 0) (f : X → Segment) → ((x : X) → P x → IsWritten d (f x)) → (xs : List X) → AllByRecursion P xs → AreWritten d (map f xs)
all_map d P f each [] h = tt
all_map d P f each (x ∷ xs) h = (each x h.0, all_map d P f each xs h.1)

-- sets and groups

pub set_written : (d : Delims) → are_delimiters d ≡ true → (set : List ℕ) (place : ℕ) (body : List Segment) → IsInside d set → AreWritten d body
    → AreWritten d (set_of_segments set place body)
set_written d g set place body i h = (
  named d g (codes "ST") (refl, refl) (with d set i (filled d g 4 place (done d))),
  all_both (IsWritten d) body _ h (named d g (codes "SE") (refl, refl) (number d g (length body + 2) (filled d g 4 place (done d))), tt),
)

abbrev pub Partner : Who → Type 0
Partner w = is_partner w ≡ true

pub partner_id : (w : Who) → Partner w → list_all is_identifier_byte w.id ≡ true
partner_id w h = let p = both_parts _ _ h in (both_parts _ _ p.1).1

pub partner_qualifier : (w : Who) → Partner w → list_all is_identifier_byte w.qualifier ≡ true
partner_qualifier w h =
    let p = both_parts _ _ h in
    all_in is_alphanumeric is_identifier_byte (λ b k. ap (λ x. x || b == 45 || b == 46) k) w.qualifier (both_parts _ _ p.0).1

pub group_written : (d : Delims) → are_delimiters d ≡ true → (W w : Who) (t : Moment) (n : ℕ) (function set : List ℕ) (bodies : List (List Segment)) → Partner W → Partner w
    → IsInside d function → IsInside d set → AllByRecursion (AreWritten d) bodies → AreWritten d (group_of_sets W w t n function set bodies)
group_written d g W w t n function set bodies p q i j h = (
  named d g (codes "GS") (refl, refl)
      (with d function i (with d W.id (inside_identifier d g W.id (partner_id W p)) (with d w.id (inside_identifier d g w.id (partner_id w q))
      (with d (date8 t) (inside_date8 d g t) (with d (time4 t) (inside_time4 d g t) (number d g n (fixed d g (codes "X") refl (fixed d g (codes "004010") refl (done d))))))))),
  all_both (IsWritten d) (sets_of_segments set bodies) _ (all_numbered d (AreWritten d) (set_of_segments set) (λ place body k. set_written d g set place body j k) 1 bodies h)
      (named d g (codes "GE") (refl, refl) (number d g (length bodies) (number d g n (done d))), tt),
)

-- TA1

pub ta1_written : (d : Delims) → are_delimiters d ≡ true → (h : Heading) (note : Option ℕ) → IsHeadingInside d h → IsWritten d (ta1_of h note)
ta1_written d g h None i = named d g (codes "TA1") (refl, refl)
    (with d h.control i.0 (with d h.date i.1 (with d h.time i.2 (fixed d g (codes "A") refl (fixed d g (codes "000") refl (done d))))))
ta1_written d g h (Some note) i = named d g (codes "TA1") (refl, refl)
    (with d h.control i.0 (with d h.date i.1 (with d h.time i.2 (fixed d g (codes "R") refl (filled d g 3 note (done d))))))
