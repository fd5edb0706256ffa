-- The least fault in one pass, and as a relation.
use Rattle.std.proofs.Common.{◌≡◌, ℕ, ◌+◌, ◌-◌, Bool, true, false, List, [], ◌∷◌, ◌++◌, map, length, Some, None, Option, unwrap_or, refl, ap, sym, ◌∙◌, arith, length-append, append_assoc, append-nil, cond}
use Rattle.std.specs.Prelude.{slice_get}
use Rattle.std.proofs.lemmas.List.Sums.{fold-append}
use Rattle.definitions.specs.declared.rules.Rules.{Rules}
use Rattle.definitions.specs.Bytes.{Delims}
use Rattle.definitions.specs.Lists.{or_else}
use Rattle.definitions.specs.Cut.{Segment, id_of, last_segment}
use Rattle.definitions.specs.Words.{Words, has_word, words_after, words_after_all, is_viable, IsViable}
use Rattle.definitions.specs.Faults.{SetFault, inner_fault, place_fault, segment_fault, least_fault, set_fault, fault_from, IsSetFault, IsOutOfPlace}
use Rattle.definitions.proofs.WordsLaws.{viable_to, viable_from}

after_snoc : (w : Words) (before : List Segment) (s : Segment) → words_after_all w (map id_of (before ++ s ∷ [])) ≡ words_after (id_of s) (words_after_all w (map id_of before))
after_snoc w [] s = refl
after_snoc w (b ∷ bs) s = after_snoc (words_after (id_of b) w) bs s

get_after : (before : List Segment) (s : Segment) → slice_get (before ++ s ∷ []) (length before) ≡ Some s
get_after [] s = refl
get_after (b ∷ bs) s = get_after bs s

last_snoc : (before : List Segment) (s : Segment) → last_segment (before ++ s ∷ []) ≡ s
last_snoc before s =
    let n : length (before ++ s ∷ []) - 1 ≡ length before = omega (arith, length-append before (s ∷ [])) in
    ap (λ k. unwrap_or (slice_get (before ++ s ∷ []) k) []) n ∙ ap (λ o. unwrap_or o []) (get_after before s)

length_snoc : (before : List Segment) (s : Segment) → length (before ++ s ∷ []) + 1 ≡ (length before + 1) + 1
length_snoc before s = omega (arith, length-append before (s ∷ []))

pub least_fault-from : (rules : Rules) (d : Delims) (words : Words) (before ss : List Segment)
    → least_fault rules d words before ss ≡ fault_from rules d words (words_after_all words (map id_of before)) (id_of (last_segment before)) (length before + 1) ss
least_fault-from rules d words before [] = refl
least_fault-from rules d words before (s ∷ ss) = ap (λ r. or_else (segment_fault rules d words before s) r)
    (least_fault-from rules d words (before ++ s ∷ []) ss
    ∙ ap (λ r. fault_from rules d words r (id_of (last_segment (before ++ s ∷ []))) (length (before ++ s ∷ []) + 1) ss) (after_snoc words before s)
    ∙ ap (λ b. fault_from rules d words (words_after (id_of s) (words_after_all words (map id_of before))) (id_of b) (length (before ++ s ∷ []) + 1) ss) (last_snoc before s)
    ∙ ap (λ n. fault_from rules d words (words_after (id_of s) (words_after_all words (map id_of before))) (id_of s) n ss) (length_snoc before s))

-- the fault of a set, in one pass
pub set_fault-from : (rules : Rules) (d : Delims) (words : Words) (ss : List Segment) → set_fault rules d words ss ≡ fault_from rules d words words [] 1 ss
set_fault-from rules d words ss = least_fault-from rules d words [] ss

-- ---- places

after-viable : (words : Words) (before : List Segment) (s : Segment)
    → has_word (words_after (id_of s) (words_after_all words (map id_of before))) ≡ is_viable words (map id_of before ++ id_of s ∷ [])
after-viable words before s =
    sym (ap has_word (fold-append (λ (v : Words) (id : List ℕ). words_after id v) words (map id_of before) (id_of s ∷ [])))

-- a segment whose id and those before it begin a word has the fault of its elements, if there is
-- one
pub segment_fault-in_place : (rules : Rules) (d : Delims) (words : Words) (before : List Segment) (s : Segment) → IsViable words (map id_of before ++ id_of s ∷ [])
    → segment_fault rules d words before s ≡ inner_fault rules d (id_of (last_segment before)) (length before + 1) s
segment_fault-in_place rules d words before s v =
    ap (λ b. cond b (inner_fault rules d (id_of (last_segment before)) (length before + 1) s) (Some (place_fault rules words (words_after_all words (map id_of before)) (length before + 1) (id_of s))))
    (after-viable words before s ∙ viable_from words (map id_of before ++ id_of s ∷ []) v)

-- and one whose id and those before it begin none is out of place
pub segment_fault-out_of_place : (rules : Rules) (d : Delims) (words : Words) (before : List Segment) (s : Segment) → IsOutOfPlace words before s
    → segment_fault rules d words before s ≡ Some (place_fault rules words (words_after_all words (map id_of before)) (length before + 1) (id_of s))
segment_fault-out_of_place rules d words before s out =
    ap (λ b. cond b (inner_fault rules d (id_of (last_segment before)) (length before + 1) s) (Some (place_fault rules words (words_after_all words (map id_of before)) (length before + 1) (id_of s))))
    (after-viable words before s ∙ by_test (is_viable words (map id_of before ++ id_of s ∷ [])) refl)
  where
    by_test : (b : Bool) → is_viable words (map id_of before ++ id_of s ∷ []) ≡ b → b ≡ false
    by_test true e = absurd (out (viable_to words (map id_of before ++ id_of s ∷ []) e))
    by_test false e = refl

-- ---- the first fault

pub record IsFirst (rules : Rules) (d : Delims) (words : Words) (earlier ss : List Segment) (f : SetFault) : Type 0 where
  pub before : List Segment
  pub here : Segment
  pub after : List Segment
  pub parts : ss ≡ before ++ here ∷ after
  pub good : least_fault rules d words earlier before ≡ None
  pub fault : segment_fault rules d words (earlier ++ before) here ≡ Some f

first_is : (rules : Rules) (d : Delims) (words : Words) (earlier ss : List Segment) (f : SetFault) → least_fault rules d words earlier ss ≡ Some f → IsFirst rules d words earlier ss f
first_is rules d words earlier [] f h = absurd (cc)
first_is rules d words earlier (s ∷ ss) f h = by_fault (segment_fault rules d words earlier s) refl h (first_is rules d words (earlier ++ s ∷ []) ss f)
  where
    by_fault : (o : Option SetFault) → segment_fault rules d words earlier s ≡ o → or_else o (least_fault rules d words (earlier ++ s ∷ []) ss) ≡ Some f
        → (least_fault rules d words (earlier ++ s ∷ []) ss ≡ Some f → IsFirst rules d words (earlier ++ s ∷ []) ss f) → IsFirst rules d words earlier (s ∷ ss) f
    by_fault (Some g) e k more = record {
      before = [];
      here = s;
      after = ss;
      parts = refl;
      good = refl;
      fault = rw (append-nil earlier) (e ∙ k);
    }
    by_fault None e k more = let r = more k in record {
      before = s ∷ r.before;
      here = r.here;
      after = r.after;
      parts = ap (λ x. s ∷ x) r.parts;
      good = ap (λ o. or_else o (least_fault rules d words (earlier ++ s ∷ []) r.before)) e ∙ r.good;
      fault = ap (λ x. segment_fault rules d words x r.here) (sym (append_assoc earlier (s ∷ []) r.before)) ∙ r.fault;
    }

-- the fault of a set is that of its first segment with one
pub set_fault-is : (rules : Rules) (d : Delims) (words : Words) (ss : List Segment) (f : SetFault) → set_fault rules d words ss ≡ Some f → IsSetFault rules d words ss f
set_fault-is rules d words ss f h = let r = first_is rules d words [] ss f h in
    record { before = r.before; here = r.here; after = r.after; parts = r.parts; good = r.good; fault = r.fault }

front : (rules : Rules) (d : Delims) (words : Words) (earlier before : List Segment) (s : Segment) (after : List Segment) (f : SetFault)
    → least_fault rules d words earlier before ≡ None → segment_fault rules d words (earlier ++ before) s ≡ Some f → least_fault rules d words earlier (before ++ s ∷ after) ≡ Some f
front rules d words earlier [] s after f g h =
    let here : segment_fault rules d words earlier s ≡ Some f = ap (λ x. segment_fault rules d words x s) (sym (append-nil earlier)) ∙ h in
    ap (λ o. or_else o (least_fault rules d words (earlier ++ s ∷ []) after)) here
front rules d words earlier (b ∷ bs) s after f g h = by_fault (segment_fault rules d words earlier b) refl g (front rules d words (earlier ++ b ∷ []) bs s after f)
  where
    by_fault : (o : Option SetFault) → segment_fault rules d words earlier b ≡ o → or_else o (least_fault rules d words (earlier ++ b ∷ []) bs) ≡ None
        → (least_fault rules d words (earlier ++ b ∷ []) bs ≡ None → segment_fault rules d words ((earlier ++ b ∷ []) ++ bs) s ≡ Some f
        → least_fault rules d words (earlier ++ b ∷ []) (bs ++ s ∷ after) ≡ Some f)
        → least_fault rules d words earlier (b ∷ bs ++ s ∷ after) ≡ Some f
    by_fault (Some x) e k more = absurd (cc)
    by_fault None e k more =
        ap (λ o. or_else o (least_fault rules d words (earlier ++ b ∷ []) (bs ++ s ∷ after))) e
        ∙ more k (ap (λ x. segment_fault rules d words x s) (append_assoc earlier (b ∷ []) bs) ∙ h)

pub is-set_fault : (rules : Rules) (d : Delims) (words : Words) (ss : List Segment) (f : SetFault) → IsSetFault rules d words ss f → set_fault rules d words ss ≡ Some f
is-set_fault rules d words ss f r = ap (least_fault rules d words []) r.parts ∙ front rules d words [] r.before r.here r.after f r.good r.fault
