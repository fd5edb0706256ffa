-- The notes one after the other.
use Rattle.std.proofs.Common.{◌≡◌, ℕ, Bool, true, false, not, List, [], ◌∷◌, map, length, refl, ◌∙◌, sym, ap, Some, None}
use Rattle.std.specs.Prelude.{Option, if◌then◌else◌, nat_lt, ◌||◌, ◌==◌, ◌+◌, codes, bytes_eq, count_by, sum_by, fold}
use Rattle.std.proofs.lemmas.List.{length-map}
use Rattle.std.proofs.lemmas.List.Folds.{fold-map}
use Rattle.std.specs.List.{list_any, list_all}
use Rattle.definitions.specs.Bytes.{Delims, value}
use Rattle.definitions.specs.Cut.{cut, Segment, element, has_id, id_of, last_segment}
use Rattle.definitions.specs.Elements.{is_well_formed}
use Rattle.definitions.specs.Halt.{structure_note, is_trailer_wrong, is_content_invalid, is_segment_id}
use Rattle.definitions.specs.Header.{delims_of, isa}
use Rattle.definitions.specs.Structure.{Group, groups_of, is_in_place}
use Rattle.definitions.specs.Limits.{most_groups, most_sets}
use Rattle.envelope.specs.Parts.{GroupOf, GroupsOf, group_under}
use Rattle.envelope.specs.Conditions.{trailer_note, are_segments_invalid, are_groups_invalid, are_held_invalid}

-- what a test of an element told, of what the element is
pub told : (f : List ℕ → Bool) (t u : List ℕ) (r b : Bool) → t ≡ u → r ≡ f t → r ≡ b → f u ≡ b
told f t u r b is tested e = sym (ap f is) ∙ (sym tested ∙ e)

abbrev four : Bool → Bool → Bool → Bool → Option ℕ
four a b c e = if a then Some 23 else (if b then Some 22 else (if c then Some 1 else (if e then Some 21 else None)))

abbrev five : Bool → Bool → Bool → Bool → Bool → Option ℕ
five a b c e f = if a then Some 23 else (if b then Some 22 else (if c then Some 1 else (if e then Some 21 else (if f then Some 24 else None))))

early_told : (a b c e f : Bool) (code : ℕ) → four a b c e ≡ Some code → five a b c e f ≡ Some code
early_told true b c e f code h = h
early_told false true c e f code h = h
early_told false false true e f code h = h
early_told false false false true f code h = h
early_told false false false false f code h = absurd (cc)

none_told : (a b c e f : Bool) → four a b c e ≡ None → five a b c e f ≡ (if f then Some 24 else None)
none_told true b c e f h = absurd (cc)
none_told false true c e f h = absurd (cc)
none_told false false true e f h = absurd (cc)
none_told false false false true f h = absurd (cc)
none_told false false false false f h = refl

or_parts : (a b c d e f g h : Bool) → (a || b || c || d || e || f || g || h) ≡ ((a || b || c || d || e) || (f || g || h))
or_parts true b c d e f g h = refl
or_parts false true c d e f g h = refl
or_parts false false true d e f g h = refl
or_parts false false false true e f g h = refl
or_parts false false false false true f g h = refl
or_parts false false false false false f g h = refl

content_is : (d : Delims) (ss : List Segment) → is_content_invalid d ss ≡ (are_segments_invalid d ss || are_groups_invalid (groups_of ss))
content_is d ss = or_parts (not (list_all (is_well_formed d) ss)) (not (list_all (λ s. is_segment_id (id_of s)) ss))
    (nat_lt 1 (count_by (has_id (codes "ISA")) ss)) (list_any (has_id (codes "TA1")) ss) (not (is_in_place ss))
    (list_any (λ (g : Group). length g.sets == 0) (groups_of ss))
    (nat_lt most_groups (length (groups_of ss))) (nat_lt most_sets (sum_by (λ (g : Group). length g.sets) (groups_of ss)))

-- the tests of a text's notes
abbrev ends_early : List ℕ → Bool
ends_early text = nat_lt 0 (length (cut (delims_of text) text).rest) || not (list_any (has_id (codes "IEA")) (cut (delims_of text) text).segments)

abbrev other_number : List ℕ → Bool
other_number text = not (bytes_eq (element (last_segment (cut (delims_of text) text).segments) 2) (isa text 13))

abbrev other_count : List ℕ → Bool
other_count text = let ss = (cut (delims_of text) text).segments in not (value (element (last_segment ss) 1) == count_by (has_id (codes "GS")) ss)

abbrev early : List ℕ → Option ℕ
early text = trailer_note (delims_of text) (cut (delims_of text) text).segments (nat_lt 0 (length (cut (delims_of text) text).rest)) (isa text 13)

abbrev content : List ℕ → Bool
content text = is_content_invalid (delims_of text) (cut (delims_of text) text).segments

note_some : (text : List ℕ) (code : ℕ) → early text ≡ Some code → structure_note text ≡ Some code
note_some text code h = early_told (ends_early text) (is_trailer_wrong (delims_of text) (cut (delims_of text) text).segments) (other_number text) (other_count text) (content text) code h

note_none : (text : List ℕ) → early text ≡ None → structure_note text ≡ (if content text then Some 24 else None)
note_none text h = none_told (ends_early text) (is_trailer_wrong (delims_of text) (cut (delims_of text) text).segments) (other_number text) (other_count text) (content text) h

-- the same of what the program has in hand
early_is : (text : List ℕ) (d : Delims) (ss : List Segment) (rest number : List ℕ) (has_rest : Bool) (o : Option ℕ) → d ≡ delims_of text → ss ≡ (cut d text).segments → rest ≡ (cut d text).rest
    → has_rest ≡ nat_lt 0 (length rest) → number ≡ isa text 13 → o ≡ trailer_note d ss has_rest number → early text ≡ o
early_is text d ss rest number has_rest o ed es er eh en eo =
    sym (eo ∙ (ap (λ n. trailer_note d ss has_rest n) en ∙ (ap (λ b. trailer_note d ss b (isa text 13)) (eh ∙ ap (λ r. nat_lt 0 (length r)) er)
    ∙ (ap (λ ss. trailer_note d ss (nat_lt 0 (length (cut d text).rest)) (isa text 13)) es
    ∙ ap (λ d. trailer_note d (cut d text).segments (nat_lt 0 (length (cut d text).rest)) (isa text 13)) ed))))

segments_are : (text : List ℕ) (d : Delims) (ss : List Segment) → d ≡ delims_of text → ss ≡ (cut d text).segments → ss ≡ (cut (delims_of text) text).segments
segments_are text d ss ed es = es ∙ ap (λ d. (cut d text).segments) ed

pub is_early : (text : List ℕ) (d : Delims) (ss : List Segment) (rest number : List ℕ) (has_rest : Bool) (o : Option ℕ) (code : ℕ) → d ≡ delims_of text → ss ≡ (cut d text).segments → rest ≡ (cut d text).rest
    → has_rest ≡ nat_lt 0 (length rest) → number ≡ isa text 13 → o ≡ trailer_note d ss has_rest number → o ≡ Some code → structure_note text ≡ Some code
is_early text d ss rest number has_rest o code ed es er eh en eo e = note_some text code (early_is text d ss rest number has_rest o ed es er eh en eo ∙ e)

either : (a b : Bool) → b ≡ true → (a || b) ≡ true
either true b e = refl
either false b e = e

content_at : (text : List ℕ) (d : Delims) (ss : List Segment) → d ≡ delims_of text → ss ≡ (cut d text).segments → content text ≡ (are_segments_invalid d ss || are_groups_invalid (groups_of ss))
content_at text d ss ed es = sym (sym (content_is d ss) ∙ (ap (is_content_invalid d) es ∙ ap (λ d. is_content_invalid d (cut d text).segments) ed))

told_by : (text : List ℕ) (b : Bool) → structure_note text ≡ (if content text then Some 24 else None) → content text ≡ b → structure_note text ≡ (if b then Some 24 else None)
told_by text b h e = h ∙ ap (λ (t : Bool). if t then Some 24 else None) e

pub has_bad_segments : (text : List ℕ) (d : Delims) (ss : List Segment) (rest number : List ℕ) (has_rest : Bool) (o : Option ℕ) → d ≡ delims_of text → ss ≡ (cut d text).segments → rest ≡ (cut d text).rest
    → has_rest ≡ nat_lt 0 (length rest) → number ≡ isa text 13 → o ≡ trailer_note d ss has_rest number → o ≡ None → are_segments_invalid d ss ≡ true → structure_note text ≡ Some 24
has_bad_segments text d ss rest number has_rest o ed es er eh en eo e bad =
    told_by text true (note_none text (early_is text d ss rest number has_rest o ed es er eh en eo ∙ e))
    (content_at text d ss ed es ∙ ap (λ b. b || are_groups_invalid (groups_of ss)) bad)

pub by_groups : (text : List ℕ) (d : Delims) (ss : List Segment) (rest number : List ℕ) (has_rest : Bool) (o : Option ℕ) (groups : List Group) (b : Bool) → d ≡ delims_of text → ss ≡ (cut d text).segments → rest ≡ (cut d text).rest
    → has_rest ≡ nat_lt 0 (length rest) → number ≡ isa text 13 → o ≡ trailer_note d ss has_rest number → o ≡ None → are_segments_invalid d ss ≡ false
    → groups ≡ groups_of ss → are_groups_invalid groups ≡ b
    → (structure_note text ≡ (if b then Some 24 else None)) × (groups ≡ groups_of (cut (delims_of text) text).segments)
by_groups text d ss rest number has_rest o groups b ed es er eh en eo e good eg eb = (
  told_by text b (note_none text (early_is text d ss rest number has_rest o ed es er eh en eo ∙ e))
      (content_at text d ss ed es ∙ (ap (λ b. b || are_groups_invalid (groups_of ss)) good ∙ (ap (λ gs. are_groups_invalid gs) (sym eg) ∙ eb))),
  eg ∙ ap groups_of (segments_are text d ss ed es),
)

-- the groups as they are held
count_held : (d : Delims) (n : ℕ) (gs : List Group) → fold (λ a x. a + length x.group.sets) n (map (group_under d) gs) ≡ fold (λ a (g : Group). a + length g.sets) n gs
count_held d n gs = fold-map (λ (a : ℕ) (x : GroupOf). a + length x.group.sets) (group_under d) n gs

empty_held : (d : Delims) (gs : List Group) → list_any (λ g. length g.group.sets == 0) (map (group_under d) gs) ≡ list_any (λ (g : Group). length g.sets == 0) gs
empty_held d [] = refl
empty_held d (g ∷ gs) = ap (λ (b : Bool). length g.sets == 0 || b) (empty_held d gs)

pub held_invalid : (d : Delims) (gs : List Group) → are_held_invalid (map (group_under d) gs) ≡ are_groups_invalid gs
held_invalid d gs =
    ap (λ (b : Bool). b || nat_lt most_groups (length (map (group_under d) gs)) || nat_lt most_sets (sum_by (λ g. length g.group.sets) (map (group_under d) gs))) (empty_held d gs)
    ∙ (ap (λ n. list_any (λ (g : Group). length g.sets == 0) gs || nat_lt most_groups n || nat_lt most_sets (sum_by (λ g. length g.group.sets) (map (group_under d) gs))) (length-map gs (group_under d))
    ∙ ap (λ n. list_any (λ (g : Group). length g.sets == 0) gs || nat_lt most_groups (length gs) || nat_lt most_sets n) (count_held d 0 gs))

parts_of : Delims → List Group → GroupsOf
parts_of d gs = record { delims = d; groups = gs }

-- the whole under the text's own delimiters
pub parts_are : (text : List ℕ) (d : Delims) (ss : List Segment) (i : GroupsOf) → d ≡ delims_of text → ss ≡ (cut d text).segments
    → (let j : GroupsOf = record { delims = d; groups = groups_of ss } in i ≡ j)
    → (let j : GroupsOf = record { delims = delims_of text; groups = groups_of (cut (delims_of text) text).segments } in i ≡ j)
unfolding parts_of
parts_are text d ss i ed es ei = ei ∙ (ap (λ x. parts_of x (groups_of ss)) ed ∙ ap (λ (ts : List Segment). parts_of (delims_of text) (groups_of ts)) (segments_are text d ss ed es))
