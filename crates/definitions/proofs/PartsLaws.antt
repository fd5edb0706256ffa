-- The segments of a good text are ISA, its groups and IEA put together.
use Rattle.std.proofs.Common.{◌≡◌, ℕ, ◌+◌, ◌≤◌, Bool, true, false, not, cond, List, [], ◌∷◌, ◌++◌, length, map, take, drop, refl, sym, ◌∙◌, ap, subst, arith, eqb-true, is_some, Option, Some, None}
use Rattle.std.specs.Prelude.{codes, bytes_eq, ◌&&◌, ◌||◌, ◌==◌, find, flat_map, option_to_list, IsTrue, nat_lt, count_by, sum_by, slice_index}
use Rattle.std.proofs.lemmas.Bool.Decides.{nat_tests}
use Rattle.std.proofs.lemmas.Slice.Eq.{bytes_eq-Decides}
use borrow.Author.Tests.{ltb-false}
use Rattle.std.specs.List.{list_any, list_all, AllByRecursion, before_first, after_first, range_with_len}
use Rattle.std.proofs.lemmas.List.Sums.{sum_by-cons}
use Rattle.definitions.specs.Bytes.{Delims, is_alphanumeric, is_data, is_digit, value}
use Rattle.definitions.specs.Limits.{most_bytes, most_groups, most_sets}
use Rattle.definitions.specs.Lists.{first_of, Parted, parted}
use Rattle.definitions.specs.Cut.{Cut, Segment, id_of, has_id, element, last_segment, cut, elements, Role, Ends, Inside, role, is_outside, onto, put, pieces_from}
use Rattle.definitions.specs.Header.{is_delimiter, are_delimiters, delims_of, is_unreadable, separator_offsets, is_legible}
use Rattle.definitions.specs.Header as header
use Rattle.definitions.specs.Elements.{is_well_formed}
use Rattle.definitions.specs.Halt.{is_content_invalid, is_segment_id, is_trailer_wrong, structure_note}
use Rattle.definitions.specs.Structure.{Set, Group, set_of, group_of, groups_of, group_segments, is_nothing, is_set_clean, is_group_clean, is_in_place, control_ids, IsInner, IsSet, IsGroup, IsParts}
use Rattle.definitions.proofs.TextLaws.{both_parts, differs, split_first}
use Rattle.definitions.proofs.RunsLaws.{up_to, whole, taken, any_found, found_passes, before_all, run_of, parted_whole, IsRun, parted_all}

nothing : {X : Type 0} (xs : List X) → (length xs == 0) ≡ true → xs ≡ []
nothing [] h = refl
nothing (x ∷ xs) h = let e : length (x ∷ xs) ≡ 0 = eqb-true (length (x ∷ xs)) 0 h in absurd (cc)

-- Segments after ISA.

-- a segment without the id
abbrev Lacks : List ℕ → Segment → Type 0
Lacks id s = has_id id s ≡ false

-- what is known of a segment after ISA, before IEA, in a group, before GE, in a set, before SE
abbrev IsLater : Segment → Type 0
IsLater s = Lacks (codes "ISA") s × Lacks (codes "TA1") s

abbrev IsBetween : Segment → Type 0
IsBetween s = IsLater s × Lacks (codes "IEA") s

abbrev IsGrouped : Segment → Type 0
IsGrouped s = IsBetween s × Lacks (codes "GS") s

abbrev IsOpen : Segment → Type 0
IsOpen s = IsGrouped s × Lacks (codes "GE") s

abbrev IsInSet : Segment → Type 0
IsInSet s = IsOpen s × Lacks (codes "ST") s

none_of : (x : List ℕ) (ids : List (List ℕ)) → AllByRecursion (λ id. bytes_eq x id ≡ false) ids → list_any (bytes_eq x) ids ≡ false
none_of x [] h = refl
none_of x (id ∷ ids) h = ap (λ (b : Bool). b || list_any (bytes_eq x) ids) h.0 ∙ none_of x ids h.1

inner : (s : Segment) → IsInSet s × Lacks (codes "SE") s → IsInner s
inner s ((((((isa, ta1), iea), gs), ge), st), se) = ap not (none_of (id_of s) control_ids (isa, (gs, (st, (se, (ge, (iea, (ta1, tt))))))))

all_inner : (ss : List Segment) → AllByRecursion (λ s. IsInSet s × Lacks (codes "SE") s) ss → AllByRecursion IsInner ss
all_inner [] h = tt
all_inner (s ∷ ss) h = (inner s h.0, all_inner ss h.1)

-- Sets.

abbrev Run : Type 0
Run = Segment × List Segment

a_set : (r : Run) → IsRun IsOpen (has_id (codes "ST")) r → IsSet (set_of r)
a_set r h = (
  r.0,
  before_first (has_id (codes "SE")) r.1,
  find (has_id (codes "SE")) r.1,
  ap (λ (ss : List Segment). r.0 ∷ ss) (taken (has_id (codes "SE")) r.1),
  any_found (has_id (codes "SE")) r.1,
  h.0,
  all_inner (before_first (has_id (codes "SE")) r.1) (before_all IsInSet (has_id (codes "SE")) r.1 h.1),
  found_passes (has_id (codes "SE")) r.1,
)

all_sets : (rs : List Run) → AllByRecursion (IsRun IsOpen (has_id (codes "ST"))) rs → AllByRecursion IsSet (map set_of rs)
all_sets [] h = tt
all_sets (r ∷ rs) h = (a_set r h.0, all_sets rs h.1)

sets_whole : (rs : List Run) → list_all is_set_clean rs ≡ true → flat_map (λ (s : Set). s.segments) (map set_of rs) ≡ flat_map run_of rs
sets_whole [] h = refl
sets_whole (r ∷ rs) h =
    let p = both_parts (is_set_clean r) (list_all is_set_clean rs) h in
    let here : (set_of r).segments ≡ run_of r =
    ap (λ (ss : List Segment). r.0 ∷ ss) (taken (has_id (codes "SE")) r.1 ∙ whole (has_id (codes "SE")) r.1 (nothing (after_first (has_id (codes "SE")) r.1) p.0)) in
    ap (λ (ss : List Segment). ss ++ flat_map (λ (s : Set). s.segments) (map set_of rs)) here ∙ ap (λ (ss : List Segment). run_of r ++ ss) (sets_whole rs p.1)

-- Groups.

group_whole : (r : Run) → is_group_clean r ≡ true → group_segments (group_of r) ≡ run_of r
group_whole r h =
    let ge = has_id (codes "GE") in
    let inside = before_first ge r.1 in
    let p : Parted Segment = parted (has_id (codes "ST")) inside in
    let x = both_parts (is_nothing p.front && is_nothing (after_first ge r.1)) (list_all is_set_clean p.runs) h in
    let y = both_parts (is_nothing p.front) (is_nothing (after_first ge r.1)) x.0 in
    let runs : flat_map run_of p.runs ≡ inside =
    ap (λ (ss : List Segment). ss ++ flat_map run_of p.runs) (sym (nothing p.front y.0)) ∙ parted_whole (has_id (codes "ST")) inside in
    ap (λ (ss : List Segment). r.0 ∷ ss ++ option_to_list (find ge r.1)) (sets_whole p.runs x.1 ∙ runs)
    ∙ ap (λ (ss : List Segment). r.0 ∷ ss) (whole ge r.1 (nothing (after_first ge r.1) y.1))

groups_whole : (rs : List Run) → list_all is_group_clean rs ≡ true → flat_map group_segments (map group_of rs) ≡ flat_map run_of rs
groups_whole [] h = refl
groups_whole (r ∷ rs) h =
    let p = both_parts (is_group_clean r) (list_all is_group_clean rs) h in
    ap (λ (ss : List Segment). ss ++ flat_map group_segments (map group_of rs)) (group_whole r p.0) ∙ ap (λ (ss : List Segment). run_of r ++ ss) (groups_whole rs p.1)

a_group : (r : Run) → IsRun IsBetween (has_id (codes "GS")) r → IsGroup (group_of r)
a_group r h =
    let ge = has_id (codes "GE") in
    let inside = before_first ge r.1 in
    let q = parted_all IsOpen (has_id (codes "ST")) inside (before_all IsGrouped ge r.1 h.1) in
    (h.0, all_sets (parted (has_id (codes "ST")) inside).runs q.1, found_passes ge r.1)

all_groups : (rs : List Run) → AllByRecursion (IsRun IsBetween (has_id (codes "GS"))) rs → AllByRecursion IsGroup (map group_of rs)
all_groups [] h = tt
all_groups (r ∷ rs) h = (a_group r h.0, all_groups rs h.1)

-- The whole.

parts_of : (isa : Segment) (rest : List Segment) → has_id (codes "ISA") isa ≡ true → AllByRecursion IsLater rest → list_any (has_id (codes "IEA")) rest ≡ true
    → is_in_place (isa ∷ rest) ≡ true → IsParts (isa ∷ rest) (groups_of (isa ∷ rest))
parts_of isa rest i later there h = by_found (find (has_id (codes "IEA")) rest) refl
  where
    iea : Segment → Bool
    iea = has_id (codes "IEA")

    p : Parted Segment
    p = parted (has_id (codes "GS")) (before_first (has_id (codes "IEA")) rest)

    by_found : (o : Option Segment) → find (has_id (codes "IEA")) rest ≡ o → IsParts (isa ∷ rest) (groups_of (isa ∷ rest))
    by_found None e = let no : true ≡ false = sym there ∙ any_found (has_id (codes "IEA")) rest ∙ ap is_some e in absurd (cc)
    by_found (Some last) e =
        let q : Parted Segment = parted (has_id (codes "GS")) (before_first (has_id (codes "IEA")) rest) in
        let x = both_parts (is_nothing q.front && is_nothing (after_first (has_id (codes "IEA")) rest)) (list_all is_group_clean q.runs) h in
        let y = both_parts (is_nothing q.front) (is_nothing (after_first (has_id (codes "IEA")) rest)) x.0 in
        let runs : flat_map run_of q.runs ≡ before_first (has_id (codes "IEA")) rest =
        ap (λ (ss : List Segment). ss ++ flat_map run_of q.runs) (sym (nothing q.front y.0)) ∙ parted_whole (has_id (codes "GS")) (before_first (has_id (codes "IEA")) rest) in
        let all : up_to (has_id (codes "IEA")) rest ≡ rest = whole (has_id (codes "IEA")) rest (nothing (after_first (has_id (codes "IEA")) rest) y.1) in
        let groups = parted_all IsBetween (has_id (codes "GS")) (before_first (has_id (codes "IEA")) rest) (before_all IsLater (has_id (codes "IEA")) rest later) in
        let passes : IsTrue (list_all (has_id (codes "IEA")) (last ∷ [])) = subst (λ (o : Option Segment). IsTrue (list_all (has_id (codes "IEA")) (option_to_list o))) e (found_passes (has_id (codes "IEA")) rest) in (
          isa,
          last,
          ap (λ (ss : List Segment). isa ∷ ss) (sym all ∙ ap (λ (o : Option Segment). before_first (has_id (codes "IEA")) rest ++ option_to_list o) e
              ∙ ap (λ (ss : List Segment). ss ++ last ∷ []) (sym (groups_whole q.runs x.1 ∙ runs))),
          i,
          (both_parts (has_id (codes "IEA") last) true passes).0,
          all_groups q.runs groups.1,
        )

-- What the conditions of a good text give.

not_false : (b : Bool) → not b ≡ false → b ≡ true
not_false true h = refl
not_false false h = absurd (cc)

none_invalid : (a b c e f g h i : Bool) → (a || b || c || e || not f || g || h || i) ≡ false → (c ≡ false) × (e ≡ false) × (f ≡ true)
none_invalid true b c e f g h i x = absurd (cc)
none_invalid false true c e f g h i x = absurd (cc)
none_invalid false false true e f g h i x = absurd (cc)
none_invalid false false false true f g h i x = absurd (cc)
none_invalid false false false false false g h i x = absurd (cc)
none_invalid false false false false true g h i x = (refl, refl, refl)

none_told : (a b c e f : Bool) → first_of {X = Option ℕ} None ((a, Some 23) ∷ (b, Some 22) ∷ (c, Some 1) ∷ (e, Some 21) ∷ (f, Some 24) ∷ []) ≡ None → (a ≡ false) × (f ≡ false)
none_told true b c e f h = absurd (cc)
none_told false true c e f h = absurd (cc)
none_told false false true e f h = absurd (cc)
none_told false false false true f h = absurd (cc)
none_told false false false false true h = absurd (cc)
none_told false false false false false h = (refl, refl)

is_there : (r t : Bool) → (r || not t) ≡ false → t ≡ true
is_there true t h = absurd (cc)
is_there false t h = not_false t h

legible : (a b c e f g h i : Bool) → (a || b || not c || not e || not f || not g || not h || not i) ≡ false → (b ≡ false) × (c ≡ true) × (e ≡ true)
legible true b c e f g h i x = absurd (cc)
legible false true c e f g h i x = absurd (cc)
legible false false false e f g h i x = absurd (cc)
legible false false true false f g h i x = absurd (cc)
legible false false true true f g h i x = (refl, refl, refl)

none_passes : {X : Type 0} (p : X → Bool) (xs : List X) → list_any p xs ≡ false → AllByRecursion (λ x. p x ≡ false) xs
none_passes p [] h = tt
none_passes {X} p (x ∷ xs) h = by_test (p x) refl h (none_passes p xs)
  where
    by_test : (b : Bool) → p x ≡ b → (b || list_any p xs) ≡ false → (list_any p xs ≡ false → AllByRecursion (λ x. p x ≡ false) xs) → AllByRecursion (λ x. p x ≡ false) (x ∷ xs)
    by_test true t k ih = absurd (cc)
    by_test false t k ih = (t, ih k)

none_counted : {X : Type 0} (p : X → Bool) (xs : List X) → count_by p xs ≡ 0 → AllByRecursion (λ x. p x ≡ false) xs
none_counted p [] h = tt
none_counted {X} p (x ∷ xs) h = by_test (p x) refl (sym (sum_by-cons (λ y. cond (p y) 1 0) x xs) ∙ h) (none_counted p xs)
  where
    by_test : (b : Bool) → p x ≡ b → cond b 1 0 + count_by p xs ≡ 0 → (count_by p xs ≡ 0 → AllByRecursion (λ x. p x ≡ false) xs) → AllByRecursion (λ x. p x ≡ false) (x ∷ xs)
    by_test true t k ih = absurd (omega (arith, k))
    by_test false t k ih = (t, ih (omega (arith, k)))

others_lack : (isa : Segment) (rest : List Segment) → has_id (codes "ISA") isa ≡ true → nat_lt 1 (count_by (has_id (codes "ISA")) (isa ∷ rest)) ≡ false → count_by (has_id (codes "ISA")) rest ≡ 0
others_lack isa rest i h =
    let here : ℕ = cond (has_id (codes "ISA") isa) 1 0 in
    let more : ℕ = count_by (has_id (codes "ISA")) rest in
    let unit : ℕ = 1 in
    let one : here ≡ unit = ap (λ (b : Bool). cond b unit 0) i in
    let few : here + more ≤ 1 = ltb-false 1 (here + more) (sym (ap (nat_lt 1) (sum_by-cons (λ s. cond (has_id (codes "ISA") s) unit 0) isa rest)) ∙ h) in
    omega (arith, one, few)

are_later : (ss : List Segment) → AllByRecursion (Lacks (codes "ISA")) ss → AllByRecursion (Lacks (codes "TA1")) ss → AllByRecursion IsLater ss
are_later [] h k = tt
are_later (s ∷ ss) h k = ((h.0, k.0), are_later ss h.1 k.1)

parts_where : (d : Delims) (isa : Segment) (rest : List Segment) → has_id (codes "ISA") isa ≡ true → list_any (has_id (codes "IEA")) rest ≡ true → is_content_invalid d (isa ∷ rest) ≡ false
    → IsParts (isa ∷ rest) (groups_of (isa ∷ rest))
parts_where d isa rest i there h =
    let ss : List Segment = isa ∷ rest in
    let q = none_invalid (not (list_all (is_well_formed d) ss)) (not (list_all (λ s. is_segment_id (id_of s)) ss))
    (nat_lt 1 (count_by (has_id (codes "ISA")) ss)) (list_any (has_id (codes "TA1")) ss) (is_in_place ss)
    (list_any (λ (g : Group). length g.sets == 0) (groups_of ss)) (nat_lt most_groups (length (groups_of ss))) (nat_lt most_sets (sum_by (λ (g : Group). length g.sets) (groups_of ss))) h in
    let no_ta1 : AllByRecursion (Lacks (codes "TA1")) ss = none_passes (has_id (codes "TA1")) ss q.1 in
    parts_of isa rest i (are_later rest (none_counted (has_id (codes "ISA")) rest (others_lack isa rest i q.0)) no_ta1.1) there q.2

-- The first segment is ISA.

onto_first : (b : ℕ) (ps : List (List ℕ)) (rest w : List ℕ) (ws : List (List ℕ)) → (onto b ps rest).whole ≡ w ∷ ws → (x : List ℕ) × (w ≡ b ∷ x) × (ps ≡ x ∷ ws)
onto_first b [] rest w ws h = absurd (cc)
onto_first b (p ∷ ps) rest w ws h =
    let here : w ≡ b ∷ p = cc in
    let more : ps ≡ ws = cc in
    (p, here, ap (λ (x : List (List ℕ)). p ∷ x) more)

piece_first : (d : Delims) (b : ℕ) (bs w : List ℕ) (ws : List (List ℕ)) → (b == d.terminator) ≡ false → (pieces_from d false (b ∷ bs)).whole ≡ w ∷ ws
    → (x : List ℕ) × (w ≡ b ∷ x) × ((pieces_from d false bs).whole ≡ x ∷ ws)
piece_first d b bs w ws t h =
    let inside : role d false b ≡ Inside = ap (λ (x : Bool). cond x Ends Inside) t in
    let same : (pieces_from d false (b ∷ bs)).whole ≡ (onto b (pieces_from d false bs).whole (pieces_from d false bs).rest).whole =
    ap (λ (r : Role). (put r b (pieces_from d (is_outside r) bs)).whole) inside in
    onto_first b (pieces_from d false bs).whole (pieces_from d false bs).rest w ws (sym same ∙ h)

no_letter : (c : ℕ) → (is_delimiter c || c == 10) ≡ true → is_alphanumeric c ≡ false
no_letter c h = grind (arith, nat_tests)

begun : (text : List ℕ) → 106 ≤ length text → take 3 text ≡ codes "ISA" → (s : ℕ) × (more : List ℕ) × (text ≡ 73 ∷ 83 ∷ 65 ∷ s ∷ more)
begun [] l e = absurd (omega arith)
begun (a ∷ []) l e = absurd (omega arith)
begun (a ∷ b ∷ []) l e = absurd (omega arith)
begun (a ∷ b ∷ c ∷ []) l e = absurd (omega arith)
begun (a ∷ b ∷ c ∷ s ∷ more) l e =
    let i : a ≡ 73 = cc in
    let j : b ≡ 83 = cc in
    let k : c ≡ 65 = cc in
    (s, more, ap (λ x. x ∷ b ∷ c ∷ s ∷ more) i ∙ ap (λ x. 73 ∷ x ∷ c ∷ s ∷ more) j ∙ ap (λ x. 73 ∷ 83 ∷ x ∷ s ∷ more) k)

-- a text that begins so has ISA as its first segment, if it has one
first_is_isa : (s : ℕ) (more : List ℕ) (d : Delims) → d.separator ≡ s → are_delimiters d ≡ true → (w : List ℕ) (ws : List (List ℕ)) → (pieces_from d false (73 ∷ 83 ∷ 65 ∷ s ∷ more)).whole ≡ w ∷ ws
    → has_id (codes "ISA") (elements d w) ≡ true
first_is_isa s more d e g w ws h =
    let x = both_parts (is_delimiter d.separator && is_delimiter d.component && (is_delimiter d.terminator || d.terminator == 10)) _ g in
    let y = both_parts (is_delimiter d.separator && is_delimiter d.component) _ x.0 in
    let z = both_parts (is_delimiter d.separator) _ y.0 in
    let no_end : is_alphanumeric d.terminator ≡ false = no_letter d.terminator y.1 in
    let no_part : is_alphanumeric d.separator ≡ false = no_letter d.separator (ap (λ (b : Bool). b || d.separator == 10) z.0) in
    let p = piece_first d 73 (83 ∷ 65 ∷ s ∷ more) w ws (differs is_alphanumeric d.terminator no_end 73 refl) h in
    let q = piece_first d 83 (65 ∷ s ∷ more) p.0 ws (differs is_alphanumeric d.terminator no_end 83 refl) p.2 in
    let r = piece_first d 65 (s ∷ more) q.0 ws (differs is_alphanumeric d.terminator no_end 65 refl) q.2 in
    let t = piece_first d s more r.0 ws (ap (λ c. c == d.terminator) (sym e) ∙ apart (d.separator == d.component) (d.separator == d.terminator) (d.component == d.terminator) x.1) r.2 in
    let piece : w ≡ codes "ISA" ++ d.separator ∷ t.0 =
    p.1 ∙ ap (λ (v : List ℕ). 73 ∷ v) (q.1 ∙ ap (λ (v : List ℕ). 83 ∷ v) (r.1 ∙ ap (λ (v : List ℕ). 65 ∷ v) (t.1 ∙ ap (λ c. c ∷ t.0) (sym e)))) in
    ap (λ (v : List ℕ). has_id (codes "ISA") (elements d v)) piece
    ∙ ap (λ (es : List (List ℕ)). has_id (codes "ISA") es) (split_first is_alphanumeric d.separator no_part (codes "ISA") t.0 refl)
  where
    apart : (a b c : Bool) → not (a || b || c) ≡ true → b ≡ false
    apart a false c k = refl
    apart true true c k = absurd (cc)
    apart false true c k = absurd (cc)

-- The segments of a text that can be read, and of which no condition on the segments holds, are
-- ISA, its groups and IEA put together.
pub parts_together : (text : List ℕ) → is_unreadable text ≡ false → structure_note text ≡ None
    → IsParts ((cut (delims_of text) text).segments) (groups_of ((cut (delims_of text) text).segments))
parts_together text readable good =
    let d : Delims = delims_of text in
    let c : Cut = cut d text in
    let a = legible (nat_lt most_bytes (length text)) (nat_lt (length text) 106) (bytes_eq (take 3 text) (codes "ISA")) (are_delimiters d)
    (list_all (λ k. slice_index text k == d.separator) separator_offsets) (list_all (λ n. list_all (is_data d) (header.isa text n)) (range_with_len 1 15))
    (list_all is_digit (header.isa text 13)) (is_legible d true (drop 106 text)) readable in
    let n = none_told (nat_lt 0 (length c.rest) || not (list_any (has_id (codes "IEA")) c.segments)) (is_trailer_wrong d c.segments)
    (not (bytes_eq (element (last_segment c.segments) 2) (header.isa text 13))) (not (value (element (last_segment c.segments) 1) == count_by (has_id (codes "GS")) c.segments))
    (is_content_invalid d c.segments) good in
    by_text (begun text (ltb-false (length text) 106 a.0) ((bytes_eq-Decides (take 3 text) (codes "ISA")).0 a.1)) a.2 (is_there (nat_lt 0 (length c.rest)) (list_any (has_id (codes "IEA")) c.segments) n.0) n.1
  where
    by_pieces : (d : Delims) (ps : List (List ℕ)) → ((w : List ℕ) (ws : List (List ℕ)) → ps ≡ w ∷ ws → has_id (codes "ISA") (elements d w) ≡ true)
        → list_any (has_id (codes "IEA")) (map (elements d) ps) ≡ true → is_content_invalid d (map (elements d) ps) ≡ false → IsParts (map (elements d) ps) (groups_of (map (elements d) ps))
    by_pieces d [] first there h = absurd (cc)
    by_pieces d (w ∷ ws) first there h =
        let isa : has_id (codes "ISA") (elements d w) ≡ true = first w ws refl in
        let same : id_of (elements d w) ≡ codes "ISA" = (bytes_eq-Decides (id_of (elements d w)) (codes "ISA")).0 isa in
        let no : has_id (codes "IEA") (elements d w) ≡ false = ap (λ (x : List ℕ). bytes_eq x (codes "IEA")) same in
        let after : list_any (has_id (codes "IEA")) (map (elements d) ws) ≡ true = sym (ap (λ (b : Bool). b || list_any (has_id (codes "IEA")) (map (elements d) ws)) no) ∙ there in
        parts_where d (elements d w) (map (elements d) ws) isa after h

    by_text : (s : ℕ) × (more : List ℕ) × (text ≡ 73 ∷ 83 ∷ 65 ∷ s ∷ more) → are_delimiters (delims_of text) ≡ true
        → list_any (has_id (codes "IEA")) ((cut (delims_of text) text).segments) ≡ true → is_content_invalid (delims_of text) ((cut (delims_of text) text).segments) ≡ false
        → IsParts ((cut (delims_of text) text).segments) (groups_of ((cut (delims_of text) text).segments))
    by_text (s, more, e) g there h =
        let d : Delims = delims_of text in
        let separator : d.separator ≡ s = ap (λ (t : List ℕ). (delims_of t).separator) e in
        by_pieces d (pieces_from d false text).whole
        (λ w ws k. first_is_isa s more d separator g w ws (ap (λ (t : List ℕ). (pieces_from d false t).whole) (sym e) ∙ k)) there h
