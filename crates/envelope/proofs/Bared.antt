-- What is found among pieces is found among their segments.
use Rattle.std.proofs.Common.{◌≡◌, ℕ, ◌+◌, ◌-◌, Bool, true, false, List, [], ◌∷◌, length, take, drop, map, refl, sym, ◌∙◌, ap, Some, length-drop}
use Rattle.std.specs.Prelude.{Option, option_map, not, count_by, find, filter, cond, ◌&&◌, ◌||◌}
use Rattle.std.specs.List.{position_or_len, list_any, list_all, before_first, after_first}
use Rattle.std.proofs.lemmas.List.{take-map, drop-map, length-map, length-take-le}
use Rattle.std.proofs.lemmas.List.Folds.{fold-map}
use Rattle.definitions.specs.Lists.{Parted, parted, part_with}
use Rattle.definitions.specs.Cut.{Segment, Piece, has_id, segments_of}
use Rattle.envelope.proofs.Runs.{front_is, within}
use Rattle.envelope.specs.Parts.{marked, bare}

pub place_bare : (id : List ℕ) (ps : List Piece) → position_or_len (has_id id) (segments_of ps) ≡ position_or_len (marked id) ps
place_bare id [] = refl
place_bare id (p ∷ ps) = ap (λ (n : ℕ). cond (not (marked id p)) (1 + n) 0) (place_bare id ps)

pub any_bare : (id : List ℕ) (ps : List Piece) → list_any (has_id id) (segments_of ps) ≡ list_any (marked id) ps
any_bare id [] = refl
any_bare id (p ∷ ps) = ap (λ b. marked id p || b) (any_bare id ps)

pub all_bare : (f : Segment → Bool) (ps : List Piece) → list_all f (segments_of ps) ≡ list_all (λ p. f p.elements) ps
all_bare f [] = refl
all_bare f (p ∷ ps) = ap (λ b. f p.elements && b) (all_bare f ps)

pub count_bare : (id : List ℕ) (ps : List Piece) → count_by (has_id id) (segments_of ps) ≡ count_by (marked id) ps
count_bare id ps = fold-map (λ (n : ℕ) (x : Segment). n + cond (has_id id x) 1 0) (λ (p : Piece). p.elements) 0 ps

pub find_bare : (id : List ℕ) (ps : List Piece) → find (has_id id) (segments_of ps) ≡ option_map (λ p. p.elements) (find (marked id) ps)
find_bare id [] = refl
find_bare id (p ∷ ps) = ap (λ (o : Option Segment). cond (marked id p) (Some p.elements) o) (find_bare id ps) ∙ either (marked id p) (find (marked id) ps)
  where
    either : (b : Bool) (o : Option Piece) → cond b (Some p.elements) (option_map (λ p. p.elements) o) ≡ option_map (λ p. p.elements) (cond b (Some p) o)
    either true o = refl
    either false o = refl

pub filter_bare : (id : List ℕ) (ps : List Piece) → filter (has_id id) (segments_of ps) ≡ segments_of (filter (marked id) ps)
filter_bare id [] = refl
filter_bare id (p ∷ ps) = ap (λ (ss : List Segment). cond (marked id p) (p.elements ∷ ss) ss) (filter_bare id ps) ∙ either (marked id p) (filter (marked id) ps)
  where
    either : (b : Bool) (qs : List Piece) → cond b (p.elements ∷ segments_of qs) (segments_of qs) ≡ segments_of (cond b (p ∷ qs) qs)
    either true qs = refl
    either false qs = refl

pub before_bare : (id : List ℕ) (ps : List Piece) → segments_of (before_first (marked id) ps) ≡ before_first (has_id id) (segments_of ps)
before_bare id ps = sym (ap (λ n. take n (segments_of ps)) (place_bare id ps) ∙ take-map (λ (p : Piece). p.elements) (position_or_len (marked id) ps) ps)

pub through_bare : (id : List ℕ) (ps : List Piece) → segments_of (take (position_or_len (marked id) ps + 1) ps) ≡ take (position_or_len (has_id id) (segments_of ps) + 1) (segments_of ps)
through_bare id ps = sym (ap (λ n. take (n + 1) (segments_of ps)) (place_bare id ps) ∙ take-map (λ (p : Piece). p.elements) (position_or_len (marked id) ps + 1) ps)

pub after_bare : (id : List ℕ) (ps : List Piece) → after_first (has_id id) (segments_of ps) ≡ segments_of (after_first (marked id) ps)
after_bare id ps = ap (λ n. drop (n + 1) (segments_of ps)) (place_bare id ps) ∙ drop-map (λ (p : Piece). p.elements) (position_or_len (marked id) ps + 1) ps

-- the runs and the front
pub parted_bare : (id : List ℕ) (ps : List Piece) → parted (has_id id) (segments_of ps) ≡ record { front = segments_of (parted (marked id) ps).front; runs = map bare (parted (marked id) ps).runs }
parted_bare id [] = refl
parted_bare id (p ∷ ps) = ap (part_with (marked id p) p.elements) (parted_bare id ps) ∙ one_more (marked id p) p (parted (marked id) ps)
  where
    one_more : (b : Bool) (p : Piece) (q : Parted Piece) → part_with b p.elements (record { front = segments_of q.front; runs = map bare q.runs })
        ≡ record { front = segments_of (part_with b p q).front; runs = map bare (part_with b p q).runs }
    one_more true p q = refl
    one_more false p q = refl

-- what is made of the runs, and what is tested of them
pub runs_bare : {Y : Type 0} (f : (Segment × List Segment) → Y) (id : List ℕ) (ps : List Piece)
    → map (λ r. f (bare r)) (parted (marked id) ps).runs ≡ map f (parted (has_id id) (segments_of ps)).runs
runs_bare f id ps = sym (ap (λ (q : Parted Segment). map f q.runs) (parted_bare id ps) ∙ twice f (parted (marked id) ps).runs)
  where
    twice : {Y : Type 0} (f : (Segment × List Segment) → Y) (rs : List (Piece × List Piece)) → map f (map bare rs) ≡ map (λ r. f (bare r)) rs
    twice f [] = refl
    twice f (r ∷ rs) = ap (λ ys. f (bare r) ∷ ys) (twice f rs)

pub tested_bare : (f : (Segment × List Segment) → Bool) (id : List ℕ) (ps : List Piece)
    → list_all (λ r. f (bare r)) (parted (marked id) ps).runs ≡ list_all f (parted (has_id id) (segments_of ps)).runs
tested_bare f id ps = sym (ap (λ (q : Parted Segment). list_all f q.runs) (parted_bare id ps) ∙ twice (parted (marked id) ps).runs)
  where
    twice : (rs : List (Piece × List Piece)) → list_all f (map bare rs) ≡ list_all (λ r. f (bare r)) rs
    twice [] = refl
    twice (r ∷ rs) = ap (λ (b : Bool). f (bare r) && b) (twice rs)

-- how much stands before the first run
pub front_bare : (id : List ℕ) (ps : List Piece) → length (parted (has_id id) (segments_of ps)).front ≡ position_or_len (marked id) ps
front_bare id ps =
    ap length (front_is (has_id id) (segments_of ps))
    ∙ (length-take-le (position_or_len (has_id id) (segments_of ps)) (segments_of ps) (within (has_id id) (segments_of ps)) ∙ place_bare id ps)

-- how much stands after the first
pub length_after : (id : List ℕ) (ps : List Piece) → length (after_first (has_id id) (segments_of ps)) ≡ length ps - (position_or_len (marked id) ps + 1)
length_after id ps =
    ap length (after_bare id ps)
    ∙ (length-map (after_first (marked id) ps) (λ (p : Piece). p.elements) ∙ length-drop (position_or_len (marked id) ps + 1) ps)

-- a run that passes leaves the others to decide, and one that fails decides
pub clean_more : (f : (Segment × List Segment) → Bool) (runs others : List (Piece × List Piece)) (r : Piece × List Piece) (all : Bool)
    → list_all (λ r. f (bare r)) runs ≡ all → runs ≡ r ∷ others → f (bare r) ≡ true → list_all (λ r. f (bare r)) others ≡ all
clean_more f runs others r all h e t =
    sym (sym h ∙ (ap (list_all (λ r. f (bare r))) e ∙ ap (λ (b : Bool). b && list_all (λ r. f (bare r)) others) t))

pub clean_none : (f : (Segment × List Segment) → Bool) (runs others : List (Piece × List Piece)) (r : Piece × List Piece) (all : Bool)
    → list_all (λ r. f (bare r)) runs ≡ all → runs ≡ r ∷ others → f (bare r) ≡ false → false ≡ all
clean_none f runs others r all h e t =
    sym (sym h ∙ (ap (list_all (λ r. f (bare r))) e ∙ ap (λ (b : Bool). b && list_all (λ r. f (bare r)) others) t))
