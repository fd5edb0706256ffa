-- Changes one after another.
use Rattle.std.proofs.Common.{◌≡◌, ℕ, zero, suc, ◌+◌, ◌<◌, ◌≤◌, arith, flat_map, List, [], ◌∷◌, ◌++◌, map, drop, length, get_or, drop-cons, add-one, refl, ap, subst, ◌∙◌}
use Rattle.std.specs.List.{enumerate_from}
use Rattle.sqlite.specs.Effect.{Database}
use Rattle.definitions.specs.Changes.{Change, changed, changed_by}
use Rattle.definitions.specs.Tables.{AllTables}
use Rattle.book_statements.specs.Standing.{named}
use Rattle.book_statements.specs.Leading.{Leads}

pub leads_none : (db : Database) → Leads [] db db
leads_none db f k = (f, refl, k)

pub changed_on : (ts : AllTables) (cs ds : List Change) → changed_by ts (cs ++ ds) ≡ changed_by (changed_by ts cs) ds
changed_on ts [] ds = refl
changed_on ts (c ∷ cs) ds = changed_on (changed ts c) cs ds

pub leads_on : (cs ds : List Change) (a b c : Database) → Leads cs a b → Leads ds b c → Leads (cs ++ ds) a c
leads_on cs ds a b c p q f k =
    let g = p f k in
    let h = q g.0 g.2 in
    (h.0, changed_on (named f) cs ds ∙ ap (λ (ts : AllTables). changed_by ts ds) g.1 ∙ h.1, h.2)

-- what is left of a list leads on
pub left_on : {X : Type 0} (change : ℕ × X → Change) (xs : List X) (i : ℕ) (x : X) (a b last : Database) → i < length xs → Leads (change (i + 1, get_or xs i x) ∷ []) a b
    → Leads (map change (enumerate_from (i + 1 + 1) (drop (i + 1) xs))) b last → Leads (map change (enumerate_from (i + 1) (drop i xs))) a last
left_on change xs i x a b last within one rest =
    rw (drop-cons xs i x) (leads_on (change (i + 1, get_or xs i x) ∷ []) (map change (enumerate_from (i + 1 + 1) (drop (suc i) xs))) a b last one
    (subst (λ (n : ℕ). Leads (map change (enumerate_from (i + 1 + 1) (drop n xs))) b last) (add-one i) rest))

drop_past : {X : Type 0} (xs : List X) (i : ℕ) → length xs ≤ i → drop i xs ≡ []
drop_past [] zero h = refl
drop_past [] (suc i) h = refl
drop_past (x ∷ xs) zero h = absurd (omega (arith, h))
drop_past (x ∷ xs) (suc i) h = drop_past xs i (omega (arith, h))

-- and nothing is left of it at its end
pub left_none : {X : Type 0} (change : ℕ × X → Change) (xs : List X) (i n : ℕ) (db : Database) → length xs ≤ i → Leads (map change (enumerate_from n (drop i xs))) db db
left_none change xs i n db past = rw (drop_past xs i past) (leads_none db)

-- the same of a list whose elements aren't numbered
pub left_of : {X : Type 0} (change : X → Change) (xs : List X) (i : ℕ) (x : X) (a b last : Database) → i < length xs → Leads (change (get_or xs i x) ∷ []) a b
    → Leads (map change (drop (i + 1) xs)) b last → Leads (map change (drop i xs)) a last
left_of change xs i x a b last within one rest =
    rw (drop-cons xs i x) (leads_on (change (get_or xs i x) ∷ []) (map change (drop (suc i) xs)) a b last one
    (subst (λ (n : ℕ). Leads (map change (drop n xs)) b last) (add-one i) rest))

pub left_empty : {X : Type 0} (change : X → Change) (xs : List X) (i : ℕ) (db : Database) → length xs ≤ i → Leads (map change (drop i xs)) db db
left_empty change xs i db past = rw (drop_past xs i past) (leads_none db)

-- and where each element makes some changes
pub left_more : {X : Type 0} (change : X → List Change) (xs : List X) (i : ℕ) (x : X) (a b last : Database) → i < length xs → Leads (change (get_or xs i x)) a b
    → Leads (flat_map change (drop (i + 1) xs)) b last → Leads (flat_map change (drop i xs)) a last
left_more change xs i x a b last within one rest =
    rw (drop-cons xs i x) (leads_on (change (get_or xs i x)) (flat_map change (drop (suc i) xs)) a b last one
    (subst (λ (n : ℕ). Leads (flat_map change (drop n xs)) b last) (add-one i) rest))

pub left_nothing : {X : Type 0} (change : X → List Change) (xs : List X) (i : ℕ) (db : Database) → length xs ≤ i → Leads (flat_map change (drop i xs)) db db
left_nothing change xs i db past = rw (drop_past xs i past) (leads_none db)
