-- An id that is in no set may stand nowhere.
use Rattle.std.proofs.Common.{◌≡◌, ℕ, zero, suc, Bool, true, false, List, refl, ◌∙◌, ap, not, Some, None, Option}
use Rattle.std.specs.Prelude.{◌&&◌, ◌==◌, bytes_eq, codes, if◌then◌else◌}
use Rattle.std.proofs.lemmas.Bool.{or_from, or_parts, and_parts}
use Rattle.std.proofs.lemmas.Slice.Eq.{bytes_eq-Decides}
use Rattle.definitions.specs.declared.rules.Rules.{Rules}
use Rattle.definitions.specs.Bytes.{Delims}
use Rattle.definitions.specs.Cut.{Segment, id_of}
use Rattle.definitions.specs.Words.{Words, Never, Empty, One, Then, Or, Times, words_after, has_word, has_empty, mentions}
use Rattle.definitions.specs.Faults.{SetFault, fault_at, inner_fault, place_fault, place_code, wanted_id}
use Rattle.tables.specs.Ids.{is_known}
use Rattle.tables.specs.Stages.{rest_of}
use Rattle.tables.specs.Advice as advice
use Rattle.tables.specs.Order as order
use Rattle.tables.specs.Acknowledgment as acknowledgment
use Rattle.tables.specs.declared.stages.Stage.{Stage}
use Rattle.tables.specs.declared.stages.Stage.TheVariants.{Advice, Order, Acknowledgment}
use Rattle.tables.specs.declared.advice.Stage as a
use Rattle.tables.specs.declared.order.Stage as o
use Rattle.tables.specs.declared.acknowledgment.Stage as k

-- whether each id of the words is in a set
all_known : Words → Bool
all_known Never = true
all_known Empty = true
all_known (One x) = is_known x
all_known (Then v w) = all_known v && all_known w
all_known (Or v w) = all_known v && all_known w
all_known (Times low high w) = all_known w

apart : (id x : List ℕ) → is_known id ≡ false → is_known x ≡ true → bytes_eq id x ≡ false
apart id x h e = by_test (bytes_eq id x) refl
  where
    by_test : (b : Bool) → bytes_eq id x ≡ b → b ≡ false
    by_test true t = let same : id ≡ x = (bytes_eq-Decides id x).0 t in absurd (cc)
    by_test false t = refl

unmentioned : (id : List ℕ) (w : Words) → is_known id ≡ false → all_known w ≡ true → mentions id w ≡ false
unfolding all_known
unmentioned id Never h e = refl
unmentioned id Empty h e = refl
unmentioned id (One x) h e = apart id x h e
unmentioned id (Then v w) h e = let p = and_parts (all_known v) (all_known w) e in
    or_from (mentions id v) (mentions id w) (unmentioned id v h p.0) (unmentioned id w h p.1)
unmentioned id (Or v w) h e = let p = and_parts (all_known v) (all_known w) e in
    or_from (mentions id v) (mentions id w) (unmentioned id v h p.0) (unmentioned id w h p.1)
unmentioned id (Times low high w) h e = unmentioned id w h e

never_either : (b : Bool) → (if b then Never else Never) ≡ Never
never_either true = refl
never_either false = refl

nothing_after : (id : List ℕ) (w : Words) → mentions id w ≡ false → words_after id w ≡ Never
nothing_after id Never h = refl
nothing_after id Empty h = refl
nothing_after id (One x) h = rw h refl
nothing_after id (Then v w) h = let p = or_parts (mentions id v) (mentions id w) h in
    rw (nothing_after id v p.0, nothing_after id w p.1) (never_either (has_empty v))
nothing_after id (Or v w) h = let p = or_parts (mentions id v) (mentions id w) h in
    rw (nothing_after id v p.0, nothing_after id w p.1) refl
nothing_after id (Times low high w) h = rw (nothing_after id w h) (never_either (high == 0))

advice_known : (r : Rules) (s : a.Stage) → all_known (advice.rest_of r s) ≡ true
unfolding all_known
advice_known r a.TheVariants.Begin = refl
advice_known r a.TheVariants.Head = refl
advice_known r (a.TheVariants.Parties zero) = refl
advice_known r (a.TheVariants.Parties (suc n)) = refl
advice_known r (a.TheVariants.References zero) = refl
advice_known r (a.TheVariants.References (suc n)) = refl
advice_known r (a.TheVariants.Dates zero) = refl
advice_known r (a.TheVariants.Dates (suc n)) = refl
advice_known r (a.TheVariants.Goods zero) = refl
advice_known r (a.TheVariants.Goods (suc n)) = refl
advice_known r (a.TheVariants.Lot zero) = refl
advice_known r (a.TheVariants.Lot (suc n)) = refl
advice_known r a.TheVariants.Total = refl
advice_known r a.TheVariants.End = refl

order_known : (r : Rules) (s : o.Stage) → all_known (order.rest_of r s) ≡ true
unfolding all_known
order_known r o.TheVariants.Begin = refl
order_known r o.TheVariants.Head = refl
order_known r (o.TheVariants.Parties zero) = refl
order_known r (o.TheVariants.Parties (suc n)) = refl
order_known r (o.TheVariants.Named zero) = refl
order_known r (o.TheVariants.Named (suc n)) = refl
order_known r (o.TheVariants.Streeted zero) = refl
order_known r (o.TheVariants.Streeted (suc n)) = refl
order_known r (o.TheVariants.References zero) = refl
order_known r (o.TheVariants.References (suc n)) = refl
order_known r (o.TheVariants.Dates zero) = refl
order_known r (o.TheVariants.Dates (suc n)) = refl
order_known r (o.TheVariants.Numbered zero) = refl
order_known r (o.TheVariants.Numbered (suc n)) = refl
order_known r (o.TheVariants.Goods zero) = refl
order_known r (o.TheVariants.Goods (suc n)) = refl
order_known r (o.TheVariants.Pinned zero) = refl
order_known r (o.TheVariants.Pinned (suc n)) = refl
order_known r o.TheVariants.Total = refl
order_known r o.TheVariants.End = refl

acknowledgment_known : (s : k.Stage) → all_known (acknowledgment.rest_of s) ≡ true
unfolding all_known
acknowledgment_known k.TheVariants.Begin = refl
acknowledgment_known k.TheVariants.Head = refl
acknowledgment_known (k.TheVariants.Sets zero) = refl
acknowledgment_known (k.TheVariants.Sets (suc n)) = refl
acknowledgment_known (k.TheVariants.Segments zero zero) = refl
acknowledgment_known (k.TheVariants.Segments zero (suc m)) = refl
acknowledgment_known (k.TheVariants.Segments (suc n) zero) = refl
acknowledgment_known (k.TheVariants.Segments (suc n) (suc m)) = refl
acknowledgment_known (k.TheVariants.Elements zero zero zero) = refl
acknowledgment_known (k.TheVariants.Elements zero zero (suc i)) = refl
acknowledgment_known (k.TheVariants.Elements zero (suc m) zero) = refl
acknowledgment_known (k.TheVariants.Elements zero (suc m) (suc i)) = refl
acknowledgment_known (k.TheVariants.Elements (suc n) zero zero) = refl
acknowledgment_known (k.TheVariants.Elements (suc n) zero (suc i)) = refl
acknowledgment_known (k.TheVariants.Elements (suc n) (suc m) zero) = refl
acknowledgment_known (k.TheVariants.Elements (suc n) (suc m) (suc i)) = refl
acknowledgment_known k.TheVariants.Total = refl
acknowledgment_known k.TheVariants.End = refl

rest_known : (r : Rules) (s : Stage) → all_known (rest_of r s) ≡ true
rest_known r (Advice s) = advice_known r s
rest_known r (Order s) = order_known r s
rest_known r (Acknowledgment s) = acknowledgment_known s

abbrev coded : Bool → Bool → Bool → ℕ
coded is_end known mentioned = if is_end then 3 else (if not known then 1 else (if not mentioned then 6 else 2))

abbrev told_at : Bool → List ℕ → List ℕ → ℕ → ℕ → SetFault
told_at is_end wanted id position code = record { id = if is_end then wanted else id; position = position; code = code; element = None }

abbrev at_place : Bool → Option SetFault → SetFault → Option SetFault
at_place fits inner place = if fits then inner else Some place

-- a segment with such an id is out of place, with code 1
pub unknown_fault : (r : Rules) (d : Delims) (words : Words) (stage : Stage) (previous : List ℕ) (position : ℕ) (s : Segment) → is_known (id_of s) ≡ false
    → fault_at r d words (rest_of r stage) previous position s ≡ Some (record { id = id_of s; position = position; code = 1; element = None })
unknown_fault r d words stage previous position s h =
    let gone : words_after (id_of s) (rest_of r stage) ≡ Never = nothing_after (id_of s) (rest_of r stage) (unmentioned (id_of s) (rest_of r stage) h (rest_known r stage)) in
    let not_end : bytes_eq (id_of s) (codes "SE") ≡ false = apart (id_of s) (codes "SE") h refl in
    let code : place_code r words (id_of s) ≡ 1 =
    ap (λ (b : Bool). coded b (is_known (id_of s)) (mentions (id_of s) words)) not_end ∙ ap (λ (b : Bool). coded false b (mentions (id_of s) words)) h in
    ap (λ (w : Words). at_place (has_word w) (inner_fault r d previous position s) (place_fault r words (rest_of r stage) position (id_of s))) gone
    ∙ ap (λ (b : Bool). Some (told_at b (wanted_id (rest_of r stage)) (id_of s) position (place_code r words (id_of s)))) not_end
    ∙ ap (λ (n : ℕ). Some (told_at false (wanted_id (rest_of r stage)) (id_of s) position n)) code
