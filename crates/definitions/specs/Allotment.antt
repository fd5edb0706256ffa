-- The lots that an order is given: by a closed formula, the first counted first, or the first
-- expired.
use Rattle.std.specs.Prelude.{ℕ, ◌+◌, ◌-◌, min, Bool, true, false, not, ◌&&◌, ◌||◌, List, [], ◌∷◌, map, nat_lt, ◌==◌, Some, None, bytes_eq, filter, zip, flat_map, Option}
use Rattle.definitions.specs.declared.rules.Rules.{Rules}
use Rattle.definitions.specs.declared.rules.Rules.TheVariants.{One, Two}
use Rattle.definitions.specs.Bytes.{comes_before}
use Rattle.definitions.specs.Lists.{in_order}
use Rattle.definitions.specs.Means.{Line, OrderLine, Order}
use Rattle.definitions.specs.Events.{Event, Counted, since, expiry}
use Rattle.definitions.specs.Movements.{free}

-- Of free amounts f1, f2, .. and a wanted w, lot j is given min(fj, max(0, w - (f1 + .. +
-- f(j-1)))): what is still wanted after the lots before it, as far as it is free. `earlier` is what
-- is free in the lots before; subtraction ends at 0.
abbrev pub shares_after : ℕ → List ℕ → ℕ → List ℕ
shares_after earlier [] w = []
shares_after earlier (f ∷ fs) w = min f (w - earlier) ∷ shares_after (earlier + f) fs w

abbrev pub allot : List ℕ → ℕ → List ℕ
allot free w = shares_after 0 free w

-- a lot with its expiry and the number of the first count that named it
pub record Ranked : Type 0 where
  pub expiry : Option (List ℕ)
  pub since : ℕ
  pub lot : List ℕ

-- an earlier date, or a date where the other has none
abbrev pub expires_before : Option (List ℕ) → Option (List ℕ) → Bool
expires_before (Some x) (Some y) = comes_before x y
expires_before (Some x) None = true
expires_before None y = false

-- by since, then by lot bytes
abbrev pub counted_before : Ranked → Ranked → Bool
counted_before a b = nat_lt a.since b.since || (a.since == b.since && comes_before a.lot b.lot)

-- and under rules 2 by the expiry before that
abbrev pub ranks_before : Rules → Ranked → Ranked → Bool
ranks_before One a b = counted_before a b
ranks_before Two a b = expires_before a.expiry b.expiry
    || (not (expires_before b.expiry a.expiry) && counted_before a b)

-- the lots of an item that a count's sheet names
abbrev pub lots_named : List ℕ → Event → List (List ℕ)
lots_named item (Counted n a sheet) = map (λ l. l.lot) (filter (λ l. bytes_eq l.item item) sheet)
lots_named item e = []

-- the lots of an item with since above 0, in order
abbrev pub ranked_lots : Rules → List Event → List ℕ → List Ranked
ranked_lots r es item = in_order (ranks_before r)
    (map (λ lot. record { expiry = expiry es item lot; since = since es item lot; lot = lot })
    (flat_map (lots_named item) es))

abbrev pub lots_of : Rules → List Event → List ℕ → List (List ℕ)
lots_of r es item = map (λ k. k.lot) (ranked_lots r es item)

-- whether a line may have a lot: a pinned one has that lot alone
abbrev pub may_have : Option (List ℕ) → List ℕ → Bool
may_have None lot = true
may_have (Some pin) lot = bytes_eq pin lot

-- the lots that a line may have; none where it is pinned to a lot that no count named
abbrev pub lots_for : Rules → List Event → OrderLine → List (List ℕ)
lots_for r es l = filter (may_have l.pin) (lots_of r es l.item)

-- what is given of each of these lots of an item, 0 included: `free_of` says what is free of a lot,
-- and `left` is wanted
abbrev pub shares_from : List ℕ → List (List ℕ) → (List ℕ → ℕ) → ℕ → List Line
shares_from item lots free_of left =
    map (λ p. record { item = item; lot = p.0; quantity = p.1 })
    (zip lots (allot (map free_of lots) left))

-- what a line is given of each of its lots
abbrev pub line_shares : Rules → List Event → OrderLine → List Line
line_shares r es l = shares_from l.item (lots_for r es l) (free es l.item) l.quantity

-- what an order is given, line by line
abbrev pub order_shares : Rules → List Event → Order → List Line
order_shares r es o = flat_map (line_shares r es) o.lines
