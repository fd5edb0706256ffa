-- Which changes last, worked for interchanges whose sets touch the same pairs.
use Rattle.std.specs.Prelude.{◌≡◌, true, List, [], ◌∷◌, ◌++◌, None, codes}
use Rattle.std.proofs.Common.{refl, ℕ}
use Rattle.stock.specs.declared.steps.Change.{Change}
use Rattle.stock.specs.declared.steps.Change.TheVariants.{Stock, Advice, Document}
use Rattle.rules.specs.Lasting.{lasting}

-- so many expected of a lot of bolts, and of nuts
abbrev bolts : List ℕ → ℕ → Change
bolts lot expected = Stock (record { item = codes "BOLT"; lot = lot; expiry = None; since = 0; expected = expected; on_hand = 0; reserved = 0; shipped = 0 })

abbrev nuts : ℕ → Change
nuts expected = Stock (record { item = codes "NUT"; lot = codes "L1"; expiry = None; since = 0; expected = expected; on_hand = 0; reserved = 0; shipped = 0 })

abbrev advice : List ℕ → Change
advice shipment = Advice (record { shipment = shipment; order = codes "PO77"; lines = []; is_open = true })

-- two sets that touch one pair: its row stands once, as the second left it
two_sets : lasting ((bolts (codes "L1") 100 ∷ advice (codes "SHP1") ∷ []) ++ (bolts (codes "L1") 150 ∷ advice (codes "SHP2") ∷ []))
    ≡ advice (codes "SHP1") ∷ bolts (codes "L1") 150 ∷ advice (codes "SHP2") ∷ []
two_sets = refl

-- other lots and other items stay, and what isn't a row stays in its place
other_pairs : lasting (bolts (codes "L1") 100 ∷ bolts (codes "L2") 40 ∷ nuts 7 ∷ Document 4 true ∷ bolts (codes "L1") 110 ∷ nuts 9 ∷ [])
    ≡ bolts (codes "L2") 40 ∷ Document 4 true ∷ bolts (codes "L1") 110 ∷ nuts 9 ∷ []
other_pairs = refl

-- a row that comes back to a value it had stands once
back_again : lasting (nuts 7 ∷ nuts 9 ∷ nuts 7 ∷ []) ≡ nuts 7 ∷ []
back_again = refl
