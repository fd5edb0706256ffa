-- What is named of sets that are taken.
-- A set's names are asked for only where it has no fault, neither one of its envelope nor, by some
-- rules, one of its segments: so what one scan of all segments names is enough.
use Rattle.std.specs.Prelude.{ℕ, ◌≡◌, true, List, [], ◌∷◌, Option, Some, None}
use Rattle.definitions.specs.declared.rules.Rules.{Rules}
use Rattle.definitions.specs.Bytes.{Delims}
use Rattle.definitions.specs.Cut.{Segment}
use Rattle.definitions.specs.Words.{kind_words}
use Rattle.definitions.specs.declared.set_kind.SetKind.{SetKind}
use Rattle.definitions.specs.declared.set_kind.SetKind.TheVariants.{ShipmentAdvice, ShippingOrder, FunctionalAcknowledgment}
use Rattle.definitions.specs.Structure.{Set, Group, kind_of, examined}
use Rattle.definitions.specs.Means.{advice_of, order_of, acknowledgment_of}
use Rattle.definitions.specs.Faults.{set_fault}
use Rattle.stock.specs.Parts.{Named, NamesAdvice, NamesOrder}

-- what a set is about is named
abbrev pub NamesSet : Named → SetKind → List Segment → Type 0
NamesSet n ShipmentAdvice ss = NamesAdvice n (advice_of ss)
NamesSet n ShippingOrder ss = NamesOrder n (order_of ss)
NamesSet n FunctionalAcknowledgment ss = n.documents (acknowledgment_of ss).document ≡ true

-- of a set that has no fault by some rules
abbrev pub NamesJudged : Delims → Named → SetKind → Set → Option ℕ → Type 0
NamesJudged d n kind s (Some code) = Unit {0}
NamesJudged d n kind s None = (r : Rules) → set_fault r d (kind_words r kind) s.segments ≡ None
    → NamesSet n kind s.segments

abbrev pub NamesUnder : Delims → Named → Option SetKind → Set × Option ℕ → Type 0
NamesUnder d n None p = Unit {0}
NamesUnder d n (Some kind) p = NamesJudged d n kind p.0 p.1

abbrev pub NamesSets : Delims → Named → Option SetKind → List (Set × Option ℕ) → Type 0
NamesSets d n kind [] = Unit {0}
NamesSets d n kind (p ∷ ps) = NamesUnder d n kind p × NamesSets d n kind ps

-- of each set of a group, and of each group
abbrev pub NamesGroup : Delims → Named → Group → Type 0
NamesGroup d n g = NamesSets d n (kind_of g) (examined g)

abbrev pub NamesGroups : Delims → Named → List Group → Type 0
NamesGroups d n [] = Unit {0}
NamesGroups d n (g ∷ gs) = NamesGroup d n g × NamesGroups d n gs
