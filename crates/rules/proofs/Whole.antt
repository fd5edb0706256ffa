-- A whole page is a part of itself that has all that a command can name.
use Rattle.std.proofs.Common.{ℕ, List, [], ◌∷◌, Option, Some, None, refl}
use Rattle.definitions.specs.Bytes.{Delims}
use Rattle.definitions.specs.Cut.{Segment}
use Rattle.definitions.specs.declared.set_kind.SetKind.{SetKind}
use Rattle.definitions.specs.declared.set_kind.SetKind.TheVariants.{ShipmentAdvice, ShippingOrder, FunctionalAcknowledgment}
use Rattle.definitions.specs.Structure.{Set, Group, kind_of, examined}
use Rattle.definitions.specs.History.{History}
use Rattle.definitions.specs.Means.{advised, advice_of, order_of}
use Rattle.definitions.specs.Register.{Act, Count, Pick, Recount, Command}
use Rattle.stock.specs.Pages.{PageFacts, IsSound}
use Rattle.stock.specs.Parts.{all_named}
use Rattle.stock.proofs.PartLemmas.{part_of_self, all_items, all_ordered}
use Rattle.rules.specs.Decided.{IsHeldPart, IsPageOf, StandsFor}
use Rattle.set_effects.specs.SetNames.{NamesSet, NamesJudged, NamesUnder, NamesSets, NamesGroups}
use Rattle.rules.specs.Needs.{NamesAct}
use Rattle.rules.specs.Naming.{named_of}
use Rattle.definitions.specs.Need.{Need, need_of}
use Rattle.rules.proofs.NeedNames.{needed}

all_set : (kind : SetKind) (ss : List Segment) → NamesSet all_named kind ss
all_set ShipmentAdvice ss = record { shipment = refl; items = all_items (advised (advice_of ss)) }
all_set ShippingOrder ss = record { number = refl; items = all_ordered ((order_of ss).lines) }
all_set FunctionalAcknowledgment ss = refl

all_judged : (d : Delims) (kind : SetKind) (s : Set) (fault : Option ℕ) → NamesJudged d all_named kind s fault
all_judged d kind s None = λ r none. all_set kind s.segments
all_judged d kind s (Some code) = tt

all_under : (d : Delims) (kind : Option SetKind) (p : Set × Option ℕ) → NamesUnder d all_named kind p
all_under d None p = tt
all_under d (Some kind) p = all_judged d kind p.0 p.1

all_sets : (d : Delims) (kind : Option SetKind) (ps : List (Set × Option ℕ)) → NamesSets d all_named kind ps
all_sets d kind [] = tt
all_sets d kind (p ∷ ps) = (all_under d kind p, all_sets d kind ps)

pub all_groups : (d : Delims) (gs : List Group) → NamesGroups d all_named gs
all_groups d [] = tt
all_groups d (g ∷ gs) = (all_sets d (kind_of g) (examined g), all_groups d gs)

pub all_act : (p : PageFacts) (act : Act) → NamesAct all_named p act
all_act p (Count shipment sheet) = record { shipment = refl; sheet = all_items sheet; lines = λ k h. all_items k.lines }
all_act p (Pick number sheet) = record { number = refl; sheet = all_items sheet; reserved = λ k h. all_items k.reserved }
all_act p (Recount sheet) = all_items sheet

pub whole_held : (need : Need) (P : PageFacts) (h : History) → IsSound P → IsPageOf P h → IsHeldPart need P h
whole_held need P h sound is = record { whole = P; sound = sound; page = is; part = part_of_self (named_of need P) P sound.sorted }

-- the part that a command's need names has what the command needs
pub held_stands : (c : Command) (p : PageFacts) (h : History) → IsHeldPart (need_of c) p h → StandsFor c (Some p) (Some h)
held_stands c p h held =
    (held.whole, record { named = named_of (need_of c) held.whole; part = held.part; names = needed held.whole held.sound p c held.part }, held.page)
