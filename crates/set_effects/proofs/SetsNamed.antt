-- What is named of sets.
use Rattle.std.proofs.Common.{◌≡◌, ℕ, true, List, [], ◌∷◌, ◌++◌, Option, None, ap, sym, subst, ◌∙◌}
use Rattle.definitions.specs.declared.rules.Rules.{Rules}
use Rattle.definitions.specs.Bytes.{Delims}
use Rattle.definitions.specs.Cut.{Segment, Piece, AreOf, segments_of}
use Rattle.definitions.specs.Faults.{set_fault, IsFaultOf}
use Rattle.definitions.specs.Words.{kind_words}
use Rattle.definitions.specs.declared.set_kind.SetKind.{SetKind}
use Rattle.definitions.specs.declared.set_kind.SetKind.TheVariants.{ShipmentAdvice, ShippingOrder, FunctionalAcknowledgment}
use Rattle.definitions.specs.Structure.{Set}
use Rattle.definitions.specs.Means.{Advice, advice_of, Order, order_of, Acknowledgment, acknowledgment_of}
use Rattle.stock.specs.Parts.{Named, NamesAdvice, NamesOrder}
use Rattle.set_effects.specs.SetNames.{NamesSet, NamesSets}

pub advice_named : (n : Named) (kind : SetKind) (ss : List Segment) (a : Advice) → kind ≡ ShipmentAdvice → a ≡ advice_of ss → NamesSet n kind ss → NamesAdvice n a
advice_named n kind ss a is same names = subst (NamesAdvice n) (sym same) (subst (λ (k : SetKind). NamesSet n k ss) is names)

pub order_named : (n : Named) (kind : SetKind) (ss : List Segment) (o : Order) → kind ≡ ShippingOrder → o ≡ order_of ss → NamesSet n kind ss → NamesOrder n o
order_named n kind ss o is same names = subst (NamesOrder n) (sym same) (subst (λ (k : SetKind). NamesSet n k ss) is names)

pub ack_named : (n : Named) (kind : SetKind) (ss : List Segment) (a : Acknowledgment) → kind ≡ FunctionalAcknowledgment → a ≡ acknowledgment_of ss → NamesSet n kind ss → n.documents a.document ≡ true
ack_named n kind ss a is same names = ap (λ (x : Acknowledgment). n.documents x.document) same ∙ subst (λ (k : SetKind). NamesSet n k ss) is names

-- of a set that has no fault by the rules
abbrev pub NamesPassed : Rules → Delims → Named → SetKind → List Segment → Type 0
NamesPassed r d n kind ss = set_fault r d (kind_words r kind) ss ≡ None → NamesSet n kind ss

pub named_same : (r : Rules) (d : Delims) (n : Named) (kind k : SetKind) (ps qs : List Piece) → k ≡ kind → qs ≡ ps → IsFaultOf r kind ps None → AreOf d ps
    → NamesPassed r d n kind (segments_of ps) → NamesSet n k (segments_of qs)
named_same r d n kind k ps qs is same none of names =
    subst (λ (x : SetKind). NamesSet n x (segments_of qs)) (sym is) (subst (λ (xs : List Piece). NamesSet n kind (segments_of xs)) (sym same) (names (none d of)))

pub sets_named : (d : Delims) (n : Named) (kind : Option SetKind) (ps qs : List (Set × Option ℕ)) → NamesSets d n kind (ps ++ qs) → NamesSets d n kind ps × NamesSets d n kind qs
sets_named d n kind [] qs names = (tt, names)
sets_named d n kind (p ∷ ps) qs names = let rest = sets_named d n kind ps qs names.1 in ((names.0, rest.0), rest.1)
