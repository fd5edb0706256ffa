use Rattle.std.proofs.Common.{◌≡◌, ◌+◌, ◌-◌, List, drop, take, length, Some, sym, ◌∙◌, ap, arith, length-drop}
use Rattle.std.specs.Prelude.{codes, ◌||◌}
use Rattle.std.specs.List.{take_while}
use Rattle.std.proofs.lemmas.List.{take_all}
use Rattle.definitions.specs.Cut.{Piece, has_id, segments_of}
use Rattle.definitions.specs.Means.{is_ship_to, address_of}
use Rattle.sets_in.proofs.Places.{ship_to_here, ship_to_later}
use Rattle.sets_in.proofs.addresses.ship_to.Goals as goal

pub returns-then-is_ship_to : goal.returns-then-is_ship_to
returns-then-is_ship_to c =
    let i = c.loop-index.index in
    let ps = c.args.segments.now in
    let all : take (length ps - (i + 1)) (drop (i + 1) ps) ≡ drop (i + 1) ps = take_all (length ps - (i + 1)) (drop (i + 1) ps) (omega (arith, length-drop {A = Piece})) in
    let after = c.belonging-after.ensures ∙ ap (λ (qs : List Piece). take_while (λ s. has_id (codes "N3") s || has_id (codes "N4") s) (segments_of qs)) all in
    ap Some (c.in_ok-address_of.ensures ∙ ap (address_of c.index-segments-index.result.elements) after
    ∙ ap (λ (q : Piece). address_of q.elements (take_while (λ s. has_id (codes "N3") s || has_id (codes "N4") s) (segments_of (drop (i + 1) ps)))) c.index-segments-index.is)
    ∙ ship_to_here ps i c.index-segments-index.result _ c.loop-index-test.true c.loop-index.invariant
    (ap (λ (q : Piece). is_ship_to q.elements) (sym c.index-segments-index.is) ∙ (sym c.is_ship_to.ensures ∙ c.if-is_ship_to.true))

pub loop-index-preserved : goal.loop-index-preserved
loop-index-preserved c = ship_to_later c.args.segments.now c.loop-index.index c.index-segments-index.result _ c.loop-index-test.true c.loop-index.invariant
    (ap (λ (q : Piece). is_ship_to q.elements) (sym c.index-segments-index.is) ∙ (sym c.is_ship_to.ensures ∙ c.if-is_ship_to.false))
