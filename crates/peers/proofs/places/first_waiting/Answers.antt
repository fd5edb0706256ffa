-- The first of all is the first at the last place.
use Rattle.std.proofs.Common.{◌+◌, ℕ, Option, refl, subst, sym, arith}
use Rattle.std.proofs.lemmas.Option.{slice_get_read}
use Rattle.std.specs.declared.time.Duration.{Duration}
use Rattle.peers.proofs.Firsts.{FirstSoFar, first_step, found_all}
use Rattle.peers.proofs.places.first_waiting.Goals as goal

pub loop-place-preserved : goal.loop-place-preserved
loop-place-preserved c =
    let at = slice_get_read c.args.places.now _ c.loop-place.place c.index-places-place.result refl (omega arith) c.index-places-place.is in
    subst (λ (of : Option (ℕ × Duration)). FirstSoFar c.args.places.now (c.loop-place.place + 1) of)
    (sym c.first_of-first.ensures)
    (first_step c.args.places.now c.loop-place.place c.loop-place.first _ at c.loop-place.invariant)

pub returns-in-Some : goal.returns-in-Some
returns-in-Some c =
    found_all c.args.places.now c.loop-place.place c.loop-place.first _ _ (omega arith) c.in-Some.is c.loop-place.invariant
