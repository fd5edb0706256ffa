use Rattle.std.specs.Prelude.{ℕ, ◌+◌, Bool, Option, Some, None, if◌then◌else◌, length}
use Rattle.definitions.specs.Elements.{ElementFault}
use Rattle.std.proofs.Common.{refl, arith}
use Rattle.std.proofs.Common.{sym, ◌∙◌, ap}
use Rattle.segments.proofs.Scans.{found_here, none_here, at_the_end}
use Rattle.segments.proofs.faults.faulty_element.Goals as goal

pub returns-in-Some : goal.returns-in-Some
returns-in-Some c = found_here c.args.delims.now c.args.rows.now c.args.segment.now.elements c.loop-index.index _ c.element.result.now c.in-Some.code _ c.loop-index-test.true c.element.ensures c.in-Some.ensures c.loop-index.invariant

pub loop-index-preserved : goal.loop-index-preserved
loop-index-preserved c = none_here c.args.delims.now c.args.rows.now c.args.segment.now.elements c.loop-index.index _ c.element.result.now _ c.loop-index-test.true c.element.ensures c.in_default.ensures c.loop-index.invariant

abbrev told_end : ℕ → Bool → Option ElementFault
told_end place longer = if longer then Some (record { place = place; code = 3 }) else None

pub returns-then-reaches : goal.returns-then-reaches
returns-then-reaches c = sym (ap (told_end (length c.args.rows.now + 1)) c.if-reaches.true)
    ∙ at_the_end c.args.delims.now c.args.rows.now c.args.segment.now.elements c.loop-index.index (length c.args.rows.now) c.reaches.result _ refl (omega arith) c.reaches.ensures c.loop-index.invariant

pub returns-else-reaches : goal.returns-else-reaches
returns-else-reaches c = sym (ap (told_end (length c.args.rows.now + 1)) c.if-reaches.false)
    ∙ at_the_end c.args.delims.now c.args.rows.now c.args.segment.now.elements c.loop-index.index (length c.args.rows.now) c.reaches.result _ refl (omega arith) c.reaches.ensures c.loop-index.invariant
