use Rattle.std.proofs.Common.{◌++◌, List, map, ap, ◌∙◌, arith}
use Rattle.std.specs.Prelude.{codes}
use Rattle.definitions.specs.Lists.{parted}
use Rattle.definitions.specs.Cut.{Piece, has_id}
use Rattle.definitions.specs.Structure.{set_of}
use Rattle.envelope.proofs.Holding.{made_sets}
use Rattle.envelope.proofs.Pushed.{pushed, all_made, run_made, run_of}
use Rattle.envelope.specs.Parts.{SetOf, set_under, bare, marked}
use Rattle.envelope.proofs.making.make_sets.Goals as goal

pub loop-start-init : goal.loop-start-init
loop-start-init c = record {
  made = ap (λ (done : List SetOf). done ++ map (λ r. set_under c.args.delims (set_of (bare r))) ((parted (marked (codes "ST")) c.args.segments.now).runs)) c.new-sets.ensures.items
      ∙ made_sets c.args.delims c.args.segments.now;
  within = omega arith;
}

pub make_set-requires-clause-same : goal.make_set-requires-clause-same
make_set-requires-clause-same c = run_of c.args.delims c.args.segments.now c.in-Some.start _ c.index-segments-start.result c.requires.same
    (omega (arith, c.in-Some.ensures.0, c.in-Some.ensures.1)) c.index-segments-start.is

pub make_set-requires-clause-begins : goal.make_set-requires-clause-begins
make_set-requires-clause-begins c = ap (λ (p : Piece). has_id (codes "ST") p.elements) c.index-segments-start.is
    ∙ c.in-Some.ensures.3 c.index-segments-start.result

pub loop-start-preserved : goal.loop-start-preserved
loop-start-preserved c = record {
  made = pushed _ _ _ _ _ _ c.in_ok-push.ensures.items
      (run_made (λ r. set_under c.args.delims (set_of (bare r))) _ _ _ _ _ _
      (c.in-Some.ensures.4 c.index-segments-start.result) c.index-segments-start.is c.in_ok-set.ensures) c.loop-start.invariant.made;
  within = c.in-Some.ensures.1;
}

pub returns : goal.returns
returns c = all_made _ _ _ (ap (map (λ r. set_under c.args.delims (set_of (bare r)))) c.in_default.ensures) c.loop-start.invariant.made
