use Rattle.std.proofs.Common.{◌++◌, List, map, ap, ◌∙◌, arith}
use Rattle.std.specs.Prelude.{codes}
use Rattle.definitions.specs.Lists.{parted}
use Rattle.definitions.specs.Structure.{group_of}
use Rattle.envelope.proofs.Holding.{made_groups}
use Rattle.envelope.proofs.Pushed.{pushed, all_made, run_made, run_of}
use Rattle.envelope.specs.Parts.{GroupOf, group_under, bare, marked}
use Rattle.envelope.proofs.making.make_groups.Goals as goal

pub loop-start-init : goal.loop-start-init
loop-start-init c = record {
  made = ap (λ (done : List GroupOf). done ++ map (λ r. group_under c.args.delims (group_of (bare r))) ((parted (marked (codes "GS")) c.args.segments.now).runs)) c.new-groups.ensures.items
      ∙ made_groups c.args.delims c.args.segments.now;
  within = omega arith;
}

pub make_group-requires-clause-same : goal.make_group-requires-clause-same
make_group-requires-clause-same c = run_of c.args.delims c.args.segments.now c.in-Some.start _ c.index-segments-start.result c.requires.same
    (omega (arith, c.in-Some.ensures.0, c.in-Some.ensures.1)) c.index-segments-start.is

pub loop-start-preserved : goal.loop-start-preserved
loop-start-preserved c = record {
  made = pushed _ _ _ _ _ _ c.in_ok-push.ensures.items
      (run_made (λ r. group_under c.args.delims (group_of (bare r))) _ _ _ _ _ _
      (c.in-Some.ensures.4 c.index-segments-start.result) c.index-segments-start.is c.in_ok-group.ensures) c.loop-start.invariant.made;
  within = c.in-Some.ensures.1;
}

pub returns : goal.returns
returns c = all_made _ _ _ (ap (map (λ r. group_under c.args.delims (group_of (bare r)))) c.in_default.ensures) c.loop-start.invariant.made
