use Rattle.std.proofs.Common.{ℕ, ◌+◌, List, sym, subst}
use Rattle.std.specs.Prelude.{codes}
use Rattle.definitions.specs.Cut.{Segment}
use Rattle.definitions.specs.Texts.{body_997, set_of_segments}
use Rattle.segments.proofs.ExtendsLemmas.{extends_trans}
use Rattle.sets_out.specs.Appends.{Writes}
use Rattle.sets_out.proofs.AppendsLaws.{appends_then}
use Rattle.sets_out.proofs.Numbered.{numbered_more}
use Rattle.sets_out.proofs.interchanges.append_997s.Goals as goal

pub loop-index-preserved : goal.loop-index-preserved
loop-index-preserved c =
    let place : (ℕ × List Segment) → List Segment = λ p. set_of_segments (codes "997") p.0 p.1 in
    let more = numbered_more place body_997 c.args.told.now c.loop-index.index c.index-told-index.result c.loop-index-test.true c.index-told-index.is in
    let P : List Segment → Type 0 = λ x. Writes c.args.delims c.args.out.now.items c.append_997.new.out.items x (c.loop-index.count + c.in_ok-count.field-0) in
    record {
      told = subst P (sym more) (appends_then c.args.delims _ _ _ _ _ _ _ c.loop-index.invariant.told c.in_ok-count.ensures.ok);
      kept = extends_trans _ _ _ c.loop-index.invariant.kept c.in_ok-count.ensures.kept;
    }

pub returns-in_err-count-clause-kept : goal.returns-in_err-count-clause-kept
returns-in_err-count-clause-kept c = extends_trans _ _ _ c.loop-index.invariant.kept c.in_err-count.ensures.kept
