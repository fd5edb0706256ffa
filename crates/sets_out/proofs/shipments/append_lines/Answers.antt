use Rattle.std.proofs.Common.{◌≡◌, ℕ, ◌+◌, List, take, sym, subst}
use Rattle.std.specs.Prelude.{flat_map}
use Rattle.std.specs.List.{enumerate_from}
use Rattle.std.proofs.lemmas.List.{take_all}
use Rattle.definitions.specs.Cut.{Segment}
use Rattle.segments.proofs.ExtendsLemmas.{extends_trans}
use Rattle.sets_out.specs.Appends.{Writes}
use Rattle.sets_out.specs.Documents.{ShippedLine, shipped_line}
use Rattle.sets_out.proofs.AppendsLaws.{appends_then}
use Rattle.sets_out.proofs.Numbered.{numbered_next}
use Rattle.sets_out.proofs.shipments.append_lines.Goals as goal

pub loop-index-preserved : goal.loop-index-preserved
loop-index-preserved c =
    let line : (ℕ × ShippedLine) → List Segment = λ p. shipped_line p.0 p.1 in
    let more = numbered_next line c.args.lines.now c.loop-index.index c.index-lines-index.result c.loop-index-test.true c.index-lines-index.is in
    let P : List Segment → Type 0 = λ x. Writes c.args.delims c.args.out.now.items c.append_line.new.out.items x (c.loop-index.count + c.in_ok-count.field-0) in
    record {
      told = subst P (sym more) (appends_then c.args.delims _ _ _ _ _ _ _ c.loop-index.invariant.told c.in_ok-count.ensures.ok);
      kept = extends_trans _ _ _ c.loop-index.invariant.kept c.in_ok-count.ensures.kept;
    }

pub returns-clause-ok : goal.returns-clause-ok
returns-clause-ok c =
    let all : take c.loop-index.index c.args.lines.now ≡ c.args.lines.now = take_all c.loop-index.index c.args.lines.now c.loop-index-test.false in
    let P : List ShippedLine → Type 0 = λ x. Writes c.args.delims c.args.out.now.items c.loop-index.out.items (flat_map (λ p. shipped_line p.0 p.1) (enumerate_from 1 x)) c.loop-index.count in
    subst P all c.loop-index.invariant.told

pub returns-in_err-count-clause-kept : goal.returns-in_err-count-clause-kept
returns-in_err-count-clause-kept c = extends_trans _ _ _ c.loop-index.invariant.kept c.in_err-count.ensures.kept
