use Rattle.std.proofs.Common.{rules, of_calls, ◌∙◌, sym, subst}
use Rattle.sqlite.specs.WalFiles.{image_at}
use Rattle.app.specs.Ended.{IsJobEnded}
use Rattle.app.proofs.EndLemmas.{busy_prints_nothing, run_ends}
use Rattle.app.proofs.waiting.over.Goals as goal

pub returns-then-not-are_in_use-clause-ended : goal.returns-then-not-are_in_use-clause-ended
returns-then-not-are_in_use-clause-ended g c =
    let contents = g.W.Write.contents in
    let image = image_at g.S.Start in
    let told = c.told_of.ensures in
    let ended = run_ends contents image c.args.job.now c.loop-look.out c.run_from-ended.new.out c.run_from-ended.result.ending c.told_of.result.ending c.run_from-ended.result.files c.run_from-ended.ensures told.0 in
    subst (λ files. IsJobEnded contents image c.args.job.now c.args.out.now c.run_from-ended.new.out c.told_of.result.ending files) (sym told.1)
    (subst (λ before. IsJobEnded contents image c.args.job.now before c.run_from-ended.new.out c.told_of.result.ending c.run_from-ended.result.files) c.loop-look.invariant.out ended)

pub loop-look-preserved : goal.loop-look-preserved
loop-look-preserved g c = record {
  starts = search (rules, of_calls);
  out = busy_prints_nothing g.W.Write.contents (image_at g.S.Start) c.args.job.now c.loop-look.out c.run_from-ended.new.out c.run_from-ended.result.ending c.run_from-ended.result.files c.run_from-ended.ensures
      (c.are_in_use.ensures c.if-not-are_in_use.false) ∙ c.loop-look.invariant.out;
}
