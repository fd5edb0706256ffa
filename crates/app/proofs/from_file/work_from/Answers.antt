use Rattle.std.proofs.Common.{ap, ap₂}
use Rattle.sqlite.specs.Files.{over_files}
use Rattle.sqlite.specs.WalFiles.{image_at}
use Rattle.commands.specs.declared.told.CommandError.TheVariants as stop
use Rattle.app.proofs.FromFileLemmas.{done_from, stopped_from}
use Rattle.app.proofs.UnopenedLemmas.{image, seen, unopened}
use Rattle.app.proofs.from_file.work_from.Goals as goal

pub returns-in-Ok-work_over-clause-done : goal.returns-in-Ok-work_over-clause-done
returns-in-Ok-work_over-clause-done g c =
    done_from over_files g.W.Write.contents (image_at g.S.Start) c.in-Ok.database c.in-Ok-work_over.done.1 c.in-Ok.ensures.opened c.in-Ok.ensures.found c.settle.ensures c.args.job.now
    c.args.out.now c.work_over.new.out c.in-Ok-work_over.done.0 c.in-Ok-work_over.ensures.done

pub returns-in-Err-work_over-clause-stopped : goal.returns-in-Err-work_over-clause-stopped
returns-in-Err-work_over-clause-stopped g c =
    stopped_from over_files g.W.Write.contents (image_at g.S.Start) c.in-Ok.database c.in-Err-work_over.left c.in-Ok.ensures.opened c.in-Ok.ensures.found c.settle.ensures c.args.job.now
    c.args.out.now c.work_over.new.out c.in-Err-work_over.stop c.in-Err-work_over.ensures.stopped

pub returns-in-Err-clause-stopped : goal.returns-in-Err-clause-stopped
returns-in-Err-clause-stopped g c = (
  ap stop.Fault c.fault.ensures.told,
  unopened (image_at g.S.Start) c.args.out.now c.in-Err.error c.in-Err.left
      (λ files log db. ap₂ image (ap₂ (seen g.S.Start.log g.S.Start.db) log.0 log.1) (ap₂ (seen g.S.Start.log g.S.Start.db) db.0 db.1))
      c.in-Err.ensures.unopened c.in-Err.ensures.cause,
)
