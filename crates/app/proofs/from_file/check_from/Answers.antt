use Rattle.std.proofs.Common.{arith, ap, ap₂, refl}
use Rattle.sqlite.specs.Files.{over_files}
use Rattle.sqlite.specs.Held.{state}
use Rattle.sqlite.specs.State.{HasCleanDisk}
use Rattle.sqlite.specs.WalFiles.{image_at}
use Rattle.std.specs.Prelude.{Err}
use Rattle.commands.specs.declared.told.CommandError.TheVariants as stop
use Rattle.app.proofs.EndLemmas.{closing_checks, of_books, whole_of_files}
use Rattle.app.proofs.UnopenedLemmas.{image, seen, unopened}
use Rattle.app.proofs.from_file.check_from.Goals as goal

pub returns-in-Ok-check_over : goal.returns-in-Ok-check_over
returns-in-Ok-check_over g c =
    closing_checks g.W.Write.contents (image_at g.S.Start) c.args.noted.now c.args.out.now c.check_over.new.out c.in-Ok-check_over.status c.in-Ok-check_over.database (λ clean.
    let early : HasCleanDisk (state over_files c.in-Ok.database) = omega (arith, c.in-Ok-check_over.ensures.clean, clean) in
    let found = c.in-Ok.ensures.found early in (
      whole_of_files (image_at g.S.Start) (state over_files c.in-Ok.database) _ _ found (c.in-Ok-check_over.ensures.whole clean),
      of_books over_files (image_at g.S.Start) c.in-Ok.database _ found (c.in-Ok-check_over.ensures.counted clean),
    ))
    c.close_after.result.ending c.close_after.result.files c.close_after.ensures

pub returns-in-Err-check_over : goal.returns-in-Err-check_over
returns-in-Err-check_over g c =
    let e = c.in-Err-check_over.ensures in
    let left = e.left in (
      c.in-Err-check_over.stop,
      refl,
      record {
        database = c.in-Ok.database;
        why = e.stopped;
        left = left;
        this = λ clean told.
            let early : HasCleanDisk (state over_files c.in-Ok.database) = omega (arith, left.clean, clean) in
            of_books over_files (image_at g.S.Start) c.in-Ok.database _ (c.in-Ok.ensures.found early) (left.not_this clean told);
      },
    )

pub returns-in-Err : goal.returns-in-Err
returns-in-Err g c = (
  ap (λ f. Err (stop.Fault f)) c.fault.ensures.told,
  unopened (image_at g.S.Start) c.args.out.now c.in-Err.error c.in-Err.left
      (λ files log db. ap₂ image (ap₂ (seen g.S.Start.log g.S.Start.db) log.0 log.1) (ap₂ (seen g.S.Start.log g.S.Start.db) db.0 db.1))
      c.in-Err.ensures.unopened c.in-Err.ensures.cause,
)
