use Rattle.sqlite.specs.WalFiles.{image_at}
use Rattle.app.proofs.EndLemmas.{closing_ends}
use Rattle.app.proofs.from_file.do_from.Goals as goal

pub returns-in-Ok : goal.returns-in-Ok
returns-in-Ok g c =
    closing_ends g.W.Write.contents (image_at g.S.Start) c.args.job.now c.args.out.now c.work_from.new.out c.in-Ok.status c.in-Ok.database c.in-Ok.ensures.done c.close_after.result.ending
    c.close_after.result.files c.close_after.ensures
