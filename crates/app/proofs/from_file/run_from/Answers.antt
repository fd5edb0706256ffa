use Rattle.sqlite.specs.WalFiles.{image_at}
use Rattle.app.proofs.EndLemmas.{job_ends}
use Rattle.app.proofs.from_file.run_from.Goals as goal

pub returns-in_default : goal.returns-in_default
returns-in_default g c =
    job_ends g.W.Write.contents (image_at g.S.Start) c.args.job.now c.args.out.now c.do_from.new.out c.do_from.result.ending c.do_from.result.files c.in_default.not-Check c.do_from.ensures
