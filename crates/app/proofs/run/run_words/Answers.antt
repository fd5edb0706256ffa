use Rattle.std.proofs.Common.{rules}
use Rattle.sqlite.specs.WalFiles.{image_at}
use Rattle.app.specs.Sessions.{IsTaskEnded}
use Rattle.app.proofs.run.run_words.Goals as goal

pub returns-in-Over-Some-default-default : goal.returns-in-Over-Some-default-default
returns-in-Over-Some-default-default g c =
    let over = c.in-Over-Some-default-default in
    let done : IsTaskEnded g.W.Write.contents (image_at g.S.Start) over.task c.args.out.now c.run_over_file.new.out c.run_over_file.result.ending c.run_over_file.result.files = c.run_over_file.ensures in
    search rules
