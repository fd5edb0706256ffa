use Rattle.std.proofs.Common.{subst}
use Rattle.folders.specs.declared.folder.Taken.{Taken}
use Rattle.commands.specs.Printing.{AppendsFront}
use Rattle.commands.specs.Takes.{line_in}
use Rattle.commands.proofs.PrintingLaws.{item_front, on_err}
use Rattle.commands.proofs.takes.tell_taken.Goals as goal

pub returns-in_err-tell_file-clause-front : goal.returns-in_err-tell_file-clause-front
returns-in_err-tell_file-clause-front g c =
    let mid = g.W.Write.contents c.loop-file.out in
    let later = g.W.Write.contents c.tell_file.new.out in
    on_err c.from_residual.result
    (item_front line_in _ mid later c.args.files.now c.loop-file.file-index c.file-item.result c.loop-file-test.true c.loop-file.invariant.printed
    (subst (λ (file : Taken). AppendsFront mid later (line_in file)) c.file-item.is c.in_err-tell_file.ensures.front))
