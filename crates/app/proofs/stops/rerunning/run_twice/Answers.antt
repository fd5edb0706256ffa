use Rattle.sqlite.specs.Files.{over_files}
use Rattle.sqlite.specs.WalFiles.{image_at}
use Rattle.app.proofs.RerunLemmas.{found_twice, stored_twice}
use Rattle.app.proofs.KeptLemmas.{kept_twice}
use Rattle.app.proofs.stops.rerunning.run_twice.Goals as goal

pub returns : goal.returns
returns g c = record {
  found = found_twice over_files g.W.Write.contents (image_at g.S.Start) (image_at g.T.Start) c.args.first.1.now c.args.next.1.now c.args.again.now c.work_from-second.new.out c.run_and_stop-stopped.result
      c.run_and_stop-stopped.ensures.left c.work_from-second.result c.work_from-second.ensures.done;
  kept = kept_twice over_files g.W.Write.contents (image_at g.S.Start) (image_at g.T.Start) c.args.first.1.now c.args.next.1.now c.args.out.now c.run_and_stop-stopped.new.out c.args.again.now
      c.work_from-second.new.out c.run_and_stop-stopped.result c.run_and_stop-stopped.ensures.kept c.work_from-second.result c.work_from-second.ensures.done;
  stored = stored_twice over_files g.W.Write.contents (image_at g.S.Start) (image_at g.T.Start) c.args.first.1.now c.args.next.1.now c.args.again.now c.work_from-second.new.out c.run_and_stop-stopped.result
      c.run_and_stop-stopped.ensures.left c.work_from-second.result c.work_from-second.ensures.done;
}
