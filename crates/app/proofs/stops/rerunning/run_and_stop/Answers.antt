use Rattle.sqlite.specs.WalFiles.{image_at}
use Rattle.app.proofs.RerunLemmas.{done_leaves, stopped_leaves}
use Rattle.app.proofs.KeptLemmas.{kept_done, kept_stopped}
use Rattle.app.proofs.stops.rerunning.run_and_stop.Goals as goal

pub returns-in-Ok : goal.returns-in-Ok
returns-in-Ok g c = record {
  left = λ clean q W L held k t gives then may. (
    done_leaves c.in-Ok.database c.let_go.result c.let_go.ensures clean then may g.W.Write.contents (image_at g.S.Start) c.args.job.now c.args.out.now c.work_from.new.out q W L held k t gives
        c.in-Ok.status c.in-Ok.ensures.done,
    tt,
  );
  kept = kept_done g.W.Write.contents (image_at g.S.Start) c.args.job.now c.args.out.now c.work_from.new.out c.in-Ok.database c.let_go.result c.let_go.ensures c.in-Ok.status c.in-Ok.ensures.done;
}

pub returns-in-Err : goal.returns-in-Err
returns-in-Err g c = record {
  left = stopped_leaves g.W.Write.contents (image_at g.S.Start) c.args.job.now c.args.out.now c.work_from.new.out c.in-Err.stop c.in-Err.files c.in-Err.ensures.stopped c.stopped_with.result
      c.stopped_with.ensures;
  kept = kept_stopped g.W.Write.contents (image_at g.S.Start) c.args.job.now c.args.out.now c.work_from.new.out c.in-Err.stop c.in-Err.files c.in-Err.ensures.stopped c.stopped_with.result
      c.stopped_with.ensures;
}
