use Rattle.std.specs.Prelude.{◌≡◌, true}
use Rattle.sqlite.specs.WalFiles.{image_at}
use Rattle.commands.specs.Files.{reads_any}
use Rattle.app.specs.Sessions.{HasJobEnded, serves_on}
use Rattle.app.specs.Working.{IsJobFor}
use Rattle.app.proofs.waiting.do_job.Given as goal

abbrev pub invariant-loop-session : goal.invariant-loop-session
invariant-loop-session g l = record {
  starts : goal.F-IsAlwaysCallable g l.starts;
  job_for : IsJobFor reads_any l.line.task.now l.job;
  so_far : HasJobEnded g.W.Write.contents (image_at g.S.Start) l.line.task.now l.fn.out l.out l.ended.ending l.ended.files;
  serves : serves_on l.line.task.now ≡ true;
}
