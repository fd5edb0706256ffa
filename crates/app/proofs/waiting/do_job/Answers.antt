use Rattle.std.proofs.Common.{rules, of_calls, inl}
use Rattle.sqlite.specs.WalFiles.{image_at}
use Rattle.app.proofs.SessionLemmas.{served_again}
use Rattle.app.proofs.waiting.do_job.Goals as goal

pub loop-session-init : goal.loop-session-init
loop-session-init g c = record {
  starts = search (rules, of_calls);
  job_for = search rules;
  so_far = inl (record { asked = c.args.first; for = c.requires.job; ended = search rules });
  serves = search rules;
}

pub loop-session-preserved : goal.loop-session-preserved
loop-session-preserved g c = record {
  starts = search (rules, of_calls);
  job_for = search rules;
  so_far = served_again g.W.Write.contents (image_at g.S.Start) (image_at g.S.Start) c.args.line.task.now c.args.out.now c.loop-session.out c.over_found-ended-in-loop-session.new.out c.in-Err.stop
      c.over_found-ended-in-loop-session.result.ending c.loop-session.ended.files c.over_found-ended-in-loop-session.result.files c.loop-session.invariant.serves (search rules) (rw c.in-Err.is at c.loop-session.invariant.so_far) (record {
        asked = c.job_again-job.result;
        for = c.job_again-job.ensures c.loop-session.invariant.job_for;
        ended = c.over_found-ended-in-loop-session.ensures.ended;
      });
  serves = c.loop-session.invariant.serves;
}
