use Rattle.std.proofs.Common.{inl}
use Rattle.app.proofs.over_file.work_over.Goals as goal

pub returns-in-Ok-work-clause-done : goal.returns-in-Ok-work-clause-done
returns-in-Ok-work-clause-done g c = record {
  opened = c.in-Ok.book;
  begun = c.in-Ok.ensures.begun;
  worked = c.work.new.book;
  work = c.in-Ok-work.ensures.worked;
  closed = c.explain.new.book;
  same = c.explain.ensures.same;
  stays = c.explain.ensures.stays;
  back = c.close.ensures;
}

pub returns-in-Err-work-clause-stopped : goal.returns-in-Err-work-clause-stopped
returns-in-Err-work-clause-stopped g c = inl (record {
  opened = c.in-Ok.book;
  begun = c.in-Ok.ensures.begun;
  worked = c.work.new.book;
  work = c.in-Err-work.ensures.worked;
  back = c.close-in-Err-work.ensures;
})
