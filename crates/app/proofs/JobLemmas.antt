-- What a line asks for, where nothing is said of files.
use Rattle.std.proofs.Common.{Ok, Err, OnOk}
use Rattle.store.specs.Refusal.{Refusal}
use Rattle.command_line.specs.declared.words.Task.{Task}
use Rattle.command_line.specs.declared.words.Task.TheVariants as task
use Rattle.commands.specs.Acting.{Ending}
use Rattle.commands.specs.Files.{Reads, reads_any}
use Rattle.commands.proofs.SlipLaws.{made_any, unready_any}
use Rattle.app.specs.Working.{IsJobFor, IsNoJobFor}
use Rattle.app.specs.declared.over_file.Job.{Job}
use Rattle.app.specs.declared.over_file.Job.TheVariants as job

pub job_any : (reads : Reads) (t : Task) (j : Job) → IsJobFor reads t j → IsJobFor reads_any t j
job_any reads (task.Init who) (job.Make warehouse) h = h
job_any reads (task.Act a at) (job.Change ready moment) h = (made_any reads a ready h.0, h.1)
job_any reads (task.Try a at) (job.Try ready moment) h = (made_any reads a ready h.0, h.1)
job_any reads (task.Show s) (job.Look asked) h = h
job_any reads (task.Batch file) (job.Play text) h = record { read = tt; within = h.within }
job_any reads (task.Verify text) (job.Check noted) h = h
job_any reads (task.HandOn name dir) (job.HandOn who folder) h = h
job_any reads (task.Seal text) (job.Seal first) h = h
job_any reads (task.Serve s at) (job.Listen service first has_clock file) h = h
job_any reads t j h = absurd h

pub no_job_any : (reads : Reads) (t : Task) (r : Refusal) → IsNoJobFor reads t r → IsNoJobFor reads_any t r
no_job_any reads (task.Init who) r h = h
no_job_any reads (task.Act a at) r h = unready_any reads a r h
no_job_any reads (task.Try a at) r h = unready_any reads a r h
no_job_any reads (task.Show s) r h = h
no_job_any reads (task.HandOn name dir) r h = h
no_job_any reads t r h = absurd h

-- why it was told as not ready
pub told_why : (reads : Reads) (t : Task) (r : Refusal) (e : Ending) → IsNoJobFor reads t r → OnOk e ((refusal : Refusal) × IsNoJobFor reads_any t refusal)
told_why reads t r (Ok status) h = (r, no_job_any reads t r h)
told_why reads t r (Err stop) h = tt
