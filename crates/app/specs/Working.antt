-- Which job over a book in a file a line asks for, and what the job comes to (Checking: that of a
-- check; Done: with the opening before it).
use Rattle.std.specs.Prelude.{◌≡◌, ℕ, Bool, true, false, List, Option, Some, None, Ok, option_map, IfSome, IfOk, IfErr, OnOk, OnErr, string_bytes}
use Rattle.definitions.specs.Header.{Who, who_of}
use Rattle.definitions.specs.Moments.{Moment}
use Rattle.definitions.specs.Rows.{outbox_of}
use Rattle.store.specs.Refusal.{Refusal}
use Rattle.store.specs.Refusal.TheVariants.{BadText}
use Rattle.store.specs.Standing.{Standing, GoesOn, IsUnchanged, OfKept}
use Rattle.commands.specs.Acting.{Ending, IsPerformed}
use Rattle.commands.specs.Files.{IsWithin, Reads, reads_any}
use Rattle.commands.specs.HandingOn.{LeavesAll, finds_any, writes_any}
use Rattle.commands.specs.Looking.{IsAskedFor, IsLook, is_readable}
use Rattle.commands.specs.Playing.{HasPlayed, HasStopped, asking}
use Rattle.commands.specs.Readying.{IsMadeReady, IsUnready}
use Rattle.commands.specs.Shown.{IsLookAt, shown_seal}
use Rattle.commands.specs.Trying.{IsTriedOf}
use Rattle.seals.specs.Noted.{beginning, beginning_in, entries_in}
use Rattle.commands.specs.Serving.{AfterLook, HasServed, HasServedUpTo, access_of, count_of}
use Rattle.commands.specs.declared.files.TheConstants.{MOST_SCRIPT}
use Rattle.commands.specs.declared.told.ExitStatus.TheVariants.{Done}
use Rattle.app.specs.declared.over_file.Job.{Job}
use Rattle.app.specs.declared.over_file.Job.TheVariants as job
use Rattle.command_line.specs.declared.words.Service.{Service}
use Rattle.command_line.specs.declared.words.Task.{Task}
use Rattle.command_line.specs.declared.words.Task.TheVariants as task

abbrev pub says_none : Option Moment → Bool
says_none None = true
says_none (Some t) = false

-- It is what the line asks for, of files as they were read, at the moment that the line says, if it
-- says one; a server goes by the clock where the line says none.
abbrev pub IsJobFor : Reads → Task → Job → Type 0
IsJobFor reads (task.Init who) (job.Make warehouse) = who_of who.now ≡ Some warehouse
IsJobFor reads (task.Act a at) (job.Change ready moment) = IsMadeReady reads a ready
    × IfSome at (λ t. moment ≡ t)
IsJobFor reads (task.Try a at) (job.Try ready moment) = IsMadeReady reads a ready
    × IfSome at (λ t. moment ≡ t)
IsJobFor reads (task.Show s) (job.Look asked) = IsAskedFor s asked
IsJobFor reads (task.Batch file) (job.Play text) =
    IsWithin reads file.now MOST_SCRIPT (string_bytes text)
IsJobFor reads (task.HandOn name dir) (job.HandOn who folder) = (who_of name.now ≡ Some who)
    × (folder ≡ dir)
IsJobFor reads (task.Verify text) (job.Check noted) =
    option_map (λ t. beginning_in t.now) text ≡ option_map (λ b. Some (beginning b)) noted
IsJobFor reads (task.Seal text) (job.Seal first) =
    option_map (λ t. entries_in t.now) text ≡ option_map (λ n. Some n) first
IsJobFor reads (task.Serve s at) (job.Listen service first has_clock file) =
    (service ≡ s) × IfSome at (λ t. first ≡ t) × (has_clock ≡ says_none at)
IsJobFor reads t j = ⊥

-- what the line asks for isn't made ready, for this reason; a batch, a check and a server are never
-- refused
abbrev pub IsNoJobFor : Reads → Task → Refusal → Type 0
IsNoJobFor reads (task.Init who) refusal = (refusal ≡ BadText) × (who_of who.now ≡ None)
IsNoJobFor reads (task.Act a at) refusal = IsUnready reads a refusal
IsNoJobFor reads (task.Try a at) refusal = IsUnready reads a refusal
IsNoJobFor reads (task.Show s) refusal = (refusal ≡ BadText) × (is_readable s ≡ false)
IsNoJobFor reads (task.HandOn name dir) refusal = (refusal ≡ BadText) × (who_of name.now ≡ None)
IsNoJobFor reads t refusal = ⊥

-- the rows of a batch were played, to their end or up to one that stopped it
abbrev pub IsBatchPlayed : {K W : Type 0} → (K → Standing) → (W → Option (List ℕ)) → List ℕ → K → W
    → K → W → Ending → Type 0
IsBatchPlayed standing contents text old before new later ending =
    IfOk ending (λ status. HasPlayed reads_any standing contents (old, (before, Done))
    (asking text) (new, (later, status)))
    × IfErr ending (λ stop. HasStopped reads_any standing contents (old, (before, Done))
    (asking text) new later stop)

-- as many connections were served as the line says, or no more than these
abbrev pub IsService : {K : Type 0} → (K → Standing) → Service → Moment → Bool → K → K → Ending
    → Type 0
IsService standing service first has_clock old new ending =
    OnOk ending (AfterLook standing old
    (λ start. HasServed standing (access_of service) has_clock first start new
    (count_of service.count)))
    × OnErr ending (AfterLook standing old
    (λ start. HasServedUpTo standing (access_of service) has_clock first start new
    (count_of service.count)))

-- Each document that went out to a depositor was handed on to a folder, of which nothing is said,
-- and what became of it told.
abbrev pub IsHandedOn : Standing → Standing → Who → List ℕ → Option (List ℕ) → Option (List ℕ)
    → Ending → Type 0
IsHandedOn old new who dir before later ending = OfKept old new (λ L. IfOk ending
    (λ status. LeavesAll finds_any reads_any writes_any dir (outbox_of old.warehouse L who)
    (before, Done) (later, status)))

-- What a job comes to over a book: what was made ready was done or tried at its moment, what was asked
-- for was shown, a text was played, a server served. Where the job is to make the book or to check it,
-- nothing more is done.
abbrev pub IsWork : {K W : Type 0} → (K → Standing) → (W → Option (List ℕ)) → K → W → Job → K → W
    → Ending → Type 0
IsWork standing contents old before (job.Change ready moment) new later ending =
    GoesOn (standing old) (standing new)
    × IsPerformed (standing old) (standing new) ready moment (contents before) (contents later)
    ending
IsWork standing contents old before (job.Try ready moment) new later ending =
    IsUnchanged (standing old) (standing new)
    × IsTriedOf (standing old) (standing new) ready moment (contents before) (contents later)
    ending
IsWork standing contents old before (job.Look asked) new later ending =
    IsLook (standing old) (standing new) asked (contents before) (contents later) ending
IsWork standing contents old before (job.Seal first) new later ending =
    IsLookAt (standing old) (standing new) (shown_seal first) (contents before) (contents later)
    ending
IsWork standing contents old before (job.HandOn who dir) new later ending =
    IsUnchanged (standing old) (standing new)
    × IsHandedOn (standing old) (standing new) who dir.now (contents before) (contents later)
    ending
IsWork standing contents old before (job.Play text) new later ending =
    GoesOn (standing old) (standing new)
    × IsBatchPlayed standing contents (string_bytes text) old before new later ending
IsWork standing contents old before (job.Listen service first has_clock file) new later ending =
    GoesOn (standing old) (standing new)
    × IsService standing service first has_clock old new ending
IsWork standing contents old before other new later ending =
    (new ≡ old) × ((later ≡ before) × (ending ≡ Ok Done))
