-- What a line asks of a server, where nothing is said of files.
use Rattle.std.proofs.Common.{◌≡◌, ◌⊎◌, ℕ, List, Option, Ok, Err, OnOk, refl}
use Rattle.std.specs.Borrow.{Bor}
use Rattle.store.specs.Refusal.{Refusal}
use Rattle.command_line.specs.declared.words.BookAct.TheVariants as act
use Rattle.command_line.specs.declared.words.ClerkWords.{ClerkWords}
use Rattle.command_line.specs.declared.words.Task.{Task}
use Rattle.command_line.specs.declared.words.Task.TheVariants as task
use Rattle.commands.specs.Acting.{Ending}
use Rattle.commands.specs.Files.{Reads, reads_any}
use Rattle.commands.proofs.SlipLaws.{unready_any}
use Rattle.http_client.specs.Errands.{IsDeed, IsErrandFor, IsNoErrandFor}
use Rattle.http_client.specs.declared.errand.Errand.{Errand}
use Rattle.http_client.specs.declared.errand.Errand.TheVariants as errand
use Rattle.app.specs.Asking.{IsAskedOf, IsNotAsked, IsServerAsked}

deed_any : (reads : Reads) (t : ClerkWords) (text : List ℕ) → IsDeed reads t text → IsDeed reads_any t text
deed_any reads t text h = record { who = h.who; named = h.named; from = tt; sheet = h.sheet; read = h.read }

pub errand_any : (reads : Reads) (t : Task) (e : Errand) → IsErrandFor reads t e → IsErrandFor reads_any t e
errand_any reads (task.Act (act.Send file) at) (errand.Send bytes) h = record { read = tt; within = h.within }
errand_any reads (task.Act (act.Clerk told) at) (errand.Deed t text) h = (h.0, deed_any reads told text.items h.1)
errand_any reads (task.Try (act.Send file) at) (errand.TrySend bytes) h = record { read = tt; within = h.within }
errand_any reads (task.Try (act.Clerk told) at) (errand.TryDeed t text) h = (h.0, deed_any reads told text.items h.1)
errand_any reads (task.Show s) (errand.Look shown) h = h
errand_any reads t e h = absurd h

pub no_errand_any : (reads : Reads) (t : Task) (r : Refusal) → IsNoErrandFor reads t r → IsNoErrandFor reads_any t r
no_errand_any reads (task.Act (act.Send file) at) r h = (h.0, record { bytes = h.1.bytes; read = tt; longer = h.1.longer })
no_errand_any reads (task.Act (act.Clerk told) at) r h = unready_any reads (act.Clerk told) r h
no_errand_any reads (task.Try (act.Send file) at) r h = (h.0, record { bytes = h.1.bytes; read = tt; longer = h.1.longer })
no_errand_any reads (task.Try (act.Clerk told) at) r h = unready_any reads (act.Clerk told) r h
no_errand_any reads (task.Show s) r h = h
no_errand_any reads t r h = absurd h

-- why it was told as not ready
pub told_unasked : (reads : Reads) (t : Task) (r : Refusal) (e : Ending) → IsNoErrandFor reads t r → OnOk e ((refusal : Refusal) × IsNoErrandFor reads_any t refusal)
told_unasked reads t r (Ok status) h = (r, no_errand_any reads t r h)
told_unasked reads t r (Err stop) h = tt

-- whatever the line asks for, but for documents to be handed on
pub asked_so : {W : Type 0} (contents : W → Option (List ℕ)) (t : Task) (before later : W) (e : Ending) → ((who dir : Bor (List ℕ)) → t ≡ task.HandOn who dir → ⊥)
    → IsAskedOf contents t before later e ⊎ IsNotAsked contents t before later e → IsServerAsked contents t before later e
asked_so contents (task.Init who) before later e other h = h
asked_so contents (task.Act a at) before later e other h = h
asked_so contents (task.Try a at) before later e other h = h
asked_so contents (task.Show s) before later e other h = h
asked_so contents (task.HandOn who dir) before later e other h = absurd (other who dir refl)
asked_so contents (task.Batch file) before later e other h = h
asked_so contents (task.Serve service at) before later e other h = h
asked_so contents (task.Verify seal) before later e other h = h
asked_so contents (task.Seal first) before later e other h = h
