-- The documents of a depositor, handed on from a running server.
use Rattle.std.specs.Prelude.{◌≡◌, ◌≢◌, ◌⊎◌, ℕ, List, [], Option, Some, None}
use Rattle.std.specs.List.{FoldsTo}
use Rattle.folders.specs.Documents.{document_path, sent_path}
use Rattle.folders.specs.Entries.{IsStanding}
use Rattle.folders.specs.declared.file_system.EntryKind.{EntryKind}
use Rattle.command_line.specs.declared.words.Show.TheVariants as show
use Rattle.intake.specs.declared.audience.Audience.TheVariants.{Partners}
use Rattle.commands.specs.Files.{reads_any}
use Rattle.commands.specs.HandingOn.{IsLeftTold, Told, finds_any, writes_any}
use Rattle.commands.specs.declared.told.ExitStatus.{ExitStatus}
use Rattle.commands.specs.declared.told.ExitStatus.TheVariants.{Done}
use Rattle.http_client.specs.Carried.{Brings, TellsAsReport, brings_any}
use Rattle.http_client.specs.Listed.{documents_in}
use Rattle.http_client.specs.Paths.{look_path}
use Rattle.http_client.specs.declared.handing_on.HandOn.{HandOn}
use Rattle.http_client.specs.declared.remote.answers.ServerAnswer.{ServerAnswer}
use Rattle.http_client.specs.declared.remote.requests.Verb.TheVariants.{Get}

module _ {C : Type 0} (brings : Brings C) (finds : List ℕ → EntryKind → Type 0)
    (reads : List ℕ → ℕ → List ℕ → Type 0) (writes : List ℕ → List ℕ → Type 0) (h : HandOn) where
  -- the document's file has the name of one that was sent: nothing is asked, nothing is printed
  abbrev pub IsSentBefore : C × Told → ℕ → C × Told → Type 0
  IsSentBefore before n later =
      IsStanding finds (sent_path (document_path h.dir.now n)) × (later ≡ before)

  -- the server was asked for the document, which it gave, and the folder has it, as over a book
  pub record IsFetched (before : C × Told) (n : ℕ) (later : C × Told) : Type 0 where
    pub answer : ServerAnswer
    pub asked : brings before.0 Get (look_path (show.Outbox h.who (Some n))) [] answer later.0
    pub okay : answer.status ≡ 200
    pub left : IsLeftTold finds reads writes h.dir.now n answer.body.items before.1 later.1

  abbrev pub IsHandedOn : C × Told → ℕ → C × Told → Type 0
  IsHandedOn before n later = IsSentBefore before n later ⊎ IsFetched before n later

  -- each document of a list was handed on, in the list's order
  abbrev pub AreHandedOn : List ℕ → C × Told → C × Told → Type 0
  AreHandedOn list before later = FoldsTo IsHandedOn before (documents_in list) later

  -- The server was asked for the list. Each document that it tells was handed on; or the answer was
  -- none, and was told.
  pub record IsOutboxHandedOn
      (old : C) (before : Option (List ℕ)) (new : C) (later : Option (List ℕ)) (status : ExitStatus)
      : Type 0 where
    pub answer : ServerAnswer
    pub mid : C
    pub asked : brings old Get (look_path (show.Outbox h.who None)) [] answer mid
    pub came_to : ((answer.status ≡ 200)
        × AreHandedOn answer.body.items (mid, (before, Done)) (new, (later, status)))
        ⊎ ((answer.status ≢ 200) × (new ≡ mid) × TellsAsReport Partners answer before later status)

-- the same, where nothing is said of what carries requests, and of folders
abbrev pub IsHandedOnByAny : HandOn → Option (List ℕ) → Option (List ℕ) → ExitStatus → Type 0
IsHandedOnByAny h before later status =
    IsOutboxHandedOn brings_any finds_any reads_any writes_any h tt before tt later status
