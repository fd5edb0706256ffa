-- Files that are handed in: what was read of each, and where its answer is.
use Rattle.std.specs.Prelude.{◌≡◌, ◌≢◌, ◌⊎◌, ◌+◌, ◌∷◌, [], ℕ, List, All, map, take, String, string_bytes}
use Rattle.std.specs.Global.{Global}
use Rattle.definitions.specs.declared.limits.TheConstants.{MOST_BYTES}
use Rattle.definitions.specs.Rules.{Today}
use Rattle.definitions.specs.Moments.{Moment}
use Rattle.definitions.specs.Register.{Interchange}
use Rattle.definitions.specs.Reply as replies
use Rattle.definitions.specs.Accepted.{reply_to, replies_on, accepted_on}
use Rattle.store.specs.Standing.{Standing, IsUsable, OfUsable}
use Rattle.store.specs.Fault.{Fault}
use Rattle.folders.specs.Answers.{IsBeside}
use Rattle.folders.specs.Paths.{answer_path, file_path}
use Rattle.folders.specs.Folders.{Became, became, handed, AreTextsTaken, AreTakenUntil, IsFolderFault}
use Rattle.folders.specs.Stops.{IsFolderStop, IsNext}
use Rattle.folders.specs.Listing.{IsListed}
use Rattle.folders.specs.declared.file_system.FolderEntry.{FolderEntry}
use Rattle.folders.specs.declared.folder.FolderStop.{FolderStop}
use Rattle.folders.specs.declared.passing.PassedOver.{PassedOver}

-- the text that a reply brings
abbrev pub text_of : replies.Reply → List ℕ
text_of (replies.Accepted text) = text
text_of (replies.Stored text) = text
text_of (replies.Refused refusal text) = text

-- a file that was handed in: its name in the folder, its text and the reply
pub record HandedFile : Type 0 where
  pub name : List ℕ
  pub text : List ℕ
  pub reply : replies.Reply

-- what a file has, up to one byte more than an interchange may have
abbrev pub IsText : (List ℕ → ℕ → List ℕ → Type 0) → List ℕ → List ℕ → Type 0
IsText reads path text = reads path (MOST_BYTES + 1) text

-- The file's text was handed in, and the text of the reply is beside it, if the reply has one; else
-- nothing is there, not an old one either.
pub record IsHanded
    (reads : List ℕ → ℕ → List ℕ → Type 0) (writes : List ℕ → List ℕ → Type 0)
    (lacks : List ℕ → Type 0) (dir : List ℕ) (file : HandedFile) : Type 0 where
  pub read : IsText reads (file_path dir file.name) file.text
  pub answered : text_of file.reply ≢ []
      → IsBeside reads writes (answer_path (file_path dir file.name)) (text_of file.reply)
  pub unanswered : text_of file.reply ≡ [] → lacks (answer_path (file_path dir file.name))

-- The file of this name was handed in as P says, and this became of it.
pub record IsFileHanded
    (P : HandedFile → Type 0) (old new : Standing) (t : Moment) (name : List ℕ) (told : Became)
    : Type 0 where
  pub file : HandedFile
  pub named : file.name ≡ name
  pub each : P file
  pub replied : OfUsable old new
      (λ L. file.reply ≡ reply_to Today old.warehouse L (Interchange file.text) t)
  pub told_is : told ≡ became file.reply
  pub taken : AreTextsTaken old new t (file.text ∷ []) (told ∷ [])

-- The files of these names were handed in as P says, one after the other, and this became of them.
pub record AreFilesHanded
    (P : HandedFile → Type 0) (old new : Standing) (t : Moment) (names : List (List ℕ))
    (told : List Became) : Type 0 where
  pub files : List HandedFile
  pub named : map (λ (file : HandedFile). file.name) files ≡ names
  pub each : All P files
  pub replied : OfUsable old new (λ L. map (λ (file : HandedFile). file.reply) files
      ≡ replies_on Today old.warehouse L (handed t (map (λ (file : HandedFile). file.text) files)))
  pub told_is : told ≡ map (λ (file : HandedFile). became file.reply) files
  pub taken : AreTextsTaken old new t (map (λ (file : HandedFile). file.text) files) told

-- a file that wasn't taken: its text was handed in, perhaps, or the book is as it was
pub record IsUntaken
    (has : List ℕ → Type 0) (fault : Fault) (old new : Standing) (t : Moment) : Type 0 where
  pub last : List ℕ
  pub taken : AreTakenUntil old new t [] last
  pub text : has last ⊎ OfUsable old new (λ L. IsUsable new L)
  pub why : IsFolderFault fault old new

-- The files before the one at which it stopped were handed in as P says, in the order of these
-- names. The text of that one was handed in, perhaps, or none of it.
pub record IsStoppedWithin
    (P : HandedFile → Type 0) (has : List ℕ → List ℕ → Type 0) (stop : FolderStop)
    (old new : Standing) (t : Moment) (names : List (String Global)) : Type 0 where
  pub is_stop : IsFolderStop stop old new t
  pub next : IsNext stop names
  pub files : List HandedFile
  pub texts : map (λ (file : HandedFile). file.text) files ≡ is_stop.stopped.texts
  pub named : map (λ (file : HandedFile). file.name) files
      ≡ map string_bytes (take stop.taken names)
  pub each : All P files
  pub replied : OfUsable old new (λ L. map (λ (file : HandedFile). file.reply) files
      ≡ replies_on Today old.warehouse L (handed t is_stop.stopped.texts))
  pub last : has (string_bytes next.0) is_stop.stopped.last ⊎ OfUsable old new
      (λ L. IsUsable new (accepted_on Today old.warehouse L (handed t is_stop.stopped.texts)))

-- It stopped within the interchanges that the folder has.
pub record IsStoppedIn
    (lists : List FolderEntry → Type 0) (P : HandedFile → Type 0) (has : List ℕ → List ℕ → Type 0)
    (stop : FolderStop) (old new : Standing) (t : Moment) : Type 0 where
  pub names : List (String Global)
  pub passed : List PassedOver
  pub all : IsListed lists names passed
  pub within : IsStoppedWithin P has stop old new t names
