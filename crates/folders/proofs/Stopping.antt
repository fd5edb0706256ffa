-- Stops of a folder that is taken into another.
use Rattle.std.proofs.Common.{◌≡◌, ◌∙◌, refl, sym, ap, subst, ℕ, List, [], ◌∷◌, length, map, string_bytes}
use Rattle.std.proofs.lemmas.List.{length-map}
use Rattle.definitions.specs.Moments.{Moment}
use Rattle.store.specs.Standing.{Standing, GoesOn}
use Rattle.folders.specs.Folders.{Became}
use Rattle.folders.specs.Handed.{HandedFile, AreFilesHanded}
use Rattle.folders.specs.Into.{IsStoppedAt, IsNamingStop}
use Rattle.folders.specs.Listing.{IsListed}
use Rattle.folders.specs.Stops.{IsFolderStop}
use Rattle.folders.specs.declared.file_system.FolderEntry.{FolderEntry}
use Rattle.folders.specs.declared.folder.Taken.{Taken}
use Rattle.folders.specs.declared.into.IntoStop.{IntoStop}
use Rattle.folders.specs.declared.passing.PassedOver.{PassedOver}
use Rattle.folders.proofs.Handing.{texts_counted}
use Rattle.folders.proofs.Taking.{all_counted}

names_twice : (files : List Taken) → map (λ (f : Taken). string_bytes f.name) files ≡ map string_bytes (map (λ (f : Taken). f.name) files)
names_twice [] = refl
names_twice (f ∷ files) = ap (λ (ns : List (List ℕ)). string_bytes f.name ∷ ns) (names_twice files)

-- it stops once all files are handed in
pub naming_stop_at : (lists : List FolderEntry → Type 0) (P : HandedFile → Type 0) (has : List ℕ → List ℕ → Type 0) (stop : IntoStop) (a b : Standing) (t : Moment) (files : List Taken) (passed : List PassedOver) (told : List Became)
    → IsListed lists (map (λ (f : Taken). f.name) files) passed → AreFilesHanded P a b t (map (λ (f : Taken). string_bytes f.name) files) told → IsNamingStop (length files) stop
    → IsStoppedAt lists P has a b t stop.stop stop.step
naming_stop_at lists P has stop a b t files passed told all handed is =
    subst (IsStoppedAt lists P has a b t stop.stop) (sym is.last) (record {
      names = map (λ (f : Taken). f.name) files;
      passed = passed;
      told = told;
      all = all;
      handed = subst (λ (ns : List (List ℕ)). AreFilesHanded P a b t ns told) (names_twice files) handed;
      counted = is.counted ∙ sym (length-map files (λ (f : Taken). f.name));
    })

pub naming_stop_counted : (P : HandedFile → Type 0) (stop : IntoStop) (a b : Standing) (t : Moment) (files : List Taken) (told : List Became) → GoesOn a b → a.shut ≡ b.shut
    → AreFilesHanded P a b t (map (λ (f : Taken). string_bytes f.name) files) told → IsNamingStop (length files) stop → IsFolderStop stop.stop a b t
naming_stop_counted P stop a b t files told p same handed is =
    all_counted stop.stop a b t _ told p same handed.taken is.why
    (texts_counted handed.files _ stop.stop.taken handed.named (is.counted ∙ sym (length-map files (λ (f : Taken). string_bytes f.name))))
