-- What is taken of a folder, and what is passed over.
use Rattle.std.specs.Prelude.{Bool, List, if◌then◌else◌, ◌&&◌, is_none, Option, Some, None, IsPermutation, IsSorted, String, string_bytes, string_cmp}
use Rattle.std.specs.Global.{Global}
use Rattle.std.specs.List.{filter_map}
use Rattle.folders.specs.Passing.{is_interchange, why_passed}
use Rattle.folders.specs.declared.file_system.FolderEntry.{FolderEntry}
use Rattle.folders.specs.declared.passing.PassedOver.{PassedOver}
use Rattle.folders.specs.declared.passing.WhyPassed.{WhyPassed}
use Rattle.folders.specs.declared.passing.WhyPassed.TheVariants.{NoText}

-- why an entry of this name is passed over, if it is
abbrev pub why_over : Option (String Global) → Bool → Option WhyPassed
why_over None is_file = Some NoText
why_over (Some name) is_file = if is_interchange (string_bytes name)
    then why_passed (string_bytes name) is_file else None

-- the name under which an entry of this name is handed in, if it is: that of an interchange, which
-- isn't passed over
abbrev pub handed_as : Option (String Global) → Bool → Option (String Global)
handed_as None is_file = None
handed_as (Some name) is_file =
    if is_interchange (string_bytes name) && is_none (why_passed (string_bytes name) is_file)
    then Some name else None

abbrev pub told_over : Option (String Global) → Option WhyPassed → Option PassedOver
told_over name None = None
told_over name (Some why) = Some (record { name = name; why = why })

-- the interchanges among the entries of a folder
abbrev pub interchanges_of : List FolderEntry → List (String Global)
interchanges_of = filter_map (λ entry. handed_as entry.name entry.is_file)

-- what is passed over among them
abbrev pub passed_of : List FolderEntry → List PassedOver
passed_of = filter_map (λ entry. told_over entry.name (why_over entry.name entry.is_file))

-- These are all interchanges among the entries that a folder has, in the order of their names'
-- bytes, and all that is passed over.
pub record IsListed
    (lists : List FolderEntry → Type 0) (names : List (String Global)) (passed : List PassedOver)
    : Type 0 where
  pub entries : List FolderEntry
  pub had : lists entries
  pub taken : IsPermutation (interchanges_of entries) names
  pub over : IsPermutation (passed_of entries) passed
  pub rising : IsSorted string_cmp names
