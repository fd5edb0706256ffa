-- Entries of a folder that are passed over.
use Rattle.std.specs.Prelude.{ℕ, Bool, List, length, if◌then◌else◌, nat_lt, ◌==◌, ◌||◌, Some, None, Option, codes}
use Rattle.std.specs.List.{ends_with}
use Rattle.folders.specs.declared.passing.TheConstants.{MOST_FILE_NAME}
use Rattle.folders.specs.declared.passing.WhyPassed.{WhyPassed}
use Rattle.folders.specs.declared.passing.WhyPassed.TheVariants.{NoFile, NoText, LongName}

abbrev pub ends : List ℕ → List ℕ → Bool
ends name ending = ends_with (λ a b. a == b) name ending

-- whether a name is that of an interchange: it ends `.x12` or `.X12`
abbrev pub is_interchange : List ℕ → Bool
is_interchange name = ends name (codes ".x12") || ends name (codes ".X12")

-- why an interchange isn't handed in, if it isn't
abbrev pub why_passed : List ℕ → Bool → Option WhyPassed
why_passed name is_file =
    if nat_lt MOST_FILE_NAME (length name) then Some LongName
    else if is_file then None else Some NoFile

abbrev pub reason_text : WhyPassed → List ℕ
reason_text NoFile = codes "no regular file"
reason_text NoText = codes "its name isn't UTF-8"
reason_text LongName = codes "its name has more than 251 bytes"
