-- What is named of a command.
use Rattle.std.specs.Prelude.{◌≡◌, true, false, None}
use Rattle.definitions.specs.Cut.{cut}
use Rattle.definitions.specs.Structure.{groups_of}
use Rattle.definitions.specs.Header.{delims_of, is_unreadable}
use Rattle.definitions.specs.Halt.{structure_note}
use Rattle.definitions.specs.Register.{Act, Count, Pick, Recount, Command, Interchange, Enrol, Clerk}
use Rattle.stock.specs.Pages.{PageFacts}
use Rattle.stock.specs.Parts.{Named, IsPart, NamesCount, NamesPick, are_items}
use Rattle.set_effects.specs.SetNames.{NamesGroups}

-- what an act is about is named, and with the advice or order that it names the items of that
abbrev pub NamesAct : Named → PageFacts → Act → Type 0
NamesAct n p (Count shipment sheet) = NamesCount n p shipment sheet
NamesAct n p (Pick number sheet) = NamesPick n p number sheet
NamesAct n p (Recount sheet) = are_items n sheet ≡ true

-- what a command needs of the page is named; of an interchange that can't be read, or is halted,
-- nothing
abbrev pub NamesFor : Named → PageFacts → Command → Type 0
NamesFor n p (Interchange text) = is_unreadable text ≡ false → structure_note text ≡ None
    → NamesGroups (delims_of text) n (groups_of ((cut (delims_of text) text).segments))
NamesFor n p (Enrol w) = Unit {0}
NamesFor n p (Clerk w ticket act) = NamesAct n p act

-- the part p of the page P has what a command needs
pub record HasNeeded (c : Command) (p P : PageFacts) : Type 0 where
  pub named : Named
  pub part : IsPart named p P
  pub names : NamesFor named p c
