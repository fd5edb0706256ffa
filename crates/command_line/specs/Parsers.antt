-- Commands and arguments of `clap` that have these rules.
use Rattle.std.specs.Prelude.{◌≡◌, true, false, List, []}
use Rattle.clap.specs.Takes.{takes}
use Rattle.clap.specs.Walk.{Rule, Text, rule_of}
use Rattle.clap.specs.Simple.{App, Shape, app_of, is_simple, subcommand_of}
use Rattle.clap.specs.declared.builder.command.Command.TheViews.{out-Command as fields_of}
use Rattle.clap.specs.declared.builder.arg.Arg.{Arg}
use Rattle.clap.specs.declared.builder.command.Command.{Command}
use Rattle.command_line.specs.Lines.{app_at}
use Rattle.command_line.specs.declared.words.Place.{Place}

-- the argument has this rule, at its own level alone
abbrev pub IsRule : Rule → Arg → Type 0
IsRule r a = (rule_of a ≡ r) × (a.global ≡ false)

-- the command has this shape and no subcommand
abbrev pub IsCommand : Shape → Command → Type 0
IsCommand s c = (app_of c ≡ record { top = s; subs = [] }) × ((fields_of c).has_globals ≡ false)

-- a parser of these reads the words as one of all that may stand at the place does
pub record ReadsAlike (p : Place) (words : List Text) (a : App) : Type 0 where
  pub simple : is_simple a ≡ true
  pub found : subcommand_of a words ≡ subcommand_of (app_at p) words
  pub taken : takes a words ≡ takes (app_at p) words
