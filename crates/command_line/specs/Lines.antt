-- What may stand in a line of words, as `clap` reads commands.
use Rattle.std.specs.Prelude.{true, false, List, [], ◌∷◌, ◌++◌, Some, codes, bytes_eq, find}
use Rattle.std.specs.Option.{option_map_or}
use Rattle.clap.specs.Walk.{Rule, Text}
use Rattle.clap.specs.Simple.{App, Shape, new_rule, new_shape, with_subcommand}
use Rattle.clap.specs.declared.builder.action.ArgAction.TheVariants.{Append, Set, SetTrue}
use Rattle.command_line.specs.declared.words.Place.{Place}
use Rattle.command_line.specs.declared.words.Place.TheVariants as place

-- a value that must be there
abbrev pub value_rule : Text → Rule
value_rule id = record (new_rule id) { action = Some Set; value_names = 1; required = true }

-- an option with a value
abbrev pub option_rule : Text → Rule
option_rule id = record (new_rule id) { long = Some id; action = Some Set; value_names = 1 }

-- an option that must be there
abbrev pub wanted_rule : Text → Rule
wanted_rule id = record (option_rule id) { required = true }

-- an option with a value that may be there several times
abbrev pub repeated_rule : Text → Rule
repeated_rule id = record (option_rule id) { action = Some Append }

-- an option without
abbrev pub flag_rule : Text → Rule
flag_rule id = record (new_rule id) { long = Some id; action = Some SetTrue }

abbrev pub subcommand : Text → List Rule → Shape
subcommand name rules = record (new_shape name) { rules = rules }

abbrev pub at_rule : Rule
at_rule = option_rule (codes "at")

abbrev pub who_rule : Rule
who_rule = value_rule (codes "who")

abbrev pub file_rule : Rule
file_rule = value_rule (codes "file")

abbrev pub number_rule : Rule
number_rule = value_rule (codes "number")

abbrev pub ticket_rule : Rule
ticket_rule = value_rule (codes "ticket")

abbrev pub sheet_rule : Rule
sheet_rule = value_rule (codes "sheet")

-- the word by which a command is tried
abbrev pub try_rule : Rule
try_rule = flag_rule (codes "try")

abbrev pub script_shape : Shape
script_shape = subcommand (codes "script") (file_rule ∷ [])

abbrev pub batch_shape : Shape
batch_shape = subcommand (codes "batch") (file_rule ∷ [])

abbrev pub init_shape : Shape
init_shape = subcommand (codes "init") (who_rule ∷ at_rule ∷ [])

abbrev pub enrol_shape : Shape
enrol_shape = subcommand (codes "enrol") (who_rule ∷ try_rule ∷ at_rule ∷ [])

abbrev pub roster_shape : Shape
roster_shape = subcommand (codes "roster") (file_rule ∷ at_rule ∷ [])

abbrev pub send_shape : Shape
send_shape = subcommand (codes "send") (file_rule ∷ try_rule ∷ at_rule ∷ [])

abbrev pub take_shape : Shape
take_shape = subcommand (codes "take") (value_rule (codes "dir") ∷ option_rule (codes "done")
    ∷ at_rule ∷ [])

abbrev pub count_shape : Shape
count_shape = subcommand (codes "count") (who_rule ∷ ticket_rule ∷ number_rule ∷ sheet_rule
    ∷ try_rule ∷ at_rule ∷ [])

abbrev pub pick_shape : Shape
pick_shape = subcommand (codes "pick") (who_rule ∷ ticket_rule ∷ number_rule ∷ sheet_rule
    ∷ try_rule ∷ at_rule ∷ [])

abbrev pub recount_shape : Shape
recount_shape = subcommand (codes "recount") (who_rule ∷ ticket_rule ∷ sheet_rule ∷ try_rule
    ∷ at_rule ∷ [])

abbrev pub stock_shape : Shape
stock_shape = subcommand (codes "stock") (who_rule ∷ flag_rule (codes "csv") ∷ at_rule ∷ [])

abbrev pub open_shape : Shape
open_shape = subcommand (codes "open") (who_rule ∷ at_rule ∷ [])

abbrev pub orders_shape : Shape
orders_shape = subcommand (codes "orders") (who_rule ∷ number_rule ∷ flag_rule (codes "csv")
    ∷ at_rule ∷ [])

abbrev pub advices_shape : Shape
advices_shape = subcommand (codes "advices") (who_rule ∷ number_rule ∷ flag_rule (codes "csv")
    ∷ at_rule ∷ [])

abbrev pub outbox_shape : Shape
outbox_shape = subcommand (codes "outbox") (who_rule ∷ option_rule (codes "number")
    ∷ option_rule (codes "into") ∷ at_rule ∷ [])

abbrev pub depositors_shape : Shape
depositors_shape = subcommand (codes "depositors") (at_rule ∷ [])

abbrev pub serve_shape : Shape
serve_shape = subcommand (codes "serve") (wanted_rule (codes "listen") ∷ option_rule (codes "count")
    ∷ option_rule (codes "patience") ∷ option_rule (codes "peers") ∷ repeated_rule (codes "host")
    ∷ option_rule (codes "from")
    ∷ flag_rule (codes "anyone") ∷ flag_rule (codes "clerks")
    ∷ option_rule (codes "clerks-at") ∷ at_rule ∷ [])

abbrev pub verify_shape : Shape
verify_shape = subcommand (codes "verify") (option_rule (codes "seal") ∷ at_rule ∷ [])

abbrev pub seal_shape : Shape
seal_shape = subcommand (codes "seal") (option_rule (codes "first") ∷ at_rule ∷ [])

-- with an argument more
abbrev pub and_rule : Shape → Rule → Shape
and_rule s r = record s { rules = s.rules ++ r ∷ [] }

-- a subcommand over the book in a file, which may be told how this is opened: how long to wait for
-- one that is in use, and to suppose nothing of its disk
abbrev pub with_opening : Shape → Shape
with_opening s = and_rule (and_rule s (option_rule (codes "wait"))) (flag_rule (codes "wary"))

-- a subcommand over the book in a file
abbrev pub over_book : Shape → Shape
over_book s = with_opening (and_rule s (wanted_rule (codes "book")))

-- a subcommand over the book in a file, or over that of a running server
abbrev pub over_either : Shape → Shape
over_either s = and_rule (with_opening (and_rule s (option_rule (codes "book"))))
    (option_rule (codes "server"))

-- a subcommand over the book in a file, as it stands at a place: a script has a book of its own
abbrev pub over_at : Place → Shape → Shape
over_at place.Program s = over_book s
over_at place.Script s = s

-- one that a running server may be asked for too
abbrev pub either_at : Place → Shape → Shape
either_at place.Program s = over_either s
either_at place.Script s = s

abbrev pub top_shape : Shape
top_shape = record (new_shape (codes "whx12")) {
  is_leaf = false;
  no_binary_name = true;
  disable_help_subcommand = true;
  disable_version_flag = true;
  subcommand_required = true;
}

-- those that change a book, and those that show something of it
abbrev pub act_subcommands : Place → List Shape
act_subcommands p = over_at p enrol_shape ∷ over_at p roster_shape ∷ either_at p send_shape
    ∷ over_at p take_shape
    ∷ either_at p count_shape ∷ either_at p pick_shape ∷ either_at p recount_shape ∷ []

abbrev pub show_subcommands : Place → List Shape
show_subcommands p = either_at p stock_shape ∷ either_at p open_shape
    ∷ either_at p advices_shape ∷ either_at p orders_shape
    ∷ either_at p outbox_shape
    ∷ either_at p depositors_shape ∷ []

-- those that may stand in a script, as they stand at a place
abbrev pub line_subcommands : Place → List Shape
line_subcommands p = over_at p init_shape ∷ act_subcommands p ++ show_subcommands p

-- with further subcommands
abbrev pub with_all : App → List Shape → App
with_all a [] = a
with_all a (s ∷ ss) = with_all (with_subcommand a s) ss

abbrev pub script_subcommands : List Shape
script_subcommands = line_subcommands place.Script

-- a line of a script that has one subcommand
abbrev pub alone : Shape → App
alone s = record { top = top_shape; subs = s ∷ [] }

-- the program has those of a script, over the book in a file or a server's, and four of its own
abbrev pub program_subcommands : List Shape
program_subcommands = script_shape ∷ line_subcommands place.Program
    ++ over_book batch_shape ∷ over_book serve_shape ∷ over_book verify_shape
    ∷ over_book seal_shape ∷ []

-- the subcommands that may stand at a place
abbrev pub subcommands_at : Place → List Shape
subcommands_at place.Program = program_subcommands
subcommands_at place.Script = script_subcommands

abbrev pub app_at : Place → App
app_at p = record { top = top_shape; subs = subcommands_at p }

-- the arguments of a subcommand, but for those of every subcommand over a book
abbrev pub rules_of : Text → List Rule
rules_of name = option_map_or (λ s. s.rules) (find (λ s. bytes_eq s.name name)
    (script_shape ∷ batch_shape ∷ serve_shape ∷ verify_shape ∷ seal_shape ∷ script_subcommands)) []
