-- Arguments and commands of `clap` that are put together from their parts.
use Rattle.std.proofs.Common.{◌≡◌, ◌∙◌, ap, ap₂, ◌||◌, Bool, Some, List, ℕ}
use Rattle.std.specs.Borrow.{Bor}
use Rattle.clap.specs.Walk.{Rule, rule_of}
use Rattle.clap.specs.Simple.{App, Shape, app_of, app_of_fields, on_top, with_rule, with_subcommand}
use Rattle.clap.specs.Built.{AddsArg, AddsSubcommand}
use Rattle.clap.specs.declared.builder.action.ArgAction.{ArgAction}
use Rattle.clap.specs.declared.builder.arg.Arg.{Arg}
use Rattle.clap.specs.declared.builder.texts.Texts.TheVariants.{One}
use Rattle.clap.specs.declared.builder.command.Command.{Command}
use Rattle.clap.specs.declared.builder.command.Command.TheOpen.{Command-F}
use Rattle.clap.specs.declared.builder.command.Command.TheViews.{out-Command as fields_of}
use Rattle.command_line.specs.Lines.{and_rule}
use Rattle.command_line.specs.Parsers.{IsRule, IsCommand}

-- an argument more
pub adds : {s : Shape} {r : Rule} (old new : Command) (a : Arg) → AddsArg old a new → IsCommand s old → IsRule r a
    → IsCommand (and_rule s r) new
adds old new a h c i = (h.shape i.1 ∙ ap₂ with_rule c.0 i.0, h.globals ∙ ap₂ (λ x y. x || y) c.1 i.1)

-- a subcommand more
pub joins : {a : App} {s : Shape} (old new sub : Command) → AddsSubcommand old sub new → app_of old ≡ a → IsCommand s sub
    → app_of new ≡ with_subcommand a s
joins old new sub h top c = h.shape c.1 ∙ ap₂ with_subcommand top (ap (λ (b : App). b.top) c.0)

module _ {r : Rule} (old new : Arg) where
  -- an argument with a long name
  pub long : (name : Bor (List ℕ)) → new ≡ record old { long = Some name } → IsRule r old → IsRule (record r { long = Some name.now }) new
  long name e i = (ap rule_of e ∙ ap (λ (x : Rule). record x { long = Some name.now }) i.0, ap (λ (a : Arg). a.global) e ∙ i.1)

  -- with a name for its value
  pub value_name : (name : Bor (List ℕ)) → new ≡ record old { val_names = One name } → IsRule r old → IsRule (record r { value_names = 1 }) new
  value_name name e i = (ap rule_of e ∙ ap (λ (x : Rule). record x { value_names = 1 }) i.0, ap (λ (a : Arg). a.global) e ∙ i.1)

  -- with a help text
  pub help : (text : Bor (List ℕ)) → new ≡ record old { help = Some text } → IsRule r old → IsRule r new
  help text e i = (ap rule_of e ∙ i.0, ap (λ (a : Arg). a.global) e ∙ i.1)

  -- that must be there, or not
  pub required : (on : Bool) → new ≡ record old { required = on } → IsRule r old → IsRule (record r { required = on }) new
  required on e i = (ap rule_of e ∙ ap (λ (x : Rule). record x { required = on }) i.0, ap (λ (a : Arg). a.global) e ∙ i.1)

  -- with what a use of it does
  pub action : (does : ArgAction) → new ≡ record old { action = Some does } → IsRule r old → IsRule (record r { action = Some does }) new
  action does e i = (ap rule_of e ∙ ap (λ (x : Rule). record x { action = Some does }) i.0, ap (λ (a : Arg). a.global) e ∙ i.1)

module _ {s : Shape} (old new : Command) where
  -- a command that is described
  pub about : (text : Bor (List ℕ)) → fields_of new ≡ record (fields_of old) { about = Some text } → IsCommand s old → IsCommand s new
  about text e i = (ap app_of_fields e ∙ i.0, ap (λ (f : Command-F Command). f.has_globals) e ∙ i.1)

  -- with a text that shows how it is used
  pub override_usage : (text : Bor (List ℕ)) → fields_of new ≡ record (fields_of old) { usage_str = Some text } → IsCommand s old → IsCommand s new
  override_usage text e i = (ap app_of_fields e ∙ i.0, ap (λ (f : Command-F Command). f.has_globals) e ∙ i.1)

  -- with a text after its help
  pub after_help : (text : Bor (List ℕ)) → fields_of new ≡ record (fields_of old) { after_help = Some text } → IsCommand s old → IsCommand s new
  after_help text e i = (ap app_of_fields e ∙ i.0, ap (λ (f : Command-F Command). f.has_globals) e ∙ i.1)

  -- whose line has no program's name in front, or has one
  pub no_binary_name : (on : Bool) → fields_of new ≡ record (fields_of old) { no_binary_name = on } → IsCommand s old
      → IsCommand (record s { no_binary_name = on }) new
  no_binary_name on e i =
      (ap app_of_fields e ∙ ap (on_top (λ x. record x { no_binary_name = on })) i.0, ap (λ (f : Command-F Command). f.has_globals) e ∙ i.1)

  -- that wants a subcommand, or not
  pub subcommand_required : (on : Bool) → fields_of new ≡ record (fields_of old) { subcommand_required = on } → IsCommand s old
      → IsCommand (record s { subcommand_required = on }) new
  subcommand_required on e i =
      (ap app_of_fields e ∙ ap (on_top (λ x. record x { subcommand_required = on })) i.0, ap (λ (f : Command-F Command). f.has_globals) e ∙ i.1)

  -- without the subcommand `help`, or with it
  pub disable_help_subcommand : (on : Bool) → fields_of new ≡ record (fields_of old) { disable_help_subcommand = on } → IsCommand s old
      → IsCommand (record s { disable_help_subcommand = on }) new
  disable_help_subcommand on e i =
      (ap app_of_fields e ∙ ap (on_top (λ x. record x { disable_help_subcommand = on })) i.0, ap (λ (f : Command-F Command). f.has_globals) e ∙ i.1)

  -- without the flag `--version`, or with it
  pub disable_version_flag : (on : Bool) → fields_of new ≡ record (fields_of old) { disable_version_flag = on } → IsCommand s old
      → IsCommand (record s { disable_version_flag = on }) new
  disable_version_flag on e i =
      (ap app_of_fields e ∙ ap (on_top (λ x. record x { disable_version_flag = on })) i.0, ap (λ (f : Command-F Command). f.has_globals) e ∙ i.1)
