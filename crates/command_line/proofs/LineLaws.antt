-- The subcommand of a line, and its matches.
use Rattle.std.proofs.Common.{◌≡◌, List, Option, Some, None, true, refl, sym, ap, option_map, Box, unwrap_or}
use Rattle.std.specs.Box.{box_value}
use Rattle.clap.specs.Walk.{Row, Text, rows_of}
use Rattle.clap.specs.Simple.{is_simple, subcommand_rows}
use Rattle.clap.specs.Matches.{found_of}
use Rattle.clap.specs.declared.parser.matches.ArgMatches.TheViews.{out-SubCommand}
use Rattle.clap.specs.declared.parser.matches.SubCommand.{SubCommand}
use Rattle.clap.proofs.OnLiterals.{clap_on_literals}
use Rattle.command_line.specs.Lines.{app_at}
use Rattle.command_line.specs.declared.words.Place.{Place}
use Rattle.command_line.specs.declared.words.Place.TheVariants as place

-- what may stand in a line is a simple command
pub simple_at : (p : Place) → is_simple (app_at p) ≡ true
unfolding clap_on_literals
simple_at place.Program = refl
simple_at place.Script = refl

module _ {Z : Type 0} where
  -- the name and the rows together
  pub both_found : (o : Option (Box SubCommand Z)) (name : Text) (rows : List Row)
      → Some name ≡ option_map (λ b. (out-SubCommand (box_value b)).name.now) o
      → Some rows ≡ option_map (λ p. p.1) (subcommand_rows o)
      → subcommand_rows o ≡ Some (name, rows)
  both_found None name rows n r = absurd (cc)
  both_found (Some b) name rows n r =
      let named : name ≡ (out-SubCommand (box_value b)).name.now = ap (λ (x : Option Text). unwrap_or x name) n in
      let told : rows ≡ rows_of (found_of (out-SubCommand (box_value b)).matches) = ap (λ (x : Option (List Row)). unwrap_or x rows) r in
      λ i. Some (sym named i, sym told i)
