use Rattle.std.proofs.Common.{Bor, IfOk, List, ap, map, subst, sym, ℕ}
use Rattle.clap.specs.Simple.{app_of}
use Rattle.command_line.specs.Parsers.{ReadsAlike}
use Rattle.command_line.specs.declared.words.Place.TheVariants.{Script}
use Rattle.command_line.proofs.alone.script_parser.Goals as goal

pub returns-in-Some : goal.returns-in-Some
returns-in-Some c =
    let texts : List (Bor (List ℕ)) → List (List ℕ) = map (λ w. w.now) in
    subst (λ ws. IfOk c.after.result (λ p. ReadsAlike Script ws (app_of p))) (sym (ap texts c.in-Some.ensures.cases.0)) (c.after.ensures (texts c.in-Some.field-0-1.now))
