use Rattle.std.proofs.Common.{◌≡◌, rules, sym, subst, ◌∙◌, codes, true, false, List, Option, None, Some}
use Rattle.clap.specs.Matches.{found_of}
use Rattle.clap.specs.Walk.{Row, Text, first_of, rows_of}
use Rattle.clap.proofs.WalkLemmas.{first_value-rows}
use Rattle.command_line.specs.Asked.{ReadsBook, has_book}
use Rattle.command_line.specs.declared.words.Place.{Place}
use Rattle.command_line.specs.declared.words.Place.TheVariants.{Program}
use Rattle.command_line.proofs.values.book_of.Goals as goal

pub returns-in-Script : goal.returns-in-Script
returns-in-Script c = record {
  ok = (sym (first_value-rows (found_of c.args.values.now) (codes "book")) ∙ sym c.in_default.ensures, search rules);
  err = tt;
}

pub returns : goal.returns
returns c = record {
  ok = (sym (first_value-rows (found_of c.args.values.now) (codes "book")) ∙ sym c.in-Some.ensures, search rules);
  err = tt;
}

-- a line of the program that says no book names none
unnamed : (rows : List Row) (p : Place) → p ≡ Program → first_of (codes "book") rows ≡ None → ReadsBook p rows → ⊥
unnamed rows p is none (None, (says, has)) = absurd (let d : false ≡ true = subst (λ (p : Place). has_book p None ≡ true) is has in cc)
unnamed rows p is none (Some b, (says, has)) = absurd (let d : ◌≡◌ {A = Option Text} None (Some b.now) = sym none ∙ says in cc)

pub returns-in-Program : goal.returns-in-Program
returns-in-Program c = record {
  ok = tt;
  err = λ q.
      let none = sym (first_value-rows (found_of c.args.values.now) (codes "book")) ∙ sym c.in_default.ensures in
      absurd (unnamed (rows_of (found_of c.args.values.now)) c.args.place c.in-Program.is none q);
}
