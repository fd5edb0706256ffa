-- The number of the rules that an entry is judged by, and their order.
use Rattle.std.specs.Prelude.{ℕ, Bool, true, false}
use Rattle.definitions.specs.declared.rules.Rules.{Rules}
use Rattle.definitions.specs.declared.rules.Rules.TheVariants.{One, Two}
use Rattle.definitions.specs.declared.rules.TheConstants.{TODAY}

-- the number of rules, which is that of the version of books that begins with them
abbrev pub rules_number : Rules → ℕ
rules_number One = 1
rules_number Two = 2

-- whether an entry under the second may stand after one under the first: they never fall
abbrev pub may_follow : Rules → Rules → Bool
may_follow One r = true
may_follow Two One = false
may_follow Two Two = true

-- the rules that a command is judged by today: those of new entries, of sheets and of reports
abbrev pub Today : Rules
Today = TODAY
