-- What may still come at each stage of a 943.
use Rattle.std.specs.Prelude.{codes}
use Rattle.definitions.specs.declared.rules.Rules.{Rules}
use Rattle.definitions.specs.Words.{Words, One, Times, Then, Empty, words_943, times_words}
use Rattle.definitions.specs.Limits.{most_lines, most_parties, most_references, most_dates}
use Rattle.tables.specs.Languages.{some_of}
use Rattle.tables.specs.declared.advice.Stage.{Stage}
use Rattle.tables.specs.declared.advice.Stage.TheVariants.{Begin, Head, Parties, References, Dates, Goods, Lot, Total, End}

-- one line of goods
abbrev pub line : Words
line = Then (One (codes "W04")) (One (codes "N9"))

abbrev pub total : Words
total = Then (One (codes "W03")) (One (codes "SE"))

abbrev pub lines : Rules → Words
lines r = Then (Times 1 (most_lines r) line) total

abbrev pub dates : Rules → Words
dates r = Then (Times 0 most_dates (One (codes "G62"))) (lines r)

abbrev pub references : Rules → Words
references r = Then (Times 0 most_references (One (codes "N9"))) (dates r)

abbrev pub rest_of : Rules → Stage → Words
rest_of r Begin = words_943 r
rest_of r Head =
    Then (One (codes "W06")) (Then (Times 0 most_parties (One (codes "N1"))) (references r))
rest_of r (Parties left) = some_of left (One (codes "N1")) (references r)
rest_of r (References left) = some_of left (One (codes "N9")) (dates r)
rest_of r (Dates left) = some_of left (One (codes "G62")) (lines r)
rest_of r (Goods left) = Then (Then (One (codes "N9")) (times_words 0 left line)) total
rest_of r (Lot left) = some_of left line total
rest_of r Total = One (codes "SE")
rest_of r End = Empty
