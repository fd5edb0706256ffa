-- What may still come at each stage of a 940.
use Rattle.std.specs.Prelude.{codes}
use Rattle.definitions.specs.declared.rules.Rules.{Rules}
use Rattle.definitions.specs.Words.{Words, One, Times, Then, Empty, words_940, times_words, optional}
use Rattle.definitions.specs.Limits.{most_lines, most_parties, most_references, most_dates}
use Rattle.tables.specs.Languages.{some_of}
use Rattle.tables.specs.declared.order.Stage.{Stage}
use Rattle.tables.specs.declared.order.Stage.TheVariants.{Begin, Head, Parties, Named, Streeted, References, Dates, Numbered, Goods, Pinned, Total, End}

-- the address of a party
abbrev pub address : Words
address = Then (optional (One (codes "N3"))) (optional (One (codes "N4")))

abbrev pub party : Words
party = Then (One (codes "N1")) address

-- the goods of a line, and the lot that it may be pinned to
abbrev pub goods : Words
goods = Then (One (codes "W01")) (optional (One (codes "N9")))

abbrev pub line : Words
line = Then (One (codes "LX")) goods

abbrev pub total : Words
total = Then (One (codes "W76")) (One (codes "SE"))

abbrev pub lines : Rules → Words
lines r = Then (Times 1 (most_lines r) line) total

abbrev pub dates : Rules → Words
dates r = Then (Times 0 most_dates (One (codes "G62"))) (lines r)

abbrev pub references : Rules → Words
references r = Then (Times 0 most_references (One (codes "N9"))) (dates r)

abbrev pub rest_of : Rules → Stage → Words
rest_of r Begin = words_940 r
rest_of r Head = Then (One (codes "W05")) (Then (Times 0 most_parties party) (references r))
rest_of r (Parties left) = some_of left party (references r)
rest_of r (Named left) = Then (Then address (times_words 0 left party)) (references r)
rest_of r (Streeted left) =
    Then (Then (optional (One (codes "N4"))) (times_words 0 left party)) (references r)
rest_of r (References left) = some_of left (One (codes "N9")) (dates r)
rest_of r (Dates left) = some_of left (One (codes "G62")) (lines r)
rest_of r (Numbered left) = Then (Then goods (times_words 0 left line)) total
rest_of r (Goods left) = Then (Then (optional (One (codes "N9"))) (times_words 0 left line)) total
rest_of r (Pinned left) = some_of left line total
rest_of r Total = One (codes "SE")
rest_of r End = Empty
