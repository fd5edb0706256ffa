-- What may still come at each stage of a 997.
use Rattle.std.specs.Prelude.{codes}
use Rattle.definitions.specs.Words.{Words, One, Times, Then, Empty, words_997, times_words, then_words}
use Rattle.definitions.specs.Limits.{most_told_sets, most_told_segments, most_told_elements}
use Rattle.tables.specs.Languages.{some_of}
use Rattle.tables.specs.declared.acknowledgment.Stage.{Stage}
use Rattle.tables.specs.declared.acknowledgment.Stage.TheVariants.{Begin, Head, Sets, Segments, Elements, Total, End}

-- a segment in error with its elements
abbrev pub segment : Words
segment = Then (One (codes "AK3")) (Times 0 most_told_elements (One (codes "AK4")))

-- what is told of one set
abbrev pub judged : Words
judged = Then (One (codes "AK2")) (Then (Times 0 most_told_segments segment) (One (codes "AK5")))

abbrev pub total : Words
total = Then (One (codes "AK9")) (One (codes "SE"))

abbrev pub rest_of : Stage → Words
rest_of Begin = words_997
rest_of Head = Then (One (codes "AK1")) (Then (Times 0 most_told_sets judged) total)
rest_of (Sets sets) = some_of sets judged total
rest_of (Segments sets segments) =
    Then (Then (some_of segments segment (One (codes "AK5"))) (times_words 0 sets judged)) total
rest_of (Elements sets segments elements) =
    Then (Then (then_words (some_of elements (One (codes "AK4")) (times_words 0 segments segment))
    (One (codes "AK5"))) (times_words 0 sets judged)) total
rest_of Total = One (codes "SE")
rest_of End = Empty
