use Rattle.std.proofs.Common.{rules, is_lt}
use Rattle.std.proofs.lemmas.List.Sorted.{answers_always}
use Rattle.definitions.specs.Clerk.{line_of}
use Rattle.sheets.specs.Pairs.{pair_cmp}
use Rattle.sheets.proofs.Ascending.{ascending_answer}
use Rattle.sheets.proofs.PairLaws.{before_is}
use Rattle.sheets.proofs.making.ascends.Goals as goal

pub returns : goal.returns
returns c =
    ascending_answer line_of (λ a b. is_lt (pair_cmp a b)) (λ a b. before_is (line_of a) (line_of b)) c.args.lines.now c.is_sorted_by.result
    (c.is_sorted_by.ensures.cases (λ a b. is_lt (pair_cmp a b)) (answers_always _ _ _ (λ f a r g h. search rules)))
