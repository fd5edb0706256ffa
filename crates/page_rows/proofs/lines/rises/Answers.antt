use Rattle.std.proofs.Common.{rules}
use Rattle.std.proofs.lemmas.List.Sorted.{answers_always}
use Rattle.definitions.specs.Events.{pair_before}
use Rattle.page_rows.proofs.Rising.{ascending_answer}
use Rattle.page_rows.proofs.lines.rises.Goals as goal

pub returns : goal.returns
returns c = ascending_answer c.args.lines.now c.is_sorted_by.result (c.is_sorted_by.ensures.cases pair_before (answers_always _ _ _ (λ f a r g h. search rules)))
