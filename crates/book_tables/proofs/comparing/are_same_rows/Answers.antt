use Rattle.std.proofs.Common.{arith, refl, [], ext_get_or}
use Rattle.book_tables.proofs.comparing.are_same_rows.Goals as goal

pub returns : goal.returns
returns c = (λ _. ext_get_or [] c.args.rows.now c.args.others.now (omega arith) (λ k h. c.loop-at.invariant k (omega arith)), λ _. refl)
