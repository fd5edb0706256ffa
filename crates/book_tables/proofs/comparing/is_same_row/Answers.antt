use Rattle.std.proofs.Common.{arith, refl, ext_get_or}
use Rattle.sqlite.specs.declared.types.Value.TheVariants.{Null}
use Rattle.book_tables.proofs.comparing.is_same_row.Goals as goal

pub returns : goal.returns
returns c = (λ _. ext_get_or Null c.args.row.now c.args.other.now (omega arith) (λ k h. c.loop-at.invariant k (omega arith)), λ _. refl)
