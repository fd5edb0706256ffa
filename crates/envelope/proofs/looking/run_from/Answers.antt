use Rattle.std.proofs.Common.{arith}
use Rattle.envelope.specs.Parts.{marked}
use Rattle.envelope.proofs.Runs.{run_begins, run_some, run_none}
use Rattle.envelope.proofs.looking.run_from.Goals as goal

pub returns-then-start-segments : goal.returns-then-start-segments
returns-then-start-segments c = run_none (marked c.args.id.now) c.args.segments.now c.args.from c.place_from-start.result c.place_from-start.ensures.value (omega arith)

pub returns : goal.returns
returns c = (
  omega arith,
  omega arith,
  omega arith,
  λ d. run_begins (marked c.args.id.now) c.args.segments.now c.args.from c.place_from-start.result d c.place_from-start.ensures.value (omega arith),
  λ d. run_some (marked c.args.id.now) c.args.segments.now c.args.from c.place_from-start.result c.place_from-end.result d
      c.place_from-start.ensures.value (omega arith) c.place_from-end.ensures.value,
)
