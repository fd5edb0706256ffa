use Rattle.std.proofs.Common.{◌+◌}
use Rattle.definitions.specs.Cut.{segments_of}
use Rattle.definitions.specs.History.{traded}
use Rattle.set_effects.proofs.Judges.{by_segment_ok, stopped_by}
use Rattle.set_effects.proofs.judging.settled.Goals as goal

pub returns-in-Ok-clause-value : goal.returns-in-Ok-clause-value
returns-in-Ok-clause-value c = λ n P es part names shows.
    let outcome = traded c.args.set.now.rules es (c.args.page.now.entries + 1) c.args.set.now.kind (segments_of c.args.set.now.pieces) in
    let found = c.in-Ok.ensures.ok n P es part names shows in
    (found.0, by_segment_ok outcome found.0 found.1, found.2, found.3)

pub returns-in-Err-Fault-clause-value : goal.returns-in-Err-Fault-clause-value
returns-in-Err-Fault-clause-value c = λ n P es part names shows.
    let outcome = traded c.args.set.now.rules es (c.args.page.now.entries + 1) c.args.set.now.kind (segments_of c.args.set.now.pieces) in
    stopped_by outcome c.in-Err-Fault.field-0 c.in-Err-Fault.fault c.in_segment.result c.in-Err-Fault.field-0-is (c.in-Err-Fault.ensures.err n P es part names shows) c.in_segment.ensures
