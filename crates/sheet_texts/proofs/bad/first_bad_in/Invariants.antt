use Rattle.std.proofs.Common.{◌≡◌, take, map, None}
use Rattle.csv.specs.Records.{fields_of}
use Rattle.sheet_texts.specs.Reasons.{first_reason}
use Rattle.sheet_texts.proofs.bad.first_bad_in.Given as goal

-- no record so far is a reason
abbrev pub invariant-loop-at : goal.invariant-loop-at
invariant-loop-at l = first_reason l.kind l.refusal (take l.at (map fields_of l.rows)) ≡ None
