use Rattle.std.proofs.Common.{rules}
use Rattle.store.proofs.Changes.{reading_on, unchanged_trans}
use Rattle.commands.proofs.reasons.tell_reason.Goals as goal

pub returns-in_err-known : goal.returns-in_err-known
returns-in_err-known g c = record { same = c.known.ensures.query.reading.same; stopped = search rules }

pub returns-then-is_some : goal.returns-then-is_some
returns-then-is_some g c = record { same = c.known.ensures.query.reading.same; stopped = tt }

pub returns-in_err-need : goal.returns-in_err-need
returns-in_err-need g c = record { same = c.known.ensures.query.reading.same; stopped = search rules }

pub returns-in_err-page : goal.returns-in_err-page
returns-in_err-page g c =
    let read = reading_on _ _ _ c.known.ensures.query.reading.same _ c.load.ensures.query.reading in
    record { same = read.same; stopped = search rules }

pub returns-in_default : goal.returns-in_default
returns-in_default g c = record {
  same = unchanged_trans _ _ _ c.known.ensures.query.reading.same c.load.ensures.query.reading.same;
  stopped = tt;
}

pub returns-in_err-why : goal.returns-in_err-why
returns-in_err-why g c = record {
  same = unchanged_trans _ _ _ c.known.ensures.query.reading.same c.load.ensures.query.reading.same;
  stopped = search rules;
}

pub returns-in_err-tell_cause : goal.returns-in_err-tell_cause
returns-in_err-tell_cause g c = record {
  same = unchanged_trans _ _ _ c.known.ensures.query.reading.same c.load.ensures.query.reading.same;
  stopped = search rules;
}

pub returns : goal.returns
returns g c = record {
  same = unchanged_trans _ _ _ c.known.ensures.query.reading.same c.load.ensures.query.reading.same;
  stopped = tt;
}
