use Rattle.app.proofs.over_file.work.Goals as goal

pub returns-in-Play : goal.returns-in-Play
returns-in-Play g c =
    let played = rw c.deref.ensures at c.play_over.ensures.played in
    let stopped = rw c.deref.ensures at c.play_over.ensures.stopped in
    record { worked = rw c.in-Play.is (c.play_over.ensures.goes, (played, stopped)) }

pub returns-in-HandOn : goal.returns-in-HandOn
returns-in-HandOn g c = record { worked = rw c.in-HandOn.is (c.hand_on.ensures.same, c.hand_on.ensures.left) }
