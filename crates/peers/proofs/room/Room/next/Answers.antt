-- With the one who is taken out, all who weren't answered yet are there still.
use Rattle.peers.proofs.Staying.{free_taken, stay_taken, stay_trans}
use Rattle.peers.proofs.room.Room.next.Goals as goal

pub returns-in-Some-take_waiting-clause-stays : goal.returns-in-Some-take_waiting-clause-stays
returns-in-Some-take_waiting-clause-stays g c =
    let taken = c.in-Some-take_waiting.ensures.taken in
    let stay = stay_trans _ _ _ c.loop.invariant.0 c.take_lost.ensures.stays in
    stay_taken _ _ _ _ _ _ stay taken

pub returns-in-Some-take_waiting-clause-taken : goal.returns-in-Some-take_waiting-clause-taken
returns-in-Some-take_waiting-clause-taken g c =
    let taken = c.in-Some-take_waiting.ensures.taken in
    (taken.waits, free_taken _ _ _ _ _ taken)
