use Rattle.commands.proofs.SlipLaws.{slip_from}
use Rattle.commands.proofs.slips.slip_of.Goals as goal

pub returns-in_ok-slip_in-in-Some-clause-slip : goal.returns-in_ok-slip_in-in-Some-clause-slip
returns-in_ok-slip_in-in-Some-clause-slip g c =
    let had = rw c.in-Some.is at c.in_ok-read.ensures.read in
    let slip = c.in_ok-slip_in-in-Some.field-0 in
    slip_from (g.R.FileSystem.reads c.args.rt.now) c.args.words.now slip.who slip.words slip.text.items c.in-Some.read.text.items slip.sheet had c.in_ok-slip_in-in-Some.ensures.slip
