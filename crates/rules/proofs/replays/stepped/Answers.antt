use Rattle.stock.specs.Parts.{all_named}
use Rattle.stock.proofs.PartLemmas.{part_of_self}
use Rattle.entries.specs.Asked.{act_of}
use Rattle.rules.proofs.Whole.{all_act}
use Rattle.rules.proofs.replays.stepped.Goals as goal

pub returns : goal.returns
returns c =
    let p = c.args.page in
    (c.in_ok-with.ensures, λ es e shows done. c.in_ok-outgoing.ensures all_named p es e (part_of_self all_named p c.rows.ensures.sound.sorted) (all_act p (act_of c.args.act.now)) shows done)
