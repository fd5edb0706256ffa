use Rattle.std.proofs.Common.{refl}
use Rattle.command_line.proofs.reading.words_of.Goals as goal

pub returns-clause-told : goal.returns-clause-told
returns-clause-told c = (c.in_ok-given.ensures.ok, c.in_ok-given-2.ensures.ok, c.in_ok-number.ensures.ok, c.in_ok-given-3.ensures.ok)

pub returns-clause-kind : goal.returns-clause-kind
returns-clause-kind c = refl
