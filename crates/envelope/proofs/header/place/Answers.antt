use Rattle.envelope.proofs.Offsets.{is_within}
use Rattle.envelope.proofs.header.place.Goals as goal

pub returns-clause-within : goal.returns-clause-within
returns-clause-within c = is_within c.args.n c.requires
