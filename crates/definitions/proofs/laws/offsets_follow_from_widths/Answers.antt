use Rattle.definitions.proofs.HeaderLaws.{offsets-widths, separators-ends}
use Rattle.definitions.proofs.laws.offsets_follow_from_widths.Goals as goal

pub returns : goal.returns
returns c = (offsets-widths, separators-ends)
