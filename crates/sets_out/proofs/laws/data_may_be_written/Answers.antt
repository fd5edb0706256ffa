use Rattle.sets_out.proofs.Inside.{inside_data}
use Rattle.sets_out.proofs.laws.data_may_be_written.Goals as goal

pub returns : goal.returns
returns c = inside_data
