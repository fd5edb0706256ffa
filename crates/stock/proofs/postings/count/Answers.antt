use Rattle.stock.proofs.Counts.{counted_made}
use Rattle.stock.proofs.postings.count.Goals as goal

pub returns : goal.returns
returns c = counted_made _ _ _ _ _ _ _ c.take_lines.ensures c.in_ok-add_lines.ensures c.mark_lines.ensures
