use Rattle.stock.proofs.PageLaws.{small_amounts}
use Rattle.stock.proofs.laws.amounts_have_64_bits.Goals as goal

pub returns : goal.returns
returns c = small_amounts
