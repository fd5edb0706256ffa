use Rattle.std.proofs.Common.{◌∙◌, arith}
use Rattle.book_tables.proofs.ReadLemmas.{uncut}
use Rattle.book_tables.proofs.reading.value.Goals as goal

pub returns : goal.returns
returns c = c.value_up_to.ensures ∙ uncut c.args.text.now c.requires (λ i. omega (arith, c.type_inv.text i))
