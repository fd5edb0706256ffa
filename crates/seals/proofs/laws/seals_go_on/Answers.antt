use Rattle.std.proofs.Common.{ap, ◌∙◌, []}
use Rattle.std.proofs.lemmas.List.Sums.{fold-append}
use Rattle.store.specs.Replayed.{all_written, written_on}
use Rattle.seals.specs.Seals.{blank_seal, seal_after, seal_on}
use Rattle.seals.proofs.Chains.{written_on-append}
use Rattle.seals.proofs.laws.seals_go_on.Goals as goal

pub returns : goal.returns
returns c L M = ap (seal_on blank_seal) (written_on-append [] L M) ∙ fold-append seal_after blank_seal (all_written L) (written_on L M)
