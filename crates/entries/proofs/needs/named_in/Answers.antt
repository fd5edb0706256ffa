use Rattle.std.proofs.Common.{ap, ◌∙◌}
use Rattle.definitions.specs.Cut.{pieces_left}
use Rattle.definitions.specs.Need.{together}
use Rattle.entries.proofs.NeedLists.{named_by, named_first}
use Rattle.entries.proofs.needs.named_in.Goals as goal

pub loop-segment-init : goal.loop-segment-init
loop-segment-init c = record {
  named = ap (λ u. together c.nothing-need.result (named_by (pieces_left u))) c.cut-left.ensures
      ∙ ap (λ n. together n (named_by (pieces_left (record { delims = c.args.delims; text = c.args.text.now })))) c.nothing-need.ensures
      ∙ named_first c.args.delims c.args.text.now;
}
