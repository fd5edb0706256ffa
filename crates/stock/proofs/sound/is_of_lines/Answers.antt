use Rattle.std.proofs.Common.{sym, ◌∙◌, bytes_eq}
use Rattle.stock.proofs.SoundLaws.{any_map}
use Rattle.stock.proofs.sound.is_of_lines.Goals as goal

pub returns : goal.returns
returns c = c.is_ordered.ensures ∙ sym (any_map (bytes_eq c.args.item.now) (λ m. m.item) c.args.lines.now)
