use Rattle.std.proofs.Common.{sym, ap, ◌∙◌, arith}
use Rattle.std.proofs.lemmas.List.{get_or_default}
use Rattle.definitions.specs.Events.{is_pair}
use Rattle.definitions.specs.Means.{Line}
use Rattle.page_rows.proofs.Halves.{quantity_at, quantity_nowhere}
use Rattle.page_rows.proofs.lines.quantity_of.Goals as goal

pub returns-then-i-lines : goal.returns-then-i-lines
returns-then-i-lines c =
    sym (quantity_nowhere c.args.lines.now c.args.item.now c.args.lot.now c.rank_of-i.result c.requires c.rank_of-i.ensures (λ d within. absurd (omega arith)))

pub returns-then-is_of : goal.returns-then-is_of
returns-then-is_of c =
    c.from.ensures ∙ ap (λ (l : Line). l.quantity) c.line.view_is
    ∙ sym (quantity_at c.args.lines.now c.args.item.now c.args.lot.now c.rank_of-i.result c.index-lines-i.result c.requires c.rank_of-i.ensures (omega arith) c.index-lines-i.is
    (sym c.is_of.ensures ∙ c.if-is_of.true))

pub returns : goal.returns
returns c =
    sym (quantity_nowhere c.args.lines.now c.args.item.now c.args.lot.now c.rank_of-i.result c.requires c.rank_of-i.ensures
    (λ d within. ap (is_pair c.args.item.now c.args.lot.now) (get_or_default c.args.lines.now c.rank_of-i.result d c.index-lines-i.result within ∙ sym c.index-lines-i.is) ∙ sym c.is_of.ensures ∙ c.if-is_of.false))
