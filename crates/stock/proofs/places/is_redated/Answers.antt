use Rattle.std.proofs.Common.{◌∙◌, ap, sym, ℕ, List, Option}
use Rattle.definitions.specs.Events.{is_other_date}
use Rattle.definitions.specs.Means.{Line, AdviceLine}
use Rattle.page_rows.proofs.Dates.{date_absent, date_place}
use Rattle.stock.proofs.places.is_redated.Goals as goal

pub returns-in-None : goal.returns-in-None
returns-in-None c =
    let goods = c.args.line.now.line in
    ap (λ (o : Option (List ℕ)). is_other_date o c.args.line.now.expiry) (sym (date_absent goods.item goods.lot c.args.rows.now c.requires
    (rw (c.deref.ensures.value, c.deref-2.ensures.value, ap (λ (l : Line). l.item) c.goods.view_is, ap (λ (l : Line). l.lot) c.goods.view_is, ap (λ (l : AdviceLine). l.line.item) c.line.view_is, ap (λ (l : AdviceLine). l.line.lot) c.line.view_is) at c.in-None.ensures)))

pub returns-in-Some : goal.returns-in-Some
returns-in-Some c =
    let goods = c.args.line.now.line in
    c.is_redated.ensures
    ∙ ap (λ (o : Option (List ℕ)). is_other_date o c.args.line.now.expiry) (sym (date_place goods.item goods.lot c.args.rows.now c.in-Some.i c.index-rows-i.result c.requires
    (rw (c.deref.ensures.value, c.deref-2.ensures.value, ap (λ (l : Line). l.item) c.goods.view_is, ap (λ (l : Line). l.lot) c.goods.view_is, ap (λ (l : AdviceLine). l.line.item) c.line.view_is, ap (λ (l : AdviceLine). l.line.lot) c.line.view_is) at c.in-Some.ensures)
    c.index-rows-i.is))
