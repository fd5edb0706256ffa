use Rattle.std.proofs.Common.{◌≡◌, ◌++◌, ◌∷◌, [], ◌∙◌, ap, codes, decimal}
use Rattle.definitions.specs.Bytes.{padded, right_aligned}
use Rattle.definitions.specs.Means.{Line}
use Rattle.reports.proofs.OpenLaws.{columns_and_room}
use Rattle.reports.proofs.receiving.append_line.Goals as goal

pub returns : goal.returns
returns c =
    let old = c.args.out.now.items in
    let line = c.args.line.now in
    let item : c.deref.result.now ≡ line.item = c.deref.ensures.value ∙ ap (λ (l : Line). l.item) c.line.view_is in
    let lot : c.deref-2.result.now ≡ line.lot = c.deref-2.ensures.value ∙ ap (λ (l : Line). l.lot) c.line.view_is in
    let quantity : c.as_bytes.result.now ≡ decimal line.quantity =
    c.as_bytes.ensures.value ∙ c.format.ensures.text ∙ ap (λ (l : Line). decimal l.quantity) c.line.view_is in
    let pieces : c.push-3.new.self.items
    ≡ ((((((old ++ padded 20 line.item) ++ 32 ∷ []) ++ padded 12 line.lot) ++ 32 ∷ []) ++ right_aligned 6 (decimal line.quantity)) ++ codes "  ________") ++ 10 ∷ [] =
    cc (c.in_ok-append_left.ensures, c.in_ok-push.ensures.items, c.in_ok-append_left-2.ensures, c.in_ok-push-2.ensures.items, c.in_ok-append_right.ensures, c.in_ok-extend_from_slice.ensures.items, c.in_ok-push-3.ensures.items, item, lot, quantity) in
    pieces ∙ columns_and_room old (padded 20 line.item) (padded 12 line.lot) (right_aligned 6 (decimal line.quantity)) (codes "  ________")
