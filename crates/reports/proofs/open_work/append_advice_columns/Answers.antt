use Rattle.std.proofs.Common.{◌≡◌, ◌++◌, ◌∷◌, [], ◌∙◌}
use Rattle.definitions.specs.Bytes.{padded, right_aligned}
use Rattle.reports.proofs.OpenLaws.{four_columns}
use Rattle.reports.proofs.open_work.append_advice_columns.Goals as goal

pub returns : goal.returns
returns c =
    let pieces : c.push-4.new.self.items
    ≡ (((((((c.args.out.now.items ++ padded 22 c.args.number.now) ++ 32 ∷ []) ++ right_aligned 5 c.args.lines.now) ++ 32 ∷ [])
    ++ right_aligned 15 c.args.expected.now) ++ 32 ∷ []) ++ c.args.order.now) ++ 10 ∷ [] =
    cc (c.in_ok-append_left.ensures, c.in_ok-push.ensures.items, c.in_ok-append_right.ensures, c.in_ok-push-2.ensures.items, c.in_ok-append_right-2.ensures, c.in_ok-push-3.ensures.items, c.in_ok-extend_from_slice.ensures.items, c.in_ok-push-4.ensures.items) in
    pieces ∙ four_columns c.args.out.now.items (padded 22 c.args.number.now) (right_aligned 5 c.args.lines.now) (right_aligned 15 c.args.expected.now) c.args.order.now
