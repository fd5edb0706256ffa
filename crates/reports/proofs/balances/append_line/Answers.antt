use Rattle.std.proofs.Common.{◌≡◌, ◌++◌, ◌∷◌, [], ◌∙◌, flat_map}
use Rattle.definitions.specs.Bytes.{padded, right_aligned}
use Rattle.reports.proofs.ColumnLaws.{line_text}
use Rattle.reports.proofs.balances.append_line.Goals as goal

pub returns : goal.returns
returns c =
    let pieces : c.push-3.new.self.items
    ≡ ((((((c.args.out.now.items ++ padded 20 c.args.item.now) ++ 32 ∷ []) ++ padded 12 c.args.lot.now) ++ 32 ∷ []) ++ padded 8 c.args.expiry.now)
    ++ flat_map (λ a. 32 ∷ right_aligned 15 a.now) c.args.amounts.now) ++ 10 ∷ [] =
    cc (c.in_ok-append_left.ensures, c.in_ok-push.ensures.items, c.in_ok-append_left-2.ensures, c.in_ok-push-2.ensures.items, c.in_ok-append_left-3.ensures, c.in_ok-append_amounts.ensures, c.in_ok-push-3.ensures.items) in
    pieces ∙ line_text (λ a. a.now) c.args.out.now.items c.args.item.now c.args.lot.now c.args.expiry.now c.args.amounts.now
