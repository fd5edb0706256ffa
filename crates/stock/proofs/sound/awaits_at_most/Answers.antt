use Rattle.std.proofs.Common.{◌≡◌, ◌+◌, ◌∙◌, ℕ, List, true, ap, sym, arith}
use Rattle.std.proofs.lemmas.Bool.{le-leb}
use Rattle.std.proofs.lemmas.List.{take_all}
use Rattle.std.specs.Prelude.{nat_le}
use Rattle.definitions.specs.Page.{PageAdvice}
use Rattle.page_rows.specs.Pages.{awaited}
use Rattle.stock.proofs.sound.awaits_at_most.Goals as goal

within : (left taken most : ℕ) → left + taken ≡ most → true ≡ nat_le taken most
within left taken most is = sym (le-leb taken most (omega arith))

pub returns : goal.returns
returns c =
    let l = c.loop-advice in
    within l.left (awaited c.args.advices.now c.args.item.now c.args.lot.now) c.args.most
    (ap (λ (ks : List PageAdvice). l.left + awaited ks c.args.item.now c.args.lot.now) (sym (take_all l.advice-index c.args.advices.now c.loop-advice-test.false)) ∙ l.invariant)
