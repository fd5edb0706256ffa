use Rattle.std.proofs.Common.{◌≡◌, ◌++◌, ◌∷◌, [], ◌-◌, min, ◌∙◌, ap, ℕ, true, false, List, map, sym, append-nil}
use Rattle.definitions.specs.Means.{Line, OrderLine}
use Rattle.definitions.specs.Allotment.{may_have, Ranked}
use Rattle.page_rows.specs.Lots.{free_in, shares_in, shares_left}
use Rattle.page_rows.proofs.Shares.{shares_more, shares_none}
use Rattle.std.proofs.lemmas.List.{at_drop_all}
use Rattle.page_rows.proofs.lots.shares.Goals as goal
use Rattle.page_rows.proofs.lots.shares.Goals.{then-may_have+in_ok-new_line+in_ok-push, else-may_have}

pub loop-ranked-preserved : goal.loop-ranked-preserved
loop-ranked-preserved c = elim c.if-may_have.branch [
  | then-may_have+in_ok-new_line+in_ok-push w ↦
      let item = c.args.line.now.item in
      let lot = c.ranked-item.result.lot in
      let share = min c.loop-ranked.left (free_in c.args.rows.now item lot) in
      let may : may_have c.args.line.now.pin lot ≡ true = sym (w.if-may_have.ensures ∙ ap (may_have c.args.line.now.pin) c.lot.ensures) in
      let same : c.line.inside.item.items ≡ item = ap (λ (l : OrderLine). l.item) c.line.view_is in
      let free : w.free.result ≡ free_in c.args.rows.now item lot = w.free.ensures ∙ (λ i. free_in c.args.rows.now ((w.deref-then-may_have.ensures.value ∙ same) i) (w.lot-then-may_have.ensures i)) in
      let is : w.share_of-share.result ≡ share = w.share_of-share.ensures ∙ ap (min c.loop-ranked.left) free in
      let made : Line = record { item = item; lot = lot; quantity = share } in
      let line : w.in_ok-new_line.field-0 ≡ made = w.in_ok-new_line.ensures ∙ (λ i. record { item = (w.deref-then-may_have-2.ensures.value ∙ same) i; lot = w.lot-then-may_have-2.ensures i; quantity = is i }) in
      let shares : c.if-may_have.shares.items ≡ c.loop-ranked.shares.items ++ made ∷ [] =
      ap (λ v. v.items) w.shares-is ∙ w.in_ok-push.ensures.items ∙ ap (λ (l : Line). c.loop-ranked.shares.items ++ l ∷ []) line in
      let left : c.if-may_have.left ≡ c.loop-ranked.left - share = w.left-is ∙ ap (λ (n : ℕ). c.loop-ranked.left - n) is in
      rw (shares, left) (shares_more c.args.rows.now item c.args.line.now.pin c.deref-ranked-items.result.now c.loop-ranked.ranked-index c.ranked-item.result c.loop-ranked.left
      (shares_in c.args.rules c.args.rows.now c.args.line.now) c.loop-ranked.shares.items c.loop-ranked-test.true c.ranked-item.is c.loop-ranked.invariant may)
  | else-may_have w ↦
      let not : may_have c.args.line.now.pin c.ranked-item.result.lot ≡ false = sym (w.if-may_have.ensures ∙ ap (may_have c.args.line.now.pin) c.lot.ensures) in
      rw (w.shares-is, w.left-is) (shares_none c.args.rows.now c.args.line.now.item c.args.line.now.pin c.deref-ranked-items.result.now c.loop-ranked.ranked-index c.ranked-item.result c.loop-ranked.left
      (shares_in c.args.rules c.args.rows.now c.args.line.now) c.loop-ranked.shares.items c.loop-ranked-test.true c.ranked-item.is c.loop-ranked.invariant not)
]

pub returns : goal.returns
returns c =
    let l = c.args.line.now in
    let given : List Ranked → List Line = λ ks. c.loop-ranked.shares.items ++ shares_left c.args.rows.now l.item l.pin (map (λ k. k.lot) ks) c.loop-ranked.left in
    sym (c.loop-ranked.invariant ∙ at_drop_all given c.deref-ranked-items.result.now c.loop-ranked.ranked-index c.loop-ranked-test.false ∙ append-nil c.loop-ranked.shares.items)
