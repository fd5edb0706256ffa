use Rattle.std.proofs.Common.{◌≡◌, ◌<◌, ◌≤◌, zero, suc, refl, arith, ◌+◌, ◌++◌, ◌∷◌, [], ℕ, Bool, List, true, false, cond, length, get_or, take, ap, sym, ◌∙◌, append-nil}
use Rattle.std.specs.Prelude.{filter, nat_lt}
use Rattle.std.proofs.lemmas.Bool.{lt-ltb}
use Rattle.std.proofs.lemmas.List.{take_all}
use Rattle.std.proofs.lemmas.List.Elements.{filter_more}
use Rattle.definitions.specs.Means.{Line}
use Rattle.stock.proofs.copies.copied_shares.Goals as goal
use Rattle.stock.proofs.copies.copied_shares.Goals.{then-share-gt0+in_ok-copied+in_ok-push, else-share-gt0}

-- one share more
share_next : (shares : List Line) (i : ℕ) (x : Line) (v : Bool) → i < length shares → x ≡ get_or shares i x → nat_lt 0 x.quantity ≡ v
    → filter (λ (l : Line). nat_lt 0 l.quantity) (take (i + 1) shares) ≡ filter (λ (l : Line). nat_lt 0 l.quantity) (take i shares) ++ cond v (x ∷ []) []
share_next shares i x v within is known =
    let before : List Line = filter (λ (l : Line). nat_lt 0 l.quantity) (take i shares) in
    filter_more (λ (l : Line). nat_lt 0 l.quantity) shares i x within
    ∙ ap (λ (l : Line). before ++ cond (nat_lt 0 l.quantity) (l ∷ []) []) (sym is)
    ∙ ap (λ (w : Bool). before ++ cond w (x ∷ []) []) known

none : (n : ℕ) → n ≤ 0 → nat_lt 0 n ≡ false
none zero le = refl
none (suc n) le = absurd (omega arith)

pub loop-share-preserved : goal.loop-share-preserved
loop-share-preserved c =
    let next = λ (v : Bool). share_next c.args.shares.now c.loop-share.share-index c.share-item.result v c.loop-share-test.true c.share-item.is in
    let more = ap (λ (l : Line). nat_lt 0 l.quantity) (sym c.share.view_is) in
    elim c.if-share-gt0.branch [
      | then-share-gt0+in_ok-copied+in_ok-push w ↦ ap (λ v. v.items) w.copy-is ∙ w.in_ok-push.ensures.items
          ∙ (λ j. c.loop-share.invariant j ++ w.in_ok-copied.ensures j ∷ []) ∙ sym (next true (more ∙ lt-ltb 0 _ w.if-share-gt0.true))
      | else-share-gt0 w ↦ ap (λ v. v.items) w.copy-is ∙ c.loop-share.invariant ∙ sym (append-nil _) ∙ sym (next false (more ∙ none _ w.if-share-gt0.false))
    ]

pub returns : goal.returns
returns c = c.loop-share.invariant ∙ ap (filter (λ (l : Line). nat_lt 0 l.quantity)) (take_all c.loop-share.share-index c.args.shares.now c.loop-share-test.false)
