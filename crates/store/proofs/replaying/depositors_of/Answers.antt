use Rattle.std.proofs.Common.{ap, ◌∙◌, arith, [], take, length, ◌≡◌, ◌+◌, ◌<◌, ◌++◌, ◌∷◌, ℕ, List, Bool, true, false, not, cond, get_or, map, sym, append-nil}
use Rattle.std.proofs.Math.Seq.{take-length}
use Rattle.store.proofs.OpenLaws.{unnumbered_among, enrolled_on}
use Rattle.std.specs.Prelude.{filter, nat_lt}
use Rattle.std.proofs.lemmas.List.{map-append}
use Rattle.std.proofs.lemmas.List.Elements.{filter_more}
use Rattle.definitions.specs.Header.{Who}
use Rattle.rules.specs.Written.{Written}
use Rattle.store.proofs.replaying.depositors_of.Goals as goal
use Rattle.store.proofs.replaying.depositors_of.Goals.{then-not-is_numbered+in_ok-push, else-not-is_numbered}

pub returns : goal.returns
returns c = λ L is.
    let entries = c.args.entries.now in
    let whole : c.loop-entry.entry-index ≡ length entries = omega (arith, c.loop-entry-test.false, c.loop-entry.auto.entry-index-end) in
    c.loop-entry.invariant ∙ ap (λ n. unnumbered_among (take n entries)) whole ∙ ap unnumbered_among (take-length entries ∙ is) ∙ enrolled_on [] L

-- one entry more, which counts or not
who_next : (ws : List Written) (i : ℕ) (w : Written) (v : Bool) → i < length ws → w ≡ get_or ws i w → nat_lt 0 w.n ≡ v
    → unnumbered_among (take (i + 1) ws) ≡ unnumbered_among (take i ws) ++ map (λ (x : Written). x.who) (cond (not v) (w ∷ []) [])
who_next ws i w v within is counts =
    let who : Written → Who = λ x. x.who in
    let new : Written → Bool = λ x. not (nat_lt 0 x.n) in
    let before : List Written = filter new (take i ws) in
    ap (map who) (filter_more new ws i w within ∙ ap (λ (x : Written). before ++ cond (new x) (x ∷ []) []) (sym is))
    ∙ map-append who before (cond (new w) (w ∷ []) [])
    ∙ ap (λ (b : Bool). map who before ++ map who (cond (not b) (w ∷ []) [])) counts

pub loop-entry-preserved : goal.loop-entry-preserved
loop-entry-preserved c =
    let next = λ (v : Bool). who_next c.args.entries.now c.loop-entry.entry-index c.entry-item.result v c.loop-entry-test.true c.entry-item.is in
    elim c.if-not-is_numbered.branch [
      | then-not-is_numbered+in_ok-push w ↦ ap (λ v. v.items) w.whos-is ∙ w.in_ok-push.ensures.items
          ∙ (λ j. c.loop-entry.invariant j ++ w.who.ensures j ∷ []) ∙ sym (next false (sym w.if-not-is_numbered.ensures))
      | else-not-is_numbered w ↦ ap (λ v. v.items) w.whos-is ∙ c.loop-entry.invariant ∙ sym (append-nil _) ∙ sym (next true (sym w.if-not-is_numbered.ensures))
    ]
