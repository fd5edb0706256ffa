use Rattle.std.proofs.Common.{◌++◌, ◌∷◌, [], List, ℕ, replicate, ap, ◌∙◌, append_assoc}
use Rattle.std.proofs.lemmas.List.{replicate_more}
use Rattle.reports.proofs.columns.append_spaces.Goals as goal

pub loop-preserved : goal.loop-preserved
loop-preserved c =
    let before = c.args.out.now.items in
    c.in_ok-push.ensures.items
    ∙ ap (λ (text : List ℕ). text ++ 32 ∷ []) c.loop.invariant
    ∙ append_assoc before (replicate c.loop.counter 32) (32 ∷ [])
    ∙ ap (λ (spaces : List ℕ). before ++ spaces) (replicate_more c.loop.counter 32)
