use Rattle.std.proofs.Common.{◌≡◌, ◌≤◌, refl, rules, subst, ℕ}
use Rattle.intake.specs.Connections.{IsEnough}
use Rattle.commands.proofs.ServingLaws.{comes, enough_most, on_err}
use Rattle.commands.proofs.serving.serve_asking.Goals as goal

pub returns-then-is_told-clause-served : goal.returns-then-is_told-clause-served
returns-then-is_told-clause-served g c =
    let e = c.in_ok-serve_within.ensures.served in
    (e.0, e.1, subst (IsEnough e.0 e.1) c.count_of.ensures e.2, comes _ _ _ _ _ _ _ _ _ _ _ _ _ e.3.2 (λ f. f.0 ≡ c.args.has_clock) refl (λ f. (f.2, f.1)) (λ f x h k r. (search rules, search rules)))

pub returns-else-is_told-clause-ended : goal.returns-else-is_told-clause-ended
returns-else-is_told-clause-ended g c =
    let e = c.in_ok-serve_within.ensures.served in
    (e.0, e.1, subst (λ (n : ℕ). e.1 ≤ n) c.count_of.ensures (enough_most e.0 e.1 c.count_of.result e.2), comes _ _ _ _ _ _ _ _ _ _ _ _ _ e.3.2 (λ f. f.0 ≡ c.args.has_clock) refl (λ f. (f.2, f.1)) (λ f x h k r. (search rules, search rules)))

pub returns-in_err-serve_within-clause-ended : goal.returns-in_err-serve_within-clause-ended
returns-in_err-serve_within-clause-ended g c =
    let e = c.in_err-serve_within.ensures.ended in
    on_err c.from_residual.result
    (e.0, e.1, subst (λ (n : ℕ). e.1 ≤ n) c.count_of.ensures e.2, comes _ _ _ _ _ _ _ _ _ _ _ _ _ e.3.2 (λ f. f.0 ≡ c.args.has_clock) refl (λ f. (f.2, f.1)) (λ f x h k r. (search rules, search rules)))
