use Rattle.std.proofs.Common.{◌<◌, ◌-◌, ◌^◌, refl, arith}
use Rattle.intake.specs.Admitting.{of_partners}
use Rattle.intake.proofs.Probes.{plain, told_ok, told_err}
use Rattle.intake.proofs.listening.serve_count.Goals as goal

pub returns-clause-served : goal.returns-clause-served
returns-clause-served g c =
    let few : c.args.count < 2 ^ 64 - 1 = omega (arith, c.ranges.count.fits) in
    told_ok _ (λ p t q. goal.C-step g p t q) (λ p x q. goal.T-step g p x tt q) (λ b d l is. plain of_partners _ _ d refl is) _ _ _ _ c.serve_within.result _ few c.serve_within.ensures.served

pub returns-clause-ended : goal.returns-clause-ended
returns-clause-ended g c =
    told_err _ (λ p t q. goal.C-step g p t q) (λ p x q. goal.T-step g p x tt q) (λ b d l is. plain of_partners _ _ d refl is) _ _ _ _ c.serve_within.result _ c.serve_within.ensures.ended
