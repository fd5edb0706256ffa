-- what a server answers by each of its doors
use Rattle.std.proofs.Common.{◌≡◌, ◌≢◌, None, refl}
use Rattle.peers.specs.declared.entrances.Door.{Door}
use Rattle.peers.specs.declared.entrances.Door.TheVariants.{First, Second}
use Rattle.intake.specs.declared.audience.Access.{Access}
use Rattle.intake.specs.declared.audience.Audience.{Audience}
use Rattle.intake.specs.declared.audience.Audience.TheVariants.{Partners, Testers, Clerks}
use Rattle.intake.specs.Admitting.{access_beside, access_by, of_partners}

-- either door tells of the health, or none does
health_beside : (audience : Audience) (access : Access) → (access_beside audience access).tells_health ≡ access.tells_health
health_beside Partners access = refl
health_beside Testers access = refl
health_beside Clerks access = refl

pub health_by : (access : Access) (door : Door) → (access_by access door).tells_health ≡ access.tells_health
health_by access First = refl
health_by access Second = health_beside access.audience access

-- each has the same that turns requests away
guarded_beside : (audience : Audience) (access : Access) → (access_beside audience access).doors ≡ access.doors
guarded_beside Partners access = refl
guarded_beside Testers access = refl
guarded_beside Clerks access = refl

pub guarded_by : (access : Access) (door : Door) → (access_by access door).doors ≡ access.doors
guarded_by access First = refl
guarded_by access Second = guarded_beside access.audience access

-- clerks beside others than partners alone
pub clerks_beside : (audience : Audience) (access : Access) → audience ≢ Partners
    → (let by = access_beside audience access in (by.audience ≡ Clerks) × (by.from ≡ None))
clerks_beside Partners access other = absurd (other refl)
clerks_beside Testers access other = (refl, refl)
clerks_beside Clerks access other = (refl, refl)

pub partners_by : (door : Door) → access_by of_partners door ≡ of_partners
partners_by First = refl
partners_by Second = refl
