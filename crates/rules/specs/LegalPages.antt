-- The page of a depositor of a legal register.
use Rattle.std.specs.Prelude.{◌≡◌}
use Rattle.definitions.specs.History.{History}
use Rattle.stock.specs.Pages.{PageFacts, IsSound}
use Rattle.rules.specs.Decided.{IsPageOf}

-- a sound page of a history, with no event since the last entry
pub record IsLegalPage (p : PageFacts) (h : History) : Type 0 where
  pub sound : IsSound p
  pub page : IsPageOf p h
  pub rest : p.recent ≡ 0
