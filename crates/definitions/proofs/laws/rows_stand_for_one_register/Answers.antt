use Rattle.definitions.proofs.StandsLaws.{stands-determine, stands-determine_first, stands-version}
use Rattle.definitions.proofs.laws.rows_stand_for_one_register.Goals as goal

pub returns : goal.returns
returns c = λ rows V W L M. (stands-determine rows V W L M, stands-determine_first rows V W L M, stands-version rows V W L M)
