-- Worked examples: who sent an interchange, as a line tells it.
use Rattle.std.specs.Prelude.{◌≡◌, ◌++◌, Some, None, codes, take, drop}
use Rattle.std.proofs.Common.{refl}
use Rattle.definitions.specs.Register.{Interchange, Enrol}
use Rattle.definitions.proofs.Sample.{ACME, first_advice}
use Rattle.intake.specs.Lines.{sender_in, sender_text}

from_acme : sender_in (Some (Interchange first_advice)) ≡ Some ACME
from_acme = refl

acme_is_told : sender_text (sender_in (Some (Interchange first_advice))) ≡ codes "ZZ-ACME"
acme_is_told = refl

-- a text that can't be read, and a sender that can be no partner
from_nobody : sender_text (sender_in (Some (Interchange (take 105 first_advice)))) ≡ codes "-"
from_nobody = refl

from_no_partner : sender_text (sender_in (Some (Interchange (take 32 first_advice ++ codes "zz" ++ drop 34 first_advice)))) ≡ codes "-"
from_no_partner = refl

-- what is no interchange, and a request that submits nothing
an_enrolment_is_not_sent : sender_in (Some (Enrol ACME)) ≡ None
an_enrolment_is_not_sent = refl

nothing_is_sent : sender_text (sender_in None) ≡ codes "-"
nothing_is_sent = refl
