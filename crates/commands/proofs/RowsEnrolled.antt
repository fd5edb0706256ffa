-- Worked examples: what comes of the depositors of a list, and the status that the list ends with.
use Rattle.std.specs.Prelude.{◌≡◌, ◌∷◌, [], codes}
use Rattle.std.proofs.Common.{refl}
use Rattle.definitions.specs.Rules.{Today}
use Rattle.definitions.specs.Accepted.{replies_on}
use Rattle.definitions.proofs.Sample.{ACME, WHSE1, morning}
use Rattle.commands.specs.Enrolling.{enrolments, lines_of, status_of_replies}
use Rattle.commands.specs.declared.told.ExitStatus.TheVariants.{Done, Refused}

once : lines_of WHSE1 [] morning (ACME ∷ []) ≡ codes "ZZ-ACME enrolled\n"
unfolding lines_of
once = refl

once_is_done : status_of_replies (replies_on Today WHSE1 [] (enrolments morning (ACME ∷ []))) ≡ Done
once_is_done = refl

twice : lines_of WHSE1 [] morning (ACME ∷ ACME ∷ []) ≡ codes "ZZ-ACME enrolled\nZZ-ACME refused 35\n"
unfolding lines_of Rattle.std.specs.Fmt.digits
twice = refl

twice_is_refused : status_of_replies (replies_on Today WHSE1 [] (enrolments morning (ACME ∷ ACME ∷ []))) ≡ Refused
twice_is_refused = refl
