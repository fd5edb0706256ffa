-- Worked examples of the first path: an advice, its resend, a changed resend.
use Rattle.std.specs.Prelude.{◌≡◌, [], ◌∷◌, length, codes}
use Rattle.std.proofs.Common.{refl}
use Rattle.std.specs.Fmt.{digits}
use Rattle.definitions.specs.declared.rules.Rules.{Rules}
use Rattle.definitions.specs.declared.rules.Rules.TheVariants.{One, Two}
use Rattle.definitions.specs.Register.{Interchange}
use Rattle.definitions.specs.Reply.{Accepted, Stored}
use Rattle.definitions.proofs.Sample.{later, refusal_of, first_advice, first_answer, sends, reply_after, balances}

lengths : length first_advice ∷ length first_answer ∷ length (refusal_of (codes "000000001") (codes "025")) ∷ [] ≡ 255 ∷ 265 ∷ 154 ∷ []
unfolding digits
lengths = refl

-- the first advice is accepted, and its lot is expected
advice_accepted : (r : Rules) → reply_after r [] (sends first_advice) ≡ Accepted first_answer
unfolding digits
advice_accepted One = refl
advice_accepted Two = refl

advice_expected : (r : Rules) → balances r (sends first_advice ∷ []) (codes "BOLT") (codes "L1") ≡ 100 ∷ 0 ∷ 0 ∷ 0 ∷ []
unfolding digits
advice_expected One = refl
advice_expected Two = refl

-- resent a day later: the same answer, and nothing moves
resend_stored : (r : Rules) → reply_after r (sends first_advice ∷ []) (Interchange first_advice, later) ≡ Stored first_answer
unfolding digits
resend_stored One = refl
resend_stored Two = refl

resend_moves_nothing : (r : Rules) → balances r (sends first_advice ∷ (Interchange first_advice, later) ∷ []) (codes "BOLT") (codes "L1") ≡ 100 ∷ 0 ∷ 0 ∷ 0 ∷ []
unfolding digits
resend_moves_nothing One = refl
resend_moves_nothing Two = refl
