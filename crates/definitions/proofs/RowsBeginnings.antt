-- Every beginning of an interchange: under 106 bytes it can't be read, else its end is premature.
use Rattle.std.specs.Prelude.{◌≡◌, ℕ, List, [], ◌++◌, map, take, replicate, Some, Option}
use Rattle.std.specs.List.{range_with_len}
use Rattle.std.proofs.Common.{refl}
use Rattle.std.specs.Fmt.{digits}
use Rattle.definitions.specs.declared.rules.Rules.{Rules}
use Rattle.definitions.specs.declared.rules.Rules.TheVariants.{One, Two}
use Rattle.definitions.specs.Moments.{Moment}
use Rattle.definitions.specs.Register.{Command}
use Rattle.definitions.specs.Refusals.{Refusal, Unreadable, Note}
use Rattle.definitions.proofs.Sample.{first_advice, sends, reply_after, refusal_alone}
use Rattle.definitions.proofs.RowsTrade.{first_order, last_acknowledgment, until_count, until_pick}

-- the refusals of the beginnings with `count` lengths from `first` on, after these commands
abbrev beginnings : Rules → List (Command × Moment) → List ℕ → ℕ → ℕ → List (Option Refusal)
beginnings r cs text first count = map (λ k. refusal_alone (reply_after r cs (sends (take k text)))) (range_with_len first count)

short_beginnings : (r : Rules) → beginnings r [] first_advice 0 106 ≡ replicate 106 (Some Unreadable)
unfolding digits
short_beginnings r = refl

beginnings_of_advice : (r : Rules) → beginnings r [] first_advice 106 149 ≡ replicate 149 (Some (Note 23))
unfolding digits
beginnings_of_advice r = refl

beginnings_of_order : beginnings One until_count first_order 106 131 ≡ replicate 131 (Some (Note 23))
unfolding digits
beginnings_of_order = refl

beginnings_of_acknowledgment : beginnings One until_pick last_acknowledgment 106 127 ≡ replicate 127 (Some (Note 23))
unfolding digits
beginnings_of_acknowledgment = refl

-- under rules 2 the last of them: all would take as long again
last_beginnings : beginnings Two until_count first_order 217 20 ++ beginnings Two until_pick last_acknowledgment 213 20 ≡ replicate 40 (Some (Note 23))
unfolding digits
last_beginnings = refl
