-- Worked examples at the limits: length of a text.
use Rattle.std.specs.Prelude.{◌≡◌, ℕ, true, List, [], ◌++◌, length, replicate, nat_lt}
use Rattle.std.proofs.Common.{refl}
use Rattle.std.specs.Fmt.{digits}
use Rattle.definitions.specs.declared.rules.Rules.TheVariants.{One, Two}
use Rattle.definitions.specs.Header.{is_unreadable}
use Rattle.definitions.specs.Limits.{most_bytes}
use Rattle.definitions.specs.Reply.{Accepted}
use Rattle.definitions.proofs.Sample.{first_advice, first_answer, sends, reply_after}

-- LF after the end are skipped
long_1000 : reply_after One [] (sends (first_advice ++ replicate 1000 10)) ≡ Accepted first_answer
unfolding digits
long_1000 = refl

-- as many under rules 2 would take as long again
long_100 : reply_after Two [] (sends (first_advice ++ replicate 100 10)) ≡ Accepted first_answer
unfolding digits
long_100 = refl

-- over 1,048,576 bytes nothing can be read
too_long : (text : List ℕ) → nat_lt most_bytes (length text) ≡ true → is_unreadable text ≡ true
too_long text over = rw over refl
