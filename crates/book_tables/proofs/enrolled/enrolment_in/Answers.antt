use Rattle.std.proofs.Common.{Some, sym, ap, ◌∙◌}
use Rattle.sqlite.specs.Order.{Row, column}
use Rattle.definitions.specs.Header.{who_of, who_text}
use Rattle.definitions.proofs.ReadingLaws.{who_of-who_text}
use Rattle.book_tables.proofs.ReadLemmas.{none_some, same_number_value, same_some, same_text_value}
use Rattle.book_tables.proofs.enrolled.enrolment_in.Goals as goal

pub returns-in_default-new : goal.returns-in_default-new
returns-in_default-new c e partner is =
    let text = same_text_value c.in-Some-text_at.text.now (who_text e.who) (sym c.in-Some-text_at.ensures ∙ ap (λ (r : Row). column r 1) is) in
    absurd (none_some c.new.result e.who c.in_default-new.is (c.new.ensures ∙ ap who_of text ∙ who_of-who_text e.who partner))

pub returns : goal.returns
returns c e partner is =
    let seq = same_number_value c.in-Some.seq e.seq (sym c.in-Some.ensures.number ∙ ap (λ (r : Row). column r 0) is) in
    let text = same_text_value c.in-Some-text_at.text.now (who_text e.who) (sym c.in-Some-text_at.ensures ∙ ap (λ (r : Row). column r 1) is) in
    let who = same_some c.in-Some-new.who e.who (c.in-Some-new.ensures ∙ ap who_of text ∙ who_of-who_text e.who partner) in
    λ i. Some (record { seq = seq i; who = who i })
