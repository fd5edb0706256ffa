use Rattle.std.proofs.Common.{◌∙◌, sym, ap, Some}
use Rattle.sqlite.specs.Order.{Row, column}
use Rattle.sqlite.specs.declared.types.Value.TheVariants.{Text, Blob}
use Rattle.book_tables.proofs.NumberedFound.{who_shown, stamp_shown, numbered_entry}
use Rattle.book_tables.proofs.ReadLemmas.{none_some}
use Rattle.book_tables.proofs.numbered.numbered_entry_in.Goals as goal

pub returns-in_default : goal.returns-in_default
returns-in_default c = λ w of is. absurd (c.in_default.ensures _ (ap (λ (r : Row). column r 0) is))

pub returns-in_default-text_at : goal.returns-in_default-text_at
returns-in_default-text_at c = λ w of is. absurd (c.in_default-text_at.ensures _ (ap (λ (r : Row). column r 1) is))

pub returns-in_default-small_at : goal.returns-in_default-small_at
returns-in_default-small_at c = λ w of is. absurd (c.in_default-small_at.ensures w.n of.recorded.few (ap (λ (r : Row). column r 2) is))

pub returns-in_default-text_at-2 : goal.returns-in_default-text_at-2
returns-in_default-text_at-2 c = λ w of is. absurd (c.in_default-text_at-2.ensures _ (ap (λ (r : Row). column r 3) is))

pub returns-in_default-blob_at : goal.returns-in_default-blob_at
returns-in_default-blob_at c = λ w of is. absurd (c.in_default-blob_at.ensures _ (ap (λ (r : Row). column r 4) is))

pub returns-in_default-new : goal.returns-in_default-new
returns-in_default-new c = λ w of is.
    absurd (none_some c.new.result w.who c.in_default-new.is (c.new.ensures ∙ who_shown c.args.row.now w of is c.in-Some.text.now c.in-Some.ensures))

pub returns-in_default-moment_of : goal.returns-in_default-moment_of
returns-in_default-moment_of c = λ w of is.
    absurd (none_some c.moment_of.result w.moment c.in_default-moment_of.is (c.moment_of.ensures ∙ stamp_shown c.args.row.now w of is c.in-Some-text_at-2.stamp.now c.in-Some-text_at-2.ensures))

pub returns : goal.returns
returns c = λ w of is.
    ap Some (numbered_entry c.args.row.now w of is c.in-Some.text.now c.in-Some-new.who c.in_ok-from_slice.field-0.items c.in-Some-small_at.n c.in-Some-text_at-2.stamp.now c.in-Some-moment_of.moment c.in_ok-from_slice-2.field-0.items
    c.in-Some.ensures c.in-Some-new.ensures (c.in-Some-text_at.ensures ∙ ap Text (sym c.in_ok-from_slice.ensures.items)) c.in-Some-small_at.ensures c.in-Some-text_at-2.ensures c.in-Some-moment_of.ensures
    (c.in-Some-blob_at.ensures ∙ ap Blob (sym c.in_ok-from_slice-2.ensures.items)) c.args.rules)
