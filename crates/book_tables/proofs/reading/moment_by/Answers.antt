use Rattle.std.proofs.Common.{◌≡◌, subst}
use Rattle.book_tables.proofs.MomentParts.{IsRead, fitted, of_parts, part_fits, too_long, year_fits}
use Rattle.book_tables.proofs.reading.moment_by.Goals as goal

pub returns-in_err-ok : goal.returns-in_err-ok
returns-in_err-ok c =
    rw c.from_residual.ensures (too_long c.try_from.result 16 c.args.year (of_parts c.args.year c.args.month c.args.day c.args.hour c.args.minute) c.try_from.ensures c.in_err-ok.ensures.variant (λ s. year_fits c.args.year s.year))

pub returns-in_err-ok-2 : goal.returns-in_err-ok-2
returns-in_err-ok-2 c =
    rw c.from_residual-in_err-ok-2.ensures (too_long c.try_from-2.result 8 c.args.month (of_parts c.args.year c.args.month c.args.day c.args.hour c.args.minute) c.try_from-2.ensures c.in_err-ok-2.ensures.variant (λ s. part_fits c.args.month s.month))

pub returns-in_err-ok-3 : goal.returns-in_err-ok-3
returns-in_err-ok-3 c =
    rw c.from_residual-in_err-ok-3.ensures (too_long c.try_from-3.result 8 c.args.day (of_parts c.args.year c.args.month c.args.day c.args.hour c.args.minute) c.try_from-3.ensures c.in_err-ok-3.ensures.variant (λ s. part_fits c.args.day s.day))

pub returns-in_err-ok-4 : goal.returns-in_err-ok-4
returns-in_err-ok-4 c =
    rw c.from_residual-in_err-ok-4.ensures (too_long c.try_from-4.result 8 c.args.hour (of_parts c.args.year c.args.month c.args.day c.args.hour c.args.minute) c.try_from-4.ensures c.in_err-ok-4.ensures.variant (λ s. part_fits c.args.hour s.hour))

pub returns-in_err-ok-5 : goal.returns-in_err-ok-5
returns-in_err-ok-5 c =
    rw c.from_residual-in_err-ok-5.ensures (too_long c.try_from-5.result 8 c.args.minute (of_parts c.args.year c.args.month c.args.day c.args.hour c.args.minute) c.try_from-5.ensures c.in_err-ok-5.ensures.variant (λ s. part_fits c.args.minute s.minute))

pub returns : goal.returns
returns c =
    let year = fitted c.try_from.result 16 c.args.year c.in_ok-ok.field-0 c.try_from.ensures c.in_ok-ok.ensures.value in
    let month = fitted c.try_from-2.result 8 c.args.month c.in_ok-ok-2.field-0 c.try_from-2.ensures c.in_ok-ok-2.ensures.value in
    let day = fitted c.try_from-3.result 8 c.args.day c.in_ok-ok-3.field-0 c.try_from-3.ensures c.in_ok-ok-3.ensures.value in
    let hour = fitted c.try_from-4.result 8 c.args.hour c.in_ok-ok-4.field-0 c.try_from-4.ensures c.in_ok-ok-4.ensures.value in
    let minute = fitted c.try_from-5.result 8 c.args.minute c.in_ok-ok-5.field-0 c.try_from-5.ensures c.in_ok-ok-5.ensures.value in
    let same : of_parts c.in_ok-ok.field-0 c.in_ok-ok-2.field-0 c.in_ok-ok-3.field-0 c.in_ok-ok-4.field-0 c.in_ok-ok-5.field-0 ≡ of_parts c.args.year c.args.month c.args.day c.args.hour c.args.minute = (λ i. of_parts (year i) (month i) (day i) (hour i) (minute i)) in
    subst (IsRead c.new.result) same c.new.ensures
