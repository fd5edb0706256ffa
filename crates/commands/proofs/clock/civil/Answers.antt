use Rattle.std.proofs.Common.{arith, ◌<ℤ◌, ◌∙◌, pos}
use borrow.Author.Rules.{sfits_of}
use Rattle.jiff.proofs.SpanFacts.{signed_arith}
use Rattle.definitions.specs.Moments.{Moment}
use Rattle.commands.proofs.ClockLaws.{none_before, minute_made, year_is, part_is}
use Rattle.commands.proofs.clock.civil.Goals as goal

pub returns-then-year-lt0 : goal.returns-then-year-lt0
returns-then-year-lt0 c =
    let at = c.to_datetime-shown.result in
    let year : c.to_datetime-shown.result.date.year <ℤ pos 0 = omega (arith, signed_arith) in
    record {
      shown = at;
      instant = c.to_datetime-shown.ensures ∙ omega (arith, signed_arith);
      is = none_before at.date.year at.date.month at.date.day at.time.hour at.time.minute year;
    }

pub returns : goal.returns
returns c =
    let at = c.to_datetime-shown.result in
    let m : Moment = record {
      year = c.unsigned_abs.result;
      month = c.unsigned_abs-2.result;
      day = c.unsigned_abs-3.result;
      hour = c.unsigned_abs-4.result;
      minute = c.unsigned_abs-5.result;
    } in
    let year = year_is at.date.year c.year.result c.year-2.result c.unsigned_abs.result c.year.ensures c.year-2.ensures (sfits_of c.year.type_inv) (sfits_of c.year-2.type_inv)
    c.if-year-lt0.false c.unsigned_abs.ensures.value in
    let month = part_is at.date.month c.month.result c.unsigned_abs-2.result c.month.ensures (sfits_of c.month.type_inv) c.unsigned_abs-2.ensures.value in
    let day = part_is at.date.day c.day.result c.unsigned_abs-3.result c.day.ensures (sfits_of c.day.type_inv) c.unsigned_abs-3.ensures.value in
    let hour = part_is at.time.hour c.hour.result c.unsigned_abs-4.result c.hour.ensures (sfits_of c.hour.type_inv) c.unsigned_abs-4.ensures.value in
    let minute = part_is at.time.minute c.minute.result c.unsigned_abs-5.result c.minute.ensures (sfits_of c.minute.type_inv) c.unsigned_abs-5.ensures.value in
    record {
      shown = at;
      instant = c.to_datetime-shown.ensures ∙ omega (arith, signed_arith);
      is = minute_made c.new.result m at c.new.ensures year month day hour minute;
    }
