use Rattle.std.proofs.Common.{◌≡◌, true, false, Some, None, Ok, map}
use Rattle.definitions.specs.Clerk.{line_of, sheet_of, is_ascending}
use Rattle.sheets.specs.Misfits.{misfit_of}
use Rattle.sheets.proofs.RefusalLaws.{misfit_is}
use Rattle.sheets.proofs.SheetLaws.{made, made_of_kind, twice, widened}
use Rattle.sheets.proofs.making.Sheet.new.Goals as goal

-- the lines in order are the sheet
sheet : (c : goal.Else-not-ascends) → sheet_of c.args.rules c.args.kind c.args.lines.items ≡ Ok (map line_of c.in_order-lines.result.items)
sheet c =
    let fits : misfit_of c.args.rules c.args.kind c.args.lines.items ≡ None = cc (c.misfit.ensures, c.deref.ensures.value, c.in_default.is) in
    let up : is_ascending (map line_of c.in_order-lines.result.items) ≡ true = cc (c.ascends.ensures, c.deref-2.ensures.value, c.if-not-ascends.false) in
    made c.args.rules c.args.kind c.args.lines.items c.in_order-lines.result.items fits c.in_order-lines.ensures.same c.in_order-lines.ensures.sorted up

pub returns-in-Some-clause-err : goal.returns-in-Some-clause-err
returns-in-Some-clause-err c =
    let refusal : misfit_of c.args.rules c.args.kind c.args.lines.items ≡ Some c.in-Some.refusal = cc (c.misfit.ensures, c.deref.ensures.value, c.in-Some.is) in
    misfit_is c.args.rules c.args.kind c.args.lines.items c.in-Some.refusal refusal

pub returns-then-not-ascends-clause-err : goal.returns-then-not-ascends-clause-err
returns-then-not-ascends-clause-err c =
    let fits : misfit_of c.args.rules c.args.kind c.args.lines.items ≡ None = cc (c.misfit.ensures, c.deref.ensures.value, c.in_default.is) in
    let falls : is_ascending (map line_of c.in_order-lines.result.items) ≡ false = cc (c.ascends.ensures, c.deref-2.ensures.value, c.if-not-ascends.true) in
    twice c.args.rules c.args.kind c.args.lines.items c.in_order-lines.result.items fits c.in_order-lines.ensures.same c.in_order-lines.ensures.sorted falls

pub invariant_of-result : goal.invariant_of-result
invariant_of-result c =
    let lines = map line_of c.in_order-lines.result.items in
    widened c.args.rules c.args.kind lines (made_of_kind c.args.rules c.args.kind c.args.lines.items lines (sheet c))

pub returns-clause-ok : goal.returns-clause-ok
returns-clause-ok c = sheet c

pub returns-clause-kind : goal.returns-clause-kind
returns-clause-kind c = made_of_kind c.args.rules c.args.kind c.args.lines.items (map line_of c.in_order-lines.result.items) (sheet c)
