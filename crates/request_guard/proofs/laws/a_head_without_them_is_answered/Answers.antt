use Rattle.std.proofs.Common.{ap, codes}
use Rattle.std.specs.List.{list_any}
use Rattle.head_fields.specs.Fields.{has_field}
use Rattle.request_guard.specs.Doors.{deciding_names, is_repeated, is_misdirected, is_forbidden, value_of}
use Rattle.request_guard.proofs.Passing.{passes, passes-forbidden, neither, no-value, not-repeated}
use Rattle.request_guard.proofs.laws.a_head_without_them_is_answered.Goals as goal

pub returns : goal.returns
returns c hosts method fields none =
    let e0 = neither (has_field (codes "Host") fields) _ none in
    let e1 = neither (has_field (codes "Origin") fields) _ e0.1 in
    let e2 = neither (has_field (codes "Sec-Fetch-Site") fields) _ e1.1 in
    let e3 = neither (has_field (codes "Sec-Fetch-Mode") fields) _ e2.1 in
    passes (list_any (is_repeated fields) deciding_names) (is_misdirected hosts (value_of (codes "Host") fields))
    (is_forbidden method fields)
    (not-repeated fields deciding_names none)
    (ap (is_misdirected hosts) (no-value (codes "Host") fields e0.0))
    (passes-forbidden method fields (no-value (codes "Origin") fields e1.0)
    (no-value (codes "Sec-Fetch-Site") fields e2.0) (no-value (codes "Sec-Fetch-Mode") fields e3.0))
