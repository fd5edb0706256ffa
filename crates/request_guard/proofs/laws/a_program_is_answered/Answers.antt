use Rattle.std.proofs.Common.{◌∙◌, ap, codes}
use Rattle.std.specs.Prelude.{not}
use Rattle.std.specs.List.{list_any}
use Rattle.request_guard.specs.Doors.{deciding_names, is_repeated, is_misdirected, is_forbidden, value_of}
use Rattle.request_guard.proofs.Passing.{passes, passes-forbidden, no-value}
use Rattle.request_guard.proofs.laws.a_program_is_answered.Goals as goal

pub returns : goal.returns
returns c hosts method host fields once named answered no_origin no_site no_mode =
    passes (list_any (is_repeated fields) deciding_names)
    (is_misdirected hosts (value_of (codes "Host") fields))
    (is_forbidden method fields)
    once
    (ap (is_misdirected hosts) named ∙ ap not answered)
    (passes-forbidden method fields (no-value (codes "Origin") fields no_origin)
    (no-value (codes "Sec-Fetch-Site") fields no_site)
    (no-value (codes "Sec-Fetch-Mode") fields no_mode))
