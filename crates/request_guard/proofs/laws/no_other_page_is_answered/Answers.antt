use Rattle.std.proofs.Common.{◌∙◌, ap, sym, codes}
use Rattle.std.specs.List.{list_any}
use Rattle.request_guard.specs.Doors.{deciding_names, is_repeated, is_misdirected, is_forbidden, is_of_another, value_of}
use Rattle.request_guard.proofs.Passing.{passed-first, passed-last, neither, its-host}
use Rattle.request_guard.proofs.laws.no_other_page_is_answered.Goals as goal

pub returns-clause-once : goal.returns-clause-once
returns-clause-once c hosts method fields passed =
    passed-first (list_any (is_repeated fields) deciding_names)
    (is_misdirected hosts (value_of (codes "Host") fields)) (is_forbidden method fields) passed

pub returns-clause-origins : goal.returns-clause-origins
returns-clause-origins c hosts method origin fields passed named =
    let host = value_of (codes "Host") fields in
    let allowed = passed-last (list_any (is_repeated fields) deciding_names)
    (is_misdirected hosts host) (is_forbidden method fields) passed in
    let own = neither (is_of_another host (value_of (codes "Origin") fields)) _ allowed in
    its-host host origin (ap (is_of_another host) (sym named) ∙ own.0)
