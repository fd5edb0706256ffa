-- Worked examples: what paths call for, and the statuses of deeds.
use Rattle.std.specs.Prelude.{◌≡◌, ℕ, List, [], ◌++◌, Some, None, codes}
use Rattle.std.proofs.Common.{refl}
use Rattle.definitions.specs.declared.sheet_kind.SheetKind.TheVariants.{Count as CountSheet, Pick as PickSheet, Recount as RecountSheet}
use Rattle.definitions.specs.declared.refusals.Refusal.TheVariants.{UnknownDepositor, TicketUsed, UnknownAdvice, OrderClosed, BadText, NumbersUsedUp}
use Rattle.definitions.specs.Reply.{Accepted, Stored, Refused}
use Rattle.definitions.specs.Moments.{Moment}
use Rattle.definitions.specs.Register.{Entry}
use Rattle.definitions.specs.Response.{Get, Post, OtherMethod, with_body, plain_type, x12_type, not_allowed}
use Rattle.definitions.specs.Rules.{Today}
use Rattle.definitions.proofs.Sample.{WHSE1, ACME, book}
use Rattle.std.specs.Fmt.{digits}
use Rattle.page.specs.Pages.{page_text, page_type}
use Rattle.intake.specs.declared.calls.Form.TheVariants.{ReceivingList, ReceivingCsv, PickingCsv}
use Rattle.intake.specs.Calls.{ToDeed, ToTriedDeed, ToTriedExchange, ToPage, ToOrder, ToForm, ToExport, ToOpen, ToDepositors, call_command, call_of, call_resp, deed_reply, line_response, open_response}

-- The paths.

a_count : call_of (codes "/count/ZZ-ACME/T1/SHP1") ≡ Some (ToDeed CountSheet (codes "ZZ-ACME") (codes "T1") (codes "SHP1"))
a_count = refl

a_pick : call_of (codes "/pick/ZZ-ACME/T2/SO100") ≡ Some (ToDeed PickSheet (codes "ZZ-ACME") (codes "T2") (codes "SO100"))
a_pick = refl

a_recount : call_of (codes "/recount/ZZ-ACME/C-3") ≡ Some (ToDeed RecountSheet (codes "ZZ-ACME") (codes "C-3") [])
a_recount = refl

an_order : call_of (codes "/orders/ZZ-ACME/SO100") ≡ Some (ToOrder (codes "ZZ-ACME") (codes "SO100"))
an_order = refl

a_receiving_list : call_of (codes "/advices/ZZ-ACME/SHP1") ≡ Some (ToForm ReceivingList (codes "ZZ-ACME") (codes "SHP1"))
a_receiving_list = refl

a_sheet_for_a_count : call_of (codes "/advices/ZZ-ACME/SHP1/csv") ≡ Some (ToForm ReceivingCsv (codes "ZZ-ACME") (codes "SHP1"))
a_sheet_for_a_count = refl

a_sheet_for_a_pick : call_of (codes "/orders/ZZ-ACME/SO100/csv") ≡ Some (ToForm PickingCsv (codes "ZZ-ACME") (codes "SO100"))
a_sheet_for_a_pick = refl

an_export : call_of (codes "/stock/ZZ-ACME/csv") ≡ Some (ToExport (codes "ZZ-ACME"))
an_export = refl

what_is_open : call_of (codes "/open/ZZ-ACME") ≡ Some (ToOpen (codes "ZZ-ACME"))
what_is_open = refl

the_depositors : call_of (codes "/depositors") ≡ Some ToDepositors
the_depositors = refl

the_page : call_of (codes "/") ≡ Some ToPage
the_page = refl

-- What is tried out.

a_tried_count : call_of (codes "/try/count/ZZ-ACME/T1/SHP1") ≡ Some (ToTriedDeed CountSheet (codes "ZZ-ACME") (codes "T1") (codes "SHP1"))
a_tried_count = refl

a_tried_pick : call_of (codes "/try/pick/ZZ-ACME/T2/SO100") ≡ Some (ToTriedDeed PickSheet (codes "ZZ-ACME") (codes "T2") (codes "SO100"))
a_tried_pick = refl

a_tried_recount : call_of (codes "/try/recount/ZZ-ACME/C-3") ≡ Some (ToTriedDeed RecountSheet (codes "ZZ-ACME") (codes "C-3") [])
a_tried_recount = refl

a_tried_interchange : call_of (codes "/try/x12") ≡ Some ToTriedExchange
a_tried_interchange = refl

nothing_tried : call_of (codes "/try") ≡ None
nothing_tried = refl

an_empty_part_tried : call_of (codes "/try/") ≡ None
an_empty_part_tried = refl

a_slash_after_a_tried_interchange : call_of (codes "/try/x12/") ≡ None
a_slash_after_a_tried_interchange = refl

tried_twice : call_of (codes "/try/try/count/ZZ-ACME/T1/SHP1") ≡ None
tried_twice = refl

an_interchange_tried_twice : call_of (codes "/try/try/x12") ≡ None
an_interchange_tried_twice = refl

a_question_tried : call_of (codes "/try/orders/ZZ-ACME/SO100") ≡ None
a_question_tried = refl

what_is_open_tried : call_of (codes "/try/open/ZZ-ACME") ≡ None
what_is_open_tried = refl

the_stock_tried : call_of (codes "/try/stock/ZZ-ACME") ≡ None
the_stock_tried = refl

the_page_tried : call_of (codes "/try//") ≡ None
the_page_tried = refl

-- An empty part is one that can't be read.

an_empty_part : call_of (codes "/count//T1/SHP1") ≡ Some (ToDeed CountSheet [] (codes "T1") (codes "SHP1"))
an_empty_part = refl

an_empty_number : call_of (codes "/pick/ZZ-ACME/T2/") ≡ Some (ToDeed PickSheet (codes "ZZ-ACME") (codes "T2") [])
an_empty_number = refl

open_of_an_empty_part : call_of (codes "/open/") ≡ Some (ToOpen [])
open_of_an_empty_part = refl

-- Near misses.

a_count_without_number : call_of (codes "/count/ZZ-ACME/T1") ≡ None
a_count_without_number = refl

a_recount_with_number : call_of (codes "/recount/ZZ-ACME/C-3/SHP1") ≡ None
a_recount_with_number = refl

another_name : call_of (codes "/counts/ZZ-ACME/T1/SHP1") ≡ None
another_name = refl

another_case : call_of (codes "/Count/ZZ-ACME/T1/SHP1") ≡ None
another_case = refl

a_part_too_many : call_of (codes "/orders/ZZ-ACME/SO100/") ≡ None
a_part_too_many = refl

no_slash_in_front : call_of (codes "count/ZZ-ACME/T1/SHP1") ≡ None
no_slash_in_front = refl

two_slashes_in_front : call_of (codes "//count/ZZ-ACME/T1/SHP1") ≡ None
two_slashes_in_front = refl

another_form : call_of (codes "/orders/ZZ-ACME/SO100/txt") ≡ None
another_form = refl

another_sheet_as_csv : call_of (codes "/open/ZZ-ACME/SO100/csv") ≡ None
another_sheet_as_csv = refl

an_advice_tried : call_of (codes "/try/advices/ZZ-ACME/SHP1/csv") ≡ None
an_advice_tried = refl

another_export : call_of (codes "/stock/ZZ-ACME/txt") ≡ None
another_export = refl

open_of_nobody : call_of (codes "/open") ≡ None
open_of_nobody = refl

open_of_two : call_of (codes "/open/a/b") ≡ None
open_of_two = refl

a_slash_after_depositors : call_of (codes "/depositors/") ≡ None
a_slash_after_depositors = refl

a_depositor : call_of (codes "/depositors/x") ≡ None
a_depositor = refl

no_slash_before_depositors : call_of (codes "depositors") ≡ None
no_slash_before_depositors = refl

no_path : call_of [] ≡ None
no_path = refl

-- The routes that are always served call for nothing.

the_exchange : call_of (codes "/x12") ≡ None
the_exchange = refl

the_stock : call_of (codes "/stock/ZZ-ACME") ≡ None
the_stock = refl

a_text : call_of (codes "/outbox/ZZ-ACME/7") ≡ None
a_text = refl

-- The statuses of deeds.

accepted_is : (text : List ℕ) → deed_reply (Accepted text) ≡ with_body 200 x12_type text
accepted_is text = refl

stored_is : (text : List ℕ) → deed_reply (Stored text) ≡ with_body 200 x12_type text
stored_is text = refl

a_stranger_is : deed_reply (Refused UnknownDepositor []) ≡ with_body 404 plain_type (codes "20 UnknownDepositor\n")
unfolding digits
a_stranger_is = refl

a_used_ticket_is : deed_reply (Refused TicketUsed []) ≡ with_body 409 plain_type (codes "21 TicketUsed\n")
unfolding digits
a_used_ticket_is = refl

an_unknown_advice_is : deed_reply (Refused UnknownAdvice []) ≡ with_body 422 plain_type (codes "22 UnknownAdvice\n")
unfolding digits
an_unknown_advice_is = refl

a_closed_order_is : deed_reply (Refused OrderClosed []) ≡ with_body 422 plain_type (codes "25 OrderClosed\n")
unfolding digits
a_closed_order_is = refl

no_more_numbers_is : deed_reply (Refused NumbersUsedUp []) ≡ with_body 422 plain_type (codes "34 NumbersUsedUp\n")
unfolding digits
no_more_numbers_is = refl

-- What is open, and who is enrolled.

open_of_what_cannot_be_read : (L : List Entry) (t : Moment) → call_resp WHSE1 L Get (ToOpen []) [] t ≡ with_body 404 plain_type (codes "32 BadText\n")
unfolding digits
open_of_what_cannot_be_read L t = refl

open_of_a_stranger : open_response [] (Some ACME) ≡ with_body 404 plain_type (codes "20 UnknownDepositor\n")
unfolding digits
open_of_a_stranger = refl

-- a newcomer has nothing open
open_of_a_newcomer : (t : Moment) → call_resp WHSE1 (book Today []) Get (ToOpen (codes "ZZ-ACME")) [] t
    ≡ with_body 200 plain_type (codes "advice                 lines        expected order\n" ++ codes "order                  lines ship to\n")
open_of_a_newcomer t = refl

nobody_is_enrolled : (t : Moment) → call_resp WHSE1 [] Get ToDepositors [] t ≡ with_body 200 plain_type []
nobody_is_enrolled t = refl

one_is_enrolled : (t : Moment) → call_resp WHSE1 (book Today []) Get ToDepositors [] t ≡ with_body 200 plain_type (codes "ZZ-ACME\n")
one_is_enrolled t = refl

-- They are shown by GET alone.

module _ (L : List Entry) (who body : List ℕ) (t : Moment) where
  a_form_of_what_cannot_be_read : call_resp WHSE1 L Get (ToForm ReceivingList who []) body t ≡ line_response 404 BadText
  a_form_of_what_cannot_be_read = refl

  a_form_posted : call_resp WHSE1 L Post (ToForm PickingCsv who who) body t ≡ not_allowed (codes "GET")
  a_form_posted = refl

  open_posted : call_resp WHSE1 L Post (ToOpen who) body t ≡ not_allowed (codes "GET")
  open_posted = refl

  open_otherwise : call_resp WHSE1 L OtherMethod (ToOpen who) body t ≡ not_allowed (codes "GET")
  open_otherwise = refl

  depositors_posted : call_resp WHSE1 L Post ToDepositors body t ≡ not_allowed (codes "GET")
  depositors_posted = refl

  depositors_otherwise : call_resp WHSE1 L OtherMethod ToDepositors body t ≡ not_allowed (codes "GET")
  depositors_otherwise = refl

  the_page_got : call_resp WHSE1 L Get ToPage body t ≡ with_body 200 page_type page_text
  the_page_got = refl

  the_page_posted : call_resp WHSE1 L Post ToPage body t ≡ not_allowed (codes "GET")
  the_page_posted = refl

  the_page_otherwise : call_resp WHSE1 L OtherMethod ToPage body t ≡ not_allowed (codes "GET")
  the_page_otherwise = refl

-- What is tried out is posted alone, and nothing is submitted.

module _ (L : List Entry) (who ticket number body : List ℕ) (t : Moment) where
  a_tried_count_got : call_resp WHSE1 L Get (ToTriedDeed CountSheet who ticket number) body t ≡ not_allowed (codes "POST")
  a_tried_count_got = refl

  a_tried_interchange_got : call_resp WHSE1 L Get ToTriedExchange body t ≡ not_allowed (codes "POST")
  a_tried_interchange_got = refl

  a_tried_pick_submits_nothing : call_command Post (ToTriedDeed PickSheet who ticket number) body ≡ None
  a_tried_pick_submits_nothing = refl

  a_tried_interchange_submits_nothing : call_command Post ToTriedExchange body ≡ None
  a_tried_interchange_submits_nothing = refl
