use Rattle.std.proofs.Common.{List, ℕ, ap, option_map}
use Rattle.std.specs.Borrow.{Bor}
use Rattle.book_statements.proofs.DateLemmas.{date_met, no_date_met}
use Rattle.book_tables.proofs.dates.next_date.Goals as goal

pub returns-in-Some-date_in : goal.returns-in-Some-date_in
returns-in-Some-date_in c = λ r rs rise item lot is.
    date_met r rs rise c.args.dates.now c.in-Some.first.now c.in-Some.rest.now c.in-Some.ensures.cases.0 is (option_map (λ (t : Bor (List ℕ)). t.now) c.date_in.result)
    (λ d shown. c.date_in.ensures r.item r.lot d item lot shown) c.in-Some-date_in.date.now (ap (option_map (λ (t : Bor (List ℕ)). t.now)) c.in-Some-date_in.is)

pub returns-in-None : goal.returns-in-None
returns-in-None c = λ r rs rise item lot is.
    no_date_met r rs rise c.args.dates.now c.in-Some.first.now c.in-Some.rest.now c.in-Some.ensures.cases.0 is (option_map (λ (t : Bor (List ℕ)). t.now) c.date_in.result)
    (λ d shown. c.date_in.ensures r.item r.lot d item lot shown) (ap (option_map (λ (t : Bor (List ℕ)). t.now)) c.in-None.is)
