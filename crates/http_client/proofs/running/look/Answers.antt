use Rattle.std.proofs.Common.{inl, inr}
use Rattle.http_client.proofs.running.look.Goals as goal

pub returns-in-Some-clause-told : goal.returns-in-Some-clause-told
returns-in-Some-clause-told g c = rw (c.in-Outbox.is, c.in-Some.is) (rw (c.in-Outbox.is, c.in-Some.is) at c.content.ensures.told)

pub returns-in-None-clause-told : goal.returns-in-None-clause-told
returns-in-None-clause-told g c = rw (c.in-Outbox.is, c.in-None.is) (rw (c.in-Outbox.is, c.in-None.is) at c.report.ensures.told)

pub returns-then-is_csv-clause-told : goal.returns-then-is_csv-clause-told
returns-then-is_csv-clause-told g c = rw (c.in-Stock.is, c.if-is_csv.true) (rw (c.in-Stock.is, c.if-is_csv.true) at c.export.ensures.told)

pub returns-else-is_csv-clause-told : goal.returns-else-is_csv-clause-told
returns-else-is_csv-clause-told g c = rw (c.in-Stock.is, c.if-is_csv.false) (rw (c.in-Stock.is, c.if-is_csv.false) at c.report-else-is_csv.ensures.told)

pub returns-in-Open-clause-told : goal.returns-in-Open-clause-told
returns-in-Open-clause-told g c = elim c.in-Open.is [
  | inl is ↦ rw is.1 (rw is.1 at c.report-in-Open.ensures.told)
  | inr (inl is) ↦ rw is.3 (rw is.3 at c.report-in-Open.ensures.told)
  | inr (inr (inl is)) ↦ rw is.3 (rw is.3 at c.report-in-Open.ensures.told)
  | inr (inr (inr is)) ↦ rw is (rw is at c.report-in-Open.ensures.told)
]

pub returns-in-Some-clause-halted : goal.returns-in-Some-clause-halted
returns-in-Some-clause-halted g c = rw (c.in-Outbox.is, c.in-Some.is) (rw (c.in-Outbox.is, c.in-Some.is) at c.content.ensures.halted)

pub returns-in-None-clause-halted : goal.returns-in-None-clause-halted
returns-in-None-clause-halted g c = rw (c.in-Outbox.is, c.in-None.is) (rw (c.in-Outbox.is, c.in-None.is) at c.report.ensures.halted)

pub returns-then-is_csv-clause-halted : goal.returns-then-is_csv-clause-halted
returns-then-is_csv-clause-halted g c = rw (c.in-Stock.is, c.if-is_csv.true) (rw (c.in-Stock.is, c.if-is_csv.true) at c.export.ensures.halted)

pub returns-else-is_csv-clause-halted : goal.returns-else-is_csv-clause-halted
returns-else-is_csv-clause-halted g c = rw (c.in-Stock.is, c.if-is_csv.false) (rw (c.in-Stock.is, c.if-is_csv.false) at c.report-else-is_csv.ensures.halted)

pub returns-in-Open-clause-halted : goal.returns-in-Open-clause-halted
returns-in-Open-clause-halted g c = elim c.in-Open.is [
  | inl is ↦ rw is.1 (rw is.1 at c.report-in-Open.ensures.halted)
  | inr (inl is) ↦ rw is.3 (rw is.3 at c.report-in-Open.ensures.halted)
  | inr (inr (inl is)) ↦ rw is.3 (rw is.3 at c.report-in-Open.ensures.halted)
  | inr (inr (inr is)) ↦ rw is (rw is at c.report-in-Open.ensures.halted)
]
