-- The quantities of an order have a place in the picking sheet's column.
use Rattle.std.proofs.Common.{◌≡◌, ℕ, ◌^◌, Bool, true, false, List, [], ◌∷◌, Some, None, refl, subst, arith, leb-true}
use borrow.Author.Tests.{lt-ltb}
use Rattle.std.specs.Prelude.{bytes_eq, if◌then◌else◌}
use Rattle.std.specs.Cmp.Derive.{both_true}
use Rattle.std.specs.List.{list_all}
use Rattle.definitions.specs.Rules.{Today}
use Rattle.definitions.specs.declared.widths.TheConstants.{QUANTITY_COLUMN}
use Rattle.definitions.specs.Limits.{most_quantity}
use Rattle.definitions.specs.Lists.{or_else}
use Rattle.definitions.specs.Means.{Line, OrderLine}
use Rattle.definitions.specs.Events.{Event, Enrolment, Advised, Ordered, Acknowledged, Counted, Picked, Recounted, Reserved, order_under}
use Rattle.definitions.specs.Register.{Entry}
use Rattle.definitions.specs.History.{events}
use Rattle.definitions.proofs.TextLaws.{both_parts}
use Rattle.rules.specs.Fitting.{is_fitting_line, has_column, has_columns}
use Rattle.rules.proofs.Small.{is_small, is_small_event, all_so}
use Rattle.rules.proofs.SmallEvents.{AreSmall, follows_all, events_small}
use Rattle.rules.proofs.OnePair.{follows_two}

-- an order that is found is one of the events
found_small : (number : List ℕ) (es : List Event) (o : Reserved) → AreSmall Today es → order_under number es ≡ Some o
    → is_small_event Today (Ordered o.order o.shares) ≡ true
found_small number [] o small h = absurd (cc (h))
found_small number (Enrolment ∷ es) o small h = found_small number es o small h
found_small number (Advised a ∷ es) o small h =
    found_small number es o ((both_parts (is_small_event Today (Advised a)) (list_all (is_small_event Today) es) small).1) h
found_small number (Ordered k shares ∷ es) o small h =
    let p = both_parts (is_small_event Today (Ordered k shares)) (list_all (is_small_event Today) es) small in
    by (bytes_eq k.number number) p.0 (found_small number es o p.1) h
  where
    here : Reserved
    here = record { order = k; shares = shares }

    by : (v : Bool) → is_small_event Today (Ordered k shares) ≡ true
        → (order_under number es ≡ Some o → is_small_event Today (Ordered o.order o.shares) ≡ true)
        → or_else (if v then Some here else None) (order_under number es) ≡ Some o
        → is_small_event Today (Ordered o.order o.shares) ≡ true
    by true is later e =
        let same : here ≡ o = cc (e) in subst (λ (x : Reserved). is_small_event Today (Ordered x.order x.shares) ≡ true) same is
    by false is later e = later e
found_small number (Acknowledged n a ∷ es) o small h = found_small number es o small h
found_small number (Counted n a sheet ∷ es) o small h = found_small number es o small h
found_small number (Picked n k shares sheet ∷ es) o small h = found_small number es o small h
found_small number (Recounted n before sheet ∷ es) o small h = found_small number es o small h

small_has_column : (n : ℕ) → is_small Today n ≡ true → has_column n ≡ true
small_has_column n small = lt-ltb n (10 ^ QUANTITY_COLUMN) (omega (arith, leb-true n (most_quantity Today) small))

order_has_columns : (o : Reserved) → is_small_event Today (Ordered o.order o.shares) ≡ true → has_columns o ≡ true
order_has_columns o small =
    let lines = list_all (λ (l : OrderLine). is_small Today l.quantity) o.order.lines in
    let p = both_parts lines (list_all (is_fitting_line Today) o.shares) small in
    both_true
    (all_so (λ (l : OrderLine). is_small Today l.quantity) (λ (l : OrderLine). has_column l.quantity) o.order.lines
    (λ l k. small_has_column l.quantity k) p.0)
    (all_so (is_fitting_line Today) (λ (l : Line). has_column l.quantity) o.shares (λ l k. small_has_column l.quantity k) p.1)

all_follow : (M : List Entry) → follows_all Today M ≡ true
all_follow [] = refl
all_follow (e ∷ M) = both_true (follows_two e.rules) (all_follow M)

pub orders_have_columns : (M : List Entry) (number : List ℕ) (o : Reserved) → order_under number (events M) ≡ Some o
    → has_columns o ≡ true
orders_have_columns M number o h =
    order_has_columns o (found_small number (events M) o (events_small Today M (all_follow M)) h)
