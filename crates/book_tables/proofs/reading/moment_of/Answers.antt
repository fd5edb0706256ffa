use Rattle.std.proofs.Common.{rules, ◌≡◌, ◌≢◌, ◌∙◌, length, bytes_eq, true, false, subst}
use Rattle.definitions.specs.Moments.{Moment, is_moment, stamp}
use Rattle.definitions.specs.Readings.{moment_in}
use Rattle.book_tables.proofs.ReadLemmas.{no_moment, some_moment, other_moment, short_moment, last_two}
use Rattle.book_tables.proofs.reading.moment_of.Goals as goal

pub returns-then-text-ne12 : goal.returns-then-text-ne12
returns-then-text-ne12 c =
    let other : length c.args.text.now ≢ 12 = search rules in
    short_moment c.args.text.now other

pub returns-in_err-moment : goal.returns-in_err-moment
returns-in_err-moment c =
    let long : length c.args.text.now ≡ 12 = search rules in
    let same : ◌≡◌ {A = Moment} (record { year = c.value.result; month = c.value-2.result; day = c.value-3.result; hour = c.value-4.result; minute = c.value-5.result }) (moment_in c.args.text.now) =
    (λ i. record { year = c.value.ensures i; month = c.value-2.ensures i; day = c.value-3.ensures i; hour = c.value-4.ensures i; minute = (c.value-5.ensures ∙ last_two c.args.text.now long) i }) in
    c.from_residual.ensures ∙ no_moment c.args.text.now (subst (λ (m : Moment). is_moment m ≡ false) same c.in_err-moment.ensures)

pub returns-then-eq : goal.returns-then-eq
returns-then-eq c =
    let long : length c.args.text.now ≡ 12 = search rules in
    let same : ◌≡◌ {A = Moment} (record { year = c.value.result; month = c.value-2.result; day = c.value-3.result; hour = c.value-4.result; minute = c.value-5.result }) (moment_in c.args.text.now) =
    (λ i. record { year = c.value.ensures i; month = c.value-2.ensures i; day = c.value-3.ensures i; hour = c.value-4.ensures i; minute = (c.value-5.ensures ∙ last_two c.args.text.now long) i }) in
    let alike : bytes_eq (stamp c.in_ok-moment.moment) c.args.text.now ≡ true = search rules in
    some_moment c.args.text.now _ c.in_ok-moment.moment same c.in_ok-moment.ensures.0 c.in_ok-moment.ensures.1 alike

pub returns-else-eq : goal.returns-else-eq
returns-else-eq c =
    let long : length c.args.text.now ≡ 12 = search rules in
    let same : ◌≡◌ {A = Moment} (record { year = c.value.result; month = c.value-2.result; day = c.value-3.result; hour = c.value-4.result; minute = c.value-5.result }) (moment_in c.args.text.now) =
    (λ i. record { year = c.value.ensures i; month = c.value-2.ensures i; day = c.value-3.ensures i; hour = c.value-4.ensures i; minute = (c.value-5.ensures ∙ last_two c.args.text.now long) i }) in
    let differ : bytes_eq (stamp c.in_ok-moment.moment) c.args.text.now ≡ false = search rules in
    other_moment c.args.text.now _ c.in_ok-moment.moment same c.in_ok-moment.ensures.0 c.in_ok-moment.ensures.1 differ
