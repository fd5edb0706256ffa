-- Two runs with a stop between them.
use Rattle.std.proofs.Common.{◌≡◌, ◌≤◌, ◌+◌, List, length, map, take, subst, ◌∙◌, arith}
use Rattle.definitions.specs.Rules.{Today}
use Rattle.definitions.specs.Header.{Who}
use Rattle.definitions.specs.Moments.{Moment}
use Rattle.definitions.specs.Register.{Command, Entry}
use Rattle.definitions.specs.Accepted.{accepted_on, replies_on}
use Rattle.store.specs.Runs.{told}
use Rattle.store.specs.Standing.{Standing, IsUsable, LeavesEither, GoesOn}
use Rattle.store.specs.declared.serving.Outcome.{Outcome}
use Rattle.app.specs.StopFaults.{MayBeThere}
use Rattle.app.specs.Stopped.{IsReopened, Crosses, Runs}
use Rattle.app.specs.declared.stops.answering.Answered.{Answered}
use Rattle.app.proofs.LeftLemmas.{answered_left, stands_after}

pub crosses : (s0 s1 s2 s3 : Standing) (L : List Entry) (first second : List (Command × Moment)) (before : Answered) (later : Outcome) → s3.doubt ≡ 0 → s1.doubt ≤ s2.doubt
    → (s2.doubt ≡ 0 → s1.all_stand → IsReopened s1 s2) → before.must_reopen ≡ s1.shut → Runs s0 s1 L first before.outcome
    → GoesOn s2 s3 → ((M : List Entry) → IsUsable s2 M → Runs s2 s3 M second later) → Crosses s0 s3 L first second before later
crosses s0 s1 s2 s3 L first second before later clean more opens says ran goes next =
    let clean2 : s2.doubt ≡ 0 = omega (arith, goes.doubt, clean) in
    let clean1 : s1.doubt ≡ 0 = omega (arith, more, clean2) in
    let r = opens clean2 (stands_after s0 s1 L first before.outcome clean1 ran) in
    let M = r.register in
    let same : s2.warehouse ≡ s0.warehouse = r.warehouse ∙ ran.goes.warehouse in
    let then = next M r.usable in
    let n = length later.replies.items in
    record {
      register = M;
      answered = answered_left s0 s1 L first before clean1 says ran M r.left;
      warehouse = goes.warehouse ∙ same;
      replies = subst (λ (V : Who). map told later.replies.items ≡ replies_on Today V M (take n second)) same (then.answered clean);
      opened = λ open'. subst (λ (V : Who). IsUsable s3 (accepted_on Today V M (take n second))) same (then.opened clean open');
      broken = λ shut. subst (λ (V : Who). MayBeThere later.fault × LeavesEither s3 (accepted_on Today V M (take n second)) (accepted_on Today V M (take (n + 1) second))) same (then.broken clean shut);
    }
