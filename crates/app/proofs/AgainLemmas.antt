-- A command that is given again after a stop.
use Rattle.std.proofs.Common.{◌≡◌, ◌≤◌, ◌<◌, inl, inr, ℕ, zero, suc, false, List, [], ◌∷◌, ◌++◌, length, map, take, Some, slice_get, refl, sym, ap, subst, ◌∙◌, arith}
use Rattle.definitions.specs.Rules.{Today}
use Rattle.definitions.specs.Header.{Who}
use Rattle.definitions.specs.Moments.{Moment}
use Rattle.definitions.specs.Register.{Command, Entry}
use Rattle.definitions.specs.Reply.{Reply, Accepted, Stored}
use Rattle.definitions.specs.Accepted.{accepted_on, replies_on, reply_to, after}
use Rattle.definitions.proofs.HistoryLaws.{accepted_on-append}
use Rattle.store.specs.Again.{is_enrolment}
use Rattle.store.specs.Runs.{told}
use Rattle.store.specs.Standing.{Standing}
use Rattle.store.specs.declared.serving.Outcome.{Outcome}
use Rattle.store.proofs.Again.{stored_again}
use Rattle.app.specs.Stopped.{Crosses, IsAnsweredUpTo, StoresAgain}
use Rattle.app.specs.declared.stops.answering.Answered.{Answered}

-- where an accepted command stands in a run of which more counts
pub record Stood (W : Who) (c : Command) (t : Moment) (text : List ℕ) (R : List Entry) : Type 0 where
  pub before : List Entry
  pub later : List (Command × Moment)
  pub said : reply_to Today W before c t ≡ Accepted text
  pub left : R ≡ accepted_on Today W (after Today W before (c, t)) later

pub stood : (W : Who) (L : List Entry) (first : List (Command × Moment)) (n m i : ℕ) (c : Command) (t : Moment) (text : List ℕ) → n ≤ m → slice_get first i ≡ Some (c, t)
    → slice_get (replies_on Today W L (take n first)) i ≡ Some (Accepted text) → Stood W c t text (accepted_on Today W L (take m first))
stood W L [] n m i c t text le at said = absurd (cc)
stood W L (d ∷ first) zero m i c t text le at said = absurd (cc)
stood W L (d ∷ first) (suc n) zero i c t text le at said = absurd (omega (arith, le))
stood W L (d ∷ first) (suc n) (suc m) zero c t text le at said =
    let is : d ≡ (c, t) = cc in
    let r : reply_to Today W L d.0 d.1 ≡ Accepted text = cc in
    record {
      before = L;
      later = take m first;
      said = subst (λ (e : Command × Moment). reply_to Today W L e.0 e.1 ≡ Accepted text) is r;
      left = ap (λ (e : Command × Moment). accepted_on Today W (after Today W L e) (take m first)) is;
    }
stood W L (d ∷ first) (suc n) (suc m) (suc i) c t text le at said = stood W (after Today W L d) first n m i c t text (omega (arith, le)) at said

-- the reply at a place
reply_at : (W : Who) (R : List Entry) (cs : List (Command × Moment)) (n j : ℕ) (c : Command) (s : Moment) → j < n → slice_get cs j ≡ Some (c, s)
    → slice_get (replies_on Today W R (take n cs)) j ≡ Some (reply_to Today W (accepted_on Today W R (take j cs)) c s)
reply_at W R [] n j c s lt at = absurd (cc)
reply_at W R (d ∷ cs) zero j c s lt at = absurd (omega (arith, lt))
reply_at W R (d ∷ cs) (suc n) zero c s lt at = let is : d ≡ (c, s) = cc in ap (λ (e : Command × Moment). Some (reply_to Today W R e.0 e.1)) is
reply_at W R (d ∷ cs) (suc n) (suc j) c s lt at = reply_at W (after Today W R d) cs n j c s (omega (arith, lt)) at

-- what was accepted before is stored, whatever comes after
pub stored_later : (W : Who) (N M : List Entry) (c : Command) (t s : Moment) (text : List ℕ) (more : List (Command × Moment)) → is_enrolment c ≡ false → Stood W c t text N → M ≡ accepted_on Today W N more → reply_to Today W M c s ≡ Stored text
stored_later W N M c t s text more other place whose =
    let all = place.later ++ more in
    let start = after Today W place.before (c, t) in
    let same : accepted_on Today W N more ≡ accepted_on Today W (accepted_on Today W start place.later) more = ap (λ (K : List Entry). accepted_on Today W K more) place.left in
    let whole : M ≡ accepted_on Today W start all = whose ∙ same ∙ sym (accepted_on-append Today W start place.later more) in
    subst (λ (K : List Entry). reply_to Today W K c s ≡ Stored text) (sym whole) (stored_again Today W place.before c t text other place.said all s)

-- what was accepted before a stop stands in the register that it left
pub stood_on : (W : Who) (L N : List Entry) (cs : List (Command × Moment)) (before : Answered) (i : ℕ) (c : Command) (t : Moment) (text : List ℕ) → IsAnsweredUpTo W L cs before N → slice_get cs i ≡ Some (c, t)
    → slice_get (map told before.outcome.replies.items) i ≡ Some (Accepted text) → Stood W c t text N
stood_on W L N cs before i c t text p here said =
    let n = length before.outcome.replies.items in
    let more : n ≤ p.kept = elim p.which [ inl e ↦ omega (arith, e) | inr e ↦ omega (arith, e.2) ] in
    subst (Stood W c t text) (sym p.left) (stood W L cs n p.kept i c t text more here (ap (λ (rs : List Reply). slice_get rs i) (sym p.replies) ∙ said))

pub stores_again : (s0 s3 : Standing) (L : List Entry) (first second : List (Command × Moment)) (before : Answered) (later : Outcome) → Crosses s0 s3 L first second before later
    → StoresAgain first second before later
stores_again s0 s3 L first second before later x i j c t s text other at said at' lt =
    let W = s0.warehouse in
    let R = x.register in
    let place = stood_on W L R first before i c t text x.answered at said in
    ap (λ (rs : List Reply). slice_get rs j) x.replies
    ∙ reply_at W R second (length later.replies.items) j c s lt at'
    ∙ ap (λ (r : Reply). Some r) (stored_later W R (accepted_on Today W R (take j second)) c t s text (take j second) other place refl)
