-- who waits longest
use Rattle.std.proofs.Common.{◌≡◌, ◌≢◌, ◌≤◌, ◌<◌, ◌+◌, ◌⊎◌, ℕ, Bool, List, Option, None, Some}
use Rattle.std.proofs.Common.{cond, slice_get, length, nat_le, inl, inr, true, false, refl}
use Rattle.std.proofs.Common.{sym, subst, arith}
use Rattle.std.specs.Duration.{as_nanos}
use Rattle.std.specs.declared.time.Duration.{Duration}
use Rattle.std.proofs.lemmas.Option.{slice_get_within}
use Rattle.std.proofs.lemmas.Bool.{leb-true}
use Rattle.std.proofs.lemmas.Bool.Decides.{eqb_tells, leb_tells}
use Rattle.peers.specs.declared.peer.Peer.{Peer}
use Rattle.peers.specs.Turns.{IsAt, Waits, WaitsLongest, first_of, waits_in}

-- this one at a place waits, and none at the first `n` places has waited for longer
pub record FoundSoFar {T : Type 0} (places : List (Option (Peer T))) (n at : ℕ) (since : Duration)
    : Type 0 where
  pub peer : Peer T
  pub here : IsAt places at peer
  pub waits : Waits peer
  pub is-since : peer.since ≡ since
  pub longest : (k : ℕ) (other : Peer T) → k < n → IsAt places k other → Waits other
      → as_nanos since ≤ as_nanos other.since

abbrev pub FirstSoFar : {T : Type 0} → List (Option (Peer T)) → ℕ → Option (ℕ × Duration)
    → Type 0
FirstSoFar {T} places n None = (k : ℕ) (other : Peer T) → k < n → IsAt places k other
    → waits_in other.phase ≡ false
FirstSoFar places n (Some (at, since)) = FoundSoFar places n at since

pub first_init : {T : Type 0} (places : List (Option (Peer T))) → FirstSoFar places 0 None
first_init places k other below at = absurd (omega arith)

below_or_here : (k n : ℕ) → k < n + 1 → (k ≡ n) ⊎ (k < n)
below_or_here k n below = elim (eqb_tells k n) [
  | inl e ↦ inl e.1
  | inr e ↦ let other : k ≢ n = e.1 in inr (omega arith)
]

same_at : {T : Type 0} (places : List (Option (Peer T))) (n k : ℕ) (x : Option (Peer T))
    (other : Peer T) → slice_get places n ≡ Some x → k ≡ n → IsAt places k other
    → x ≡ Some other
same_at places n k x other at same is =
    let here : slice_get places n ≡ Some (Some other) =
    subst (λ (j : ℕ). slice_get places j ≡ Some (Some other)) same is in cc

same_one : {T : Type 0} (places : List (Option (Peer T))) (n k : ℕ) (p other : Peer T)
    → IsAt places n p → k ≡ n → IsAt places k other → p ≡ other
same_one places n k p other at same is =
    let one = same_at places n k (Some p) other at same is in cc

none_some : {T : Type 0} (places : List (Option (Peer T))) (n : ℕ) (p : Peer T) → IsAt places n p
    → FirstSoFar places n None → (b : Bool) → waits_in p.phase ≡ b
    → FirstSoFar places (n + 1) (cond b (Some (n, p.since)) None)
none_some {T} places n p at so true is = record {
  peer = p;
  here = at;
  waits = is;
  is-since = refl;
  longest = λ k other below is-at waits. elim (below_or_here k n below) [
    | inl same ↦ subst (λ (of : Peer T). as_nanos p.since ≤ as_nanos of.since)
        (same_one places n k p other at same is-at) (omega arith)
    | inr less ↦ let not = so k other less is-at in absurd (cc)
  ];
}
none_some {T} places n p at so false is = λ k other below is-at.
    elim (below_or_here k n below) [
      | inl same ↦ subst (λ (of : Peer T). waits_in of.phase ≡ false)
          (same_one places n k p other at same is-at) is
      | inr less ↦ so k other less is-at
    ]

keep : {T : Type 0} (places : List (Option (Peer T))) (n at : ℕ) (since : Duration)
    → FoundSoFar places n at since
    → ((other : Peer T) → IsAt places n other → Waits other → as_nanos since ≤ as_nanos other.since)
    → FoundSoFar places (n + 1) at since
keep {T} places n at since so here = record {
  peer = so.peer;
  here = so.here;
  waits = so.waits;
  is-since = so.is-since;
  longest = λ k other below is-at waits. elim (below_or_here k n below) [
    | inl same ↦ here other (subst (λ (j : ℕ). IsAt places j other) same is-at) waits
    | inr less ↦ so.longest k other less is-at waits
  ];
}

not_le : (a b : ℕ) → nat_le a b ≡ false → b < a
not_le a b is = elim (leb_tells a b) [
  | inl e ↦ let yes = e.0 in absurd (cc)
  | inr e ↦ e.1
]

le_trans_of : (a b c : ℕ) → a < b → b ≤ c → a ≤ c
le_trans_of a b c one two = omega arith

some_some : {T : Type 0} (places : List (Option (Peer T))) (n at : ℕ) (since : Duration)
    (p : Peer T) → IsAt places n p → FoundSoFar places n at since
    → (b : Bool) → waits_in p.phase ≡ b
    → (c : Bool) → nat_le (as_nanos since) (as_nanos p.since) ≡ c
    → FirstSoFar places (n + 1) (cond b (cond c (Some (at, since)) (Some (n, p.since)))
    (Some (at, since)))
some_some {T} places n at since p here so false is c le =
    keep places n at since so (λ other is-at waits.
    let same : p ≡ other = same_one places n n p other here refl is-at in
    let yes : waits_in p.phase ≡ true =
    subst (λ (of : Peer T). waits_in of.phase ≡ true) (sym same) waits in
    absurd (cc))
some_some {T} places n at since p here so true is true le =
    keep places n at since so (λ other is-at waits.
    let same : p ≡ other = same_one places n n p other here refl is-at in
    subst (λ (of : Peer T). as_nanos since ≤ as_nanos of.since) same
    (leb-true (as_nanos since) (as_nanos p.since) le))
some_some {T} places n at since p here so true is false le = record {
  peer = p;
  here = here;
  waits = is;
  is-since = refl;
  longest = λ k other below is-at waits. elim (below_or_here k n below) [
    | inl same ↦ subst (λ (of : Peer T). as_nanos p.since ≤ as_nanos of.since)
        (same_one places n k p other here same is-at) (omega arith)
    | inr less ↦ le_trans_of (as_nanos p.since) (as_nanos since) (as_nanos other.since)
        (not_le (as_nanos since) (as_nanos p.since) le) (so.longest k other less is-at waits)
  ];
}

pub first_step : {T : Type 0} (places : List (Option (Peer T))) (n : ℕ)
    (first : Option (ℕ × Duration)) (x : Option (Peer T)) → slice_get places n ≡ Some x
    → FirstSoFar places n first → FirstSoFar places (n + 1) (first_of first n x)
first_step places n None None at so = λ k other below is-at.
    elim (below_or_here k n below) [
      | inl same ↦ let two = same_at places n k None other at same is-at in absurd (cc)
      | inr less ↦ so k other less is-at
    ]
first_step places n (Some (place, since)) None at so =
    keep places n place since so (λ other is-at waits. absurd (cc))
first_step places n None (Some p) at so = none_some places n p at so (waits_in p.phase) refl
first_step places n (Some (place, since)) (Some p) at so =
    some_some places n place since p at so (waits_in p.phase) refl
    (nat_le (as_nanos since) (as_nanos p.since)) refl

pub found_all : {T : Type 0} (places : List (Option (Peer T))) (n : ℕ)
    (first : Option (ℕ × Duration)) (at : ℕ) (since : Duration) → length places ≤ n
    → first ≡ Some (at, since) → FirstSoFar places n first → WaitsLongest places at
found_all {T} places n first at since all is so =
    let found : FoundSoFar places n at since =
    subst (λ (of : Option (ℕ × Duration)). FirstSoFar places n of) is so in
    record {
      peer = found.peer;
      here = found.here;
      waits = found.waits;
      longest = λ k other is-at waits.
          let within = slice_get_within places k (Some other) is-at in
          subst (λ (s : Duration). as_nanos s ≤ as_nanos other.since) (sym found.is-since)
          (found.longest k other (omega arith) is-at waits);
    }
