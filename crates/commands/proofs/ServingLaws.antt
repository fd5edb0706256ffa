-- The moments of connections.
use Rattle.std.proofs.Common.{◌≡◌, ℕ, Bool, false, List, [], ◌∷◌, Option, Result, Ok, Err, OnErr, All, zero, suc, arith, map, subst, ap, inl, inr, ◌≤◌, refl}
use Rattle.std.specs.Prelude.{⊤}
use Rattle.std.specs.List.{FoldsTo}
use Rattle.definitions.specs.Moments.{Moment}
use Rattle.intake.specs.declared.served.Connection.{Connection}
use Rattle.store.specs.Standing.{Standing}
use Rattle.intake.specs.declared.audience.Access.{Access}
use Rattle.commands.specs.Serving.{NextMoment, Comes, Came}
use Rattle.intake.specs.Connections.{HasCounted, IsEnough, IsServed, moment_of}

-- the steps of one state are those of what is seen of it, where what `keeps` says of it stays
folds_by : {P Q A : Type 0} (R : P → A → P → Type 0) (p : P) (xs : List A) (q : P) → FoldsTo R p xs q
    → (keeps : P → Type 0) → keeps p → (seen : P → Q) (S : Q → A → Q → Type 0)
    → ((f : P) (x : A) (g : P) → keeps f → R f x g → keeps g × S (seen f) x (seen g)) → FoldsTo S (seen p) xs (seen q)
folds_by R p [] q e keeps k seen S each = ap seen e
folds_by R p (x ∷ xs) q h keeps k seen S each =
    let one = each p x h.0 k h.1 in
    (seen h.0, one.1, folds_by R h.0 xs q h.2 keeps one.0 seen S each)

-- what a server told, where its clock is such a closure
pub comes : {F K C T : Type 0} (asks : F → Option Moment → F → Type 0) (serves : K → Connection → K → Type 0) (gives : C → Moment → C → Type 0) (takes : T → Connection → T → Type 0)
    (has_clock : Bool) (book left : K) (clock after : C) (told last : T) (total count : ℕ) → HasCounted serves gives takes book left clock after told last total count
    → (keeps : C → Type 0) → keeps clock → (seen : C → F × Moment)
    → ((f : C) (m : Moment) (g : C) → keeps f → gives f m g → keeps g × NextMoment asks has_clock (seen f) m (seen g))
    → Comes asks serves has_clock (seen clock).0 (seen clock).1 book left total count
comes asks serves gives takes has_clock book left clock after told last total count has keeps k seen each =
    let its = has.told in
    record {
      connections = its.connections;
      last = seen after;
      moments = folds_by gives clock (map moment_of its.connections) after its.asked keeps k seen (NextMoment asks has_clock) each;
      served = its.served;
      many = its.counted;
      counted = has.counted;
    }

-- as many as are wanted, at most
pub enough_most : (total count wanted : ℕ) → IsEnough total count wanted → count ≤ wanted
enough_most total count wanted (inl all) = omega (arith, all)
enough_most total count wanted (inr h) = h.0

pub on_err : {T E : Type 0} {P : Type 0} (r : Result T E) → P → OnErr r P
on_err (Ok x) p = tt
on_err (Err e) p = p

first_of_all : {A : Type 0} (P : A → Type 0) (x : A) (xs : List A) → P x → All P xs → All P (x ∷ xs)
first_of_all P x xs p all zero d low = p
first_of_all P x xs p all (suc k) d low = all k d (omega (arith, low))

none : {A : Type 0} (P : A → Type 0) → All P []
none P k d low = absurd (omega (arith, low))

-- without a clock the moment stays
stays : {F : Type 0} (asks : F → Option Moment → F → Type 0) (p q : F × Moment) (cs : List Connection) → FoldsTo (NextMoment asks false) p (map moment_of cs) q
    → All (λ (c : Connection). c.moment ≡ p.1) cs
stays asks p q [] h = none _
stays {F} asks p q (c ∷ cs) h =
    first_of_all (λ (d : Connection). d.moment ≡ p.1) c cs h.1.0 (subst (λ (r : F × Moment). All (λ (d : Connection). d.moment ≡ r.1) cs) h.1.1 (stays asks h.0 q cs h.2))

pub came : {F K : Type 0} (asks : F → Option Moment → F → Type 0) (standing : K → Standing) (served meant : Access) (has_clock : Bool) (ask : F) (first : Moment) (book left : K) (total count : ℕ)
    → ((old new : Standing) (c : Connection) → IsServed served old new c → IsServed meant old new c)
    → Comes asks (λ old c new. IsServed served (standing old) (standing new) c) has_clock ask first book left total count
    → Came (λ old c new. IsServed meant (standing old) (standing new) c) has_clock first book left total count
came {F} {K} asks standing served meant has_clock ask first book left total count alike h = record {
  connections = h.connections;
  moments = λ e. stays asks (ask, first) h.last h.connections
      (subst (λ (b : Bool). FoldsTo (NextMoment asks b) (ask, first) (map moment_of h.connections) h.last) e h.moments);
  served = folds_by (λ (old : K) (c : Connection) (new : K). IsServed served (standing old) (standing new) c) book h.connections left h.served
      (λ _. ⊤) tt (λ k. k) (λ (old : K) (c : Connection) (new : K). IsServed meant (standing old) (standing new) c)
      (λ f c g _ is. (tt, alike (standing f) (standing g) c is));
  many = h.many;
  counted = h.counted;
}

-- none has come yet
pub none_came : {K : Type 0} (serves : K → Connection → K → Type 0) (has_clock : Bool) (first : Moment) (book : K) → Came serves has_clock first book book 0 0
none_came serves has_clock first book = record {
  connections = [];
  moments = λ e. none _;
  served = refl;
  many = refl;
  counted = refl;
}
