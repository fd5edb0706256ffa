-- one more connection
use Rattle.std.proofs.Common.{◌≡◌, ◌⊎◌, ℕ, ◌+◌, List, [], ◌∷◌, ◌++◌, Option, Some, None, IfOk, OnErr, MatchOption, map, refl, sym, subst, arith, ap, ◌∙◌, if◌then◌else◌}
use Rattle.std.specs.List.{FoldsTo}
use Rattle.std.proofs.lemmas.Fn.{FoldsTo-push}
use Rattle.std.proofs.lemmas.List.{length_push, map-append}
use Rattle.std.proofs.lemmas.List.Elements.{All-push}
use Rattle.definitions.specs.Moments.{Moment}
use Rattle.store.specs.Standing.{Standing, IsUnchanged}
use Rattle.intake.specs.declared.audience.Access.{Access}
use Rattle.intake.specs.declared.served.Connection.{Connection}
use Rattle.intake.specs.Connections.{HasCounted, HasTold, IsNotAccepted, IsConnectionOutcome, IsServedOf, IsServedOn, moment_of}
use Rattle.intake.specs.Serving.{IsResponseWritten, IsUnread, IsUnwritten}
use Rattle.intake.proofs.Counted.{counts_more}

-- by what its reader and its writer have, and what became of them
pub served_on : (access : Access) (old new : Standing) (c : Connection) (known before later : Option (List ℕ)) (unread still unwritten more : ℕ)
    → IfOk c.served.outcome (λ status. IsResponseWritten access old new known c.moment before later status c.served.line c.served.sender c.served.bytes c.served.is_health)
    → OnErr c.served.outcome (IsUnread old new known before later unread still c.served.line c.served.sender c.served.bytes c.served.is_health
    ⊎ IsUnwritten access old new known c.moment before later unwritten more c.served.line c.served.sender c.served.bytes c.served.is_health)
    → IsServedOn access old new c
served_on access old new c known before later unread still unwritten more written stopped = record {
  known = known;
  before = before;
  later = later;
  reads = (unread, still);
  writes = (unwritten, more);
  written = written;
  stopped = stopped;
}

-- where its reader has what was sent
pub served_of : (access : Access) (old new : Standing) (c : Connection) (known before later : Option (List ℕ)) (unread still unwritten more : ℕ) (sent : List ℕ) → known ≡ Some sent
    → IfOk c.served.outcome (λ status. IsResponseWritten access old new known c.moment before later status c.served.line c.served.sender c.served.bytes c.served.is_health)
    → OnErr c.served.outcome (IsUnread old new known before later unread still c.served.line c.served.sender c.served.bytes c.served.is_health
    ⊎ IsUnwritten access old new known c.moment before later unwritten more c.served.line c.served.sender c.served.bytes c.served.is_health)
    → IsServedOf access old new sent c
served_of access old new c known before later unread still unwritten more sent own written stopped = record {
  served = record {
    known = known;
    before = before;
    later = later;
    reads = (unread, still);
    writes = (unwritten, more);
    written = written;
    stopped = stopped;
  };
  own = own;
}

-- by whom those have access who come by its door
pub served_by : (access by : Access) (old new : Standing) (sent : List ℕ) (c : Connection) → by ≡ access
    → IsServedOf by old new sent c → IsServedOf access old new sent c
served_by access by old new sent c e is = subst (λ (a : Access). IsServedOf a old new sent c) e is

-- with a peer, and with none
pub accepted : {P : Type 0} (access : Access) (old new : Standing) (c : Connection) (peer : P) (found : Option P) → found ≡ Some peer → IsServedOn access old new c
    → MatchOption found (IsUnchanged old new × IsNotAccepted c) (λ p. IsServedOn access old new c)
accepted access old new c peer found e is = subst (λ o. MatchOption o (IsUnchanged old new × IsNotAccepted c) (λ p. IsServedOn access old new c)) (sym e) is

pub not_accepted : {P : Type 0} (access : Access) (old new : Standing) (c : Connection) (found : Option P) → found ≡ None → IsUnchanged old new → IsNotAccepted c
    → MatchOption found (IsUnchanged old new × IsNotAccepted c) (λ p. IsServedOn access old new c)
not_accepted access old new c found e same is = subst (λ o. MatchOption o (IsUnchanged old new × IsNotAccepted c) (λ p. IsServedOn access old new c)) (sym e) (same, is)

pub told_more : {K C T : Type 0} (serves : K → Connection → K → Type 0) (gives : C → Moment → C → Type 0) (takes : T → Connection → T → Type 0) (book left since : K) (clock after next : C) (told last more : T) (count : ℕ) (t : Moment) (c : Connection)
    → HasTold serves gives takes book left clock after told last count → serves left c since → gives after t next → takes last c more → c.moment ≡ t → IsConnectionOutcome c
    → HasTold serves gives takes book since clock next told more (count + 1)
told_more serves gives takes book left since clock after next told last more count t c so_far served given taken e outcome = record {
  connections = so_far.connections ++ c ∷ [];
  served = FoldsTo-push serves book so_far.connections left c since so_far.served served;
  asked = subst (λ (moments : List Moment). FoldsTo gives clock moments next) (sym (map-append moment_of so_far.connections (c ∷ [])))
      (FoldsTo-push gives clock (map moment_of so_far.connections) after (c.moment) next so_far.asked (subst (λ (m : Moment). gives after m next) (sym e) given));
  handed = FoldsTo-push takes told so_far.connections last c more so_far.handed taken;
  counted = length_push so_far.connections c ∙ ap (λ n. n + 1) so_far.counted;
  outcomes = All-push IsConnectionOutcome so_far.connections c so_far.outcomes outcome;
}

-- before the first
pub nothing_told : {K C T : Type 0} (serves : K → Connection → K → Type 0) (gives : C → Moment → C → Type 0) (takes : T → Connection → T → Type 0) (book : K) (clock : C) (first : T)
    → HasCounted serves gives takes book book clock clock first first 0 0
nothing_told serves gives takes book clock first = record {
  told = record { connections = []; served = refl; asked = refl; handed = refl; counted = refl; outcomes = λ k d low. absurd (omega (arith, low)) };
  counted = refl;
}

-- and one that asked for health doesn't count
pub counted_more : {K C T : Type 0} (serves : K → Connection → K → Type 0) (gives : C → Moment → C → Type 0) (takes : T → Connection → T → Type 0) (book left since : K) (clock after again : C) (first last more : T) (total count next : ℕ) (t : Moment) (c : Connection)
    → HasCounted serves gives takes book left clock after first last total count → serves left c since → gives after t again → takes last c more → c.moment ≡ t → IsConnectionOutcome c
    → next ≡ (if c.served.is_health then count else count + 1)
    → HasCounted serves gives takes book since clock again first more (total + 1) next
unfolding told_more
counted_more serves gives takes book left since clock after again first last more total count next t c so_far served given taken e outcome is = record {
  told = told_more serves gives takes book left since clock after again first last more total t c so_far.told served given taken e outcome;
  counted = counts_more so_far.told.connections c count next so_far.counted is;
}
