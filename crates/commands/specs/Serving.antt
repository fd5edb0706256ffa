-- Whose requests a server takes, and when its connections come.
use Rattle.std.specs.Prelude.{◌≡◌, ◌≤◌, ℕ, Bool, true, false, List, Option, Some, None, All, length, map, unwrap_or}
use Rattle.std.specs.Borrow.{Bor}
use Rattle.std.specs.List.{FoldsTo}
use Rattle.definitions.specs.Moments.{Moment}
use Rattle.store.specs.Standing.{Standing, IsUnchanged}
use Rattle.intake.specs.Connections.{IsEnough, IsServed, counted_of, moment_of}
use Rattle.command_line.specs.declared.words.Service.{Service}
use Rattle.intake.specs.declared.audience.Access.{Access}
use Rattle.intake.specs.declared.audience.Audience.{Audience}
use Rattle.intake.specs.declared.audience.Audience.TheVariants.{Testers, Clerks}
use Rattle.intake.specs.declared.served.Connection.{Connection}

-- clerks' only where the line says so
abbrev pub audience_of : Bool → Audience
audience_of true = Clerks
audience_of false = Testers

-- whom a service answers whose names lie there: there are always doors, which know it by these
-- names beside its address, and the health of the book is always told
abbrev pub access_by : Bor (List (Bor (List ℕ))) → Service → Access
access_by names service = record {
  audience = audience_of service.clerks;
  doors = Some (record { names = names });
  from = service.from;
  tells_health = true;
}

-- whom a service answers; where its names lie changes nothing
abbrev pub access_of : Service → Access
access_of service = access_by (record { ref_ptr = (0, 0); now = service.hosts }) service

-- it is whom a service answers, and its names lie somewhere
abbrev pub IsAccessOf : Service → Access → Type 0
IsAccessOf service access = (names : Bor (List (Bor (List ℕ)))) × (names.now ≡ service.hosts)
    × (access ≡ access_by names service)

-- how many connections are served: more than any server lives to serve, where nobody says
abbrev pub count_of : Option ℕ → ℕ
count_of None = 18446744073709551615
count_of (Some count) = count

-- The next moment, and the last good one then. Where no clock is asked it is the same again; else
-- the clock is asked once, and where it gives none, it is the last good one.
abbrev pub NextMoment : {F : Type 0} → (F → Option Moment → F → Type 0) → Bool → F × Moment → Moment
    → F × Moment → Type 0
NextMoment asks false p m q = (m ≡ p.1) × (q ≡ p)
NextMoment asks true p m q = (found : Option Moment) × asks p.0 found q.0
    × (m ≡ unwrap_or found p.1) × (q.1 ≡ m)

-- So many connections were served in all, of which so many count, one after the other, each as
-- `serves` says, and each at the moment that was next then.
pub record Comes
    {F K : Type 0} (asks : F → Option Moment → F → Type 0) (serves : K → Connection → K → Type 0)
    (has_clock : Bool) (ask : F) (first : Moment) (book left : K) (total count : ℕ)
    : Type 0 where
  pub connections : List Connection
  pub last : F × Moment
  pub moments : FoldsTo (NextMoment asks has_clock) (ask, first) (map moment_of connections) last
  pub served : FoldsTo serves book connections left
  pub many : length connections ≡ total
  pub counted : counted_of connections ≡ count

-- The same, where nothing is known of the clock: without it each comes at the first moment.
pub record Came
    {K : Type 0} (serves : K → Connection → K → Type 0) (has_clock : Bool) (first : Moment)
    (book left : K) (total count : ℕ) : Type 0 where
  pub connections : List Connection
  pub moments : has_clock ≡ false → All (λ (c : Connection). c.moment ≡ first) connections
  pub served : FoldsTo serves book connections left
  pub many : length connections ≡ total
  pub counted : counted_of connections ≡ count

-- So many connections that count were served of a book to those who have access; fewer only where
-- more were served in all than any server lives to serve.
abbrev pub HasServed : {K : Type 0} → (K → Standing) → Access → Bool → Moment → K → K → ℕ → Type 0
HasServed standing access has_clock first book left count =
    (total : ℕ) × (n : ℕ) × IsEnough total n count
    × Came (λ old c new. IsServed access (standing old) (standing new) c) has_clock first book
    left total n

-- The same of some number, this one at most.
abbrev pub HasServedUpTo : {K : Type 0} → (K → Standing) → Access → Bool → Moment → K → K → ℕ
    → Type 0
HasServedUpTo standing access has_clock first book left most =
    (total : ℕ) × (n : ℕ) × (n ≤ most)
    × Came (λ old c new. IsServed access (standing old) (standing new) c) has_clock first book
    left total n

-- Before the first of them the book is asked how far it goes.
abbrev pub AfterLook : {K : Type 0} → (K → Standing) → K → (K → Type 0) → Type 0
AfterLook {K} standing book P = (start : K) × IsUnchanged (standing book) (standing start) × P start
