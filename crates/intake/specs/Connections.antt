-- What a server tells of its connections.
use Rattle.std.specs.Prelude.{◌≡◌, ◌⊎◌, ℕ, ◌≤◌, ◌^◌, ◌-◌, false, not, count_by, List, Option, Some, None, Err, length, map, All, IfOk, IfErr, OnErr, MatchOption}
use Rattle.std.specs.List.{FoldsTo}
use Rattle.definitions.specs.Moments.{Moment}
use Rattle.store.specs.Standing.{Standing, IsUnchanged, GoesOn}
use Rattle.store.specs.Fault.TheVariants.{Device}
use Rattle.intake.specs.Admitting.{access_by}
use Rattle.intake.specs.Serving.{IsResponseWritten, IsUnread, IsUnwritten}
use Rattle.peers.specs.declared.entrances.Door.{Door}
use Rattle.peers.specs.declared.entrances.Door.TheVariants.{First}
use Rattle.peers.specs.declared.listener.PeerAddress.{PeerAddress}
use Rattle.peers.specs.declared.listener.PeerAddress.TheVariants.{Inet}
use Rattle.intake.specs.declared.audience.Access.{Access}
use Rattle.intake.specs.declared.callers.Caller.{Caller}
use Rattle.intake.specs.declared.callers.Caller.TheVariants as callers
use Rattle.intake.specs.declared.served.Connection.{Connection}

-- a status was answered, or the fault is Device
abbrev pub IsConnectionOutcome : Connection → Type 0
IsConnectionOutcome c = IfErr c.served.outcome (λ fault. fault ≡ Device)

abbrev pub moment_of : Connection → Moment
moment_of c = c.moment

-- where a connection comes from that is to be served
abbrev pub address_of : Caller → PeerAddress
address_of (callers.Direct stream peer) = Inet peer
address_of (callers.Gathered arrival) = arrival.peer.address

-- by which door it comes
abbrev pub door_of : Caller → Door
door_of (callers.Direct stream peer) = First
door_of (callers.Gathered arrival) = arrival.peer.door

-- A connection that was accepted: there is what its peer sent and what was written to it, where
-- these are known, and how often a read and a write of it failed, of which its outcome, its line,
-- its sender and its bytes tell. Where a status is told, the response to what the peer sent was
-- written, at the connection's moment, and it left the book so. Else the reader failed, and the
-- book is as it was; or the writer did, and the book is as the request left it.
pub record IsServedOn (access : Access) (old new : Standing) (c : Connection) : Type 0 where
  pub known : Option (List ℕ)
  pub before : Option (List ℕ)
  pub later : Option (List ℕ)
  pub reads : ℕ × ℕ
  pub writes : ℕ × ℕ
  pub written : IfOk c.served.outcome
      (λ status. IsResponseWritten access old new known c.moment before later status c.served.line
      c.served.sender c.served.bytes c.served.is_health)
  pub stopped : OnErr c.served.outcome
      (IsUnread old new known before later reads.0 reads.1 c.served.line c.served.sender
      c.served.bytes c.served.is_health
      ⊎ IsUnwritten access old new known c.moment before later writes.0 writes.1 c.served.line
      c.served.sender c.served.bytes c.served.is_health)

-- The same of a connection whose request was gathered before: the response is that to the bytes
-- that its own peer sent.
pub record IsServedOf (access : Access) (old new : Standing) (sent : List ℕ) (c : Connection) : Type 0 where
  pub served : IsServedOn access old new c
  pub own : served.known ≡ Some sent

-- A connection that couldn't be accepted: nothing of it is known.
pub record IsNotAccepted (c : Connection) : Type 0 where
  pub outcome : c.served.outcome ≡ Err Device
  pub line : c.served.line ≡ None
  pub sender : c.served.sender ≡ None
  pub bytes : c.served.bytes ≡ 0
  pub health : c.served.is_health ≡ false
  pub millis : c.millis ≡ None
  pub door : c.door ≡ First

-- what became of a connection, by whether it has a peer, and of the book meanwhile, which is as it
-- was where it has none
abbrev pub IsConnection : Access → Standing → Standing → Connection → Type 0
IsConnection access old new c =
    MatchOption c.peer (IsUnchanged old new
    × IsNotAccepted c) (λ peer. IsServedOn access old new c)

-- The same of a book that needn't be opened again before it, where those were answered who have
-- access by the connection's door; no count falls meanwhile.
pub record IsServed (access : Access) (old new : Standing) (c : Connection) : Type 0 where
  pub serves : old.shut ≡ false
  pub goes : GoesOn old new
  pub became : IsConnection (access_by access c.door) old new c

-- A clock was asked so often, and as many connections were handed to a closure, one after the
-- other, each with the moment that the clock gave for it. This took the clock and the closure from
-- one state to another. The same connections, one after the other, took the book from one state to
-- another, each as `serves` says.
pub record HasTold
    {K C T : Type 0} (serves : K → Connection → K → Type 0) (gives : C → Moment → C → Type 0)
    (takes : T → Connection → T → Type 0) (book left : K) (clock after : C) (told last : T)
    (count : ℕ) : Type 0 where
  pub connections : List Connection
  pub served : FoldsTo serves book connections left
  pub asked : FoldsTo gives clock (map moment_of connections) after
  pub handed : FoldsTo takes told connections last
  pub counted : length connections ≡ count
  pub outcomes : All IsConnectionOutcome connections

-- how many of them count: those that asked for the health of the book don't
abbrev pub counted_of : List Connection → ℕ
counted_of connections = count_by (λ c. not c.served.is_health) connections

-- more than any server lives to tell
abbrev pub most_told : ℕ
most_told = 2 ^ 64 - 1

-- So many were told in all, of which so many count.
pub record HasCounted
    {K C T : Type 0} (serves : K → Connection → K → Type 0) (gives : C → Moment → C → Type 0)
    (takes : T → Connection → T → Type 0) (book left : K) (clock after : C) (first last : T)
    (total count : ℕ) : Type 0 where
  pub told : HasTold serves gives takes book left clock after first last total
  pub counted : counted_of told.connections ≡ count

-- as many count as are wanted, or fewer if more were told than any server lives to tell
abbrev pub IsEnough : ℕ → ℕ → ℕ → Type 0
IsEnough total count wanted = (count ≡ wanted) ⊎ ((count ≤ wanted) × (total ≡ most_told))
