-- Who waits in a room for its turn, and who stays in it.
use Rattle.std.specs.Prelude.{◌≡◌, ◌≤◌, ℕ, Bool, true, false, cond, nat_le, IsTrue, List}
use Rattle.std.specs.Prelude.{Option, None, Some, slice_get}
use Rattle.std.specs.Duration.{as_nanos}
use Rattle.std.specs.declared.time.Duration.{Duration}
use Rattle.std.specs.List.{slice_set}
use Rattle.peers.specs.declared.gathered.End.{End}
use Rattle.peers.specs.declared.peer.Peer.{Peer}
use Rattle.peers.specs.declared.peer.Phase.{Phase}
use Rattle.peers.specs.declared.peer.Phase.TheVariants.{Arriving, Waiting}

-- whether one in this phase waits for its turn
abbrev pub waits_in : Phase → Bool
waits_in (Waiting _) = true
waits_in _ = false

-- whether one in this phase wasn't answered yet
abbrev pub asks_in : Phase → Bool
asks_in Arriving = true
asks_in (Waiting _) = true
asks_in _ = false

-- this one waits for its turn
abbrev pub Waits : {T : Type 0} → Peer T → Type 0
Waits peer = IsTrue (waits_in peer.phase)

-- this one wasn't answered yet
abbrev pub Asks : {T : Type 0} → Peer T → Type 0
Asks peer = IsTrue (asks_in peer.phase)

-- this one is at this place
abbrev pub IsAt : {T : Type 0} → List (Option (Peer T)) → ℕ → Peer T → Type 0
IsAt places k peer = slice_get places k ≡ Some (Some peer)

-- this one, which waits for its turn, is taken out of its place, and nobody else is
pub record IsTaken {T : Type 0} (place : ℕ) (peer : Peer T) (end : End)
    (old new : List (Option (Peer T))) : Type 0 where
  pub was : IsAt old place peer
  pub waits : peer.phase ≡ Waiting end
  pub taken : new ≡ slice_set old place None

-- the one at this place waits for its turn, and no other has waited for longer
pub record WaitsLongest {T : Type 0} (places : List (Option (Peer T))) (place : ℕ) : Type 0 where
  pub peer : Peer T
  pub here : IsAt places place peer
  pub waits : Waits peer
  pub longest : (k : ℕ) (other : Peer T) → IsAt places k other → Waits other
      → as_nanos peer.since ≤ as_nanos other.since

-- the first of those who wait: the first so far, or the one at this place
abbrev pub first_of : {T : Type 0} → Option (ℕ × Duration) → ℕ → Option (Peer T)
    → Option (ℕ × Duration)
first_of first place None = first
first_of None place (Some peer) = cond (waits_in peer.phase) (Some (place, peer.since)) None
first_of (Some (at, since)) place (Some peer) = cond (waits_in peer.phase)
    (cond (nat_le (as_nanos since) (as_nanos peer.since)) (Some (at, since))
    (Some (place, peer.since))) (Some (at, since))

-- one who waited for its turn waits as before
pub record WaitsOn {T : Type 0} (old new : Peer T) : Type 0 where
  pub phase : new.phase ≡ old.phase
  pub bytes : new.bytes ≡ old.bytes
  pub stream : new.stream ≡ old.stream
  pub since : new.since ≡ old.since

-- the same connection, which wasn't answered yet, and whose request isn't touched where it waited
pub record Follows {T : Type 0} (old new : Peer T) : Type 0 where
  pub address : new.address ≡ old.address
  pub door : new.door ≡ old.door
  pub accepted : new.accepted ≡ old.accepted
  pub asks : Asks new
  pub waits : Waits old → WaitsOn old new

-- at a place who wasn't answered yet is there
pub record PlaceStays {T : Type 0} (old new : Option (Peer T)) : Type 0 where
  pub stays : (peer : Peer T) → old ≡ Some peer → Asks peer
      → (now : Peer T) × (new ≡ Some now) × Follows peer now

-- who wasn't answered yet is at its place
pub record AllStay {T : Type 0} (old new : List (Option (Peer T))) : Type 0 where
  pub stay : (k : ℕ) (peer : Peer T) → IsAt old k peer → Asks peer
      → (now : Peer T) × IsAt new k now × Follows peer now
