-- What is next in a room.
use Rattle.std.specs.Prelude.{◌≡◌, ◌≤◌, ◌-◌, ◌/◌, ◌^◌, min, ⊤, ℕ, List}
use Rattle.std.specs.Prelude.{Option, None, Some, slice_get}
use Rattle.std.specs.List.{slice_set}
use Rattle.std.specs.Duration.{as_nanos}
use Rattle.std.specs.declared.time.Duration.{Duration}
use Rattle.peers.specs.declared.peer.Peer.{Peer}
use Rattle.peers.specs.declared.peer.Phase.TheVariants.{Waiting}
use Rattle.peers.specs.declared.room.Limits.{Limits}
use Rattle.peers.specs.declared.room.Next.{Next}
use Rattle.peers.specs.declared.room.Next.TheVariants as next
use Rattle.peers.specs.declared.streams.PeerStream.{PeerStream}

-- no more are accepted than were to be, and the other limits stay
pub record CountsDown (old new : Limits) : Type 0 where
  pub count : new.count ≤ old.count
  pub others : new ≡ record old { count = new.count }

-- the places with the one that is taken out to be answered
abbrev pub with_next : Next → List (Option (Peer PeerStream)) → List (Option (Peer PeerStream))
with_next (next.Arrival arrival) places = slice_set places arrival.place (Some arrival.peer)
with_next _ places = places

-- who is taken out waited for its turn, and left its place
abbrev pub IsNext : Next → List (Option (Peer PeerStream)) → Type 0
IsNext (next.Arrival arrival) places = (arrival.peer.phase ≡ Waiting arrival.end)
    × (slice_get places arrival.place ≡ Some None)
IsNext _ _ = ⊤

-- how many milliseconds lie between two times, as far as 64 bits hold them
abbrev pub millis_between : Duration → Duration → ℕ
millis_between from to = min ((as_nanos to - as_nanos from) / 1_000_000) (2 ^ 64 - 1)

-- so many milliseconds lie between this time and another one
pub record SomeTimeAfter (from : Duration) (millis : ℕ) : Type 0 where
  pub now : Duration
  pub is : millis ≡ millis_between from now
