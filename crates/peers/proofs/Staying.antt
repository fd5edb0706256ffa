-- who stays in a room
use Rattle.std.proofs.Common.{◌≡◌, ◌<◌, ◌∙◌, length, ℕ, zero, suc, List, [], ◌∷◌, Option, None, Some, slice_get, slice_set, slice_index_or, true, false, refl, sym, ap, subst}
use Rattle.std.proofs.lemmas.Option.{get_or_from_slice_get, slice_get_read}
use Rattle.peers.specs.declared.gathered.End.{End}
use Rattle.peers.specs.declared.peer.Peer.{Peer}
use Rattle.peers.specs.Turns.{AllStay, Asks, Follows, IsAt, IsTaken, PlaceStays, Waits, WaitsOn, asks_in, waits_in}

pub follows_refl : {T : Type 0} (peer : Peer T) → Asks peer → Follows peer peer
follows_refl peer asks = record {
  address = refl;
  door = refl;
  accepted = refl;
  asks = asks;
  waits = λ _. record { phase = refl; bytes = refl; stream = refl; since = refl };
}

waits_trans : {T : Type 0} (a b c : Peer T) → WaitsOn a b → WaitsOn b c → WaitsOn a c
waits_trans a b c one two = record {
  phase = two.phase ∙ one.phase;
  bytes = two.bytes ∙ one.bytes;
  stream = two.stream ∙ one.stream;
  since = two.since ∙ one.since;
}

still_waits : {T : Type 0} (a b : Peer T) → Waits a → WaitsOn a b → Waits b
still_waits a b waits on = ap waits_in on.phase ∙ waits

pub follows_trans : {T : Type 0} (a b c : Peer T) → Follows a b → Follows b c → Follows a c
follows_trans a b c one two = record {
  address = two.address ∙ one.address;
  door = two.door ∙ one.door;
  accepted = two.accepted ∙ one.accepted;
  asks = two.asks;
  waits = λ waits. waits_trans a b c (one.waits waits)
      (two.waits (still_waits a b waits (one.waits waits)));
}

-- where nothing changes, who is there stays
pub stay_same : {T : Type 0} (xs : List (Option (Peer T))) → AllStay xs xs
stay_same xs = record { stay = λ k peer at asks. (peer, at, follows_refl peer asks) }

-- who stays, and stays again, stays
pub stay_trans : {T : Type 0} (xs ys zs : List (Option (Peer T))) → AllStay xs ys → AllStay ys zs
    → AllStay xs zs
stay_trans xs ys zs one two = record {
  stay = λ k peer at asks.
      let (then, at-then, follows) = one.stay k peer at asks in
      let (now, at-now, follows-then) = two.stay k then at-then follows.asks in
      (now, at-now, follows_trans peer then now follows follows-then);
}

pub place_follows : {T : Type 0} (p q : Peer T) → (Asks p → Follows p q)
    → PlaceStays (Some p) (Some q)
place_follows {T} p q follows = record {
  stays = λ peer is asks.
      let same : p ≡ peer = cc in
      let asks-p : Asks p = ap (λ (of : Peer T). asks_in of.phase) same ∙ asks in
      (q, refl, subst (λ (of : Peer T). Follows of q) same (follows asks-p));
}

pub place_free : {T : Type 0} (y : Option (Peer T)) → PlaceStays None y
place_free y = record { stays = λ peer is asks. absurd (cc) }

-- one who asks for nothing more may go
pub place_gone : {T : Type 0} (x y : Option (Peer T)) (p : Peer T) → x ≡ Some p
    → asks_in p.phase ≡ false → PlaceStays x y
place_gone {T} x y p is none = record {
  stays = λ peer is' asks.
      let same : p ≡ peer = cc in
      let some : asks_in p.phase ≡ true = ap (λ (of : Peer T). asks_in of.phase) same ∙ asks in
      absurd (cc);
}

pub place_same : {T : Type 0} (x : Option (Peer T)) → PlaceStays x x
place_same x = record { stays = λ peer is asks. (peer, is, follows_refl peer asks) }

stays_set : {T : Type 0} (xs : List (Option (Peer T))) (i : ℕ) (x y : Option (Peer T))
    → x ≡ slice_index_or xs i x → PlaceStays x y
    → (k : ℕ) (peer : Peer T) → IsAt xs k peer → Asks peer
    → (now : Peer T) × IsAt (slice_set xs i y) k now × Follows peer now
stays_set [] i x y is stays k peer at asks = absurd (cc)
stays_set (x' ∷ xs) zero x y is stays zero peer at asks =
    let here : x' ≡ Some peer = cc in
    let (now, is-now, follows) = stays.stays peer (is ∙ here) asks in
    (now, ap Some is-now, follows)
stays_set (x' ∷ xs) zero x y is stays (suc k) peer at asks = (peer, at, follows_refl peer asks)
stays_set (x' ∷ xs) (suc i) x y is stays zero peer at asks = (peer, at, follows_refl peer asks)
stays_set (x' ∷ xs) (suc i) x y is stays (suc k) peer at asks =
    stays_set xs i x y is stays k peer at asks

-- who stays at a place stays in the room
pub stay_set : {T : Type 0} (xs : List (Option (Peer T))) (i : ℕ) (x y : Option (Peer T))
    → x ≡ slice_index_or xs i x → PlaceStays x y → AllStay xs (slice_set xs i y)
stay_set xs i x y is stays = record { stay = stays_set xs i x y is stays }

-- one who stays at its place stays in the room
pub stay_at : {T : Type 0} (xs : List (Option (Peer T))) (i : ℕ) (p q : Peer T)
    → Some p ≡ slice_index_or xs i (Some p) → (Asks p → Follows p q)
    → AllStay xs (slice_set xs i (Some q))
stay_at xs i p q is follows = stay_set xs i (Some p) (Some q) is (place_follows p q follows)

-- where nobody is at a place, one may come
pub stay_free : {T : Type 0} (xs : List (Option (Peer T))) (i : ℕ) (y : Option (Peer T))
    → slice_get xs i ≡ Some None → AllStay xs (slice_set xs i y)
stay_free xs i y free =
    stay_set xs i None y (sym (get_or_from_slice_get xs i None None free)) (place_free y)

pub put_back : {X : Type 0} (xs : List X) (i : ℕ) (x y : X) → slice_get xs i ≡ Some x
    → slice_set (slice_set xs i y) i x ≡ xs
put_back [] i x y at = absurd (cc)
put_back (z ∷ xs) zero x y at = let same : x ≡ z = cc in ap (λ w. w ∷ xs) same
put_back (z ∷ xs) (suc i) x y at = ap (λ ws. z ∷ ws) (put_back xs i x y at)

pub get_put : {X : Type 0} (xs : List X) (i : ℕ) (x y : X) → slice_get xs i ≡ Some x
    → slice_get (slice_set xs i y) i ≡ Some y
get_put [] i x y at = absurd (cc)
get_put (z ∷ xs) zero x y at = refl
get_put (z ∷ xs) (suc i) x y at = get_put xs i x y at

-- with the one who is taken out, all stay
pub stay_taken : {T : Type 0} (xs ys zs : List (Option (Peer T))) (place : ℕ) (peer : Peer T)
    (end : End) → AllStay xs ys → IsTaken place peer end ys zs
    → AllStay xs (slice_set zs place (Some peer))
stay_taken {T} xs ys zs place peer end stay taken =
    let back : slice_set zs place (Some peer) ≡ ys =
    ap (λ (of : List (Option (Peer T))). slice_set of place (Some peer)) taken.taken
    ∙ put_back ys place (Some peer) None taken.was in
    subst (λ (of : List (Option (Peer T))). AllStay xs of) (sym back) stay

-- the place of the one who is taken out is free
pub free_taken : {T : Type 0} (ys zs : List (Option (Peer T))) (place : ℕ) (peer : Peer T)
    (end : End) → IsTaken place peer end ys zs → slice_get zs place ≡ Some None
free_taken {T} ys zs place peer end taken =
    ap (λ (of : List (Option (Peer T))). slice_get of place) taken.taken
    ∙ get_put ys place (Some peer) None taken.was

-- what is read at a place is there
pub slice_get_read_back : {X : Type 0} (xs : List X) (i : ℕ) (x : X) → i < length xs
    → x ≡ slice_index_or xs i x → slice_get xs i ≡ Some x
slice_get_read_back xs i x within is = slice_get_read xs (length xs) i x refl within is
