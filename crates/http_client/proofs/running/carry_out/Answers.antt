use Rattle.http_client.proofs.running.carry_out.Goals as goal

pub returns-in-Send-clause-carried : goal.returns-in-Send-clause-carried
returns-in-Send-clause-carried g c = rw (c.in-Send.is, ← c.deref.ensures.value) c.post.ensures.told

pub returns-in_ok-path-in-Deed-clause-carried : goal.returns-in_ok-path-in-Deed-clause-carried
returns-in_ok-path-in-Deed-clause-carried g c = rw (c.in-Deed.is, ← c.deref-in-Deed.ensures.value, ← c.in_ok-path-in-Deed.ensures, ← c.as_str.ensures.value) c.post-in-Deed.ensures.told

pub returns-in-Look-clause-carried : goal.returns-in-Look-clause-carried
returns-in-Look-clause-carried g c = rw c.in-Look.is c.look.ensures.told

pub returns-in-Send-clause-halted : goal.returns-in-Send-clause-halted
returns-in-Send-clause-halted g c = rw (c.in-Send.is, ← c.deref.ensures.value) c.post.ensures.halted

pub returns-in_ok-path-in-Deed-clause-halted : goal.returns-in_ok-path-in-Deed-clause-halted
returns-in_ok-path-in-Deed-clause-halted g c = rw (c.in-Deed.is, ← c.deref-in-Deed.ensures.value, ← c.in_ok-path-in-Deed.ensures, ← c.as_str.ensures.value) c.post-in-Deed.ensures.halted

pub returns-in-Look-clause-halted : goal.returns-in-Look-clause-halted
returns-in-Look-clause-halted g c = rw c.in-Look.is c.look.ensures.halted

pub returns-in-TrySend-clause-carried : goal.returns-in-TrySend-clause-carried
returns-in-TrySend-clause-carried g c = rw (c.in-TrySend.is, ← c.deref-in-TrySend.ensures.value) c.try_post.ensures.told

pub returns-in_ok-path-in-TryDeed-clause-carried : goal.returns-in_ok-path-in-TryDeed-clause-carried
returns-in_ok-path-in-TryDeed-clause-carried g c =
    rw (c.in-TryDeed.is, ← c.deref-in-TryDeed.ensures.value, ← c.in_ok-path-in-TryDeed.ensures, ← c.as_str-in-TryDeed.ensures.value) c.try_post-in-TryDeed.ensures.told

pub returns-in-TrySend-clause-halted : goal.returns-in-TrySend-clause-halted
returns-in-TrySend-clause-halted g c = rw (c.in-TrySend.is, ← c.deref-in-TrySend.ensures.value) c.try_post.ensures.halted

pub returns-in_ok-path-in-TryDeed-clause-halted : goal.returns-in_ok-path-in-TryDeed-clause-halted
returns-in_ok-path-in-TryDeed-clause-halted g c =
    rw (c.in-TryDeed.is, ← c.deref-in-TryDeed.ensures.value, ← c.in_ok-path-in-TryDeed.ensures, ← c.as_str-in-TryDeed.ensures.value) c.try_post-in-TryDeed.ensures.halted
