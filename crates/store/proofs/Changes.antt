-- How changes of a book follow one another.
use Rattle.std.proofs.Common.{◌≡◌, ◌∙◌, sym, refl, arith, List, ◌⊎◌, inl, inr, Result, Ok, Err, OnErr}
use Rattle.std.proofs.lemmas.Result.{IfErr-weaker}
use Rattle.definitions.specs.Register.{Entry}
use Rattle.store.specs.Fault.{Fault}
use Rattle.store.specs.Standing.{Standing, IsUsable, KeepsLegal, IsUnchanged, GoesOn, LeavesEither, IsFault, IsReading, IsQueryFault, Refused}

pub goes_trans : (a b c : Standing) → GoesOn a b → GoesOn b c → GoesOn a c
goes_trans a b c p q = record {
  warehouse = q.warehouse ∙ p.warehouse;
  doubt = omega (arith, p.doubt, q.doubt);
  refusals = omega (arith, p.refusals, q.refusals);
}

-- clean at the end, so clean before
pub clean_before : (a b : Standing) → GoesOn a b → b.doubt ≡ 0 → a.doubt ≡ 0
clean_before a b p h = omega (arith, p.doubt, h)

pub unchanged_trans : (a b c : Standing) → IsUnchanged a b → IsUnchanged b c → IsUnchanged a c
unchanged_trans a b c p q = record {
  goes = goes_trans a b c p.goes q.goes;
  shut = q.shut ∙ p.shut;
  keeps = λ clean L h. q.keeps clean L (p.keeps (clean_before b c q.goes clean) L h);
  stand = λ clean L h s. let mid = clean_before b c q.goes clean in q.stand clean L (p.keeps mid L h) (p.stand mid L h s);
  no_more = λ clean L h M left. let mid = clean_before b c q.goes clean in p.no_more mid L h M (q.no_more clean L (p.keeps mid L h) M left);
}

pub usable_stays : (a b : Standing) → IsUnchanged a b → b.doubt ≡ 0 → (L : List Entry) → IsUsable a L → IsUsable b L
usable_stays a b p clean L u = record {
  opened = p.shut ∙ u.opened;
  legal = rw p.goes.warehouse u.legal;
  keeps = p.keeps clean L u.keeps;
  stand = p.stand clean L u.keeps u.stand;
  only = λ M h. u.only M (p.no_more clean L u.keeps M h);
}

pub keeps_stays : (a b : Standing) → IsUnchanged a b → b.doubt ≡ 0 → (L : List Entry) → KeepsLegal a L → KeepsLegal b L
keeps_stays a b p clean L k = record { keeps = p.keeps clean L k.keeps; legal = rw p.goes.warehouse k.legal }

pub unchanged_refl : (a : Standing) → IsUnchanged a a
unchanged_refl a = record {
  goes = record { warehouse = refl; doubt = omega arith; refusals = omega arith };
  shut = refl;
  keeps = λ clean L h. h;
  stand = λ clean L h s. s;
  no_more = λ clean L h M left. left;
}

-- a usable book leaves its register, or the next
pub leaves_first : (s : Standing) (L next : List Entry) → IsUsable s L → LeavesEither s L next
leaves_first s L next u = record { stand = u.stand; each = λ M h. inl (u.only M h) }

pub refused_after : (a b c : Standing) → GoesOn a b → Refused b c → Refused a c
refused_after a b c p (inl h) = inl (omega (arith, p.refusals, h))
refused_after a b c p (inr h) = inr h

-- a fault after a call that changed nothing
pub fault_after : (a b c : Standing) → IsUnchanged a b → GoesOn b c → (fault : Fault) → IsFault fault b c → IsFault fault a c
fault_after a b c p q fault f = record {
  clean = λ same. unchanged_trans a b c p (f.clean (same ∙ sym p.shut));
  broken = λ was now. refused_after a b c p.goes (f.broken (p.shut ∙ was) now);
  why = record {
    store = λ h. refused_after a b c p.goes (f.why.store h);
    reopen = λ h. sym p.shut ∙ f.why.reopen h;
    not_this = λ h clean L keeps. f.why.not_this h clean L (p.keeps (clean_before b c q clean) L keeps);
    device = f.why.device;
  };
}

-- what holds at a fault
pub at_fault : {T E : Type 0} {P : Type 0} (r : Result T E) → P → OnErr r P
at_fault (Ok x) p = tt
at_fault (Err e) p = p

at_side : (L a b c d : List Entry) → a ≡ c → b ≡ d → (L ≡ a) ⊎ (L ≡ b) → (L ≡ c) ⊎ (L ≡ d)
at_side L a b c d p q (inl x) = inl (x ∙ p)
at_side L a b c d p q (inr x) = inr (x ∙ q)

pub either_at : (s : Standing) (a b c d : List Entry) → a ≡ c → b ≡ d → LeavesEither s a b → LeavesEither s c d
either_at s a b c d p q h = record { stand = h.stand; each = λ L left. at_side L a b c d p q (h.each L left) }

-- a query's fault after a call that changed nothing
pub query_after : (a b c : Standing) → IsUnchanged a b → GoesOn b c → (fault : Fault) → IsQueryFault fault b c → IsQueryFault fault a c
query_after a b c p q fault f = record {
  store = λ h. refused_after a b c p.goes (f.store h);
  reopen = λ h. sym p.shut ∙ f.reopen h;
  not_this = λ h clean L keeps. f.not_this h clean L (p.keeps (clean_before b c q clean) L keeps);
  device = f.device;
}

-- what reads, after a call that changed nothing
pub reading_on : {T : Type 0} (a b c : Standing) → IsUnchanged a b → (r : Result T Fault) → IsReading b c r → IsReading a c r
reading_on a b c p r q = record {
  same = unchanged_trans a b c p q.same;
  fault = IfErr-weaker r _ _ (query_after a b c p q.same.goes) q.fault;
}
