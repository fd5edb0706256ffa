-- Options, and entries at their places.
use Rattle.std.proofs.Common.{Bool, true, false, IsTrue, ◌≡◌, ◌<◌, ℕ, zero, suc, List, [], ◌∷◌, ◌++◌, length, Option, Some, None, get_or, slice_get, sym, refl, ◌∙◌, arith}
use Rattle.std.specs.Prelude.{IsSomeAnd}
use Rattle.definitions.specs.Register.{Entry}
use Rattle.rules.specs.Written.{Written}
use Rattle.store.specs.Fault.{Fault}
use Rattle.store.specs.Fault.TheVariants.{OutOfMemory, Store, Reopen, NotThisBook, Device}
use Rattle.store.specs.Replayed.{written_on}
use Rattle.store.specs.Standing.{Standing, IsUsable, IsQueryFault}
use Rattle.books.specs.Verified.{of_copy}

pub never_none : {A : Type 0} (o : Option A) (a : A) → ((b : A) → o ≡ Some b → ⊥) → o ≡ Some a → ⊥
never_none o a not is = not a is

pub none_given : {A : Type 0} (o : Option A) (P : A → Type 0) → ((b : A) → o ≡ Some b → ⊥) → IsSomeAnd o P → ⊥
none_given None P not h = h
none_given (Some a) P not h = not a refl

pub one_some : {A : Type 0} (o : Option A) (a b : A) → o ≡ Some a → o ≡ Some b → a ≡ b
one_some o a b p q = let r : Some a ≡ Some b = sym p ∙ q in cc

pub both_none : {A : Type 0} (o : Option A) (a : A) → o ≡ None → o ≡ Some a → ⊥
both_none {A = A} o a p q = let r : ◌≡◌ {A = Option A} None (Some a) = sym p ∙ q in cc

-- what stands at a place
pub got : (ws : List Written) (i : ℕ) (w : Written) → slice_get ws i ≡ Some w → (i < length ws) × (w ≡ get_or ws i w)
got [] i w h = absurd (let r : ◌≡◌ {A = Option Written} None (Some w) = h in cc)
got (x ∷ ws) zero w h = (omega arith, one_some (Some x) w x h refl)
got (x ∷ ws) (suc i) w h = let r = got ws i w h in (omega (arith, r.0), r.1)

-- an entry is written down at each place
pub there_is : (before L : List Entry) (i : ℕ) → i < length L → slice_get (written_on before L) i ≡ None → ⊥
there_is before [] i lt none = absurd (omega (arith, lt))
there_is before (e ∷ L) zero lt none = let r : ◌≡◌ {A = Option Written} (slice_get (written_on before (e ∷ L)) zero) None = none in cc
there_is before (e ∷ L) (suc i) lt none = there_is (before ++ e ∷ []) L i (omega (arith, lt)) none

pub never_both : (b : Bool) → IsTrue b → b ≡ false → ⊥
never_both b t f = let e : ◌≡◌ {A = Bool} true false = sym t ∙ f in cc

-- a copy that keeps a register fails for want of memory alone
pub only_memory : (f : Fault) (old new : Standing) (L : List Entry) → IsUsable old L → new.doubt ≡ 0 → IsQueryFault f old new → of_copy f ≡ OutOfMemory
only_memory OutOfMemory old new L u clean why = refl
only_memory Store old new L u clean why = refl
only_memory Reopen old new L u clean why = absurd (let e : ◌≡◌ {A = Bool} true false = sym (why.reopen refl) ∙ u.opened in cc)
only_memory NotThisBook old new L u clean why = absurd (why.not_this refl clean L u.keeps)
only_memory Device old new L u clean why = absurd (why.device refl)
