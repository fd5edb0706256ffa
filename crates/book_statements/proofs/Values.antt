-- Values that a column takes as they are, and parts of a statement that did not stop.
use Rattle.std.proofs.Common.{◌≡◌, ◌⊎◌, inl, inr, ℕ, ◌-◌, ℤ, Bool, true, false, ◌&&◌, cond, List, [], None, Ok, Err, Result, refl}
use Rattle.std.specs.Prelude.{◌^◌, if◌then◌else◌, nat_le, unwrap_or, slice_get}
use Rattle.sqlite.specs.Order.{Row}
use Rattle.sqlite.specs.Program.{overlay}
use Rattle.sqlite.specs.Tree.{Trees}
use Rattle.sqlite.specs.declared.types.Value.{Value}
use Rattle.sqlite.specs.declared.types.Value.TheVariants.{Null, Int}
use Rattle.sqlite.specs.Ops.{unary}
use Rattle.sqlite.specs.Kind.TheVariants as kind
use Rattle.sqlite.specs.Cast.{cast}

either : (b : Bool) (x : Value) → cond b x x ≡ x
either true x = refl
either false x = refl

pub cast_null : cast kind.Integer Null ≡ Null
unfolding unary
cast_null = either _ Null

pub cast_int : (n : ℤ) → cast kind.Integer (Int n) ≡ Int n
unfolding unary
cast_int n = either _ (Int n)

-- a part that gave a value did not stop on the way
pub went : {B E R : Type 0} {b : B} {Stops : E → Type 0} → ((stop : E) × Stops stop × (Ok b ≡ Err stop)) ⊎ R → R
went (inl stopped) = absurd (let e = stopped.2 in cc)
went (inr on) = on

pub same_value : {B E : Type 0} {a b : B} → ◌≡◌ {A = Result B E} (Ok a) (Ok b) → a ≡ b
same_value e = cc

pub and_true : (a b : Bool) → (a && b) ≡ true → (a ≡ true) × (b ≡ true)
and_true true b h = (refl, h)
and_true false b h = absurd (let e : ◌≡◌ {A = Bool} false true = h in cc)

-- a statement that computes no table of its own reads each tree as it is
pub overlay_lies : (db : Trees) (tree : ℕ) → overlay db [] tree ≡ db tree
overlay_lies db tree = by (nat_le (2 ^ 31) tree)
  where
    by : (b : Bool) → unwrap_or (if b then slice_get {X = List Row} [] (tree - 2 ^ 31) else None) (db tree) ≡ db tree
    by true = refl
    by false = refl
