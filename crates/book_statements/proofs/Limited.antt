-- Calls that are counted, one after another.
use Rattle.std.proofs.Common.{◌≡◌, ◌≢◌, ◌≤◌, ◌+◌, ◌-◌, ◌^◌, ◌∙◌, ℕ, zero, suc, Option, None, Some, refl, sym, ap, subst, arith}
use Rattle.std.specs.Prelude.{min}
use Rattle.book_statements.specs.Kept.{Kept}
use Rattle.book_statements.specs.Limits.{Counts, fewer, Spent, Spends}

some_is : (m n : ℕ) → ◌≡◌ {A = Option ℕ} (Some m) (Some n) → m ≡ n
some_is m n e = cc e

fewer_none : (a : Option ℕ) → a ≡ fewer 0 a
fewer_none None = refl
fewer_none (Some n) = ap Some (let h : n ≡ n - 0 = omega arith in h)

fewer_both : (i j : ℕ) (a : Option ℕ) → fewer j (fewer i a) ≡ fewer (i + j) a
fewer_both i j None = refl
fewer_both i j (Some n) = ap Some (let h : n - i - j ≡ n - (i + j) = omega arith in h)

enough_none : (a : Option ℕ) (n : ℕ) → a ≡ Some n → 0 ≤ n
enough_none a n e = omega arith

enough_both : (i j : ℕ) (a b : Option ℕ) → b ≡ fewer i a → ((n : ℕ) → a ≡ Some n → i ≤ n) → ((n : ℕ) → b ≡ Some n → j ≤ n) → (n : ℕ) → a ≡ Some n → i + j ≤ n
enough_both i j a b is p q n e =
    let here = p n e in
    let later = q (n - i) (is ∙ ap (fewer i) e) in
    omega (arith, here, later)

pub spent_none : (made : ℕ) (a : Option ℕ) → Spent 0 made made a a
spent_none made a = record { counted = λ h. omega arith; most = omega arith; left = fewer_none a; enough = enough_none a }

pub spent_both : (i j k m n : ℕ) (a b c : Option ℕ) → Spent i k m a b → Spent j m n b c → Spent (i + j) k n a c
spent_both i j k m n a b c p q = record {
  counted = λ h. omega (arith, h, p.counted, p.most, q.counted, q.most);
  most = omega (arith, p.most, q.most);
  left = q.left ∙ ap (fewer j) p.left ∙ fewer_both i j a;
  enough = enough_both i j a b p.left p.enough q.enough;
}

-- one call, which a limit allows
pub spent_one : (k m : ℕ) (a b : Option ℕ) → m ≡ min (k + 1) (2 ^ 64 - 1) → a ≢ Some 0 → b ≡ fewer 1 a → Spent 1 k m a b
spent_one k m a b is some left = record {
  counted = λ h. omega (arith, is, h);
  most = omega (arith, is);
  left = left;
  enough = λ n e. more n e;
}
  where
    more : (n : ℕ) → a ≡ Some n → 1 ≤ n
    more zero e = absurd (some e)
    more (suc n) e = omega arith

pub spends_none : (k : ℕ) (a : Option ℕ) → Spends k k a a
spends_none k a = record { calls = 0; spent = spent_none k a }

pub spends_same : (k m : ℕ) (a b : Option ℕ) → m ≡ k → b ≡ a → Spends k m a b
spends_same k m a b h g = subst (λ n. Spends k n a b) (sym h) (subst (λ c. Spends k k a c) (sym g) (spends_none k a))

pub spends_both : (k m n : ℕ) (a b c : Option ℕ) → Spends k m a b → Spends m n b c → Spends k n a c
spends_both k m n a b c p q = record { calls = p.calls + q.calls; spent = spent_both p.calls q.calls k m n a b c p.spent q.spent }

-- where no call is left before some, none is left after them
pub none_after : (k m : ℕ) (a b : Option ℕ) → Spends k m a b → a ≡ Some 0 → b ≡ Some 0
none_after k m a b spends e = spends.spent.left ∙ ap (fewer spends.calls) e ∙ ap Some (let h : 0 - spends.calls ≡ 0 = omega arith in h)

-- the same of tables
pub counts_both : {S : Type 0} (a b c : Kept S) → Counts a b → Counts b c → Counts a c
counts_both a b c p q = spends_both a.made b.made c.made a.limit b.limit c.limit p q
