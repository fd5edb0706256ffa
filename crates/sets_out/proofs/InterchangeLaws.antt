-- When an answer is empty.
use Rattle.std.proofs.Common.{◌≡◌, ℕ, Bool, true, false, not, List, [], ◌∷◌, length, refl, sym, ◌∙◌}
use Rattle.std.specs.Prelude.{◌==◌, ◌&&◌}
use Rattle.std.proofs.Math.Dec.{eqb-suc-zero}
use Rattle.definitions.specs.Header.{Who}
use Rattle.definitions.specs.Moments.{Moment}
use Rattle.definitions.specs.Texts.{Told}
use Rattle.sets_out.specs.Headings.{Heading}
use Rattle.sets_out.specs.Interchanges.{between}

pub silence_is : (W w : Who) (t : Moment) (n : ℕ) (h : Heading) (ts : List Told) → (length (between W w t n h ts) == 0) ≡ (not h.asks && (length ts == 0))
silence_is W w t n h ts = by_asks h.asks refl ts
  where
    by_asks : (b : Bool) → h.asks ≡ b → (us : List Told) → (length (between W w t n h us) == 0) ≡ (not b && (length us == 0))
    by_asks true e [] = rw e refl
    by_asks true e (u ∷ us) = rw e (simp eqb-suc-zero refl)
    by_asks false e [] = rw e refl
    by_asks false e (u ∷ us) = rw e (simp eqb-suc-zero refl)

pub silence_without : (W w : Who) (t : Moment) (n : ℕ) (h : Heading) (ts : List Told) (r : Bool) → h.asks ≡ false → r ≡ (length ts == 0) → r ≡ (length (between W w t n h ts) == 0)
silence_without W w t n h ts r e f = f ∙ sym (silence_is W w t n h ts ∙ rw e refl)

pub silence_with : (W w : Who) (t : Moment) (n : ℕ) (h : Heading) (ts : List Told) → h.asks ≡ true → false ≡ (length (between W w t n h ts) == 0)
silence_with W w t n h ts e = sym (silence_is W w t n h ts ∙ rw e refl)
