-- Each text of two or three bytes, by its bytes.
use Rattle.std.proofs.Common.{◌≡◌, ℕ, List, [], ◌∷◌, length, get_or, arith}
use Rattle.tables.proofs.ids.Id.read.Goals as goal

two : (t : List ℕ) (a b : ℕ) → length t ≡ 2 → get_or t 0 0 ≡ a → get_or t 1 0 ≡ b → t ≡ a ∷ b ∷ []
two (x ∷ y ∷ []) a b n p q = cc
two [] a b n p q = absurd (omega arith)
two (x ∷ []) a b n p q = absurd (omega arith)
two (x ∷ y ∷ z ∷ t) a b n p q = absurd (omega arith)

three : (t : List ℕ) (a b d : ℕ) → length t ≡ 3 → get_or t 0 0 ≡ a → get_or t 1 0 ≡ b → get_or t 2 0 ≡ d
    → t ≡ a ∷ b ∷ d ∷ []
three (x ∷ y ∷ z ∷ []) a b d n p q r = cc
three [] a b d n p q r = absurd (omega arith)
three (x ∷ []) a b d n p q r = absurd (omega arith)
three (x ∷ y ∷ []) a b d n p q r = absurd (omega arith)
three (x ∷ y ∷ z ∷ w ∷ t) a b d n p q r = absurd (omega arith)

pub returns-in-ST : goal.returns-in-ST
returns-in-ST c = two _ _ _ (omega arith) (omega arith) (omega arith)

pub returns-in-SE : goal.returns-in-SE
returns-in-SE c = two _ _ _ (omega arith) (omega arith) (omega arith)

pub returns-in-LX : goal.returns-in-LX
returns-in-LX c = two _ _ _ (omega arith) (omega arith) (omega arith)

pub returns-in-N1 : goal.returns-in-N1
returns-in-N1 c = two _ _ _ (omega arith) (omega arith) (omega arith)

pub returns-in-N3 : goal.returns-in-N3
returns-in-N3 c = two _ _ _ (omega arith) (omega arith) (omega arith)

pub returns-in-N4 : goal.returns-in-N4
returns-in-N4 c = two _ _ _ (omega arith) (omega arith) (omega arith)

pub returns-in-N9 : goal.returns-in-N9
returns-in-N9 c = two _ _ _ (omega arith) (omega arith) (omega arith)

pub returns-in-W06 : goal.returns-in-W06
returns-in-W06 c = three _ _ _ _ (omega arith) (omega arith) (omega arith) (omega arith)

pub returns-in-W04 : goal.returns-in-W04
returns-in-W04 c = three _ _ _ _ (omega arith) (omega arith) (omega arith) (omega arith)

pub returns-in-W03 : goal.returns-in-W03
returns-in-W03 c = three _ _ _ _ (omega arith) (omega arith) (omega arith) (omega arith)

pub returns-in-W05 : goal.returns-in-W05
returns-in-W05 c = three _ _ _ _ (omega arith) (omega arith) (omega arith) (omega arith)

pub returns-in-W01 : goal.returns-in-W01
returns-in-W01 c = three _ _ _ _ (omega arith) (omega arith) (omega arith) (omega arith)

pub returns-in-W76 : goal.returns-in-W76
returns-in-W76 c = three _ _ _ _ (omega arith) (omega arith) (omega arith) (omega arith)

pub returns-in-G62 : goal.returns-in-G62
returns-in-G62 c = three _ _ _ _ (omega arith) (omega arith) (omega arith) (omega arith)

pub returns-in-AK1 : goal.returns-in-AK1
returns-in-AK1 c = three _ _ _ _ (omega arith) (omega arith) (omega arith) (omega arith)

pub returns-in-AK2 : goal.returns-in-AK2
returns-in-AK2 c = three _ _ _ _ (omega arith) (omega arith) (omega arith) (omega arith)

pub returns-in-AK3 : goal.returns-in-AK3
returns-in-AK3 c = three _ _ _ _ (omega arith) (omega arith) (omega arith) (omega arith)

pub returns-in-AK4 : goal.returns-in-AK4
returns-in-AK4 c = three _ _ _ _ (omega arith) (omega arith) (omega arith) (omega arith)

pub returns-in-AK5 : goal.returns-in-AK5
returns-in-AK5 c = three _ _ _ _ (omega arith) (omega arith) (omega arith) (omega arith)

pub returns-in-AK9 : goal.returns-in-AK9
returns-in-AK9 c = three _ _ _ _ (omega arith) (omega arith) (omega arith) (omega arith)
