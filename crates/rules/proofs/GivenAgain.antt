-- Each entry of a legal register, given again under its own rules after those before it, makes the
-- same entry.
use Rattle.std.proofs.Common.{◌≡◌, Bool, true, false, List, [], ◌∷◌, ◌++◌, refl, sym, ap, ◌∙◌, subst, append_assoc, append-nil}
use Rattle.std.specs.Prelude.{◌&&◌, map, if◌then◌else◌}
use Rattle.definitions.specs.declared.rules.Rules.{Rules}
use Rattle.definitions.specs.Moments.{Moment, is_moment}
use Rattle.definitions.specs.Header.{Who}
use Rattle.definitions.specs.Register.{Command, Interchange, Enrol, Clerk, Entry}
use Rattle.definitions.specs.Accepted.{reply_to, is_accepted, entry_of, after, is_command, IsLegal, Ruled, left_by, each_given}
use Rattle.definitions.proofs.TextLaws.{both_parts}
use Rattle.definitions.proofs.RisingLaws.{legal-ruled}
use Rattle.rules.specs.Given.{given_by, given_at, given_under}

-- an entry is of the command that made it, and of the rules of its day
given_entry : (r : Rules) (c : Command) (t : Moment) → given_under (entry_of r c t) ≡ (r, (c, t))
given_entry r (Interchange text) t = refl
given_entry r (Enrol w) t = refl
given_entry r (Clerk w ticket act) t = refl

-- a command that can be given under its rules, at a moment
abbrev is_given : Ruled → Bool
is_given c = is_command c.0 c.1.0 && is_moment c.1.1

-- an entry that its command makes again after these
record IsMade (W : Who) (L : List Entry) (e : Entry) : Type 0 where
  pub again : after e.rules W L (given_at e) ≡ L ++ e ∷ []
  pub good : is_given (given_under e) ≡ true

made : (W : Who) (L : List Entry) (r : Rules) (c : Command) (t : Moment) → is_given (r, (c, t)) ≡ true → is_accepted (reply_to r W L c t) ≡ true → IsMade W L (entry_of r c t)
made W L r c t good a =
    let same = given_entry r c t in
    record {
      again = ap (λ (x : Ruled). after x.0 W L x.1) same ∙ ap (λ (b : Bool). if b then L ++ entry_of r c t ∷ [] else L) a;
      good = ap is_given same ∙ good;
    }

-- each entry after those before it
abbrev Made : Who → List Entry → List Entry → Type 0
Made W before [] = Unit {0}
Made W before (e ∷ L) = IsMade W before e × Made W (before ++ e ∷ []) L

made_more : (W : Who) (before L : List Entry) (e : Entry) → Made W before L → IsMade W (before ++ L) e → Made W before (L ++ e ∷ [])
made_more W before [] e f c = (subst (λ (B : List Entry). IsMade W B e) (append-nil before) c, tt)
made_more W before (k ∷ L) e f c =
    (f.0, made_more W (before ++ k ∷ []) L e f.1 (subst (λ (B : List Entry). IsMade W B e) (sym (append_assoc before (k ∷ []) L)) c))

made_after : (W : Who) (L : List Entry) (c : Ruled) → is_given c ≡ true → Made W [] L → Made W [] (after c.0 W L c.1)
made_after W L c given f = by_test (is_accepted (reply_to c.0 W L c.1.0 c.1.1)) refl
  where
    by_test : (b : Bool) → is_accepted (reply_to c.0 W L c.1.0 c.1.1) ≡ b → Made W [] (if b then L ++ entry_of c.0 c.1.0 c.1.1 ∷ [] else L)
    by_test true e = made_more W [] L (entry_of c.0 c.1.0 c.1.1) f (made W L c.0 c.1.0 c.1.1 given e)
    by_test false e = f

made_on : (W : Who) (L : List Entry) (cs : List Ruled) → each_given cs ≡ true → Made W [] L → Made W [] (left_by W L cs)
made_on W L [] given f = f
made_on W L (c ∷ cs) given f =
    let p = both_parts (is_given c) (each_given cs) given in
    made_on W (after c.0 W L c.1) cs p.1 (made_after W L c p.0 f)

legal_made : (r : Rules) (W : Who) (L : List Entry) → IsLegal r W L → Made W [] L
legal_made r W L legal =
    let ruled = legal-ruled r W L legal in
    subst (Made W []) (sym ruled.left) (made_on W [] ruled.commands ruled.given tt)

made_at : (W : Who) (before front : List Entry) (e : Entry) (rest : List Entry) → Made W before (front ++ e ∷ rest) → IsMade W (before ++ front) e
made_at W before [] e rest f = subst (λ (B : List Entry). IsMade W B e) (sym (append-nil before)) f.0
made_at W before (k ∷ front) e rest f = subst (λ (B : List Entry). IsMade W B e) (append_assoc before (k ∷ []) front) (made_at W (before ++ k ∷ []) front e rest f.1)

legal_at : (r : Rules) (W : Who) (L front : List Entry) (e : Entry) (rest : List Entry) → IsLegal r W L → L ≡ front ++ e ∷ rest → IsMade W front e
legal_at r W L front e rest legal is = made_at W [] front e rest (subst (Made W []) is (legal_made r W L legal))

pub made_again : (r : Rules) (W : Who) (L front : List Entry) (e : Entry) (rest : List Entry) → IsLegal r W L → L ≡ front ++ e ∷ rest → after e.rules W front (given_at e) ≡ front ++ e ∷ []
made_again r W L front e rest legal is = (legal_at r W L front e rest legal is).again

pub good_again : (r : Rules) (W : Who) (L front : List Entry) (e : Entry) (rest : List Entry) → IsLegal r W L → L ≡ front ++ e ∷ rest → is_command e.rules (given_by e) ≡ true
good_again r W L front e rest legal is = (both_parts (is_command e.rules (given_by e)) (is_moment e.moment) (legal_at r W L front e rest legal is).good).0

-- all of them in turn

all_on : (W : Who) (before L : List Entry) → Made W before L → left_by W before (map given_under L) ≡ before ++ L
all_on W before [] f = sym (append-nil before)
all_on W before (e ∷ L) f =
    ap (λ (B : List Entry). left_by W B (map given_under L)) f.0.again ∙ all_on W (before ++ e ∷ []) L f.1 ∙ append_assoc before (e ∷ []) L

pub all_again : (r : Rules) (W : Who) (L : List Entry) → IsLegal r W L → left_by W [] (map given_under L) ≡ L
all_again r W L legal = all_on W [] L (legal_made r W L legal)
