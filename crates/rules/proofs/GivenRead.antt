-- What the key and the body of an entry that is written down say of it.
use Rattle.std.proofs.Common.{◌≡◌, ℕ, true, List, [], ◌∷◌, sym, ap, ◌∙◌, subst, arith, get_or, drop, Option, Some}
use Rattle.std.specs.Prelude.{◌&&◌}
use Rattle.definitions.specs.declared.rules.Rules.{Rules}
use Rattle.definitions.specs.Moments.{is_moment}
use Rattle.definitions.specs.Header.{Who, is_partner, isa}
use Rattle.definitions.specs.Register.{Clerk, Act, Deed, Enrolled, Received, Performed, Entry, canonical, deed_mark, body_of}
use Rattle.definitions.specs.Clerk.{is_act}
use Rattle.definitions.specs.Readings.{act_of, is_deed, is_entry}
use Rattle.definitions.proofs.TextLaws.{both_parts}
use Rattle.rules.specs.Given.{RuledCommand, given_as, ruled_by}
use Rattle.entries.specs.Written.{Written, written_as}
use Rattle.rules.proofs.ReadBack.{act_of-is}

-- what is read of a text is an act
pub read_good : (r : Rules) (text : List ℕ) (act : Act) (o : Option Act) → o ≡ act_of r text → o ≡ Some act → is_act r act ≡ true
read_good r text act o read some = (act_of-is r text act (sym read ∙ some)).0

good_deed : (e : Entry) → is_entry e ≡ true → is_deed e.rules e.deed ≡ true
good_deed e good = (both_parts (is_partner e.who && is_moment e.moment) (is_deed e.rules e.deed) good).1

letters : (a b : ℕ) (xs ys : List ℕ) → a ∷ xs ≡ b ∷ ys → a ≡ b
letters a b xs ys same = ap (λ (l : List ℕ). get_or l 0 0) same

-- an entry under `T` and more is of a clerk's act
pub act_given : (w : Written) (n : ℕ) (e : Entry) (who : Who) (ticket body : List ℕ) (q : Rules) (o : Option RuledCommand) → w ≡ written_as n e → is_entry e ≡ true
    → w.key ≡ 84 ∷ ticket → who ≡ w.who → body ≡ w.body → q ≡ w.rules
    → ((act : Act) → is_deed q (Performed ticket act) ≡ true → body ≡ canonical act → o ≡ Some (q, Clerk who ticket act)) → o ≡ Some (ruled_by e)
act_given w n e who ticket body q o is good key whose text ruled read =
    by_deed e.deed (sym key ∙ ap (λ (x : Written). x.key) is) (text ∙ ap (λ (x : Written). x.body) is) (ap (λ (x : Rules). is_deed x e.deed) same ∙ good_deed e good)
  where
    same : q ≡ e.rules
    same = ruled ∙ ap (λ (x : Written). x.rules) is

    by_deed : (d : Deed) → 84 ∷ ticket ≡ deed_mark d → body ≡ body_of d → is_deed q d ≡ true → o ≡ Some (e.rules, given_as e.who d)
    by_deed Enrolled k b g = absurd (omega (arith, letters 84 69 ticket [] k))
    by_deed (Received bytes) k b g = absurd (omega (arith, letters 84 88 ticket (isa bytes 13) k))
    by_deed (Performed name act) k b g =
        let whole : name ≡ ticket = sym (ap (drop 1) k) in
        read act (subst (λ (t : List ℕ). is_deed q (Performed t act) ≡ true) whole g) b
        ∙ ap (λ (x : Rules). Some (x, Clerk who ticket act)) same
        ∙ ap (λ (x : Who). Some (e.rules, Clerk x ticket act)) (whose ∙ ap (λ (x : Written). x.who) is)
        ∙ ap (λ (t : List ℕ). Some (e.rules, Clerk e.who t act)) (sym whole)
