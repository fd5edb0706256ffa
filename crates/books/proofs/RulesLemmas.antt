-- The rules of a register's entries, one after another.
use Rattle.std.proofs.Common.{◌≡◌, Bool, true, false, List, [], ◌∷◌, ◌++◌, refl}
use Rattle.std.specs.Prelude.{◌&&◌, IsTrue}
use Rattle.definitions.specs.declared.rules.Rules.{Rules}
use Rattle.definitions.specs.declared.rules.Rules.TheVariants.{One, Two}
use Rattle.definitions.specs.Rules.{may_follow}
use Rattle.definitions.specs.Header.{Who, is_partner}
use Rattle.definitions.specs.Moments.{Moment, is_moment}
use Rattle.definitions.specs.Register.{Command, Entry, never_fall}
use Rattle.definitions.specs.Accepted.{IsLegal, after, is_command}
use Rattle.definitions.proofs.CarriedLaws.{legal-carried}
use Rattle.definitions.proofs.TextLaws.{both_parts}
use Rattle.store.proofs.Replies.{legal_after}
use Rattle.books.specs.Verified.{last_rules}

-- in a register whose rules never fall, each entry's may follow those of the one before it
pub rises_at : (s : Rules) (X : List Entry) (e : Entry) (Y : List Entry) → never_fall s (X ++ e ∷ Y) ≡ true → may_follow (last_rules s X) e.rules ≡ true
rises_at s [] e Y h = (both_parts (may_follow s e.rules) (never_fall e.rules Y) h).0
rises_at s (x ∷ X) e Y h = rises_at x.rules X e Y (both_parts (may_follow s x.rules) (never_fall x.rules (X ++ e ∷ Y)) h).1

pub last_more : (s : Rules) (X : List Entry) (e : Entry) → last_rules s (X ++ e ∷ []) ≡ e.rules
last_more s [] e = refl
last_more s (x ∷ X) e = last_more x.rules X e

-- a register stays legal with a command that is given under rules that may follow its own
pub legal_next : (last r : Rules) (W : Who) (L : List Entry) (c : Command) (t : Moment) → may_follow last r ≡ true → (is_command r c && is_moment t) ≡ true
    → IsLegal last W L → IsLegal r W (after r W L (c, t))
legal_next One One W L c t may given legal = legal_after One W L c t given legal
legal_next One Two W L c t may given legal = legal_after Two W L c t given (legal-carried W L legal)
legal_next Two Two W L c t may given legal = legal_after Two W L c t given legal
legal_next Two One W L c t may given legal = absurd (let never : ◌≡◌ {A = Bool} false true = may in cc)

-- what is legal under any rules is a register of this version
pub legal_now : (r : Rules) (W : Who) (L : List Entry) → IsLegal r W L → IsLegal Two W L
legal_now One W L legal = legal-carried W L legal
legal_now Two W L legal = legal

-- so is no entry at all
pub none_legal : (W : Who) → IsTrue (is_partner W) → IsLegal One W []
none_legal W h = record { first = []; commands = []; of_a_partner = h; first_given = refl; given = refl; left = refl }
