-- Registers: what legal ones hold, and that the rows of the entries determine them.
use Rattle.std.proofs.Common.{◌≡◌, ℕ, Bool, true, false, not, ◌&&◌, List, [], ◌∷◌, ◌++◌, ◌+◌, map, length, Some, Option, refl, sym, ap, ◌∙◌}
use Rattle.std.specs.Prelude.{◌==◌}
use Rattle.std.specs.List.{list_all}
use Rattle.std.specs.Cmp.Derive.{both_true}
use Rattle.std.proofs.lemmas.List.Folds.{list_all-append}
use Rattle.definitions.specs.declared.rules.Rules.{Rules}
use Rattle.definitions.specs.declared.rules.Rules.TheVariants.{One, Two}
use Rattle.definitions.specs.Rules.{rules_number}
use Rattle.definitions.specs.Bytes.{is_identifier}
use Rattle.definitions.specs.Moments.{Moment, is_moment, stamp}
use Rattle.definitions.specs.Header.{Who, who_text, is_partner, sender, is_unreadable}
use Rattle.definitions.specs.Register.{Command, Interchange, Enrol, Clerk, Entry, is_first, mark, body_of}
use Rattle.definitions.specs.Clerk.{is_act}
use Rattle.definitions.specs.Readings.{is_entry, entry_from}
use Rattle.definitions.specs.Reply.{interchange_reply}
use Rattle.definitions.specs.Accepted.{reply_to, is_accepted, entry_of, after, accepted_on, is_command, can_be_given, IsLegal}
use Rattle.definitions.specs.Tables.{Number, entries_on, entry_table, entry_rules_on, entry_rules_table, rules_in, register_in}
use Rattle.definitions.proofs.TextLaws.{both_parts}
use Rattle.definitions.proofs.ReadingLaws.{entry_from-entry}

-- an interchange of no enrolled depositor isn't accepted
pub of_a_stranger : (r : Rules) (W : Who) (text : List ℕ) (t : Moment) → is_accepted (interchange_reply r W [] text t) ≡ false
of_a_stranger r W text t = by_test (is_unreadable text) refl
  where
    by_test : (b : Bool) → is_unreadable text ≡ b → is_accepted (interchange_reply r W [] text t) ≡ false
    by_test true e = rw e refl
    by_test false e = rw e refl

-- the sender of an accepted interchange can be a partner
pub accepted_sender : (r : Rules) (W : Who) (L : List Entry) (text : List ℕ) (t : Moment)
    → is_accepted (reply_to r W L (Interchange text) t) ≡ true → is_partner (sender text) ≡ true
accepted_sender r W L text t h = by_test (not (is_unreadable text) && is_partner (sender text)) refl
  where
    by_test : (b : Bool) → (not (is_unreadable text) && is_partner (sender text)) ≡ b → is_partner (sender text) ≡ true
    by_test true e = (both_parts (not (is_unreadable text)) (is_partner (sender text)) e).1
    by_test false e =
        let alone : is_accepted (reply_to r W L (Interchange text) t) ≡ false = rw e (of_a_stranger r W text t) in
        absurd (cc)

-- an accepted command that can be given makes an entry that can be read back
pub accepted_entry : (r : Rules) (W : Who) (L : List Entry) (c : Command) (t : Moment) → is_command r c ≡ true → is_moment t ≡ true
    → is_accepted (reply_to r W L c t) ≡ true → is_entry (entry_of r c t) ≡ true
accepted_entry r W L (Interchange text) t given now h = both_true (both_true (accepted_sender r W L text t h) now) refl
accepted_entry r W L (Enrol w) t given now h = both_true (both_true given now) refl
accepted_entry r W L (Clerk w ticket act) t given now h =
    let p = both_parts (is_partner w && is_identifier 1 20 ticket) (is_act r act) given in
    let q = both_parts (is_partner w) (is_identifier 1 20 ticket) p.0 in
    both_true (both_true q.0 now) (both_true q.1 p.1)

one_more : (L : List Entry) (e : Entry) → list_all is_entry L ≡ true → is_entry e ≡ true → list_all is_entry (L ++ e ∷ []) ≡ true
one_more L e h k = list_all-append is_entry L (e ∷ []) ∙ both_true h (both_true k refl)

after_good : (r : Rules) (W : Who) (L : List Entry) (c : Command × Moment) → (is_command r c.0 && is_moment c.1) ≡ true → list_all is_entry L ≡ true
    → list_all is_entry (after r W L c) ≡ true
after_good r W L c given h = by_test (is_accepted (reply_to r W L c.0 c.1)) refl
  where
    by_test : (b : Bool) → is_accepted (reply_to r W L c.0 c.1) ≡ b → list_all is_entry (after r W L c) ≡ true
    by_test true e =
        let p = both_parts (is_command r c.0) (is_moment c.1) given in
        rw e (one_more L (entry_of r c.0 c.1) h (accepted_entry r W L c.0 c.1 p.0 p.1 e))
    by_test false e = rw e h

pub accepted_on-entries : (r : Rules) (W : Who) (L : List Entry) (cs : List (Command × Moment)) → can_be_given r cs ≡ true
    → list_all is_entry L ≡ true → list_all is_entry (accepted_on r W L cs) ≡ true
accepted_on-entries r W L [] given h = h
accepted_on-entries r W L (c ∷ cs) given h =
    let p = both_parts (is_command r c.0 && is_moment c.1) (can_be_given r cs) given in
    accepted_on-entries r W (after r W L c) cs p.1 (after_good r W L c p.0 h)

-- every entry of a legal register can be read back
pub legal-entries : (r : Rules) (W : Who) (L : List Entry) → IsLegal r W L → list_all is_entry L ≡ true
legal-entries r W L l = ap (list_all is_entry) l.left
    ∙ accepted_on-entries r W (accepted_on One W [] l.first) l.commands l.given (accepted_on-entries One W [] l.first l.first_given refl)

-- ---- rules

-- an entry has the rules of the day
pub entry_of-rules : (r : Rules) (c : Command) (t : Moment) → (entry_of r c t).rules ≡ r
entry_of-rules r (Interchange text) t = refl
entry_of-rules r (Enrol w) t = refl
entry_of-rules r (Clerk w ticket act) t = refl

accepted_on-first : (W : Who) (L : List Entry) (cs : List (Command × Moment)) → list_all is_first L ≡ true → list_all is_first (accepted_on One W L cs) ≡ true
accepted_on-first W L [] h = h
accepted_on-first W L (c ∷ cs) h = accepted_on-first W (after One W L c) cs (by_test (is_accepted (reply_to One W L c.0 c.1)) refl)
  where
    by_test : (b : Bool) → is_accepted (reply_to One W L c.0 c.1) ≡ b → list_all is_first (after One W L c) ≡ true
    by_test true e = rw e (list_all-append is_first L (entry_of One c.0 c.1 ∷ []) ∙ both_true h (both_true (ap (λ r. rules_number r == 1) (entry_of-rules One c.0 c.1)) refl))
    by_test false e = rw e h

-- a register of version 1 has rules 1 alone
pub legal-first : (W : Who) (L : List Entry) → IsLegal One W L → list_all is_first L ≡ true
legal-first W L l = ap (list_all is_first) l.left ∙ accepted_on-first W (accepted_on One W [] l.first) l.commands (accepted_on-first W [] l.first refl)

-- ---- the way back

abbrev pub rules_of : List Entry → List (Option Rules)
rules_of L = map (λ e. Some e.rules) L

rules_read : (r : Rules) (seq : ℕ) → rules_in (Number seq ∷ Number (rules_number r) ∷ []) ≡ Some r
rules_read One seq = refl
rules_read Two seq = refl

-- rules are read from their rows
pub rules_in-table : (before L : List Entry) → map rules_in (entry_rules_on before L) ≡ rules_of L
rules_in-table before [] = refl
rules_in-table before (e ∷ L) = λ i. rules_read e.rules (length before + 1) i ∷ rules_in-table (before ++ e ∷ []) L i

entries_read : (before L : List Entry) → list_all is_entry L ≡ true → register_in (rules_of L) (entries_on before L) ≡ L
entries_read before [] h = refl
entries_read before (e ∷ L) h =
    let p = both_parts (is_entry e) (list_all is_entry L) h in
    rw (entry_from-entry e p.0, entries_read (before ++ e ∷ []) L p.1) refl

pub first_is : (r : Rules) → (rules_number r == 1) ≡ true → r ≡ One
first_is One h = refl
first_is Two h = absurd (cc)

entries_read_first : (before L : List Entry) → list_all is_entry L ≡ true → list_all is_first L ≡ true → register_in [] (entries_on before L) ≡ L
entries_read_first before [] h k = refl
entries_read_first before (e ∷ L) h k =
    let p = both_parts (is_entry e) (list_all is_entry L) h in
    let q = both_parts (is_first e) (list_all is_first L) k in
    let r : e.rules ≡ One = first_is e.rules q.0 in
    let here : entry_from One (who_text e.who) (mark e) (stamp e.moment) (body_of e.deed) ≡ Some e =
    ap (λ x. entry_from x (who_text e.who) (mark e) (stamp e.moment) (body_of e.deed)) (sym r) ∙ entry_from-entry e p.0 in
    rw (here, entries_read_first (before ++ e ∷ []) L p.1 q.1) refl

-- a register is read from its rows
pub register_in-entry_table : (L : List Entry) → list_all is_entry L ≡ true → register_in (map rules_in (entry_rules_table L)) (entry_table L) ≡ L
register_in-entry_table L h = ap (λ rs. register_in rs (entry_table L)) (rules_in-table [] L) ∙ entries_read [] L h

-- and one of version 1 without rows of rules
pub register_in-first : (L : List Entry) → list_all is_entry L ≡ true → list_all is_first L ≡ true → register_in [] (entry_table L) ≡ L
register_in-first L h k = entries_read_first [] L h k

-- so the rows of the entries and of their rules determine a legal register
pub entry_table-determines : (V W : Who) (L M : List Entry) → IsLegal Two V L → IsLegal Two W M → entry_table L ≡ entry_table M
    → entry_rules_table L ≡ entry_rules_table M → L ≡ M
entry_table-determines V W L M l m e f =
    sym (register_in-entry_table L (legal-entries Two V L l))
    ∙ (λ i. register_in (map rules_in (f i)) (e i))
    ∙ register_in-entry_table M (legal-entries Two W M m)

-- and those of the entries alone one of version 1
pub entry_table-determines_first : (V W : Who) (L M : List Entry) → IsLegal One V L → IsLegal One W M → entry_table L ≡ entry_table M → L ≡ M
entry_table-determines_first V W L M l m e =
    sym (register_in-first L (legal-entries One V L l) (legal-first V L l))
    ∙ ap (register_in []) e
    ∙ register_in-first M (legal-entries One W M m) (legal-first W M m)
