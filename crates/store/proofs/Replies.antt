-- Replies and the registers that they leave.
use Rattle.std.proofs.Common.{◌≡◌, ℕ, Bool, true, false, not, ◌&&◌, List, [], ◌∷◌, ◌++◌, length, refl, sym, ap, ◌∙◌, subst, arith, Option, Some, None, option_map, Result, Ok, Err, bytes_eq}
use Rattle.std.specs.Prelude.{◌==◌, if◌then◌else◌}
use Rattle.std.specs.Cmp.Derive.{both_true}
use Rattle.std.proofs.lemmas.List.Folds.{list_all-append}
use Rattle.std.proofs.lemmas.Bool.{eqb-true}
use Rattle.definitions.specs.declared.rules.Rules.{Rules}
use Rattle.definitions.specs.declared.rules.Rules.TheVariants.{One, Two}
use Rattle.definitions.specs.Moments.{Moment, is_moment}
use Rattle.definitions.specs.Header.{Who, is_partner, sender, is_unreadable}
use Rattle.definitions.specs.Register.{Act, Command, Interchange, Enrol, Clerk, Entry, Deed, Enrolled, Received, Performed, Known, known, own, command_mark, ticket_mark, next_number, mark, canonical}
use Rattle.definitions.specs.declared.refusals.Refusal.{Refusal}
use Rattle.definitions.specs.declared.refusals.Refusal.TheVariants.{NumbersUsedUp, AlreadyEnrolled, TicketUsed, UnknownDepositor}
use Rattle.definitions.specs.Halt.{Halt, Refuses, Repeats, halt}
use Rattle.definitions.specs.Clerk.{performed}
use Rattle.definitions.specs.Events.{Event}
use Rattle.definitions.specs.History.{history, events}
use Rattle.definitions.specs.Reply.{Reply, Accepted, Stored, Refused, reply, accepted, accepted_act, out, numbers_used_up, reply_to_halt, interchange_entry, clerk_entry, by_ticket, known_ticket, enrol_reply, stored}
use Rattle.definitions.specs.Accepted.{depositor_of, subject, own_of, reply_to, is_accepted, entry_of, after, accepted_on, replies_on, is_command, IsLegal}
use Rattle.definitions.specs.Decision as meant
use Rattle.definitions.specs.Decision.{recalled, standing, reply_by}
use Rattle.definitions.proofs.DecisionLaws.{reply-by}
use Rattle.rules.specs.Pages.{PageFacts}
use Rattle.rules.specs.Decided.{StandsFor, IsRecalled, IsUnder, IsGiven, entries_of}
use Rattle.rules.specs.Replies.{IsEntry, IsReply, number_later}
use Rattle.rules.specs.Written.{Recalled}
use Rattle.rules.specs.Decision.{Decision}
use Rattle.definitions.specs.History.{History}
use Rattle.store.specs.Held.{IsHeld, IsDecided}
use Rattle.definitions.specs.Need.{need_of}
use Rattle.rules.proofs.Whole.{held_stands}
use Rattle.store.specs.Standing.{IsNext}
use Rattle.definitions.specs.Tables.{number_of}
use Rattle.definitions.proofs.TextLaws.{text_is}
use Rattle.definitions.proofs.RegisterLaws.{of_a_stranger}
use Rattle.definitions.proofs.HistoryLaws.{history-numbered}
use Rattle.definitions.specs.Changes.{LeadOn}
use Rattle.rules.specs.Change.{Change}
use Rattle.rules.specs.Tabled.{table_changes}
use Rattle.rules.specs.Written.{Written, written, written_as}

-- Whose entries a command looks at.

pub owner_none : (L : List Entry) (c : Command) → subject c ≡ None → own_of L c ≡ []
owner_none L c h = by_depositor (depositor_of c) refl h
  where
    by_depositor : (o : Option Who) → depositor_of c ≡ o → subject c ≡ None → own_of L c ≡ []
    by_depositor None e h = rw e refl
    by_depositor (Some w) e h = let k : subject c ≡ Some (w, command_mark c) = rw e refl in absurd (cc)

pub unnamed : (L : List Entry) (c : Command) → depositor_of c ≡ None → own_of L c ≡ []
unnamed L c h = rw h refl

pub none_named : (c : Command) → subject c ≡ None → depositor_of c ≡ None
none_named c h = by_depositor (depositor_of c) refl h
  where
    by_depositor : (o : Option Who) → depositor_of c ≡ o → subject c ≡ None → depositor_of c ≡ None
    by_depositor None e h = e
    by_depositor (Some w) e h = let k : subject c ≡ Some (w, command_mark c) = rw e refl in absurd (cc)

abbrev first_of_some : Option (Who × List ℕ) → Who → Who
first_of_some None d = d
first_of_some (Some p) d = p.0

abbrev second_of_some : Option (Who × List ℕ) → List ℕ
second_of_some None = []
second_of_some (Some p) = p.1

pub owner_some : (L : List Entry) (c : Command) (who : Who) (key : List ℕ) → subject c ≡ Some (who, key) → own_of L c ≡ own L who
owner_some L c who key h = by_depositor (depositor_of c) refl h
  where
    by_depositor : (o : Option Who) → depositor_of c ≡ o → subject c ≡ Some (who, key) → own_of L c ≡ own L who
    by_depositor None e h = let k : subject c ≡ None = rw e refl in absurd (cc)
    by_depositor (Some w) e h =
        let k : subject c ≡ Some (w, command_mark c) = rw e refl in
        let same : w ≡ who = ap (λ o. first_of_some o who) (sym k ∙ h) in
        rw e (ap (own L) same)

pub named_key : (c : Command) (who : Who) (key : List ℕ) → subject c ≡ Some (who, key) → command_mark c ≡ key
named_key c who key h = by_depositor (depositor_of c) refl h
  where
    by_depositor : (o : Option Who) → depositor_of c ≡ o → subject c ≡ Some (who, key) → command_mark c ≡ key
    by_depositor None e h = let k : subject c ≡ None = rw e refl in absurd (cc)
    by_depositor (Some w) e h =
        let k : subject c ≡ Some (w, command_mark c) = rw e refl in
        ap second_of_some (sym k ∙ h)

-- Accepted commands.

-- the depositor of an accepted interchange is its sender
pub accepted_owner : (r : Rules) (W : Who) (L : List Entry) (c : Command) (t : Moment) → is_accepted (reply_to r W L c t) ≡ true → own_of L c ≡ own L (entry_of r c t).who
accepted_owner r W L (Interchange text) t h = by_test (not (is_unreadable text) && is_partner (sender text)) refl
  where
    by_test : (b : Bool) → (not (is_unreadable text) && is_partner (sender text)) ≡ b → own_of L (Interchange text) ≡ own L (sender text)
    by_test true e = rw e refl
    by_test false e =
        let alone : is_accepted (reply_to r W L (Interchange text) t) ≡ false = rw e (of_a_stranger r W text t) in
        absurd (cc)
accepted_owner r W L (Enrol w) t h = refl
accepted_owner r W L (Clerk w ticket act) t h = refl

number_is : (r : Rules) (L : List Entry) (c : Command) (t : Moment) → number_of L (entry_of r c t) ≡ number_later ((history (own L (entry_of r c t).who)).numbered) c
number_is r L (Interchange text) t = sym (history-numbered (own L (sender text)))
number_is r L (Enrol w) t = refl
number_is r L (Clerk w ticket act) t = sym (history-numbered (own L w))

-- the entry of an accepted command as it is written down
pub accepted_entry : (r : Rules) (W : Who) (L : List Entry) (c : Command) (t : Moment) → is_accepted (reply_to r W L c t) ≡ true
    → written_as (number_later ((history (own_of L c)).numbered) c) (entry_of r c t) ≡ written L (entry_of r c t)
accepted_entry r W L c t h =
    ap (λ M. written_as (number_later ((history M).numbered) c) (entry_of r c t)) (accepted_owner r W L c t h)
    ∙ ap (λ n. written_as n (entry_of r c t)) (sym (number_is r L c t))

-- the text of a reply
abbrev text_in : Reply → List ℕ
text_in (Accepted text) = text
text_in (Stored text) = text
text_in (Refused refusal text) = text

accepted_out : (W : Who) (M : List Entry) (e : Entry) (text : List ℕ) → accepted W M e ≡ Accepted text → text ≡ out W M e
accepted_out W M e text h = by_test (numbers_used_up M) refl
  where
    by_test : (b : Bool) → numbers_used_up M ≡ b → text ≡ out W M e
    by_test true u = let k : accepted W M e ≡ Refused NumbersUsedUp [] = rw u refl in absurd (cc)
    by_test false u = let k : accepted W M e ≡ Accepted (out W M e) = rw u refl in ap text_in (sym h ∙ k)

halted_out : (r : Rules) (W : Who) (M : List Entry) (text : List ℕ) (t : Moment) (o : Option Halt) (answer : List ℕ)
    → reply_to_halt r W M text t o ≡ Accepted answer → answer ≡ out W M (interchange_entry r text t)
halted_out r W M text t None answer h = accepted_out W M (interchange_entry r text t) answer h
halted_out r W M text t (Some (Repeats k)) answer h = absurd (cc)
halted_out r W M text t (Some (Refuses refusal)) answer h = absurd (cc)

enrolled_out : (M : List Entry) (text : List ℕ) → enrol_reply M ≡ Accepted text → text ≡ []
enrolled_out M text h = by_test (length M == 0) refl
  where
    by_test : (b : Bool) → (length M == 0) ≡ b → text ≡ []
    by_test true u = let k : enrol_reply M ≡ Accepted [] = rw u refl in ap text_in (sym h ∙ k)
    by_test false u = let k : enrol_reply M ≡ Refused AlreadyEnrolled [] = rw u refl in absurd (cc)

performed_out : (W : Who) (M : List Entry) (e : Entry) (o : Result Event Refusal) (text : List ℕ) → accepted_act W M e o ≡ Accepted text → text ≡ out W M e
performed_out W M e (Ok event) text h = accepted_out W M e text h
performed_out W M e (Err refusal) text h = absurd (cc)

known_out : (W : Who) (act : Act) (before : List Entry) (w : Who) (t : Moment) (d : Deed) (q : Rules) (text : List ℕ)
    → known_ticket W act (record { before = before; entry = record { who = w; moment = t; deed = d; rules = q } }) ≡ Accepted text → ⊥
known_out W act before w t Enrolled q text h = absurd (cc)
known_out W act before w t (Received bytes) q text h = absurd (cc)
known_out W act before w t (Performed ticket done) q text h = by_test (bytes_eq (canonical done) (canonical act)) refl
  where
    by_test : (b : Bool) → bytes_eq (canonical done) (canonical act) ≡ b → ⊥
    by_test true u =
        let k : known_ticket W act (record { before = before; entry = record { who = w; moment = t; deed = Performed ticket done; rules = q } })
        ≡ Stored (stored W (record { before = before; entry = record { who = w; moment = t; deed = Performed ticket done; rules = q } })) = rw u refl in absurd (cc)
    by_test false u =
        let k : known_ticket W act (record { before = before; entry = record { who = w; moment = t; deed = Performed ticket done; rules = q } }) ≡ Refused TicketUsed [] = rw u refl in absurd (cc)

ticket_out : (r : Rules) (W : Who) (M : List Entry) (w : Who) (ticket : List ℕ) (act : Act) (t : Moment) (o : Option Known) (text : List ℕ)
    → by_ticket r W M w ticket act t o ≡ Accepted text → text ≡ out W M (clerk_entry r w ticket act t)
ticket_out r W M w ticket act t (Some k) text h = absurd (known_out W act k.before k.entry.who k.entry.moment k.entry.deed k.entry.rules text h)
ticket_out r W M w ticket act t None text h = performed_out W M (clerk_entry r w ticket act t) (performed (events M) (next_number M) act) text h

-- the answer to an accepted command is what goes out for its entry
pub accepted_text : (r : Rules) (W : Who) (M : List Entry) (c : Command) (t : Moment) (text : List ℕ) → reply r W M c t ≡ Accepted text → text ≡ out W M (entry_of r c t)
accepted_text r W M (Interchange bytes) t text h = halted_out r W M bytes t (halt W M bytes) text h
accepted_text r W M (Enrol w) t text h = enrolled_out M text h
accepted_text r W M (Clerk w ticket act) t text h = by_test (length M == 0) refl
  where
    by_test : (b : Bool) → (length M == 0) ≡ b → text ≡ out W M (clerk_entry r w ticket act t)
    by_test true u = let k : reply r W M (Clerk w ticket act) t ≡ Refused UnknownDepositor [] = rw u refl in absurd (cc)
    by_test false u =
        let k : reply r W M (Clerk w ticket act) t ≡ by_ticket r W M w ticket act t (known (ticket_mark ticket) M) = rw u refl in
        ticket_out r W M w ticket act t (known (ticket_mark ticket) M) text (sym k ∙ h)

-- Registers.

pub after_accepted : (r : Rules) (W : Who) (L : List Entry) (c : Command) (t : Moment) → is_accepted (reply_to r W L c t) ≡ true → after r W L (c, t) ≡ L ++ entry_of r c t ∷ []
after_accepted r W L c t h = rw h refl

pub after_other : (r : Rules) (W : Who) (L : List Entry) (c : Command) (t : Moment) → is_accepted (reply_to r W L c t) ≡ false → after r W L (c, t) ≡ L
after_other r W L c t h = rw h refl

pub accepted_on-more : (r : Rules) (W : Who) (L : List Entry) (cs : List (Command × Moment)) (c : Command × Moment)
    → accepted_on r W L (cs ++ c ∷ []) ≡ after r W (accepted_on r W L cs) c
accepted_on-more r W L [] c = refl
accepted_on-more r W L (d ∷ cs) c = accepted_on-more r W (after r W L d) cs c

pub replies_on-more : (r : Rules) (W : Who) (L : List Entry) (cs : List (Command × Moment)) (c : Command × Moment)
    → replies_on r W L (cs ++ c ∷ []) ≡ replies_on r W L cs ++ reply_to r W (accepted_on r W L cs) c.0 c.1 ∷ []
replies_on-more r W L [] c = refl
replies_on-more r W L (d ∷ cs) c = ap (λ rs. reply_to r W L d.0 d.1 ∷ rs) (replies_on-more r W (after r W L d) cs c)

-- a register stays legal
pub legal_after : (r : Rules) (W : Who) (L : List Entry) (c : Command) (t : Moment) → (is_command r c && is_moment t) ≡ true → IsLegal r W L → IsLegal r W (after r W L (c, t))
legal_after r W L c t given l = record {
  first = l.first;
  commands = l.commands ++ (c, t) ∷ [];
  of_a_partner = l.of_a_partner;
  first_given = l.first_given;
  given =
      list_all-append (λ (d : Command × Moment). is_command r d.0 && is_moment d.1) l.commands ((c, t) ∷ [])
      ∙ both_true l.given (both_true given refl);
  left = ap (λ (M : List Entry). after r W M (c, t)) l.left ∙ sym (accepted_on-more r W (accepted_on One W [] l.first) l.commands (c, t));
}

-- What is recalled under a key is known under it.

abbrev IsFound : List ℕ → Option Known → Type 0
IsFound key None = Unit {0}
IsFound key (Some k) = mark k.entry ≡ key

found_later : (key : List ℕ) (e : Entry) (o : Option Known) → IsFound key o → IsFound key (option_map (λ (k : Known). record { before = e ∷ k.before; entry = k.entry }) o)
found_later key e None h = tt
found_later key e (Some k) h = h

found : (key : List ℕ) (M : List Entry) → IsFound key (known key M)
found key [] = tt
found key (e ∷ M) = by_test (bytes_eq (mark e) key) refl (found key M)
  where
    by_test : (b : Bool) → bytes_eq (mark e) key ≡ b → IsFound key (known key M) → IsFound key (known key (e ∷ M))
    by_test true h later = rw h (text_is (mark e) key h)
    by_test false h later = rw h (found_later key e (known key M) later)

recalled_found : (W : Who) (key : List ℕ) (o : Option Known) → IsFound key o → IsUnder key (option_map (λ (k : Known). record { entry = k.entry; outgoing = stored W k }) o)
recalled_found W key None h = tt
recalled_found W key (Some k) h = h

pub recalled_under : (W : Who) (key : List ℕ) (M : List Entry) → IsUnder key (recalled W key M)
recalled_under W key M = recalled_found W key (known key M) (found key M)

-- The decision that a page and what is recalled lead to.

pub stands_from : (c : Command) (b : Option PageFacts) (o : Option History) → IsHeld (need_of c) b o → StandsFor c b o
stands_from c None None h = tt
stands_from c None (Some x) h = h
stands_from c (Some p) None h = h
stands_from c (Some p) (Some x) h = held_stands c p x h

-- the history of a depositor that has none is empty
numbers_none : (M : List Entry) → (length M == 0) ≡ true → 0 ≡ (history M).numbered
numbers_none [] h = refl
numbers_none (e ∷ M) h = absurd (omega (arith, eqb-true (length (e ∷ M)) 0 h))

numbered_by : (c : Command) (b : Option PageFacts) (M : List Entry) (l : Bool) → (length M == 0) ≡ l → StandsFor c b (if l then None else Some (history M)) → entries_of b ≡ (history M).numbered
numbered_by c None M true e h = numbers_none M e
numbered_by c None M false e h = absurd h
numbered_by c (Some p) M true e h = absurd h
numbered_by c (Some p) M false e h = h.1.part.entries ∙ h.2.entries

numbered_is : (c : Command) (b : Option PageFacts) (M : List Entry) → StandsFor c b (standing M) → entries_of b ≡ (history M).numbered
numbered_is c b M h = numbered_by c b M (length M == 0) refl h

pub decided : (r : Rules) (W : Who) (L : List Entry) (c : Command) (t : Moment) (d : Decision) (b : Option PageFacts) (k : Option Recalled)
    → IsHeld (need_of c) b (standing (own_of L c)) → IsRecalled k (recalled W (command_mark c) (own_of L c))
    → ((h : Option History) (o : Option meant.Recalled) → IsGiven b k c h o → IsReply r (entries_of b) c t (reply_by r W h o c t) d)
    → IsDecided r W L c t d
decided r W L c t d b k page there decides =
    let M = own_of L c in
    let stands = stands_from c b (standing M) page in
    let given : IsGiven b k c (standing M) (recalled W (command_mark c) M) = record {
      page = stands;
      known = there;
      under = recalled_under W (command_mark c) M;
      stranger = λ none. ap standing (unnamed L c none);
    } in
    let replied = decides (standing M) (recalled W (command_mark c) M) given in
    subst (λ n. IsReply r n c t (reply_to r W L c t) d) (numbered_is c b M stands)
    (subst (λ a. IsReply r (entries_of b) c t a d) (sym (reply-by r W M c t)) replied)

-- what is recalled under a key is an entry of somebody who stands
standing_of_known : (W : Who) (key : List ℕ) (M : List Entry) (k : meant.Recalled) → recalled W key M ≡ Some k → standing M ≡ Some (history M)
standing_of_known W key [] k is = absurd (cc (is))
standing_of_known W key (e ∷ M) k is = ap (λ (b : Bool). if b then None else Some (history (e ∷ M))) (by (length (e ∷ M) == 0) refl)
  where
    by : (b : Bool) → (length (e ∷ M) == 0) ≡ b → b ≡ false
    by true same = absurd (omega (arith, eqb-true (length (e ∷ M)) 0 same))
    by false same = refl

-- a decision on what is known, that looks at no page
pub decided_again : (r : Rules) (W : Who) (L : List Entry) (c : Command) (t : Moment) (d : Decision) (known : Recalled)
    → IsRecalled (Some known) (recalled W (command_mark c) (own_of L c))
    → ((n : ℕ) (h : History) (k : meant.Recalled) → IsEntry known k → mark k.entry ≡ command_mark c
    → IsReply r n c t (reply_by r W (Some h) (Some k) c t) d)
    → IsDecided r W L c t d
decided_again r W L c t d known there decides =
    by (recalled W (command_mark c) (own_of L c)) refl there (recalled_under W (command_mark c) (own_of L c))
  where
    by : (o : Option meant.Recalled) → recalled W (command_mark c) (own_of L c) ≡ o → IsRecalled (Some known) o
        → IsUnder (command_mark c) o → IsDecided r W L c t d
    by None is none under = absurd none
    by (Some k) is entry under =
        let M = own_of L c in
        let replied = decides ((history M).numbered) (history M) k entry under in
        let stands = standing_of_known W (command_mark c) M k is in
        subst (λ a. IsReply r ((history M).numbered) c t a d)
        (sym (ap (λ h. reply_by r W h (Some k) c t) stands) ∙ sym (ap (λ o. reply_by r W (standing M) o c t) is) ∙ sym (reply-by r W M c t)) replied

-- nothing is known where nothing is recalled
pub recalled_none : (o : Option meant.Recalled) → IsRecalled None o → o ≡ None
recalled_none None h = refl
recalled_none (Some k) h = absurd h

-- what is recalled of the same entries, under the same key, in the same house
pub recalled_at : {V W : Who} {k key : List ℕ} {M N : List Entry} (found : Option Recalled) → V ≡ W → key ≡ k → N ≡ M
    → IsRecalled found (recalled V k M) → IsRecalled found (recalled W key N)
recalled_at {V} {W} {k} {key} {M} {N} found house same whose h =
    subst (λ X. IsRecalled found (recalled X key N)) house
    (subst (λ x. IsRecalled found (recalled V x N)) (sym same) (subst (λ X. IsRecalled found (recalled V k X)) (sym whose) h))

-- What is appended for an accepted command.

accepted_is : (r : Rules) (W : Who) (L : List Entry) (c : Command) (t : Moment) (text : List ℕ) → reply_to r W L c t ≡ Accepted text → is_accepted (reply_to r W L c t) ≡ true
accepted_is r W L c t text h = ap is_accepted h

pub next_is : (r : Rules) (W : Who) (L : List Entry) (c : Command) (t : Moment) (row : Written) (changes : List Change) (text : List ℕ)
    → IsLegal Two W L → IsLegal Two W (after r W L (c, t))
    → reply_to r W L c t ≡ Accepted text → row ≡ written_as (number_later ((history (own_of L c)).numbered) c) (entry_of r c t)
    → ((v : Rules) → IsLegal v W L → IsLegal v W (L ++ entry_of r c t ∷ []) → LeadOn v W L (entry_of r c t) (table_changes (entry_of r c t).who changes))
    → IsNext W L (entry_of r c t) row changes text
next_is r W L c t row changes text legal later accepts is leads =
    let taken = accepted_is r W L c t text accepts in
    let back : IsLegal Two W (L ++ entry_of r c t ∷ []) = subst (IsLegal Two W) (after_accepted r W L c t taken) later in
    record {
      entry = is ∙ accepted_entry r W L c t taken;
      legal = back;
      leads = leads Two legal back;
      outgoing = accepted_text r W (own_of L c) c t text accepts ∙ ap (λ M. out W M (entry_of r c t)) (accepted_owner r W L c t taken);
    }

-- the register after a command that was answered so
pub later_accepted : (r : Rules) (W : Who) (L : List Entry) (c : Command) (t : Moment) (text : List ℕ) → reply_to r W L c t ≡ Accepted text → L ++ entry_of r c t ∷ [] ≡ after r W L (c, t)
later_accepted r W L c t text h = sym (after_accepted r W L c t (accepted_is r W L c t text h))

pub later_stored : (r : Rules) (W : Who) (L : List Entry) (c : Command) (t : Moment) (text : List ℕ) → reply_to r W L c t ≡ Stored text → L ≡ after r W L (c, t)
later_stored r W L c t text h = sym (after_other r W L c t (ap is_accepted h))

pub later_refused : (r : Rules) (W : Who) (L : List Entry) (c : Command) (t : Moment) (refusal : Refusal) (text : List ℕ) → reply_to r W L c t ≡ Refused refusal text → L ≡ after r W L (c, t)
later_refused r W L c t refusal text h = sym (after_other r W L c t (ap is_accepted h))

pub next_at : {V W : Who} {L : List Entry} {e : Entry} {row : Written} {changes given : List Change} {text said : List ℕ} → V ≡ W → changes ≡ given → text ≡ said
    → IsNext V L e row changes text → IsNext W L e row given said
next_at {V} {W} {L} {e} {row} {changes} {given} {text} {said} house same_changes same h =
    subst (λ X. IsNext X L e row given said) house (subst (λ cs. IsNext V L e row cs said) same_changes (subst (λ x. IsNext V L e row changes x) same h))
