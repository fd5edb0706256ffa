-- Each entry of a legal register can be replayed after those before it.
use Rattle.std.proofs.Common.{◌≡◌, ℕ, ◌+◌, ◌≤◌, Bool, true, false, not, List, [], ◌∷◌, ◌++◌, length, Option, Some, None, refl, sym, ap, ◌∙◌, subst, arith, append_assoc, append-nil}
use Rattle.std.specs.Prelude.{◌&&◌, ◌==◌, nat_lt, is_none, bytes_eq, option_map, Result, Ok, Err, if◌then◌else◌}
use Rattle.std.specs.Cmp.Derive.{both_true}
use borrow.Author.Tests.{ltb-false, eqb-true}
use Rattle.definitions.specs.declared.rules.Rules.{Rules}
use Rattle.definitions.specs.Limits.{most_entries}
use Rattle.definitions.specs.Moments.{Moment, is_moment}
use Rattle.definitions.specs.Header.{Who, is_partner, sender, isa, is_unreadable}
use Rattle.definitions.specs.Lists.{or_else}
use Rattle.definitions.specs.Events.{Event}
use Rattle.definitions.specs.declared.refusals.Refusal.{Refusal}
use Rattle.definitions.specs.declared.refusals.Refusal.TheVariants.{Unreadable, Duplicate, TicketUsed}
use Rattle.definitions.specs.Clerk.{performed}
use Rattle.definitions.specs.Halt.{header_notes, structure_notes, structure_note}
use Rattle.definitions.specs.Register.{Command, Interchange, Enrol, Clerk, Act, Deed, Enrolled, Received, Performed, Entry, own, command_mark, interchange_mark, ticket_mark, canonical, Known, known as find_known}
use Rattle.definitions.specs.History.{History, history}
use Rattle.definitions.specs.Reply.{reply, interchange_entry, clerk_entry, refusal_answer, Reply, Stored, Refused, stored}
use Rattle.definitions.specs.Decision as known
use Rattle.definitions.specs.Decision.{standing, recalled, reply_by}
use Rattle.definitions.specs.Accepted.{depositor_of, own_of, reply_to, is_accepted, entry_of, after, is_command, IsLegal, Ruled, left_by, each_given}
use Rattle.definitions.proofs.TextLaws.{both_parts, same_text}
use Rattle.definitions.proofs.DecisionLaws.{reply-by}
use Rattle.definitions.proofs.RegisterLaws.{accepted_entry, accepted_sender}
use Rattle.definitions.proofs.RisingLaws.{legal-ruled}
use Rattle.envelope.specs.Conditions.{first_note}
use Rattle.envelope.specs.Halting.{first_appended}
use Rattle.rules.specs.Played.{CanFollow}

-- An accepted command's entry, by the history after which it stands.

few_of : (h : History) → nat_lt most_entries (h.numbered + 1) ≡ false → h.numbered + 1 ≤ most_entries
few_of h e = ltb-false most_entries (h.numbered + 1) e

-- what is accepted under the next number has one
pub accepted_few : (W : Who) (h : History) (e : Entry) → is_accepted (known.accepted_by W h e) ≡ true → h.numbered + 1 ≤ most_entries
accepted_few W h e a = by_test (nat_lt most_entries (h.numbered + 1)) refl a
  where
    by_test : (b : Bool) → nat_lt most_entries (h.numbered + 1) ≡ b → is_accepted (known.accepted_by W h e) ≡ true → h.numbered + 1 ≤ most_entries
    by_test true t g = let no : is_accepted (known.accepted_by W h e) ≡ false = rw t refl in absurd (cc)
    by_test false t g = few_of h t

-- what stands before an accepted numbered entry
record IsOpen (o : Option History) : Type 0 where
  history : History
  is : o ≡ Some history
  few : history.numbered + 1 ≤ most_entries

no_note : (W : Who) (text : List ℕ) → known.new_note W text ≡ None → structure_note text ≡ None
no_note W text none = by_header (first_note (header_notes W text)) (sym (first_appended (header_notes W text) (structure_notes text)) ∙ none)
  where
    by_header : (o : Option ℕ) → or_else o (structure_note text) ≡ None → structure_note text ≡ None
    by_header None e = e
    by_header (Some n) e = absurd (cc)

new_open : (r : Rules) (W : Who) (h : History) (text : List ℕ) (t : Moment) (o : Option ℕ) → is_accepted (known.interchange_new r W h text t o) ≡ true
    → (o ≡ None) × (h.numbered + 1 ≤ most_entries)
new_open r W h text t (Some n) a = absurd (cc (a))
new_open r W h text t None a = (refl, accepted_few W h (interchange_entry r text t) a)

again_refused : (W : Who) (text : List ℕ) (t : Moment) (w : Who) (s : Moment) (d : Deed) (q : Rules) (out : List ℕ)
    → is_accepted (known.interchange_again W text t (record { entry = record { who = w; moment = s; deed = d; rules = q }; outgoing = out })) ≡ false
again_refused W text t w s Enrolled q out = refl
again_refused W text t w s (Performed ticket act) q out = refl
again_refused W text t w s (Received bytes) q out = by_test (bytes_eq bytes text)
  where
    by_test : (b : Bool) → is_accepted (if b then Stored out else Refused Duplicate (refusal_answer W text t Duplicate)) ≡ false
    by_test true = refl
    by_test false = refl

known_open : (r : Rules) (W : Who) (h : Option History) (k : Option known.Recalled) (text : List ℕ) (t : Moment) → is_accepted (known.interchange_known r W h k text t) ≡ true
    → (structure_note text ≡ None) × IsOpen h
known_open r W None k text t a = absurd (cc (a))
known_open r W (Some h) (Some k) text t a = let no = again_refused W text t k.entry.who k.entry.moment k.entry.deed k.entry.rules k.outgoing in absurd (cc (a, no))
known_open r W (Some h) None text t a = let o = new_open r W h text t (known.new_note W text) a in (no_note W text o.0, record { history = h; is = refl; few = o.1 })

interchange_open : (r : Rules) (W : Who) (h : Option History) (k : Option known.Recalled) (text : List ℕ) (t : Moment) → is_accepted (known.interchange_by r W h k text t) ≡ true
    → (is_unreadable text ≡ false) × (structure_note text ≡ None) × IsOpen h
interchange_open r W h k text t a = by_test (is_unreadable text) refl a
  where
    by_test : (b : Bool) → is_unreadable text ≡ b → is_accepted (if b then Refused Unreadable [] else known.interchange_known r W h k text t) ≡ true
        → (is_unreadable text ≡ false) × (structure_note text ≡ None) × IsOpen h
    by_test true e g = absurd (cc (g))
    by_test false e g = let o = known_open r W h k text t g in (e, o.0, o.1)

pub act_refused : (act : Act) (w : Who) (s : Moment) (d : Deed) (q : Rules) (out : List ℕ) → is_accepted (known.act_again act (record { entry = record { who = w; moment = s; deed = d; rules = q }; outgoing = out })) ≡ false
act_refused act w s Enrolled q out = refl
act_refused act w s (Received bytes) q out = refl
act_refused act w s (Performed ticket done) q out = by_test (bytes_eq (canonical done) (canonical act))
  where
    by_test : (b : Bool) → is_accepted (if b then Stored out else Refused TicketUsed []) ≡ false
    by_test true = refl
    by_test false = refl

told_open : (W : Who) (h : History) (e : Entry) (o : Result Event Refusal) → is_accepted (known.act_told W h e o) ≡ true → h.numbered + 1 ≤ most_entries
told_open W h e (Ok event) a = accepted_few W h e a
told_open W h e (Err refusal) a = absurd (cc (a))

clerk_open : (r : Rules) (W : Who) (h : Option History) (k : Option known.Recalled) (w : Who) (ticket : List ℕ) (act : Act) (t : Moment) → is_accepted (known.clerk_by r W h k w ticket act t) ≡ true → IsOpen h
clerk_open r W None k w ticket act t a = absurd (cc (a))
clerk_open r W (Some h) (Some k) w ticket act t a = let no = act_refused act k.entry.who k.entry.moment k.entry.deed k.entry.rules k.outgoing in absurd (cc (a, no))
clerk_open r W (Some h) None w ticket act t a =
    record { history = h; is = refl; few = told_open W h (clerk_entry r w ticket act t) (performed h.events (h.numbered + 1) act) a }

enrol_new : (r : Rules) (W : Who) (h : Option History) (k : Option known.Recalled) (w : Who) (t : Moment) → is_accepted (reply_by r W h k (Enrol w) t) ≡ true → h ≡ None
enrol_new r W None k w t a = refl
enrol_new r W (Some h) k w t a = absurd (cc (a))

-- what a depositor's entries come to, by whether there are some

standing_open : (M : List Entry) → IsOpen (standing M) → ((length M == 0) ≡ false) × ((history M).numbered + 1 ≤ most_entries)
standing_open M o = by_test (length M == 0) refl o.is
  where
    by_test : (b : Bool) → (length M == 0) ≡ b → (if b then None else Some (history M)) ≡ Some o.history → ((length M == 0) ≡ false) × ((history M).numbered + 1 ≤ most_entries)
    by_test true e g = absurd (cc (g))
    by_test false e g = let same : history M ≡ o.history = cc (g) in (e, subst (λ (h : History). h.numbered + 1 ≤ most_entries) (sym same) o.few)

standing_new : (M : List Entry) → standing M ≡ None → (length M == 0) ≡ true
standing_new M e = by_test (length M == 0) refl e
  where
    by_test : (b : Bool) → (length M == 0) ≡ b → (if b then None else Some (history M)) ≡ None → b ≡ true
    by_test true f g = refl
    by_test false f g = absurd (cc (g))

-- Commands.

by_little : (r : Rules) (W : Who) (M : List Entry) (c : Command) (t : Moment) → is_accepted (reply r W M c t) ≡ true → is_accepted (reply_by r W (standing M) (recalled W (command_mark c) M) c t) ≡ true
by_little r W M c t a = ap is_accepted (sym (reply-by r W M c t)) ∙ a

pub own_sender : (L : List Entry) (text : List ℕ) → is_unreadable text ≡ false → is_partner (sender text) ≡ true → own_of L (Interchange text) ≡ own L (sender text)
own_sender L text readable partner = rw (readable, partner) refl

pub can_follow : (r : Rules) (W : Who) (L : List Entry) (c : Command) (t : Moment) → is_command r c ≡ true → is_moment t ≡ true → is_accepted (reply_to r W L c t) ≡ true
    → CanFollow (own L (entry_of r c t).who) (entry_of r c t)
can_follow r W L (Interchange text) t given now a =
    let M = own_of L (Interchange text) in
    let o = interchange_open r W (standing M) (recalled W (interchange_mark (isa text 13)) M) text t (by_little r W M (Interchange text) t a) in
    let s = standing_open M o.2 in
    let same = own_sender L text o.0 (accepted_sender r W L text t a) in
    subst (λ (N : List Entry). CanFollow N (interchange_entry r text t)) same
    (record { numbered = ap not (sym s.0); few = s.1; good = accepted_entry r W L (Interchange text) t given now a; clean = both_true (ap not o.0) (ap is_none o.1) })
can_follow r W L (Enrol w) t given now a =
    let M = own L w in
    let new = standing_new M (enrol_new r W (standing M) (recalled W (command_mark (Enrol w)) M) w t (by_little r W M (Enrol w) t a)) in
    record { numbered = ap not (sym new); few = omega arith; good = accepted_entry r W L (Enrol w) t given now a; clean = refl }
can_follow r W L (Clerk w ticket act) t given now a =
    let M = own L w in
    let s = standing_open M (clerk_open r W (standing M) (recalled W (ticket_mark ticket) M) w ticket act t (by_little r W M (Clerk w ticket act) t a)) in
    record { numbered = ap not (sym s.0); few = s.1; good = accepted_entry r W L (Clerk w ticket act) t given now a; clean = refl }

-- Registers: each entry can follow those before it.

abbrev Follow : List Entry → List Entry → Type 0
Follow before [] = Unit {0}
Follow before (e ∷ L) = CanFollow (own before e.who) e × Follow (before ++ e ∷ []) L

follow_more : (before L : List Entry) (e : Entry) → Follow before L → CanFollow (own (before ++ L) e.who) e → Follow before (L ++ e ∷ [])
follow_more before [] e f c = (subst (λ (B : List Entry). CanFollow (own B e.who) e) (append-nil before) c, tt)
follow_more before (k ∷ L) e f c =
    (f.0, follow_more (before ++ k ∷ []) L e f.1 (subst (λ (B : List Entry). CanFollow (own B e.who) e) (sym (append_assoc before (k ∷ []) L)) c))

follow_after : (r : Rules) (W : Who) (L : List Entry) (c : Command × Moment) → (is_command r c.0 && is_moment c.1) ≡ true → Follow [] L → Follow [] (after r W L c)
follow_after r W L c given f = by_test (is_accepted (reply_to r W L c.0 c.1)) refl
  where
    by_test : (b : Bool) → is_accepted (reply_to r W L c.0 c.1) ≡ b → Follow [] (if b then L ++ entry_of r c.0 c.1 ∷ [] else L)
    by_test true e = let p = both_parts (is_command r c.0) (is_moment c.1) given in follow_more [] L (entry_of r c.0 c.1) f (can_follow r W L c.0 c.1 p.0 p.1 e)
    by_test false e = f

follow_on : (W : Who) (L : List Entry) (cs : List Ruled) → each_given cs ≡ true → Follow [] L → Follow [] (left_by W L cs)
follow_on W L [] given f = f
follow_on W L (c ∷ cs) given f =
    let p = both_parts (is_command c.0 c.1.0 && is_moment c.1.1) (each_given cs) given in
    follow_on W (after c.0 W L c.1) cs p.1 (follow_after c.0 W L c.1 p.0 f)

follow_at : (before front : List Entry) (e : Entry) (rest : List Entry) → Follow before (front ++ e ∷ rest) → CanFollow (own (before ++ front) e.who) e
follow_at before [] e rest f = subst (λ (B : List Entry). CanFollow (own B e.who) e) (sym (append-nil before)) f.0
follow_at before (k ∷ front) e rest f = subst (λ (B : List Entry). CanFollow (own B e.who) e) (append_assoc before (k ∷ []) front) (follow_at (before ++ k ∷ []) front e rest f.1)

pub legal_follow : (r : Rules) (W : Who) (L front : List Entry) (e : Entry) (rest : List Entry) → IsLegal r W L → L ≡ front ++ e ∷ rest → CanFollow (own front e.who) e
legal_follow r W L front e rest legal is =
    let ruled = legal-ruled r W L legal in
    follow_at [] front e rest (subst (Follow []) (sym ruled.left ∙ is) (follow_on W [] ruled.commands ruled.given tt))

-- Own entries, and known commands.

pub same_own : (K L : List Entry) (c : Command) → ((d : Who) → depositor_of c ≡ Some d → own K d ≡ own L d) → own_of K c ≡ own_of L c
same_own K L c same = by_depositor (depositor_of c) refl
  where
    by_depositor : (o : Option Who) → depositor_of c ≡ o → own_of K c ≡ own_of L c
    by_depositor None e = rw e refl
    by_depositor (Some d) e = rw e (same d e)

-- who has an entry under a key has a history
stands : (key : List ℕ) (M : List Entry) (k : Known) → find_known key M ≡ Some k → (h : History) × (standing M ≡ Some h)
stands key [] k found = absurd (cc (found))
stands key (e ∷ M) k found = (history (e ∷ M), ap (λ (b : Bool). if b then None else Some (history (e ∷ M))) some)
  where
    some : (length (e ∷ M) == 0) ≡ false
    some = by_test (length (e ∷ M) == 0) refl
      where
        by_test : (b : Bool) → (length (e ∷ M) == 0) ≡ b → b ≡ false
        by_test true same = absurd (omega (arith, eqb-true (length (e ∷ M)) 0 same))
        by_test false same = refl

again_same : (W : Who) (text : List ℕ) (t : Moment) (w : Who) (s : Moment) (d : Deed) (q : Rules) (out : List ℕ) → d ≡ Received text
    → known.interchange_again W text t (record { entry = record { who = w; moment = s; deed = d; rules = q }; outgoing = out }) ≡ Stored out
again_same W text t w s d q out e =
    subst (λ (x : Deed). known.interchange_again W text t (record { entry = record { who = w; moment = s; deed = x; rules = q }; outgoing = out }) ≡ Stored out) (sym e) (rw (same_text text) refl)

act_same : (act : Act) (ticket : List ℕ) (w : Who) (s : Moment) (d : Deed) (q : Rules) (out : List ℕ) → d ≡ Performed ticket act
    → known.act_again act (record { entry = record { who = w; moment = s; deed = d; rules = q }; outgoing = out }) ≡ Stored out
act_same act ticket w s d q out e =
    subst (λ (x : Deed). known.act_again act (record { entry = record { who = w; moment = s; deed = x; rules = q }; outgoing = out }) ≡ Stored out) (sym e) (rw (same_text (canonical act)) refl)

recalled_is : (W : Who) (key : List ℕ) (M : List Entry) (k : Known) → find_known key M ≡ Some k → recalled W key M ≡ Some (record { entry = k.entry; outgoing = stored W k })
recalled_is W key M k found = ap (option_map (λ (x : Known). record { entry = x.entry; outgoing = stored W x })) found

-- the same bytes under a known control number
pub interchange_stored : (r : Rules) (W : Who) (L : List Entry) (text : List ℕ) (t : Moment) (k : Known) → find_known (interchange_mark (isa text 13)) (own_of L (Interchange text)) ≡ Some k
    → k.entry.deed ≡ Received text → reply_to r W L (Interchange text) t ≡ Stored (stored W k)
interchange_stored r W L text t k found deed = by_test (is_unreadable text) refl
  where
    by_test : (b : Bool) → is_unreadable text ≡ b → reply_to r W L (Interchange text) t ≡ Stored (stored W k)
    by_test true e =
        let none : own_of L (Interchange text) ≡ [] = rw e refl in
        let lost : find_known (interchange_mark (isa text 13)) (own_of L (Interchange text)) ≡ None = ap (find_known (interchange_mark (isa text 13))) none in
        absurd (cc (found, lost))
    by_test false e =
        let key = interchange_mark (isa text 13) in
        let M = own_of L (Interchange text) in
        let h = stands key M k found in
        let is = recalled_is W key M k found in
        reply-by r W M (Interchange text) t
        ∙ (λ i. if e i then Refused Unreadable [] else known.interchange_known r W (h.1 i) (is i) text t)
        ∙ again_same W text t k.entry.who k.entry.moment k.entry.deed k.entry.rules (stored W k) deed

-- the same act under a known ticket
pub act_stored : (r : Rules) (W : Who) (L : List Entry) (w : Who) (ticket : List ℕ) (act : Act) (t : Moment) (k : Known) → find_known (ticket_mark ticket) (own L w) ≡ Some k
    → k.entry.deed ≡ Performed ticket act → reply_to r W L (Clerk w ticket act) t ≡ Stored (stored W k)
act_stored r W L w ticket act t k found deed =
    let M = own L w in
    let h = stands (ticket_mark ticket) M k found in
    let is = recalled_is W (ticket_mark ticket) M k found in
    reply-by r W M (Clerk w ticket act) t
    ∙ (λ i. known.clerk_by r W (h.1 i) (is i) w ticket act t)
    ∙ act_same act ticket k.entry.who k.entry.moment k.entry.deed k.entry.rules (stored W k) deed

-- and nothing comes of what is stored
pub nothing_after : (r : Rules) (W : Who) (L : List Entry) (c : Command) (t : Moment) (text : List ℕ) → reply_to r W L c t ≡ Stored text → after r W L (c, t) ≡ L
nothing_after r W L c t text e = ap (λ (answer : Reply). if is_accepted answer then L ++ entry_of r c t ∷ [] else L) e
