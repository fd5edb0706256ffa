-- What holds of each accepted entry after its depositor's own holds along a legal register, and
-- along a depositor's part of it.
use Rattle.std.proofs.Common.{◌≡◌, ℕ, ◌+◌, Bool, true, false, List, [], ◌∷◌, ◌++◌, length, Option, Some, None, refl, sym, ap, ◌∙◌, subst, append_assoc, append-nil}
use Rattle.std.specs.Prelude.{◌&&◌, ◌==◌, bytes_eq, if◌then◌else◌, Result, Ok, Err}
use Rattle.std.proofs.lemmas.List.Elements.{filter-append}
use Rattle.definitions.specs.declared.rules.Rules.{Rules}
use Rattle.definitions.specs.Moments.{Moment, is_moment}
use Rattle.definitions.specs.Header.{Who, who_eq}
use Rattle.definitions.specs.Events.{Event}
use Rattle.definitions.specs.declared.refusals.Refusal.{Refusal}
use Rattle.definitions.specs.Clerk.{performed}
use Rattle.definitions.specs.Register.{Command, Interchange, Enrol, Clerk, Act, Deed, Enrolled, Received, Performed, Entry, own, ticket_mark, next_number}
use Rattle.definitions.specs.History.{History, history, events}
use Rattle.definitions.specs.Reply.{clerk_entry}
use Rattle.definitions.specs.Decision as known
use Rattle.definitions.specs.Decision.{standing, recalled}
use Rattle.definitions.specs.Accepted.{reply_to, is_accepted, entry_of, after, is_command, IsLegal, Ruled, left_by, each_given}
use Rattle.definitions.proofs.TextLaws.{both_parts, text_is, same_text}
use Rattle.definitions.proofs.HistoryLaws.{history-numbered}
use Rattle.definitions.proofs.DecisionLaws.{reply-by}
use Rattle.definitions.proofs.RisingLaws.{legal-ruled}
use Rattle.rules.specs.Played.{CanFollow}
use Rattle.rules.proofs.Follows.{can_follow, act_refused}

-- Registers.

-- a relation of entries to those of the same depositor before them, along a register
abbrev pub Along : (List Entry → Entry → Type 0) → List Entry → List Entry → Type 0
Along P before [] = Unit {0}
Along P before (e ∷ L) = P (own before e.who) e × Along P (before ++ e ∷ []) L

along_more : (P : List Entry → Entry → Type 0) (before L : List Entry) (e : Entry) → Along P before L → P (own (before ++ L) e.who) e → Along P before (L ++ e ∷ [])
along_more P before [] e f c = (subst (λ (B : List Entry). P (own B e.who) e) (append-nil before) c, tt)
along_more P before (k ∷ L) e f c =
    (f.0, along_more P (before ++ k ∷ []) L e f.1 (subst (λ (B : List Entry). P (own B e.who) e) (sym (append_assoc before (k ∷ []) L)) c))

-- each accepted command makes an entry of this relation
abbrev pub Accepts : Who → (List Entry → Entry → Type 0) → Type 0
Accepts W P = (r : Rules) (L : List Entry) (c : Command) (t : Moment) → is_command r c ≡ true → is_moment t ≡ true → is_accepted (reply_to r W L c t) ≡ true
    → P (own L (entry_of r c t).who) (entry_of r c t)

along_after : (r : Rules) (W : Who) (P : List Entry → Entry → Type 0) → Accepts W P → (L : List Entry) (c : Command × Moment) → (is_command r c.0 && is_moment c.1) ≡ true → Along P [] L → Along P [] (after r W L c)
along_after r W P each L c given f = by_test (is_accepted (reply_to r W L c.0 c.1)) refl
  where
    by_test : (b : Bool) → is_accepted (reply_to r W L c.0 c.1) ≡ b → Along P [] (if b then L ++ entry_of r c.0 c.1 ∷ [] else L)
    by_test true e = let p = both_parts (is_command r c.0) (is_moment c.1) given in along_more P [] L (entry_of r c.0 c.1) f (each r L c.0 c.1 p.0 p.1 e)
    by_test false e = f

along_on : (W : Who) (P : List Entry → Entry → Type 0) → Accepts W P → (L : List Entry) (cs : List Ruled) → each_given cs ≡ true → Along P [] L → Along P [] (left_by W L cs)
along_on W P each L [] given f = f
along_on W P each L (c ∷ cs) given f =
    let p = both_parts (is_command c.0 c.1.0 && is_moment c.1.1) (each_given cs) given in
    along_on W P each (after c.0 W L c.1) cs p.1 (along_after c.0 W P each L c.1 p.0 f)

pub along_legal : (r : Rules) (W : Who) (P : List Entry → Entry → Type 0) (L : List Entry) → Accepts W P → IsLegal r W L → Along P [] L
along_legal r W P L each legal =
    let ruled = legal-ruled r W L legal in
    subst (Along P []) (sym ruled.left) (along_on W P each [] ruled.commands ruled.given tt)

-- Own entries.

pub who_is : (a b : Who) → who_eq a b ≡ true → a ≡ b
who_is a b h =
    let p = both_parts (bytes_eq a.qualifier b.qualifier) (bytes_eq a.id b.id) h in
    let q = text_is a.qualifier b.qualifier p.0 in
    let i = text_is a.id b.id p.1 in
    λ j. record { qualifier = q j; id = i j }

pub same_who : (a : Who) → who_eq a a ≡ true
same_who a = λ i. same_text a.qualifier i && same_text a.id i

-- the own entries of a register with one more
pub own_more : (L : List Entry) (e : Entry) (w : Who) → own (L ++ e ∷ []) w ≡ own L w ++ (if who_eq e.who w then e ∷ [] else [])
own_more L e w = filter-append (λ (x : Entry). who_eq x.who w) L (e ∷ [])

pub own_with : (L : List Entry) (e : Entry) → own (L ++ e ∷ []) e.who ≡ own L e.who ++ e ∷ []
own_with L e = own_more L e e.who ∙ ap (λ (b : Bool). own L e.who ++ (if b then e ∷ [] else [])) (same_who e.who)

pub own_without : (L : List Entry) (e : Entry) (w : Who) → who_eq e.who w ≡ false → own (L ++ e ∷ []) w ≡ own L w
own_without L e w h = own_more L e w ∙ ap (λ (b : Bool). own L w ++ (if b then e ∷ [] else [])) h ∙ append-nil (own L w)

-- a relation of entries to those before them, along a depositor's
abbrev pub Along1 : (List Entry → Entry → Type 0) → List Entry → List Entry → Type 0
Along1 P before [] = Unit {0}
Along1 P before (e ∷ M) = P before e × Along1 P (before ++ e ∷ []) M

along_own : (P : List Entry → Entry → Type 0) (w : Who) (before L : List Entry) → Along P before L → Along1 P (own before w) (own L w)
along_own P w before [] f = tt
along_own P w before (e ∷ L) f = by_test (who_eq e.who w) refl (along_own P w (before ++ e ∷ []) L f.1)
  where
    by_test : (b : Bool) → who_eq e.who w ≡ b → Along1 P (own (before ++ e ∷ []) w) (own L w) → Along1 P (own before w) (if b then e ∷ own L w else own L w)
    by_test true h later =
        let same = who_is e.who w h in
        (subst (λ (v : Who). P (own before v) e) same f.0, subst (λ (B : List Entry). Along1 P B (own L w)) (own_more before e w ∙ ap (λ (b : Bool). own before w ++ (if b then e ∷ [] else [])) h) later)
    by_test false h later = subst (λ (B : List Entry). Along1 P B (own L w)) (own_without before e w h) later

pub own_legal : (r : Rules) (W : Who) (P : List Entry → Entry → Type 0) (L : List Entry) (w : Who) → Accepts W P → IsLegal r W L → Along1 P [] (own L w)
own_legal r W P L w each legal = along_own P w [] L (along_legal r W P L each legal)

pub along_at : (P : List Entry → Entry → Type 0) (before front : List Entry) (e : Entry) (rest : List Entry) → Along1 P before (front ++ e ∷ rest) → P (before ++ front) e
along_at P before [] e rest f = subst (λ (B : List Entry). P B e) (sym (append-nil before)) f.0
along_at P before (k ∷ front) e rest f = subst (λ (B : List Entry). P B e) (append_assoc before (k ∷ []) front) (along_at P (before ++ k ∷ []) front e rest f.1)

-- Each can follow those before it.

pub follows_own : (r : Rules) (W : Who) (L : List Entry) (w : Who) → IsLegal r W L → Along1 CanFollow [] (own L w)
follows_own r W L w legal = own_legal r W CanFollow L w (λ q K c t given now a. can_follow q W K c t given now a) legal

-- Each act was performed.

-- an act that those before it allow
abbrev pub IsDone : List Entry → Deed → Type 0
IsDone M Enrolled = Unit {0}
IsDone M (Received text) = Unit {0}
IsDone M (Performed ticket act) = (event : Event) × (performed (events M) (next_number M) act ≡ Ok event)

told_done : (W : Who) (h : History) (e : Entry) (o : Result Event Refusal) → is_accepted (known.act_told W h e o) ≡ true → (event : Event) × (o ≡ Ok event)
told_done W h e (Ok event) a = (event, refl)
told_done W h e (Err refusal) a = absurd (cc (a))

clerk_done : (r : Rules) (W : Who) (M : List Entry) (k : Option known.Recalled) (w : Who) (ticket : List ℕ) (act : Act) (t : Moment)
    → is_accepted (known.clerk_by r W (standing M) k w ticket act t) ≡ true → (event : Event) × (performed (history M).events ((history M).numbered + 1) act ≡ Ok event)
clerk_done r W M k w ticket act t a = by_test (length M == 0) refl k a
  where
    by_test : (b : Bool) → (length M == 0) ≡ b → (k : Option known.Recalled) → is_accepted (known.clerk_by r W (if b then None else Some (history M)) k w ticket act t) ≡ true
        → (event : Event) × (performed (history M).events ((history M).numbered + 1) act ≡ Ok event)
    by_test true e k g = absurd (cc (g))
    by_test false e (Some k) g = let no = act_refused act k.entry.who k.entry.moment k.entry.deed k.entry.rules k.outgoing in absurd (cc (g, no))
    by_test false e None g = told_done W (history M) (clerk_entry r w ticket act t) (performed (history M).events ((history M).numbered + 1) act) g

done : (W : Who) → Accepts W (λ M e. IsDone M e.deed)
done W r L (Interchange text) t given now a = tt
done W r L (Enrol w) t given now a = tt
done W r L (Clerk w ticket act) t given now a =
    let M = own L w in
    let little : is_accepted (known.clerk_by r W (standing M) (recalled W (ticket_mark ticket) M) w ticket act t) ≡ true = ap is_accepted (sym (reply-by r W M (Clerk w ticket act) t)) ∙ a in
    let found = clerk_done r W M (recalled W (ticket_mark ticket) M) w ticket act t little in
    (found.0, ap (λ n. performed (events M) n act) (sym (history-numbered M)) ∙ found.1)

pub done_own : (r : Rules) (W : Who) (L : List Entry) (w : Who) → IsLegal r W L → Along1 (λ M e. IsDone M e.deed) [] (own L w)
done_own r W L w legal = own_legal r W (λ M e. IsDone M e.deed) L w (done W) legal
