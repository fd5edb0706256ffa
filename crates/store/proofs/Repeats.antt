-- A command that was accepted is accepted no more.
use Rattle.std.proofs.Common.{◌≡◌, ℕ, Bool, true, false, List, [], ◌∷◌, ◌++◌, refl, sym, ap, ◌∙◌, Option, Some, option_map, bytes_eq}
use Rattle.std.specs.Prelude.{◌&&◌, not}
use Rattle.std.specs.Cmp.Derive.{both_true}
use Rattle.definitions.specs.declared.rules.Rules.{Rules}
use Rattle.definitions.specs.Moments.{Moment}
use Rattle.definitions.specs.Header.{Who, who_eq, isa, is_unreadable, is_partner, sender}
use Rattle.definitions.specs.Register.{interchange_mark, ticket_mark, Act, Command, Interchange, Enrol, Clerk, Entry, Deed, Enrolled, Received, Performed, Known, known, own, mark, command_mark, canonical}
use Rattle.definitions.specs.History.{History, history}
use Rattle.definitions.specs.Reply.{reply, stored}
use Rattle.definitions.specs.Decision as decided
use Rattle.definitions.specs.Decision.{standing, recalled, reply_by}
use Rattle.definitions.specs.Accepted.{own_of, reply_to, is_accepted, entry_of, after}
use Rattle.definitions.proofs.DecisionLaws.{reply-by}
use Rattle.definitions.proofs.TextLaws.{same_text}
use Rattle.definitions.proofs.RegisterLaws.{of_a_stranger}
use Rattle.store.proofs.Entries.{own_same, some_more}
use Rattle.store.proofs.Replies.{after_accepted, after_other}

-- an entry is found under its key, or one before it is
found_again : (key : List ℕ) (M : List Entry) (e : Entry) → bytes_eq (mark e) key ≡ true → (k : Known) × (known key (M ++ e ∷ []) ≡ Some k)
found_again key [] e h = (record { before = []; entry = e }, rw h refl)
found_again key (x ∷ M) e h = by_test (bytes_eq (mark x) key) refl (found_again key M e h)
  where
    by_test : (b : Bool) → bytes_eq (mark x) key ≡ b → (k : Known) × (known key (M ++ e ∷ []) ≡ Some k) → (k : Known) × (known key (x ∷ (M ++ e ∷ [])) ≡ Some k)
    by_test true t later = (record { before = []; entry = x }, rw t refl)
    by_test false t later = (record { before = x ∷ later.0.before; entry = later.0.entry }, rw (t, later.1) refl)

interchange_told : (W : Who) (text : List ℕ) (t : Moment) (w : Who) (s : Moment) (d : Deed) (q : Rules) (out : List ℕ)
    → is_accepted (decided.interchange_again W text t (record { entry = record { who = w; moment = s; deed = d; rules = q }; outgoing = out })) ≡ false
interchange_told W text t w s Enrolled q out = refl
interchange_told W text t w s (Performed ticket act) q out = refl
interchange_told W text t w s (Received bytes) q out = by_test (bytes_eq bytes text) refl
  where
    by_test : (b : Bool) → bytes_eq bytes text ≡ b
        → is_accepted (decided.interchange_again W text t (record { entry = record { who = w; moment = s; deed = Received bytes; rules = q }; outgoing = out })) ≡ false
    by_test true e = rw e refl
    by_test false e = rw e refl

act_told : (act : Act) (w : Who) (s : Moment) (d : Deed) (q : Rules) (out : List ℕ)
    → is_accepted (decided.act_again act (record { entry = record { who = w; moment = s; deed = d; rules = q }; outgoing = out })) ≡ false
act_told act w s Enrolled q out = refl
act_told act w s (Received bytes) q out = refl
act_told act w s (Performed ticket done) q out = by_test (bytes_eq (canonical done) (canonical act)) refl
  where
    by_test : (b : Bool) → bytes_eq (canonical done) (canonical act) ≡ b
        → is_accepted (decided.act_again act (record { entry = record { who = w; moment = s; deed = Performed ticket done; rules = q }; outgoing = out })) ≡ false
    by_test true e = rw e refl
    by_test false e = rw e refl

-- no command is accepted of a depositor that has an entry under its key
pub known_told : (r : Rules) (W : Who) (h : History) (k : decided.Recalled) (c : Command) (t : Moment) → is_accepted (reply_by r W (Some h) (Some k) c t) ≡ false
known_told r W h k (Interchange text) t = by_test (is_unreadable text) refl
  where
    by_test : (b : Bool) → is_unreadable text ≡ b → is_accepted (reply_by r W (Some h) (Some k) (Interchange text) t) ≡ false
    by_test true e = rw e refl
    by_test false e = rw e (interchange_told W text t k.entry.who k.entry.moment k.entry.deed k.entry.rules k.outgoing)
known_told r W h k (Enrol w) t = refl
known_told r W h k (Clerk w ticket act) t = act_told act k.entry.who k.entry.moment k.entry.deed k.entry.rules k.outgoing

stands_some : (M : List Entry) (e : Entry) → standing (M ++ e ∷ []) ≡ Some (history (M ++ e ∷ []))
stands_some M e = rw (some_more M e) refl

recalled_some : (W : Who) (key : List ℕ) (M : List Entry) (e : Entry) → bytes_eq (mark e) key ≡ true → (k : decided.Recalled) × (recalled W key (M ++ e ∷ []) ≡ Some k)
recalled_some W key M e h =
    let f = found_again key M e h in (
      record { entry = f.0.entry; outgoing = stored W f.0 },
      ap (λ (o : Option Known). option_map (λ (k : Known). record { entry = k.entry; outgoing = stored W k }) o) f.1,
    )

pub key_is : (r : Rules) (c : Command) (t : Moment) → bytes_eq (mark (entry_of r c t)) (command_mark c) ≡ true
key_is r (Interchange text) t = same_text (interchange_mark (isa text 13))
key_is r (Enrol w) t = same_text (command_mark (Enrol w))
key_is r (Clerk w ticket act) t = same_text (ticket_mark ticket)

-- whose entries an accepted command looks at, in any register
pub owner_in : (r : Rules) (W : Who) (L : List Entry) (c : Command) (t : Moment) → is_accepted (reply_to r W L c t) ≡ true → (N : List Entry) → own_of N c ≡ own N (entry_of r c t).who
owner_in r W L (Interchange text) t h N = by_test (not (is_unreadable text) && is_partner (sender text)) refl
  where
    by_test : (b : Bool) → (not (is_unreadable text) && is_partner (sender text)) ≡ b → own_of N (Interchange text) ≡ own N (sender text)
    by_test true e = rw e refl
    by_test false e =
        let alone : is_accepted (reply_to r W L (Interchange text) t) ≡ false = rw e (of_a_stranger r W text t) in
        absurd (cc)
owner_in r W L (Enrol w) t h N = refl
owner_in r W L (Clerk w ticket act) t h N = refl

not_again : (r : Rules) (W : Who) (N M : List Entry) (c : Command) (e : Entry) (s : Moment) → own_of N c ≡ M ++ e ∷ [] → bytes_eq (mark e) (command_mark c) ≡ true
    → is_accepted (reply_to r W N c s) ≡ false
not_again r W N M c e s whose key =
    let found = recalled_some W (command_mark c) M e key in
    ap (λ (K : List Entry). is_accepted (reply r W K c s)) whose
    ∙ ap is_accepted (reply-by r W (M ++ e ∷ []) c s)
    ∙ ap (λ (o : Option History). is_accepted (reply_by r W o (recalled W (command_mark c) (M ++ e ∷ [])) c s)) (stands_some M e)
    ∙ ap (λ (o : Option decided.Recalled). is_accepted (reply_by r W (Some (history (M ++ e ∷ []))) o c s)) found.1
    ∙ known_told r W (history (M ++ e ∷ [])) found.0 c s

-- so an accepted command that is given again leaves the register as it was
pub nothing_again : (r : Rules) (W : Who) (L : List Entry) (c : Command) (t s : Moment) → is_accepted (reply_to r W L c t) ≡ true → after r W (after r W L (c, t)) (c, s) ≡ after r W L (c, t)
nothing_again r W L c t s h =
    let e = entry_of r c t in
    let who_eq_itself : who_eq e.who e.who ≡ true = both_true (same_text e.who.qualifier) (same_text e.who.id) in
    let whose : own_of (L ++ e ∷ []) c ≡ own L e.who ++ e ∷ [] = owner_in r W L c t h (L ++ e ∷ []) ∙ own_same L e e.who who_eq_itself in
    let grown = after_accepted r W L c t h in
    let kept : after r W (L ++ e ∷ []) (c, s) ≡ L ++ e ∷ [] = after_other r W (L ++ e ∷ []) c s (not_again r W (L ++ e ∷ []) (own L e.who) c e s whose (key_is r c t)) in
    ap (λ (K : List Entry). after r W K (c, s)) grown ∙ kept ∙ sym grown
