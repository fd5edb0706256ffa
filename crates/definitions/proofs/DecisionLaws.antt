-- The reply to a command looks only at a depositor's history and the entry that its mark recalls.
use Rattle.std.proofs.Common.{◌≡◌, ℕ, Bool, true, false, List, [], ◌∷◌, ◌++◌, refl, sym, ap, ◌∙◌, Option, Some, None, length, map, option_map, is_some, Result, Ok, Err, bytes_eq}
use Rattle.std.specs.Prelude.{◌==◌, nat_lt, if◌then◌else◌}
use Rattle.definitions.specs.Limits.{most_entries}
use Rattle.definitions.specs.Lists.{first_of}
use Rattle.definitions.specs.declared.rules.Rules.{Rules}
use Rattle.definitions.specs.Moments.{Moment}
use Rattle.definitions.specs.Header.{Who, isa, is_unreadable}
use Rattle.definitions.specs.Register.{Act, Command, Interchange, Enrol, Clerk, Deed, Enrolled, Received, Performed, Entry, interchange_mark, ticket_mark, command_mark, known, Known, next_number}
use Rattle.definitions.specs.Refusals.{Refusal, Note, NumbersUsedUp}
use Rattle.definitions.specs.Halt.{Refuses, halt_known, header_notes, structure_notes}
use Rattle.definitions.specs.History.{history, events}
use Rattle.definitions.specs.Reply.{Accepted, Refused, reply, reply_to_halt, interchange_reply, clerk_reply, by_ticket, enrol_reply, interchange_entry, clerk_entry, accepted, accepted_act, out_at, out, stored, new_ticket, known_ticket}
use Rattle.definitions.specs.Decision.{recalled, standing, out_by, accepted_by, interchange_again, interchange_new, interchange_known, interchange_by, new_note, act_told, act_again, act_new, clerk_by, reply_by}
use Rattle.definitions.specs.Events.{Event}
use Rattle.definitions.specs.Clerk.{performed}
use Rattle.definitions.proofs.HistoryLaws.{history-numbered}

-- an entry's outgoing text is a function of the history before it
pub out-by : (W : Who) (M : List Entry) (e : Entry) → out W M e ≡ out_by W (history M) e
out-by W M e = ap (λ n. out_at W (events M) n e) (sym (history-numbered M))

pub accepted-by : (W : Who) (M : List Entry) (e : Entry) → accepted W M e ≡ accepted_by W (history M) e
accepted-by W M e = ap (λ n. if nat_lt most_entries n then Refused NumbersUsedUp [] else Accepted (out_at W (events M) n e)) (sym (history-numbered M))

act-told : (W : Who) (M : List Entry) (e : Entry) (o : Result Event Refusal) → accepted_act W M e o ≡ act_told W (history M) e o
act-told W M e (Ok event) = accepted-by W M e
act-told W M e (Err r) = refl

act-new : (W : Who) (M : List Entry) (e : Entry) (act : Act) → new_ticket W M e act ≡ act_new W (history M) e act
act-new W M e act =
    act-told W M e (performed (events M) (next_number M) act)
    ∙ ap (λ n. act_told W (history M) e (performed (events M) n act)) (sym (history-numbered M))

act-again : (W : Who) (act : Act) (before : List Entry) (w : Who) (t : Moment) (d : Deed) (q : Rules)
    → known_ticket W act (record { before = before; entry = record { who = w; moment = t; deed = d; rules = q } })
    ≡ act_again act (record { entry = record { who = w; moment = t; deed = d; rules = q }; outgoing = out W before (record { who = w; moment = t; deed = d; rules = q }) })
act-again W act before w t Enrolled q = refl
act-again W act before w t (Received text) q = refl
act-again W act before w t (Performed ticket done) q = refl

clerk-known : (r : Rules) (W : Who) (M : List Entry) (w : Who) (ticket : List ℕ) (act : Act) (t : Moment) (o : Option Known)
    → by_ticket r W M w ticket act t o ≡ clerk_by r W (Some (history M)) (option_map (λ (k : Known). record { entry = k.entry; outgoing = stored W k }) o) w ticket act t
clerk-known r W M w ticket act t (Some k) = act-again W act k.before k.entry.who k.entry.moment k.entry.deed k.entry.rules
clerk-known r W M w ticket act t None = act-new W M (clerk_entry r w ticket act t) act

-- the notes as halts
notes : (xs : List (Bool × ℕ)) → first_of None (map (λ (p : Bool × ℕ). (p.0, Some (Refuses (Note p.1)))) xs)
    ≡ option_map (λ n. Refuses (Note n)) (first_of None (map (λ (p : Bool × ℕ). (p.0, Some p.1)) xs))
notes [] = refl
notes (x ∷ xs) = by_test x.0 refl (notes xs)
  where
    by_test : (b : Bool) → x.0 ≡ b
        → first_of None (map (λ (p : Bool × ℕ). (p.0, Some (Refuses (Note p.1)))) xs) ≡ option_map (λ n. Refuses (Note n)) (first_of None (map (λ (p : Bool × ℕ). (p.0, Some p.1)) xs))
        → first_of None (map (λ (p : Bool × ℕ). (p.0, Some (Refuses (Note p.1)))) (x ∷ xs)) ≡ option_map (λ n. Refuses (Note n)) (first_of None (map (λ (p : Bool × ℕ). (p.0, Some p.1)) (x ∷ xs)))
    by_test true e h = rw e refl
    by_test false e h = rw e h

noted : (r : Rules) (W : Who) (M : List Entry) (text : List ℕ) (t : Moment) (o : Option ℕ)
    → reply_to_halt r W M text t (option_map (λ n. Refuses (Note n)) o) ≡ interchange_new r W (history M) text t o
noted r W M text t (Some note) = refl
noted r W M text t None = accepted-by W M (interchange_entry r text t)

again : (r : Rules) (W : Who) (M : List Entry) (text : List ℕ) (t : Moment) (before : List Entry) (w : Who) (s : Moment) (d : Deed) (q : Rules)
    → reply_to_halt r W M text t (Some (halt_known text (record { before = before; entry = record { who = w; moment = s; deed = d; rules = q } })))
    ≡ interchange_again W text t (record { entry = record { who = w; moment = s; deed = d; rules = q }; outgoing = out W before (record { who = w; moment = s; deed = d; rules = q }) })
again r W M text t before w s Enrolled q = refl
again r W M text t before w s (Received bytes) q = by_test (bytes_eq bytes text) refl
  where
    by_test : (b : Bool) → bytes_eq bytes text ≡ b
        → reply_to_halt r W M text t (Some (halt_known text (record { before = before; entry = record { who = w; moment = s; deed = Received bytes; rules = q } })))
        ≡ interchange_again W text t (record { entry = record { who = w; moment = s; deed = Received bytes; rules = q }; outgoing = out W before (record { who = w; moment = s; deed = Received bytes; rules = q }) })
    by_test true e = rw e refl
    by_test false e = rw e refl
again r W M text t before w s (Performed ticket act) q = refl

by_known : (r : Rules) (W : Who) (M : List Entry) (text : List ℕ) (t : Moment) (o : Option Known)
    → reply_to_halt r W M text t (if is_some o then option_map (halt_known text) o else first_of None (map (λ (p : Bool × ℕ). (p.0, Some (Refuses (Note p.1)))) (header_notes W text ++ structure_notes text)))
    ≡ interchange_known r W (Some (history M)) (option_map (λ (k : Known). record { entry = k.entry; outgoing = stored W k }) o) text t
by_known r W M text t (Some k) = again r W M text t k.before k.entry.who k.entry.moment k.entry.deed k.entry.rules
by_known r W M text t None = ap (reply_to_halt r W M text t) (notes (header_notes W text ++ structure_notes text)) ∙ noted r W M text t (new_note W text)

interchange-by : (r : Rules) (W : Who) (M : List Entry) (text : List ℕ) (t : Moment) (u l : Bool) → is_unreadable text ≡ u → (length M == 0) ≡ l
    → interchange_reply r W M text t ≡ interchange_by r W (standing M) (recalled W (interchange_mark (isa text 13)) M) text t
interchange-by r W M text t true l e f = rw e refl
interchange-by r W M text t false true e f = rw (e, f) refl
interchange-by r W M text t false false e f = rw (e, f) (by_known r W M text t (known (interchange_mark (isa text 13)) M))

enrol-by : (r : Rules) (W : Who) (M : List Entry) (w : Who) (t : Moment) (l : Bool) → (length M == 0) ≡ l
    → enrol_reply M ≡ reply_by r W (standing M) (recalled W (command_mark (Enrol w)) M) (Enrol w) t
enrol-by r W M w t true f = rw f refl
enrol-by r W M w t false f = rw f refl

clerk-by : (r : Rules) (W : Who) (M : List Entry) (w : Who) (ticket : List ℕ) (act : Act) (t : Moment) (l : Bool) → (length M == 0) ≡ l
    → clerk_reply r W M w ticket act t ≡ clerk_by r W (standing M) (recalled W (ticket_mark ticket) M) w ticket act t
clerk-by r W M w ticket act t true f = rw f refl
clerk-by r W M w ticket act t false f = rw f (clerk-known r W M w ticket act t (known (ticket_mark ticket) M))

-- the reply is decided by the history and the recalled entry
pub reply-by : (r : Rules) (W : Who) (M : List Entry) (c : Command) (t : Moment) → reply r W M c t ≡ reply_by r W (standing M) (recalled W (command_mark c) M) c t
reply-by r W M (Interchange text) t = interchange-by r W M text t (is_unreadable text) (length M == 0) refl refl
reply-by r W M (Enrol w) t = enrol-by r W M w t (length M == 0) refl
reply-by r W M (Clerk w ticket act) t = clerk-by r W M w ticket act t (length M == 0) refl
