-- An accepted command that is given again, however much later, is answered by the text that went
-- out for it.
use Rattle.std.proofs.Common.{◌≡◌, ℕ, suc, inl, inr, arith, ne_eqb, Bool, true, false, List, [], ◌∷◌, ◌++◌, length, refl, sym, ap, ◌∙◌, Option, Some, None, option_map, bytes_eq, append_assoc, append-nil}
use Rattle.std.specs.Prelude.{◌==◌}
use Rattle.std.specs.Cmp.Derive.{both_true}
use Rattle.std.proofs.lemmas.Bool.{cases_Bool}
use Rattle.std.proofs.lemmas.List.Elements.{filter-append}
use Rattle.definitions.specs.declared.rules.Rules.{Rules}
use Rattle.definitions.specs.Moments.{Moment}
use Rattle.definitions.specs.Header.{Who, who_eq, is_unreadable}
use Rattle.definitions.specs.Register.{Command, Interchange, Enrol, Clerk, Entry, Known, known, own, mark, command_mark, canonical}
use Rattle.definitions.specs.History.{history}
use Rattle.definitions.specs.Reply.{Accepted, Stored, reply, stored, out}
use Rattle.definitions.specs.Decision.{standing, recalled}
use Rattle.definitions.specs.Accepted.{own_of, reply_to, is_accepted, entry_of, after, accepted_on}
use Rattle.definitions.proofs.DecisionLaws.{reply-by}
use Rattle.definitions.proofs.TextLaws.{same_text}
use Rattle.store.specs.Again.{is_enrolment}
use Rattle.store.proofs.Repeats.{owner_in, key_is, known_told}
use Rattle.store.proofs.Replies.{after_accepted, accepted_text}

-- a register only grows
pub grows : (r : Rules) (W : Who) (L : List Entry) (cs : List (Command × Moment)) → (Y : List Entry) × (accepted_on r W L cs ≡ L ++ Y)
grows r W L [] = ([], sym (append-nil L))
grows r W L (c ∷ cs) = elim (cases_Bool (is_accepted (reply_to r W L c.0 c.1))) [
  | inl e ↦ (
      let more = grows r W (L ++ entry_of r c.0 c.1 ∷ []) cs in
      (entry_of r c.0 c.1 ∷ more.0, rw e (more.1 ∙ append_assoc L (entry_of r c.0 c.1 ∷ []) more.0)))
  | inr e ↦ (let more = grows r W L cs in (more.0, rw e more.1))
]

unmapped : (x : Entry) (o : Option Known) → option_map {U = Known} (λ (k : Known). record { before = x ∷ k.before; entry = k.entry }) o ≡ None → o ≡ None
unmapped x None h = refl
unmapped x (Some k) h = absurd cc

-- the first entry under a key is found, with what stands before it
known_here : (key : List ℕ) (M : List Entry) (e : Entry) (X : List Entry) → known key M ≡ None → bytes_eq (mark e) key ≡ true
    → known key (M ++ e ∷ X) ≡ Some (record { before = M; entry = e })
known_here key [] e X none h = rw h refl
known_here key (x ∷ M) e X none h = elim (cases_Bool (bytes_eq (mark x) key)) [
  | inl t ↦ (let k : known key (x ∷ M) ≡ Some (record { before = []; entry = x }) = rw t refl in absurd (cc))
  | inr t ↦ (
      let k : known key (x ∷ M) ≡ option_map {U = Known} (λ (k : Known). record { before = x ∷ k.before; entry = k.entry }) (known key M) = rw t refl in
      let rest : known key M ≡ None = unmapped x (known key M) (sym k ∙ none) in
      rw (t, known_here key M e X rest h) refl)
]

not_none : (n : ℕ) → (suc n == 0) ≡ false
not_none n = ne_eqb (suc n) 0 (λ h. omega (arith, h))

some_in : (M : List Entry) (e : Entry) (X : List Entry) → (length (M ++ e ∷ X) == 0) ≡ false
some_in [] e X = not_none (length X)
some_in (x ∷ M) e X = not_none (length (M ++ e ∷ X))

-- no entry under its key stood there when a command was accepted
none_known : (r : Rules) (W : Who) (M : List Entry) (c : Command) (t : Moment) → is_accepted (reply r W M c t) ≡ true → known (command_mark c) M ≡ None
none_known r W M c t h = by_known (known (command_mark c) M) refl
  where
    nonempty : (N : List Entry) (k : Known) → known (command_mark c) N ≡ Some k → standing N ≡ Some (history N)
    nonempty [] k e = absurd (cc)
    nonempty (x ∷ N) k e = rw (not_none (length N)) refl

    by_known : (o : Option Known) → known (command_mark c) M ≡ o → o ≡ None
    by_known None e = refl
    by_known (Some k) e =
        let found : recalled W (command_mark c) M ≡ Some (record { entry = k.entry; outgoing = stored W k }) =
        ap (λ (o : Option Known). option_map (λ (k : Known). record { entry = k.entry; outgoing = stored W k }) o) e in
        let never : is_accepted (reply r W M c t) ≡ false = ap is_accepted (reply-by r W M c t ∙ rw (nonempty M k e, found) refl)
        ∙ known_told r W (history M) (record { entry = k.entry; outgoing = stored W k }) c t in
        absurd (let both : ◌≡◌ {A = Bool} true false = sym h ∙ never in cc)

readable : (r : Rules) (W : Who) (L : List Entry) (text : List ℕ) (t : Moment) → is_accepted (reply_to r W L (Interchange text) t) ≡ true → is_unreadable text ≡ false
readable r W L text t h = by_test (is_unreadable text) refl
  where
    by_test : (b : Bool) → is_unreadable text ≡ b → b ≡ false
    by_test true e = let never : is_accepted (reply_to r W L (Interchange text) t) ≡ false = rw e refl in absurd (let both : ◌≡◌ {A = Bool} true false = sym h ∙ never in cc)
    by_test false e = refl

-- what is answered where the command's own entry is the one under its key
told_again : (r : Rules) (W : Who) (L M N : List Entry) (c : Command) (t s : Moment) → is_enrolment c ≡ false → is_accepted (reply_to r W L c t) ≡ true → (length N == 0) ≡ false
    → known (command_mark c) N ≡ Some (record { before = M; entry = entry_of r c t }) → reply r W N c s ≡ Stored (out W M (entry_of r c t))
told_again r W L M N (Interchange text) t s not_one h some it = rw (readable r W L text t h, some, it, same_text text) refl
told_again r W L M N (Enrol w) t s not_one h some it = absurd (cc)
told_again r W L M N (Clerk w ticket act) t s not_one h some it = rw (some, it, same_text (canonical act)) refl

pub stored_again : (r : Rules) (W : Who) (L : List Entry) (c : Command) (t : Moment) (text : List ℕ) → is_enrolment c ≡ false → reply_to r W L c t ≡ Accepted text
    → (cs : List (Command × Moment)) (s : Moment) → reply_to r W (accepted_on r W (after r W L (c, t)) cs) c s ≡ Stored text
stored_again r W L c t text not_one h cs s =
    let e = entry_of r c t in
    let yes : is_accepted (reply_to r W L c t) ≡ true = ap is_accepted h in
    let M = own L e.who in
    let more = grows r W (L ++ e ∷ []) cs in
    let N = accepted_on r W (after r W L (c, t)) cs in
    let grown : N ≡ (L ++ e ∷ []) ++ more.0 = ap (λ (K : List Entry). accepted_on r W K cs) (after_accepted r W L c t yes) ∙ more.1 in
    let itself : who_eq e.who e.who ≡ true = both_true (same_text e.who.qualifier) (same_text e.who.id) in
    let own_is : own ((L ++ e ∷ []) ++ more.0) e.who ≡ M ++ e ∷ own more.0 e.who = ap (λ (K : List Entry). own K e.who) (append_assoc L (e ∷ []) more.0)
    ∙ filter-append (λ (x : Entry). who_eq x.who e.who) L (e ∷ more.0) ∙ rw itself refl in
    let whose : own_of N c ≡ M ++ e ∷ own more.0 e.who = owner_in r W L c t yes N ∙ ap (λ (K : List Entry). own K e.who) grown ∙ own_is in
    let was : own_of L c ≡ M = owner_in r W L c t yes L in
    let none : known (command_mark c) M ≡ None = none_known r W M c t (ap (λ (K : List Entry). is_accepted (reply r W K c t)) (sym was) ∙ yes) in
    let it = known_here (command_mark c) M e (own more.0 e.who) none (key_is r c t) in
    let says : text ≡ out W M e = accepted_text r W M c t text (ap (λ (K : List Entry). reply r W K c t) (sym was) ∙ h) in
    ap (λ (K : List Entry). reply r W K c s) whose
    ∙ told_again r W L M (M ++ e ∷ own more.0 e.who) c t s not_one yes (some_in M e (own more.0 e.who)) it
    ∙ ap Stored (sym says)
