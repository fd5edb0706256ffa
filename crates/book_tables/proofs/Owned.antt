-- A depositor's own entries: they are a legal register by themselves, and the rows of `entry` that
-- name the depositor are theirs.
use Rattle.std.proofs.Common.{◌≡◌, ℕ, Bool, true, false, not, ◌&&◌, List, [], ◌∷◌, ◌++◌, map, filter, drop, bytes_eq, refl, sym, ap, ◌∙◌, subst, inl, inr, Some}
use Rattle.std.specs.Prelude.{if◌then◌else◌}
use Rattle.std.specs.List.{list_all}
use Rattle.std.proofs.lemmas.Bool.{cases_Bool}
use Rattle.definitions.specs.declared.rules.Rules.{Rules}
use Rattle.definitions.specs.declared.rules.Rules.TheVariants.{One, Two}
use Rattle.definitions.specs.Moments.{Moment, is_moment, stamp}
use Rattle.definitions.specs.Header.{Who, is_partner, who_eq, who_of, who_text, sender, is_unreadable}
use Rattle.definitions.specs.Register.{Command, Interchange, Enrol, Clerk, Entry, own, is_numbered, next_number}
use Rattle.definitions.specs.Readings.{is_entry}
use Rattle.definitions.specs.Accepted.{own_of, reply_to, is_accepted, entry_of, after, accepted_on, is_command, can_be_given, IsLegal}
use Rattle.definitions.specs.Reply.{reply}
use Rattle.definitions.specs.Tables.{Number, Text, Blob, TableRow, entry_row, entries_on}
use Rattle.definitions.proofs.TextLaws.{both_parts, same_text, text_is}
use Rattle.definitions.proofs.ReadingLaws.{who_of-who_text}
use Rattle.rules.specs.Written.{Written, written, written_as}
use Rattle.rules.proofs.Registers.{who_is, same_who, own_more, own_without}
use Rattle.rules.proofs.Depositors.{partner_of}
use Rattle.rules.proofs.Keys.{all_filter}
use Rattle.store.specs.Replayed.{written_on, all_written}

-- Taking the own entries.

-- a list that begins with an element or without it
with_first : {X : Type 0} (p : X → Bool) (x : X) (xs : List X) (b : Bool) → p x ≡ b → filter p (x ∷ xs) ≡ (if b then x ∷ filter p xs else filter p xs)
with_first p x xs b h = ap (λ (v : Bool). if v then x ∷ filter p xs else filter p xs) h

pub own_own : (L : List Entry) (who : Who) → own (own L who) who ≡ own L who
own_own [] who = refl
own_own (e ∷ L) who = by (who_eq e.who who) refl (own_own L who)
  where
    by : (b : Bool) → who_eq e.who who ≡ b → own (own L who) who ≡ own L who → own (if b then e ∷ own L who else own L who) who ≡ (if b then e ∷ own L who else own L who)
    by true h later = with_first (λ (x : Entry). who_eq x.who who) e (own L who) true h ∙ ap (λ (M : List Entry). e ∷ M) later
    by false h later = later

-- an entry is written down after its depositor's own as after all
written_own : (before : List Entry) (e : Entry) (who : Who) → who_eq e.who who ≡ true → written before e ≡ written (own before who) e
written_own before e who h =
    let same : own before e.who ≡ own (own before who) e.who = subst (λ (v : Who). own before v ≡ own (own before who) v) (sym (who_is e.who who h)) (sym (own_own before who)) in
    ap (λ (M : List Entry). written_as (if is_numbered e then next_number M else 0) e) same

own_written_on : (before L : List Entry) (who : Who) → filter (λ (w : Written). who_eq w.who who) (written_on before L) ≡ written_on (own before who) (own L who)
own_written_on before [] who = refl
own_written_on before (e ∷ L) who = by (who_eq e.who who) refl (own_written_on (before ++ e ∷ []) L who)
  where
    by : (b : Bool) → who_eq e.who who ≡ b → filter (λ (w : Written). who_eq w.who who) (written_on (before ++ e ∷ []) L) ≡ written_on (own (before ++ e ∷ []) who) (own L who)
        → (if b then written before e ∷ filter (λ (w : Written). who_eq w.who who) (written_on (before ++ e ∷ []) L) else filter (λ (w : Written). who_eq w.who who) (written_on (before ++ e ∷ []) L))
        ≡ written_on (own before who) (if b then e ∷ own L who else own L who)
    by true h later =
        let grown : own (before ++ e ∷ []) who ≡ own before who ++ e ∷ [] = own_more before e who ∙ ap (λ (v : Bool). own before who ++ (if v then e ∷ [] else [])) h in
        (λ i. written_own before e who h i ∷ later i) ∙ ap (λ (B : List Entry). written (own before who) e ∷ written_on B (own L who)) grown
    by false h later = later ∙ ap (λ (B : List Entry). written_on B (own L who)) (own_without before e who h)

-- the entries of a depositor that are written down are its own, with the numbers that they have
-- among all
pub own_written : (L : List Entry) (who : Who) → filter (λ (w : Written). who_eq w.who who) (all_written L) ≡ all_written (own L who)
own_written L who = own_written_on [] L who

-- Depositors are apart.

module _ (r : Rules) where
  -- the commands whose entries are the depositor's
  abbrev names : Who → Command × Moment → Bool
  names who c = who_eq (entry_of r c.0 c.1).who who

  of_depositor : (L : List Entry) (v who : Who) → who_eq v who ≡ true → own (own L who) v ≡ own L v
  of_depositor L v who h = subst (λ (u : Who). own (own L who) u ≡ own L u) (sym (who_is v who h)) (own_own L who)

  -- a command looks at the depositor's own entries alone
  looks_same : (L : List Entry) (c : Command) (t : Moment) (who : Who) → who_eq (entry_of r c t).who who ≡ true → own_of (own L who) c ≡ own_of L c
  looks_same L (Interchange text) t who h = by (not (is_unreadable text) && is_partner (sender text)) refl
    where
      by : (b : Bool) → (not (is_unreadable text) && is_partner (sender text)) ≡ b → own_of (own L who) (Interchange text) ≡ own_of L (Interchange text)
      by true e = rw e (of_depositor L (sender text) who h)
      by false e = rw e refl
  looks_same L (Enrol w) t who h = of_depositor L w who h
  looks_same L (Clerk w ticket act) t who h = of_depositor L w who h

  own_after : (W : Who) (L : List Entry) (who : Who) (c : Command × Moment) → own (after r W L c) who ≡ (if names who c then after r W (own L who) c else own L who)
  own_after W L who c = by (names who c) refl
    where
      e : Entry
      e = entry_of r c.0 c.1

      grown : (b : Bool) → names who c ≡ true → own (if b then L ++ e ∷ [] else L) who ≡ (if b then own L who ++ e ∷ [] else own L who)
      grown true h = own_more L e who ∙ ap (λ (v : Bool). own L who ++ (if v then e ∷ [] else [])) h
      grown false h = refl

      stays : (b : Bool) → names who c ≡ false → own (if b then L ++ e ∷ [] else L) who ≡ own L who
      stays true h = own_without L e who h
      stays false h = refl

      by : (b : Bool) → names who c ≡ b → own (after r W L c) who ≡ (if b then after r W (own L who) c else own L who)
      by true h =
          grown (is_accepted (reply_to r W L c.0 c.1)) h
          ∙ ap (λ (M : List Entry). if is_accepted (reply r W M c.0 c.1) then own L who ++ e ∷ [] else own L who) (sym (looks_same L c.0 c.1 who h))
      by false h = stays (is_accepted (reply_to r W L c.0 c.1)) h

  own_accepted : (W : Who) (L : List Entry) (who : Who) (cs : List (Command × Moment)) → own (accepted_on r W L cs) who ≡ accepted_on r W (own L who) (filter (names who) cs)
  own_accepted W L who [] = refl
  own_accepted W L who (c ∷ cs) =
      own_accepted W (after r W L c) who cs ∙ ap (λ (M : List Entry). accepted_on r W M (filter (names who) cs)) (own_after W L who c) ∙ by (names who c)
    where
      by : (b : Bool) → accepted_on r W (if b then after r W (own L who) c else own L who) (filter (names who) cs) ≡ accepted_on r W (own L who) (if b then c ∷ filter (names who) cs else filter (names who) cs)
      by true = refl
      by false = refl

  own_given : (who : Who) (cs : List (Command × Moment)) → can_be_given r cs ≡ true → can_be_given r (filter (names who) cs) ≡ true
  own_given who cs h = all_filter (λ (c : Command × Moment). is_command r c.0 && is_moment c.1) (names who) cs h

-- the own entries of a legal register are one: what the depositor's commands alone leave
pub own_legal : (W : Who) (L : List Entry) (who : Who) → IsLegal Two W L → IsLegal Two W (own L who)
own_legal W L who legal = record {
  first = filter (names One who) legal.first;
  commands = filter (names Two who) legal.commands;
  of_a_partner = legal.of_a_partner;
  first_given = own_given One who legal.first legal.first_given;
  given = own_given Two who legal.commands legal.given;
  left =
      ap (λ (M : List Entry). own M who) legal.left ∙ own_accepted Two W (accepted_on One W [] legal.first) who legal.commands
      ∙ ap (λ (M : List Entry). accepted_on Two W M (filter (names Two who) legal.commands)) (own_accepted One W [] who legal.first);
}

-- Rows of `entry`.

-- a row of the depositor with this text
abbrev pub is_entry_of : List ℕ → TableRow → Bool
is_entry_of t (seq ∷ Text s ∷ cells) = bytes_eq s t
is_entry_of t row = false

-- its cells after `seq` and `who`
abbrev pub written_cells : Written → TableRow
written_cells w = Text w.key ∷ Number w.n ∷ Text (stamp w.moment) ∷ Blob w.body ∷ []

-- partners are told apart by their texts
pub same_partner : (v w : Who) → is_partner v ≡ true → is_partner w ≡ true → who_text v ≡ who_text w → v ≡ w
same_partner v w p q e = let s : Some v ≡ Some w = sym (who_of-who_text v p) ∙ ap who_of e ∙ who_of-who_text w q in cc (s)

pub told_apart : (v w : Who) → is_partner v ≡ true → is_partner w ≡ true → bytes_eq (who_text v) (who_text w) ≡ who_eq v w
told_apart v w p q = elim (cases_Bool (bytes_eq (who_text v) (who_text w))) [
  | inl e ↦ e ∙ sym (ap (who_eq v) (sym (same_partner v w p q (text_is (who_text v) (who_text w) e))) ∙ same_who v)
  | inr e ↦ elim (cases_Bool (who_eq v w)) [
    | inl f ↦ let g : bytes_eq (who_text v) (who_text w) ≡ true = ap (λ (u : Who). bytes_eq (who_text v) (who_text u)) (sym (who_is v w f)) ∙ same_text (who_text v) in absurd (cc (e, g))
    | inr f ↦ e ∙ sym f
  ]
]

rows_told : (before L : List Entry) (who : Who) → list_all is_entry L ≡ true → is_partner who ≡ true
    → map (drop 2) (filter (is_entry_of (who_text who)) (entries_on before L)) ≡ map written_cells (filter (λ (w : Written). who_eq w.who who) (written_on before L))
rows_told before [] who good partner = refl
rows_told before (e ∷ L) who good partner =
    let a = both_parts (is_entry e) (list_all is_entry L) good in
    ap (λ (b : Bool). map (drop 2) (if b then entry_row before e ∷ rest else rest)) (told_apart e.who who (partner_of e a.0) partner)
    ∙ by (who_eq e.who who) (rows_told (before ++ e ∷ []) L who a.1 partner)
  where
    rest : List TableRow
    rest = filter (is_entry_of (who_text who)) (entries_on (before ++ e ∷ []) L)

    ws : List Written
    ws = filter (λ (w : Written). who_eq w.who who) (written_on (before ++ e ∷ []) L)

    by : (b : Bool) → map (drop 2) rest ≡ map written_cells ws → map (drop 2) (if b then entry_row before e ∷ rest else rest) ≡ map written_cells (if b then written before e ∷ ws else ws)
    by true later = ap (λ (rs : List TableRow). written_cells (written before e) ∷ rs) later
    by false later = later
