-- The depositors of a legal register in their order, and where one of them stands.
use Rattle.std.proofs.Common.{◌≡◌, ℕ, Bool, true, false, not, cond, List, [], ◌∷◌, ◌++◌, length, refl, sym, ap, ◌∙◌, subst, inl, inr, arith, Option, Some, None, append-nil}
use Rattle.std.specs.Prelude.{find, bytes_eq, option_to_list, ◌==◌, if◌then◌else◌}
use Rattle.std.specs.List.{list_all}
use borrow.Author.Tests.{eqb-true}
use Rattle.std.proofs.lemmas.Slice.Eq.{bytes_eq-Decides}
use Rattle.definitions.specs.declared.rules.Rules.{Rules}
use Rattle.definitions.specs.Bytes.{comes_before}
use Rattle.definitions.specs.Lists.{placed, in_order, or_else}
use Rattle.definitions.specs.Moments.{Moment}
use Rattle.definitions.specs.Header.{Who, is_partner, who_text, who_of, who_eq}
use Rattle.definitions.specs.Register.{Deed, Enrolled, Received, Performed, Entry, is_numbered, own}
use Rattle.definitions.specs.Readings.{is_entry}
use Rattle.definitions.specs.Accepted.{IsLegal}
use Rattle.definitions.specs.Tables.{depositors}
use Rattle.definitions.proofs.TextLaws.{both_parts}
use Rattle.definitions.proofs.ReadingLaws.{who_of-who_text}
use Rattle.definitions.proofs.RegisterLaws.{legal-entries}
use Rattle.stock.specs.Keyed.{put_by, rises_by}
use Rattle.stock.proofs.Orders.{Has}
use Rattle.stock.proofs.Keys.{IsTest, find_put, put_rises}
use Rattle.stock.proofs.KeyLemmas.{texts_strict}
use Rattle.rules.specs.Played.{CanFollow}
use Rattle.rules.proofs.Registers.{Along1, follows_own, who_is, same_who}
use Rattle.set_effects.proofs.KeyedLists.{last_found, order_rises, find_ordered, same_found}
use Rattle.set_effects.proofs.Blocks.{IsSplit, split}

-- Who enrolled.

abbrev with_enrolled : Who → Deed → List Who → List Who
with_enrolled w Enrolled ws = w ∷ ws
with_enrolled w (Received text) ws = ws
with_enrolled w (Performed ticket act) ws = ws

abbrev enrolled_in : List Entry → List Who
enrolled_in [] = []
enrolled_in (e ∷ L) = with_enrolled e.who e.deed (enrolled_in L)

abbrev who_before : Who → Who → Bool
who_before a b = comes_before (who_text a) (who_text b)

depositors_with : (w : Who) (t : Moment) (d : Deed) (q : Rules) (L : List Entry) → depositors L ≡ in_order who_before (enrolled_in L)
    → depositors (record { who = w; moment = t; deed = d; rules = q } ∷ L) ≡ in_order who_before (with_enrolled w d (enrolled_in L))
depositors_with w t Enrolled q L h = ap (placed who_before w) h
depositors_with w t (Received text) q L h = h
depositors_with w t (Performed ticket act) q L h = h

depositors_are : (L : List Entry) → depositors L ≡ in_order who_before (enrolled_in L)
depositors_are [] = refl
depositors_are (e ∷ L) = depositors_with e.who e.moment e.deed e.rules L (depositors_are L)

enrolled_more : (L : List Entry) (e : Entry) → enrolled_in (L ++ e ∷ []) ≡ enrolled_in L ++ with_enrolled e.who e.deed []
enrolled_more [] e = refl
enrolled_more (k ∷ L) e = ap (with_enrolled k.who k.deed) (enrolled_more L e) ∙ by k.deed
  where
    by : (d : Deed) → with_enrolled k.who d (enrolled_in L ++ with_enrolled e.who e.deed []) ≡ with_enrolled k.who d (enrolled_in L) ++ with_enrolled e.who e.deed []
    by Enrolled = refl
    by (Received text) = refl
    by (Performed ticket act) = refl

-- Partners are told apart by their texts.

abbrev AllPartners : List Who → Type 0
AllPartners [] = Unit {0}
AllPartners (w ∷ ws) = (is_partner w ≡ true) × AllPartners ws

pub partner_of : (e : Entry) → is_entry e ≡ true → is_partner e.who ≡ true
partner_of e h = (both_parts _ _ ((both_parts _ _ h).0)).0

enrolled_partners : (L : List Entry) → list_all is_entry L ≡ true → AllPartners (enrolled_in L)
enrolled_partners [] h = tt
enrolled_partners (e ∷ L) h = let p = both_parts (is_entry e) (list_all is_entry L) h in by e.deed (partner_of e p.0) (enrolled_partners L p.1)
  where
    by : (d : Deed) → is_partner e.who ≡ true → AllPartners (enrolled_in L) → AllPartners (with_enrolled e.who d (enrolled_in L))
    by Enrolled a b = (a, b)
    by (Received text) a b = b
    by (Performed ticket act) a b = b

same_partner : (v w : Who) → is_partner v ≡ true → is_partner w ≡ true → who_text v ≡ who_text w → v ≡ w
same_partner v w p q e = let s : Some v ≡ Some w = sym (who_of-who_text v p) ∙ ap who_of e ∙ who_of-who_text w q in cc (s)

-- The depositor's own test.

abbrev pub is_called : List ℕ → Who → Bool
is_called t v = bytes_eq (who_text v) t

pub called_test : (t : List ℕ) → IsTest who_text t (is_called t)
called_test t = record { says = λ v h. (bytes_eq-Decides (who_text v) t).0 h; said = λ v e. (bytes_eq-Decides (who_text v) t).1 e }

abbrev called : List ℕ → Who → Option Who
called t v = cond (is_called t v) (Some v) None

-- the last that is called so is among them
last_has : (t : List ℕ) (ws : List Who) (v : Who) → AllPartners ws → last_found (called t) ws ≡ Some v → Has v ws × (who_text v ≡ t) × (is_partner v ≡ true)
last_has t [] v p h = absurd (cc (h))
last_has t (w ∷ ws) v p h = by (last_found (called t) ws) refl h (λ e. last_has t ws v p.1 e)
  where
    here : (b : Bool) → is_called t w ≡ b → cond b (Some w) None ≡ Some v → Has v (w ∷ ws) × (who_text v ≡ t) × (is_partner v ≡ true)
    here true e g = let same : w ≡ v = cc (g) in (inl (sym same), ap who_text (sym same) ∙ (called_test t).says w e, ap is_partner (sym same) ∙ p.0)
    here false e g = absurd (cc (g))

    by : (o : Option Who) → last_found (called t) ws ≡ o → or_else o (called t w) ≡ Some v
        → (last_found (called t) ws ≡ Some v → Has v ws × (who_text v ≡ t) × (is_partner v ≡ true)) → Has v (w ∷ ws) × (who_text v ≡ t) × (is_partner v ≡ true)
    by None e g later = here (is_called t w) refl g
    by (Some u) e g later = let f = later (e ∙ g) in (inr f.0, f.1, f.2)

last_some : (t : List ℕ) (w : Who) (ws : List Who) → who_text w ≡ t → Has w ws → (v : Who) × (last_found (called t) ws ≡ Some v)
last_some t w [] e h = absurd h
last_some t w (x ∷ ws) e h = by (last_found (called t) ws) refl (λ has. last_some t w ws e has)
  where
    by : (o : Option Who) → last_found (called t) ws ≡ o → (Has w ws → (v : Who) × (last_found (called t) ws ≡ Some v)) → (v : Who) × (or_else o (called t x) ≡ Some v)
    by (Some u) f later = (u, refl)
    by None f later = elim h [
      | inl a ↦ (x, ap (λ (b : Bool). cond b (Some x) None) ((called_test t).said x (ap who_text (sym a) ∙ e)))
      | inr b ↦ let g = later b in absurd (cc (f, g.1))
    ]

find_called : (L : List Entry) (t : List ℕ) → find (is_called t) (depositors L) ≡ last_found (called t) (enrolled_in L)
find_called L t = ap (find (is_called t)) (depositors_are L) ∙ find_ordered comes_before texts_strict who_text t (is_called t) (called_test t) (enrolled_in L)

pub depositors_rise : (L : List Entry) → rises_by comes_before who_text (depositors L) ≡ true
depositors_rise L = ap (rises_by comes_before who_text) (depositors_are L) ∙ order_rises comes_before texts_strict who_text (enrolled_in L)

-- one who enrolled is found
found_enrolled : (r : Rules) (W : Who) (L : List Entry) (w : Who) → IsLegal r W L → is_partner w ≡ true → Has w (enrolled_in L) → find (is_called (who_text w)) (depositors L) ≡ Some w
found_enrolled r W L w legal partner has =
    let good = enrolled_partners L (legal-entries r W L legal) in
    let some = last_some (who_text w) w (enrolled_in L) refl has in
    let f = last_has (who_text w) (enrolled_in L) some.0 good some.1 in
    find_called L (who_text w) ∙ some.1 ∙ ap Some (same_partner some.0 w f.2 partner f.1)

found_stranger : (r : Rules) (W : Who) (L : List Entry) (w : Who) → IsLegal r W L → is_partner w ≡ true → (Has w (enrolled_in L) → ⊥) → find (is_called (who_text w)) (depositors L) ≡ None
found_stranger r W L w legal partner lacks = find_called L (who_text w) ∙ by (last_found (called (who_text w)) (enrolled_in L)) refl
  where
    by : (o : Option Who) → last_found (called (who_text w)) (enrolled_in L) ≡ o → o ≡ None
    by None e = refl
    by (Some v) e =
        let f = last_has (who_text w) (enrolled_in L) v (enrolled_partners L (legal-entries r W L legal)) e in
        absurd (lacks (subst (λ (u : Who). Has u (enrolled_in L)) (same_partner v w f.2 partner f.1) f.0))

-- Who has entries enrolled, and who hasn't didn't.

further : (w : Who) (v : Who) (d : Deed) (ws : List Who) → Has w ws → Has w (with_enrolled v d ws)
further w v Enrolled ws h = inr h
further w v (Received text) ws h = h
further w v (Performed ticket act) ws h = h

enrols : (L : List Entry) (w : Who) (e : Entry) (M : List Entry) → own L w ≡ e ∷ M → e.deed ≡ Enrolled → Has w (enrolled_in L)
enrols [] w e M is d = absurd (cc (is))
enrols (k ∷ L) w e M is d = by (who_eq k.who w) refl is (λ g. enrols L w e M g d)
  where
    by : (b : Bool) → who_eq k.who w ≡ b → (if b then k ∷ own L w else own L w) ≡ e ∷ M → (own L w ≡ e ∷ M → Has w (enrolled_in L)) → Has w (with_enrolled k.who k.deed (enrolled_in L))
    by true h g later =
        let same : k ≡ e = cc (g) in
        let deed : k.deed ≡ Enrolled = ap (λ (x : Entry). x.deed) same ∙ d in
        subst (λ (x : Deed). Has w (with_enrolled k.who x (enrolled_in L))) (sym deed) (inl (sym (who_is k.who w h)))
    by false h g later = further w k.who k.deed (enrolled_in L) (later g)

has_entries : (L : List Entry) (w : Who) → Has w (enrolled_in L) → own L w ≡ [] → ⊥
has_entries [] w h is = h
has_entries (k ∷ L) w h is = by (who_eq k.who w) refl k.deed h is (λ a b. has_entries L w a b)
  where
    by : (b : Bool) → who_eq k.who w ≡ b → (d : Deed) → Has w (with_enrolled k.who d (enrolled_in L)) → (if b then k ∷ own L w else own L w) ≡ [] → (Has w (enrolled_in L) → own L w ≡ [] → ⊥) → ⊥
    by true e d h g later = absurd (cc (g))
    by false e Enrolled h g later = elim h [
      | inl a ↦ let yes1 : who_eq k.who w ≡ true = ap (who_eq k.who) a ∙ same_who k.who in absurd (cc (e, yes1))
      | inr b ↦ later b g
    ]
    by false e (Received text) h g later = later h g
    by false e (Performed ticket act) h g later = later h g

pub unnumbered : (e : Entry) → is_numbered e ≡ false → e.deed ≡ Enrolled
unnumbered e h = by e.who e.moment e.deed e.rules h
  where
    by : (w : Who) (t : Moment) (d : Deed) (q : Rules) → is_numbered (record { who = w; moment = t; deed = d; rules = q }) ≡ false → d ≡ Enrolled
    by w t Enrolled q g = refl
    by w t (Received text) q g = absurd (cc (g))
    by w t (Performed ticket act) q g = absurd (cc (g))

numbered_deed : (e : Entry) → is_numbered e ≡ true → (ws : List Who) → with_enrolled e.who e.deed ws ≡ ws
numbered_deed e h ws = by e.who e.moment e.deed e.rules h
  where
    by : (w : Who) (t : Moment) (d : Deed) (q : Rules) → is_numbered (record { who = w; moment = t; deed = d; rules = q }) ≡ true → with_enrolled w d ws ≡ ws
    by w t Enrolled q g = absurd (cc (g))
    by w t (Received text) q g = refl
    by w t (Performed ticket act) q g = refl

-- the first own entry of a legal register is the enrolment
first_enrols : (r : Rules) (W : Who) (L : List Entry) (w : Who) → IsLegal r W L → (M : List Entry) → own L w ≡ M → (length M == 0) ≡ false → Has w (enrolled_in L)
first_enrols r W L w legal [] is h = absurd (cc (h))
first_enrols r W L w legal (e ∷ M) is h =
    let follows : Along1 CanFollow [] (e ∷ M) = subst (Along1 CanFollow []) is (follows_own r W L w legal) in
    enrols L w e M is (unnumbered e follows.0.numbered)

-- One entry more.

-- the depositors with one entry more, as that entry's depositor is put among them
pub depositors_put : (L : List Entry) (e : Entry) → e.deed ≡ Enrolled → depositors (L ++ e ∷ []) ≡ put_by comes_before who_text e.who (depositors L)
depositors_put L e d =
    same_found comes_before texts_strict who_text is_called called_test (depositors (L ++ e ∷ [])) (put_by comes_before who_text e.who (depositors L))
    (depositors_rise (L ++ e ∷ [])) (put_rises comes_before texts_strict who_text e.who (depositors L) (depositors_rise L))
    (λ t. find_called (L ++ e ∷ []) t
    ∙ ap (last_found (called t)) (enrolled_more L e ∙ ap (λ (x : Deed). enrolled_in L ++ with_enrolled e.who x []) d)
    ∙ last_push t (enrolled_in L)
    ∙ by (is_called t e.who) (last_found (called t) (enrolled_in L))
    ∙ ap (cond (is_called t e.who) (Some e.who)) (sym (find_called L t))
    ∙ sym (find_put comes_before texts_strict who_text t (is_called t) (called_test t) e.who (depositors L)))
  where
    last_assoc : (a b c : Option Who) → or_else (or_else a b) c ≡ or_else a (or_else b c)
    last_assoc (Some x) b c = refl
    last_assoc None b c = refl

    last_push : (t : List ℕ) (ws : List Who) → last_found (called t) (ws ++ e.who ∷ []) ≡ or_else (called t e.who) (last_found (called t) ws)
    last_push t [] = sym (none_right (called t e.who))
      where
        none_right : (o : Option Who) → or_else o None ≡ or_else None o
        none_right (Some x) = refl
        none_right None = refl
    last_push t (w ∷ ws) = ap (λ (o : Option Who). or_else o (called t w)) (last_push t ws) ∙ last_assoc (called t e.who) (last_found (called t) ws) (called t w)

    by : (b : Bool) (o : Option Who) → or_else (cond b (Some e.who) None) o ≡ cond b (Some e.who) o
    by true o = refl
    by false o = refl

pub depositors_stay : (L : List Entry) (e : Entry) → is_numbered e ≡ true → depositors (L ++ e ∷ []) ≡ depositors L
depositors_stay L e numbered =
    depositors_are (L ++ e ∷ []) ∙ ap (in_order who_before) (enrolled_more L e ∙ ap (λ (ws : List Who). enrolled_in L ++ ws) (numbered_deed e numbered []) ∙ append-nil (enrolled_in L)) ∙ sym (depositors_are L)

-- where the depositor of one entry more stands: at its place where it is enrolled, and else between
-- others
pub record IsAmong (L : List Entry) (e : Entry) : Type 0 where
  pub front : List Who
  pub back : List Who
  pub old : List Who
  pub old_is : old ≡ (if is_numbered e then e.who ∷ [] else [])
  pub here : depositors L ≡ front ++ (old ++ back)
  pub there : depositors (L ++ e ∷ []) ≡ front ++ (e.who ∷ back)
  pub below : list_all (λ (v : Who). comes_before (who_text v) (who_text e.who)) front ≡ true
  pub above : list_all (λ (v : Who). comes_before (who_text e.who) (who_text v)) back ≡ true

pub among : (r : Rules) (W : Who) (L : List Entry) (e : Entry) → IsLegal r W L → is_partner e.who ≡ true → is_numbered e ≡ not (length (own L e.who) == 0) → IsAmong L e
among r W L e legal partner follows = by (is_numbered e) refl
  where
    s : IsSplit comes_before who_text (is_called (who_text e.who)) e.who (depositors L)
    s = split comes_before texts_strict who_text (is_called (who_text e.who)) e.who (called_test (who_text e.who)) (depositors L) (depositors_rise L)

    by : (b : Bool) → is_numbered e ≡ b → IsAmong L e
    by true h =
        let some : (length (own L e.who) == 0) ≡ false = not_true (length (own L e.who) == 0) (sym follows ∙ h) in
        let found = found_enrolled r W L e.who legal partner (first_enrols r W L e.who legal (own L e.who) refl some) in
        let full : s.old ≡ e.who ∷ [] = sym s.found ∙ ap option_to_list found in
        record {
          front = s.front;
          back = s.back;
          old = s.old;
          old_is = full ∙ ap (λ (b : Bool). if b then e.who ∷ [] else []) (sym h);
          here = s.all;
          there = depositors_stay L e h ∙ s.all ∙ ap (λ (ws : List Who). s.front ++ (ws ++ s.back)) full;
          below = s.below;
          above = s.above;
        }
      where
        not_true : (b : Bool) → not b ≡ true → b ≡ false
        not_true true g = absurd (cc (g))
        not_true false g = refl
    by false h =
        let none : (length (own L e.who) == 0) ≡ true = not_false (length (own L e.who) == 0) (sym follows ∙ h) in
        let lost = found_stranger r W L e.who legal partner (λ has. has_entries L e.who has (empty (own L e.who) none)) in
        let gone : s.old ≡ [] = sym s.found ∙ ap option_to_list lost in
        record {
          front = s.front;
          back = s.back;
          old = s.old;
          old_is = gone ∙ ap (λ (b : Bool). if b then e.who ∷ [] else []) (sym h);
          here = s.all;
          there = depositors_put L e (unnumbered e h) ∙ s.put;
          below = s.below;
          above = s.above;
        }
      where
        not_false : (b : Bool) → not b ≡ false → b ≡ true
        not_false true g = refl
        not_false false g = absurd (cc (g))

        empty : (M : List Entry) → (length M == 0) ≡ true → M ≡ []
        empty [] g = refl
        empty (k ∷ M) g = absurd (omega (arith, eqb-true (length (k ∷ M)) 0 g))
