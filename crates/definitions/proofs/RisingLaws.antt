-- Rules never fall in a register, and acts are read by those of their entry.
use Rattle.std.proofs.Common.{◌≡◌, ℕ, Bool, true, false, cond, ◌&&◌, List, [], ◌∷◌, ◌++◌, map, refl, sym, ap, ◌∙◌, subst, Some, None, Option, bytes_eq}
use Rattle.std.specs.Prelude.{IsTrue, option_and_then}
use Rattle.std.specs.List.{list_all}
use Rattle.std.specs.Cmp.Derive.{both_true}
use Rattle.std.proofs.lemmas.List.Folds.{list_all-append}
use Rattle.std.proofs.lemmas.Grind.{fold-append}
use Rattle.definitions.specs.declared.rules.Rules.{Rules}
use Rattle.definitions.specs.declared.rules.Rules.TheVariants.{One, Two}
use Rattle.definitions.specs.Rules.{may_follow}
use Rattle.definitions.specs.Moments.{Moment, is_moment}
use Rattle.definitions.specs.Header.{Who, is_partner}
use Rattle.definitions.specs.Register.{Act, Command, Entry, never_fall, canonical}
use Rattle.definitions.specs.Clerk.{is_act}
use Rattle.definitions.specs.Readings.{parts_at, act_in, act_if, act_of, first_act}
use Rattle.definitions.specs.Accepted.{reply_to, is_accepted, entry_of, after, accepted_on, is_command, can_be_given, IsLegal, Ruled, left_by, each_given, none_falls}
use Rattle.definitions.proofs.TextLaws.{both_parts}
use Rattle.definitions.proofs.SheetLaws.{is_act-later}
use Rattle.definitions.proofs.RegisterLaws.{entry_of-rules}

-- ---- acts

act_if-first : (text : List ℕ) (act : Act) → act_if One text act ≡ option_and_then first_act (act_if Two text act)
act_if-first text act = by_test (is_act One act) (bytes_eq (canonical act) text) refl
  where
    by_test : (b c : Bool) → is_act One act ≡ b → cond (is_act One act && c) (Some act) None ≡ option_and_then first_act (cond (is_act Two act && c) (Some act) None)
    by_test true true e =
        let later : is_act Two act ≡ true = is_act-later act e in
        (λ i. cond (e i && true) (Some act) None) ∙ sym ((λ i. option_and_then first_act (cond (later i && true) (Some act) None)) ∙ (λ i. cond (e i) (Some act) None))
    by_test true false e =
        let later : is_act Two act ≡ true = is_act-later act e in
        (λ i. cond (e i && false) (Some act) None) ∙ sym (λ i. option_and_then first_act (cond (later i && false) (Some act) None))
    by_test false c e = (λ i. cond (e i && c) (Some act) None) ∙ sym (none_first (is_act Two act && c) e)
      where
        none_first : (d : Bool) → is_act One act ≡ false → option_and_then first_act (cond d (Some act) None) ≡ None
        none_first true f = λ i. cond (f i) (Some act) None
        none_first false f = refl

-- what is read under rules 1 is what is read under rules 2 and an act of rules 1
pub act_of-first : (text : List ℕ) → act_of One text ≡ option_and_then first_act (act_of Two text)
act_of-first text = by_read (act_in (parts_at 10 text))
  where
    by_read : (o : Option Act) → option_and_then (act_if One text) o ≡ option_and_then first_act (option_and_then (act_if Two text) o)
    by_read None = refl
    by_read (Some act) = act_if-first text act

-- ---- entries

abbrev follows_all : Rules → List Entry → Bool
follows_all r L = list_all (λ e. may_follow e.rules r) L

follows_itself : (r : Rules) → may_follow r r ≡ true
follows_itself One = refl
follows_itself Two = refl

-- an entry more whose rules no entry is above
one_after : (s : Rules) (L : List Entry) (e : Entry) → may_follow s e.rules ≡ true → never_fall s L ≡ true → follows_all e.rules L ≡ true → never_fall s (L ++ e ∷ []) ≡ true
one_after s [] e f h k = both_true f refl
one_after s (x ∷ L) e f h k =
    let p = both_parts (may_follow s x.rules) (never_fall x.rules L) h in
    let q = both_parts (may_follow x.rules e.rules) (follows_all e.rules L) k in
    both_true p.0 (one_after x.rules L e q.0 p.1 q.1)

all_after : (r : Rules) (L : List Entry) (e : Entry) → e.rules ≡ r → follows_all r L ≡ true → follows_all r (L ++ e ∷ []) ≡ true
all_after r L e f h = list_all-append (λ (x : Entry). may_follow x.rules r) L (e ∷ [])
    ∙ both_true h (both_true (ap (λ x. may_follow x r) f ∙ follows_itself r) refl)

record Rising (r : Rules) (L : List Entry) : Type 0 where
  rise : never_fall One L ≡ true
  below : follows_all r L ≡ true

after-rises : (r : Rules) (W : Who) (L : List Entry) (c : Command × Moment) → Rising r L → Rising r (after r W L c)
after-rises r W L c h = by_test (is_accepted (reply_to r W L c.0 c.1))
  where
    e : Entry
    e = entry_of r c.0 c.1

    by_test : (b : Bool) → Rising r (cond b (L ++ e ∷ []) L)
    by_test true = record {
      rise = one_after One L e refl h.rise (ap (λ x. follows_all x L) (entry_of-rules r c.0 c.1) ∙ h.below);
      below = all_after r L e (entry_of-rules r c.0 c.1) h.below;
    }
    by_test false = h

accepted_on-rises : (r : Rules) (W : Who) (L : List Entry) (cs : List (Command × Moment)) → Rising r L → Rising r (accepted_on r W L cs)
accepted_on-rises r W L [] h = h
accepted_on-rises r W L (c ∷ cs) h = accepted_on-rises r W (after r W L c) cs (after-rises r W L c h)

above_first : (r s : Rules) → may_follow r One ≡ true → may_follow r s ≡ true
above_first One s h = refl
above_first Two s h = absurd (cc)

all_above : (r : Rules) (L : List Entry) → follows_all One L ≡ true → follows_all r L ≡ true
all_above r [] h = refl
all_above r (e ∷ L) h =
    let p = both_parts (may_follow e.rules One) (follows_all One L) h in
    both_true (above_first e.rules r p.0) (all_above r L p.1)

-- the rules of a legal register never fall
pub legal-rises : (r : Rules) (W : Who) (L : List Entry) → IsLegal r W L → never_fall One L ≡ true
legal-rises r W L l =
    let first = accepted_on-rises One W [] l.first (record { rise = refl; below = refl }) in
    let start : Rising r (accepted_on One W [] l.first) = record { rise = first.rise; below = all_above r (accepted_on One W [] l.first) first.below } in
    ap (never_fall One) l.left ∙ (accepted_on-rises r W (accepted_on One W [] l.first) l.commands start).rise

-- ---- the way back

abbrev bare_commands : List Ruled → List (Command × Moment)
bare_commands cs = map (λ c. c.1) cs

is_second : (r : Rules) → may_follow Two r ≡ true → r ≡ Two
is_second One h = absurd (cc)
is_second Two h = refl

-- after rules 2 all are rules 2
second_left : (W : Who) (L : List Entry) (cs : List Ruled) → none_falls Two cs ≡ true → left_by W L cs ≡ accepted_on Two W L (bare_commands cs)
second_left W L [] h = refl
second_left W L (c ∷ cs) h =
    let p = both_parts (may_follow Two c.0) (none_falls c.0 cs) h in
    let same = is_second c.0 p.0 in
    ap (λ r. left_by W (after r W L c.1) cs) same ∙ second_left W (after Two W L c.1) cs (ap (λ r. none_falls r cs) (sym same) ∙ p.1)

second_given : (cs : List Ruled) → none_falls Two cs ≡ true → each_given cs ≡ true → can_be_given Two (bare_commands cs) ≡ true
second_given [] h k = refl
second_given (c ∷ cs) h k =
    let p = both_parts (may_follow Two c.0) (none_falls c.0 cs) h in
    let q = both_parts (is_command c.0 c.1.0 && is_moment c.1.1) (each_given cs) k in
    let same = is_second c.0 p.0 in
    both_true (ap (λ r. is_command r c.1.0 && is_moment c.1.1) (sym same) ∙ q.0) (second_given cs (ap (λ r. none_falls r cs) (sym same) ∙ p.1) q.1)

snoc_left : (W : Who) (first : List (Command × Moment)) (c : Command × Moment) → accepted_on One W [] (first ++ c ∷ []) ≡ after One W (accepted_on One W [] first) c
snoc_left W first c = fold-append (after One W) [] first (c ∷ [])

snoc_given : (first : List (Command × Moment)) (c : Command × Moment) → can_be_given One first ≡ true → (is_command One c.0 && is_moment c.1) ≡ true → can_be_given One (first ++ c ∷ []) ≡ true
snoc_given first c h k = list_all-append (λ (c : Command × Moment). is_command One c.0 && is_moment c.1) first (c ∷ []) ∙ both_true h (both_true k refl)

legal_from : (W : Who) (M : List Entry) (first : List (Command × Moment)) (cs : List Ruled) → IsTrue (is_partner W) → can_be_given One first ≡ true → M ≡ accepted_on One W [] first
    → each_given cs ≡ true → none_falls One cs ≡ true → IsLegal Two W (left_by W M cs)
legal_from W M first [] w given m h k = record { first = first; commands = []; of_a_partner = w; first_given = given; given = refl; left = m }
legal_from W M first (c ∷ cs) w given m h k = by_rules c.0 refl
    (λ e n g f. legal_from W (after One W M c.1) (first ++ c.1 ∷ []) cs w g n e f)
  where
    p : ((is_command c.0 c.1.0 && is_moment c.1.1) ≡ true) × (each_given cs ≡ true)
    p = both_parts (is_command c.0 c.1.0 && is_moment c.1.1) (each_given cs) h

    q : (may_follow One c.0 ≡ true) × (none_falls c.0 cs ≡ true)
    q = both_parts (may_follow One c.0) (none_falls c.0 cs) k

    by_rules : (r : Rules) → c.0 ≡ r
        → (each_given cs ≡ true → after One W M c.1 ≡ accepted_on One W [] (first ++ c.1 ∷ []) → can_be_given One (first ++ c.1 ∷ []) ≡ true → none_falls One cs ≡ true
        → IsLegal Two W (left_by W (after One W M c.1) cs))
        → IsLegal Two W (left_by W (after c.0 W M c.1) cs)
    by_rules One e more = subst (λ r. IsLegal Two W (left_by W (after r W M c.1) cs)) (sym e)
        (more p.1 (ap (λ x. after One W x c.1) m ∙ sym (snoc_left W first c.1))
        (snoc_given first c.1 given (ap (λ r. is_command r c.1.0 && is_moment c.1.1) (sym e) ∙ p.0))
        (ap (λ r. none_falls r cs) (sym e) ∙ q.1))
    by_rules Two e more =
        let falls = ap (λ r. none_falls r cs) (sym e) ∙ q.1 in
        record {
          first = first;
          commands = c.1 ∷ bare_commands cs;
          of_a_partner = w;
          first_given = given;
          given = both_true (ap (λ r. is_command r c.1.0 && is_moment c.1.1) (sym e) ∙ p.0) (second_given cs falls p.1);
          left = ap (λ r. left_by W (after r W M c.1) cs) e ∙ second_left W (after Two W M c.1) cs falls
              ∙ ap (λ x. accepted_on Two W (after Two W x c.1) (bare_commands cs)) m;
        }

-- what commands leave, each under its own rules, is legal where these never fall
pub rising-legal : (W : Who) (cs : List Ruled) → IsTrue (is_partner W) → each_given cs ≡ true → none_falls One cs ≡ true → IsLegal Two W (left_by W [] cs)
rising-legal W cs w h k = legal_from W [] [] cs w refl refl h k

-- ---- and the way there: one list for an induction over a legal register

pub record IsRuled (W : Who) (L : List Entry) : Type 0 where
  pub commands : List Ruled
  pub given : each_given commands ≡ true
  pub rising : none_falls One commands ≡ true
  pub left : L ≡ left_by W [] commands

abbrev under : Rules → List (Command × Moment) → List Ruled
under r cs = map (λ c. (r, c)) cs

under-left : (r : Rules) (W : Who) (L : List Entry) (cs : List (Command × Moment)) → left_by W L (under r cs) ≡ accepted_on r W L cs
under-left r W L [] = refl
under-left r W L (c ∷ cs) = under-left r W (after r W L c) cs

under-given : (r : Rules) (cs : List (Command × Moment)) → each_given (under r cs) ≡ can_be_given r cs
under-given r [] = refl
under-given r (c ∷ cs) = ap (λ b. (is_command r c.0 && is_moment c.1) && b) (under-given r cs)

under-rises : (s r : Rules) (cs : List (Command × Moment)) → may_follow s r ≡ true → none_falls s (under r cs) ≡ true
under-rises s r [] h = refl
under-rises s r (c ∷ cs) h = both_true h (under-rises r r cs (follows_itself r))

both-rise : (r : Rules) (first cs : List (Command × Moment)) → none_falls One (under One first ++ under r cs) ≡ true
both-rise r [] cs = under-rises One r cs refl
both-rise r (c ∷ first) cs = both-rise r first cs

-- a legal register is what commands leave, each under its own rules, which never fall
pub legal-ruled : (r : Rules) (W : Who) (L : List Entry) → IsLegal r W L → IsRuled W L
legal-ruled r W L l = record {
  commands = under One l.first ++ under r l.commands;
  given = list_all-append (λ (c : Ruled). is_command c.0 c.1.0 && is_moment c.1.1) (under One l.first) (under r l.commands)
      ∙ both_true (under-given One l.first ∙ l.first_given) (under-given r l.commands ∙ l.given);
  rising = both-rise r l.first l.commands;
  left = sym (fold-append (λ (M : List Entry) (c : Ruled). after c.0 W M c.1) [] (under One l.first) (under r l.commands)
      ∙ ap (λ M. left_by W M (under r l.commands)) (under-left One W [] l.first)
      ∙ under-left r W (accepted_on One W [] l.first) l.commands
      ∙ sym l.left);
}
