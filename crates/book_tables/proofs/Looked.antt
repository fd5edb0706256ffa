-- What the two look-ups of a known entry tell of tables that stand while they are open.
use Rattle.std.proofs.Common.{◌≡◌, ℕ, suc, pos, List, [], ◌∷◌, ◌++◌, map, take, drop, true, None, Some, Option, IsTrue, ◌&&◌, bytes_eq, Bool, refl, sym, ap, subst, ◌∙◌, arith}
use Rattle.std.specs.Prelude.{if◌then◌else◌, find, slice_get}
use Rattle.std.proofs.lemmas.List.Elements.{filter-append}
use Rattle.sqlite.specs.Order.{Row}
use Rattle.sqlite.specs.State.{State}
use Rattle.sqlite.specs.declared.types.Value.TheVariants as value
use Rattle.definitions.specs.Decision.{recalled}
use Rattle.definitions.specs.Header.{Who, is_partner, who_eq, who_text}
use Rattle.definitions.specs.Register.{Entry, mark, own, is_numbered, next_number}
use Rattle.definitions.specs.Reply.{out}
use Rattle.definitions.proofs.TextLaws.{both_parts}
use Rattle.rules.specs.Decided.{IsRecalled}
use Rattle.rules.specs.Written.{Written}
use Rattle.store.specs.Replayed.{all_written, is_under}
use Rattle.rules.proofs.Registers.{who_is}
use Rattle.store.proofs.Entries.{there_on, recalled_none, recalled_at_place, is_recalled}
use Rattle.book_statements.specs.Asking.{Finds}
use Rattle.book_tables.specs.Contents.{IsContent}
use Rattle.book_statements.specs.Exits.{StandsWhileOpen}
use Rattle.book_statements.specs.Recorded.{written_at}
use Rattle.book_statements.proofs.KnownTexts.{under_text}
use Rattle.book_tables.specs.Outgoing.{content_text}
use Rattle.book_tables.proofs.SentUnder.{content_found, some_content}
use Rattle.book_tables.proofs.UnderKey.{seq_shown, numbers_of, under_found, find_none, find_some, first_found}

-- The entry.

-- a list that has a first element begins with it
pub begins_with : (rows : List Row) (row : Row) → ◌≡◌ {A = Option Row} (Some row) (slice_get rows 0) → (more : List Row) × (rows ≡ row ∷ more)
begins_with [] row h = absurd (cc)
begins_with (x ∷ rows) row h = (rows, ap (λ (y : Row). y ∷ rows) (head x row h))
  where
    head : (a b : Row) → ◌≡◌ {A = Option Row} (Some b) (Some a) → a ≡ b
    head a b e = cc

pub is_empty : (rows : List Row) → ◌≡◌ {A = Option Row} None (slice_get rows 0) → rows ≡ []
is_empty [] h = refl
is_empty (x ∷ rows) h = absurd (cc)

no_numbers : (ns : List ℕ) → map seq_shown ns ≡ [] → ns ≡ []
no_numbers [] h = refl
no_numbers (n ∷ ns) h = absurd (cc)

first_number : (ns : List ℕ) (row : Row) (rows : List Row) → map seq_shown ns ≡ row ∷ rows → (n : ℕ) × (more : List ℕ) × (ns ≡ n ∷ more) × (row ≡ seq_shown n)
first_number [] row rows h = absurd (cc)
first_number (n ∷ ns) row rows h = (n, ns, refl, head (seq_shown n) row (map seq_shown ns) rows h)
  where
    head : (a b : Row) (us vs : List Row) → ◌≡◌ {A = List Row} (a ∷ us) (b ∷ vs) → b ≡ a
    head a b us vs e = cc

module _ (old : State) (W : Who) (L : List Entry) (who : Who) (key : List ℕ) (partner : IsTrue (is_partner who)) (stands : StandsWhileOpen old W L) (text : List ℕ) (told : text ≡ who_text who)
    (rows : List Row) (finds : IsTrue old.is_open × Finds under_text (value.Text text ∷ value.Text key ∷ []) old.now rows) where
  abbrev test : Written → Bool
  test = is_under who key

  shown : rows ≡ map seq_shown (numbers_of test 0 (all_written L))
  shown = under_found W L who key old.now rows partner (stands finds.0) (subst (λ t. Finds under_text (value.Text t ∷ value.Text key ∷ []) old.now rows) told finds.1)

  pub none_under : rows ≡ [] → None ≡ find test (all_written L)
  none_under none = sym (find_none test 0 (all_written L) (no_numbers (numbers_of test 0 (all_written L)) (sym shown ∙ none)))

  -- the first row shows the number of the first entry under the key
  pub first_under : (row : Row) (more : List Row) → rows ≡ row ∷ more → (seq : ℕ) × (row ≡ seq_shown seq) × (written_at (all_written L) seq ≡ find test (all_written L))
  first_under row more is =
      let first = first_number (numbers_of test 0 (all_written L)) row more (sym shown ∙ is) in
      let it = find_some test 0 (all_written L) first.0 first.1 first.2 in
      let at : first.0 ≡ suc it.0 = omega (arith, it.1) in
      (first.0, first.3, ap (written_at (all_written L)) at ∙ it.2)

-- What went out.

module _ (old : State) (W : Who) (L : List Entry) (who : Who) (n : ℕ) (partner : IsTrue (is_partner who)) (stands : StandsWhileOpen old W L) (text : List ℕ) (told : text ≡ who_text who) (params : Row)
    (given : params ≡ value.Text text ∷ value.Int (pos n) ∷ []) (rows : List Row) (finds : IsTrue old.is_open × Finds content_text params old.now rows) where
  asked : Finds content_text (value.Text (who_text who) ∷ value.Int (pos n) ∷ []) old.now rows
  asked = subst (λ (p : Row). Finds content_text p old.now rows) (given ∙ ap (λ (t : List ℕ). value.Text t ∷ value.Int (pos n) ∷ []) told) finds.1

  pub content_read : (before : List Entry) (e : Entry) (back : List Entry) → own L who ≡ before ++ e ∷ back → n ≡ (if is_numbered e then next_number before else 0) → IsContent rows (out W before e)
  content_read before e back split is = content_found W L who n old.now rows partner (stands finds.0) asked before e back split is

  pub content_there : (content : List ℕ) × IsContent rows content
  content_there = some_content W L who n old.now rows partner (stands finds.0) asked

-- What the register has under the key.

pub record IsKnown (W : Who) (L : List Entry) (who : Who) (key : List ℕ) (w : Written) : Type 0 where
  pub before : List Entry
  pub entry : Entry
  pub back : List Entry
  pub split : own L who ≡ before ++ entry ∷ back
  pub number : w.n ≡ (if is_numbered entry then next_number before else 0)
  pub recalls : (text : List ℕ) → text ≡ out W before entry → IsRecalled (Some (record { entry = w; outgoing = text })) (recalled W key (own L who))

pub known_there : (W : Who) (L : List Entry) (who : Who) (key : List ℕ) (w : Written) → find (is_under who key) (all_written L) ≡ Some w → IsKnown W L who key w
known_there W L who key w h =
    let f = first_found (is_under who key) (all_written L) w h in
    let i = f.0 in
    let it = f.1 in
    let t = there_on [] L i w it.within it.at in
    let e = t.0 in
    let there = t.1 in
    let at : (who_eq e.who who && bytes_eq (mark e) key) ≡ true = ap (λ (x : Written). is_under who key x) (sym there.row) ∙ it.here in
    let its = (both_parts (who_eq e.who who) (bytes_eq (mark e) key) at).0 in
    let whose = who_is e.who who its in
    let X = take i L in
    let Y = drop (suc i) L in
    record {
      before = own X who;
      entry = e;
      back = own Y who;
      split = ap (λ (M : List Entry). own M who) there.split ∙ filter-append (λ (x : Entry). who_eq x.who who) X (e ∷ Y) ∙ ap (λ (b : Bool). own X who ++ (if b then e ∷ own Y who else own Y who)) its;
      number = ap (λ (x : Written). x.n) there.row ∙ ap (λ (v : Who). if is_numbered e then next_number (own X v) else 0) whose;
      recalls = λ text sent.
          is_recalled W L i w w e text (recalled W key (own L who)) there refl (sent ∙ ap (λ (v : Who). out W (own X v) e) (sym whose)) (recalled_at_place W who key L i w e there it.before it.here);
    }

pub nothing_known : (W : Who) (L : List Entry) (who : Who) (key : List ℕ) → None ≡ find (is_under who key) (all_written L) → IsRecalled None (recalled W key (own L who))
nothing_known W L who key h = subst (IsRecalled None) (sym (recalled_none W who key L (all_written L) refl (sym h))) tt
