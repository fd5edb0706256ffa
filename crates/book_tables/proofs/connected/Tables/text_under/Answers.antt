use Rattle.std.proofs.Common.{rules, ◌≡◌, ◌∙◌, ℕ, sym, ap, subst, length, Bool, true, false, None, Some, Option, option_map, List, IsTrue}
use Rattle.std.specs.Prelude.{◌==◌, if◌then◌else◌}
use Rattle.definitions.specs.Header.{is_partner}
use Rattle.sqlite.specs.Held.{state}
use Rattle.sqlite.specs.Order.{Row}
use Rattle.book_tables.specs.Contents.{IsContent}
use Rattle.book_tables.specs.Outgoing.{IsReadFirst}
use Rattle.book_tables.proofs.ContentText.{content_reads}
use Rattle.book_tables.proofs.Queries.{asked_wrong}
use Rattle.book_tables.proofs.ReadLemmas.{if_there, none_some, same_some}
use Rattle.book_tables.proofs.SentFound.{text_shown}
use Rattle.book_tables.proofs.connected.Tables.text_under.Goals as goal

pub under_number-requires : goal.under_number-requires
under_number-requires g c = content_reads

pub returns-in_default-clause-asked : goal.returns-in_default-clause-asked
returns-in_default-clause-asked g c = asked_wrong g.S.Store c.args.self.now c.under_number.new.self c.in_ok-rows.rows c.in_ok-rows.ensures.asked (λ clean W L stands.
    let partner : IsTrue (is_partner c.args.who) = search rules in
    let it = text_shown (state g.S.Store c.args.self.now.conn) W L c.args.who c.args.n partner stands c.in_ok-rows.rows.items (c.in_ok-rows.ensures.finds clean) in
    none_some _ it.0 (ap (option_map (λ v. v.items)) c.in_default.is) (c.in_ok-content.ensures.shows it.0 (subst (λ (rs : List Row). IsContent rs it.0) (sym c.deref.ensures.value) it.1)))

-- the content that was read is the one that is told
told_at : (told content : List ℕ) (text : Option (List ℕ)) (b : Bool) → content ≡ told → text ≡ (if length told == 0 then None else Some told) → (length content == 0) ≡ b → (if b then None else Some content) ≡ text
told_at told content text b same is empty = ap (λ (v : Bool). if v then None else Some content) (sym empty) ∙ ap (λ (t : List ℕ). if length t == 0 then None else Some t) same ∙ sym is

pub returns-then-is_empty-clause-text : goal.returns-then-is_empty-clause-text
returns-then-is_empty-clause-text g c = λ clean W L stands.
    let partner : IsTrue (is_partner c.args.who) = search rules in
    let it = text_shown (state g.S.Store c.args.self.now.conn) W L c.args.who c.args.n partner stands c.in_ok-rows.rows.items (c.in_ok-rows.ensures.finds clean) in
    let same = same_some c.in-Some.content.items it.0 (sym (ap (option_map (λ v. v.items)) c.in-Some.is) ∙ c.in_ok-content.ensures.shows it.0 (subst (λ (rs : List Row). IsContent rs it.0) (sym c.deref.ensures.value) it.1)) in
    told_at it.0 c.in-Some.content.items _ true same it.2 (ap (λ (n : ℕ). n == 0) (sym c.in-Some.content.ok.0) ∙ sym c.is_empty.ensures ∙ c.if-is_empty.true)

pub returns-clause-text : goal.returns-clause-text
returns-clause-text g c = λ clean W L stands.
    let partner : IsTrue (is_partner c.args.who) = search rules in
    let it = text_shown (state g.S.Store c.args.self.now.conn) W L c.args.who c.args.n partner stands c.in_ok-rows.rows.items (c.in_ok-rows.ensures.finds clean) in
    let same = same_some c.in-Some.content.items it.0 (sym (ap (option_map (λ v. v.items)) c.in-Some.is) ∙ c.in_ok-content.ensures.shows it.0 (subst (λ (rs : List Row). IsContent rs it.0) (sym c.deref.ensures.value) it.1)) in
    told_at it.0 c.in-Some.content.items _ false same it.2 (ap (λ (n : ℕ). n == 0) (sym c.in-Some.content.ok.0) ∙ sym c.is_empty.ensures ∙ c.if-is_empty.false)

pub returns-then-is_empty-clause-known : goal.returns-then-is_empty-clause-known
returns-then-is_empty-clause-known g c = λ clean.
    let known = if_there (IsReadFirst 1 2 _) c.in_ok-content.field-0 c.in-Some.content c.in-Some.is c.in_ok-content.ensures.known in
    let finds = c.in_ok-rows.ensures.finds clean in
    (finds.0, c.in_ok-rows.rows.items, finds.1, subst (λ (rs : List Row). IsReadFirst 1 2 rs) c.deref.ensures.value known)

pub returns-clause-known : goal.returns-clause-known
returns-clause-known g c = λ clean.
    let known = if_there (IsReadFirst 1 2 _) c.in_ok-content.field-0 c.in-Some.content c.in-Some.is c.in_ok-content.ensures.known in
    let finds = c.in_ok-rows.ensures.finds clean in
    (finds.0, c.in_ok-rows.rows.items, finds.1, subst (λ (rs : List Row). IsReadFirst 1 2 rs) c.deref.ensures.value known)
