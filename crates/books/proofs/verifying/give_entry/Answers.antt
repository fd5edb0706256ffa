use Rattle.std.proofs.Common.{◌≡◌, ◌+◌, ◌++◌, ◌∷◌, [], suc, Option, None, Some, sym, ap, subst, ◌∙◌, arith, take, drop, slice_get}
use Rattle.std.specs.Prelude.{IsSomeAnd}
use Rattle.std.proofs.lemmas.Result.{IfOk-weaker, IfErr-weaker}
use Rattle.sqlite.specs.Held.{state}
use Rattle.definitions.specs.declared.rules.Rules.{Rules}
use Rattle.definitions.specs.declared.rules.Rules.TheVariants.{One, Two}
use Rattle.definitions.specs.Accepted.{IsLegal}
use Rattle.store.specs.Replayed.{all_written}
use Rattle.store.specs.Standing.{IsUsable}
use Rattle.store.proofs.Entries.{there_on}
use Rattle.book_statements.specs.Recorded.{written_at}
use Rattle.book_tables.proofs.AskedLater.{stands_later}
use Rattle.book_tables.proofs.Queries.{asked_then, memory_fault, went_of}
use Rattle.books.specs.Opened.{standing_of}
use Rattle.books.specs.Verified.{Follows, last_rules}
use Rattle.books.proofs.GivenLemmas.{got, there_is}
use Rattle.books.proofs.RulesLemmas.{last_more}
use Rattle.books.proofs.verifying.give_entry.Goals as goal

pub returns-in-Some-clause-copy : goal.returns-in-Some-clause-copy
returns-in-Some-clause-copy g c = λ W k. c.give.ensures.copy (c.requires.clean c.give.new.copy.tables.conn) W k

pub returns-in-Some-clause-next : goal.returns-in-Some-clause-next
returns-in-Some-clause-next g c = λ clean W L lt h.
    let old = state g.S.Store c.args.tables.now.conn in
    let new = state g.S.Store c.entry_at.new.self.conn in
    let i = c.args.before in
    let one : i + 1 ≡ suc i = omega arith in
    let at : slice_get (all_written L) i ≡ Some c.in-Some.entry =
    sym (c.in_ok-entry.ensures.entry clean W L h.stays.stands ∙ ap (written_at (all_written L)) one) ∙ c.in-Some.is in
    let place = got (all_written L) i c.in-Some.entry at in
    let there = there_on [] L i c.in-Some.entry place.0 place.1 in
    let e = there.0 in
    let t = there.1 in
    let f = h.stays in
    let stands = f.stands (c.in_ok-entry.ensures.was_open clean) in
    let legal : IsLegal Two W (take i L ++ e ∷ drop (suc i) L) = subst (IsLegal Two W) t.split stands.legal in
    let legal' = subst (λ V. IsLegal Two V (take i L ++ e ∷ drop (suc i) L)) (sym f.warehouse) legal in
    IfOk-weaker c.give.result _ _ (λ given its. subst (λ (o : Option Rules). IsSomeAnd o (λ rules. Follows (i + 1) rules new W (standing_of g.C.Store c.give.new.copy) L)) (sym its.0)
    (record {
      stays = record {
        stands = stands_later old new W L clean c.in_ok-entry.ensures.asked.left f.stands;
        fits = omega (arith, lt);
        warehouse = let goes = c.give.ensures.goes in goes.warehouse ∙ f.warehouse;
        usable = subst (IsUsable (standing_of g.C.Store c.give.new.copy)) (sym t.more ∙ ap (λ n. take n L) (sym one)) its.2;
      };
      legal = subst (IsLegal e.rules (standing_of g.C.Store c.give.new.copy).warehouse) (sym t.more ∙ ap (λ n. take n L) (sym one)) its.1;
      last_is = sym (last_more One (take i L) e) ∙ ap (last_rules One) (sym t.more ∙ ap (λ n. take n L) (sym one));
    }))
    (c.give.ensures.next (c.requires.clean c.give.new.copy.tables.conn) (take i L) f.usable e (drop (suc i) L) t.row legal' h.last_is h.legal)

pub returns-in-None-clause-next : goal.returns-in-None-clause-next
returns-in-None-clause-next g c = λ clean W L lt h.
    let i = c.args.before in
    let one : i + 1 ≡ suc i = omega arith in
    let at : slice_get (all_written L) i ≡ None =
    sym (c.in_ok-entry.ensures.entry clean W L h.stays.stands ∙ ap (written_at (all_written L)) one) ∙ c.in-None.is in
    absurd (there_is [] L i lt at)

pub returns-in-Some-clause-went : goal.returns-in-Some-clause-went
returns-in-Some-clause-went g c =
    let old = c.args.tables.now in
    let new = c.entry_at.new.self in
    let named = c.give.ensures.named (c.requires.clean c.give.new.copy.tables.conn) _ c.requires.copy in
    went_of g.S.Store old new c.give.result
    (asked_then g.S.Store old new c.in_ok-entry.field-0 c.give.result c.in_ok-entry.ensures.asked
    (IfErr-weaker c.give.result _ _ (λ f e. memory_fault f (state g.S.Store old.conn) (state g.S.Store new.conn) old.refused new.refused e) named))
