use Rattle.std.proofs.Common.{◌≡◌, ◌∙◌, ℕ, List, length, map, take, arith, ap, sym, rules}
use Rattle.std.specs.Prelude.{IsErrAnd}
use Rattle.std.proofs.lemmas.List.{take_all}
use Rattle.sqlite.specs.Held.{state}
use Rattle.store.specs.Fault.{Fault}
use Rattle.book_tables.specs.Needed.{part_for, with_texts}
use Rattle.book_tables.proofs.AskedLater.{stands_later, clean_before}
use Rattle.book_tables.proofs.NeededParts.{texts_more, texts_none}
use Rattle.book_tables.proofs.OnceKept.{mapped_more}
use Rattle.book_tables.proofs.Queries.{went_as, went_fails, went_none, went_of, went_on}
use Rattle.book_tables.proofs.connected.Tables.gather_each.Goals as goal

pub loop-text-init : goal.loop-text-init
loop-text-init g c = record {
  found = λ clean W L stands n is. is ∙ sym (ap (part_for L c.args.who) (texts_none c.args.sought n));
  went = went_none g.S.Store c.args.self.now tt;
}

pub loop-text-preserved : goal.loop-text-preserved
loop-text-preserved g c =
    let i = c.loop-text.text-index in
    let xs = c.args.texts.now in
    let was = c.loop-text.invariant in
    let old = state g.S.Store c.args.self.now.conn in
    let mid = state g.S.Store c.loop-text.self.conn in
    let new = state g.S.Store c.with_found.new.self.conn in
    let front = map (λ t. t.now) (take i xs) in
    record {
      found = λ clean W L stands n is.
          let early = clean_before mid new c.in_ok-draft.ensures.asked.left clean in
          let before = was.found early W L stands n is in
          c.in_ok-draft.ensures.found clean W L (stands_later old mid W L early was.went.left stands) (with_texts c.args.sought front n) before
          ∙ ap (part_for L c.args.who) (texts_more c.args.sought front _ n
          ∙ ap (λ (ss : List (List ℕ)). with_texts c.args.sought ss n) (mapped_more (λ t. t.now) xs i _ c.loop-text-test.true));
      went = went_on g.S.Store c.args.self.now c.loop-text.self c.with_found.new.self tt _ was.went (went_as g.S.Store c.loop-text.self c.with_found.new.self c.in_ok-draft.draft tt (went_of g.S.Store c.loop-text.self c.with_found.new.self _ c.in_ok-draft.ensures.asked));
    }

pub returns-in_err-draft-clause-went : goal.returns-in_err-draft-clause-went
returns-in_err-draft-clause-went g c =
    let same : IsErrAnd c.from_residual.result (λ (f : Fault). f ≡ c.in_err-draft.field-0.0) = search rules in
    went_on g.S.Store c.args.self.now c.loop-text.self c.with_found.new.self tt _ c.loop-text.invariant.went
    (went_fails g.S.Store c.loop-text.self c.with_found.new.self c.in_err-draft.field-0.0 c.from_residual.result same (went_of g.S.Store c.loop-text.self c.with_found.new.self _ c.in_err-draft.ensures.asked))

pub returns-clause-found : goal.returns-clause-found
returns-clause-found g c = λ clean W L stands n is.
    let xs = c.args.texts.now in
    let i = c.loop-text.text-index in
    let all : i ≡ length xs = omega (arith, c.loop-text-test.false, c.loop-text.auto.text-index-end) in
    let whole : take i xs ≡ xs = take_all i xs (omega (arith, all)) in
    c.loop-text.invariant.found clean W L stands n is ∙ ap (λ ys. part_for L c.args.who (with_texts c.args.sought (map (λ t. t.now) ys) n)) whole

pub returns-clause-went : goal.returns-clause-went
returns-clause-went g c = went_as g.S.Store c.args.self.now c.loop-text.self tt _ c.loop-text.invariant.went
