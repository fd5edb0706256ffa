use Rattle.std.proofs.Common.{◌≡◌, ◌∙◌, ℕ, List, length, take, arith, ap, sym, rules}
use Rattle.std.specs.Prelude.{IsErrAnd}
use Rattle.std.proofs.lemmas.List.{take_all, take_more}
use Rattle.sqlite.specs.Held.{state}
use Rattle.store.specs.Fault.{Fault}
use Rattle.book_tables.specs.Needed.{part_for, with_numbers}
use Rattle.book_tables.proofs.AskedLater.{stands_later, clean_before}
use Rattle.book_tables.proofs.NeededParts.{numbers_more, numbers_none}
use Rattle.book_tables.proofs.Queries.{went_as, went_fails, went_none, went_of, went_on}
use Rattle.book_tables.proofs.connected.Tables.gather_numbers.Goals as goal

pub loop-n-init : goal.loop-n-init
loop-n-init g c = record {
  found = λ clean W L stands n is. is ∙ sym (ap (part_for L c.args.who) (numbers_none n));
  went = went_none g.S.Store c.args.self.now tt;
}

pub loop-n-preserved : goal.loop-n-preserved
loop-n-preserved g c =
    let i = c.loop-n.n-index in
    let xs = c.args.numbers.now in
    let was = c.loop-n.invariant in
    let old = state g.S.Store c.args.self.now.conn in
    let mid = state g.S.Store c.loop-n.self.conn in
    let new = state g.S.Store c.with_document.new.self.conn in
    record {
      found = λ clean W L stands n is.
          let early = clean_before mid new c.in_ok-draft.ensures.asked.left clean in
          let before = was.found early W L stands n is in
          c.in_ok-draft.ensures.found clean W L (stands_later old mid W L early was.went.left stands) (with_numbers (take i xs) n) before
          ∙ ap (part_for L c.args.who) (numbers_more (take i xs) _ n ∙ ap (λ (ys : List ℕ). with_numbers ys n) (sym (take_more xs i 0 c.loop-n-test.true)));
      went = went_on g.S.Store c.args.self.now c.loop-n.self c.with_document.new.self tt _ was.went (went_as g.S.Store c.loop-n.self c.with_document.new.self c.in_ok-draft.draft tt (went_of g.S.Store c.loop-n.self c.with_document.new.self _ c.in_ok-draft.ensures.asked));
    }

pub returns-in_err-draft-clause-went : goal.returns-in_err-draft-clause-went
returns-in_err-draft-clause-went g c =
    let same : IsErrAnd c.from_residual.result (λ (f : Fault). f ≡ c.in_err-draft.field-0.0) = search rules in
    went_on g.S.Store c.args.self.now c.loop-n.self c.with_document.new.self tt _ c.loop-n.invariant.went
    (went_fails g.S.Store c.loop-n.self c.with_document.new.self c.in_err-draft.field-0.0 c.from_residual.result same (went_of g.S.Store c.loop-n.self c.with_document.new.self _ c.in_err-draft.ensures.asked))

pub returns-clause-found : goal.returns-clause-found
returns-clause-found g c = λ clean W L stands n is.
    let xs = c.args.numbers.now in
    let i = c.loop-n.n-index in
    let all : i ≡ length xs = omega (arith, c.loop-n-test.false, c.loop-n.auto.n-index-end) in
    let whole : take i xs ≡ xs = take_all i xs (omega (arith, all)) in
    c.loop-n.invariant.found clean W L stands n is ∙ ap (λ (ys : List ℕ). part_for L c.args.who (with_numbers ys n)) whole

pub returns-clause-went : goal.returns-clause-went
returns-clause-went g c = went_as g.S.Store c.args.self.now c.loop-n.self tt _ c.loop-n.invariant.went
