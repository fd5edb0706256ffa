use Rattle.std.proofs.Common.{subst, sym, ap, refl, ◌≡◌, ◌∙◌, ◌++◌, ◌∷◌, [], List}
use Rattle.definitions.specs.Rules.{Today}
use Rattle.definitions.specs.Accepted.{IsLegal}
use Rattle.definitions.specs.Register.{Entry}
use Rattle.rules.specs.Written.{Written, written}
use Rattle.store.specs.Replayed.{Replay, all_written}
use Rattle.store.proofs.Entries.{written_more, one_register}
use Rattle.store.proofs.replaying.ReplayBookKeeper.commit.Goals as goal

-- the rows of a register with the entry
with_row : (rows grown : List Written) (row : Written) (L : List Entry) (e : Entry) → grown ≡ rows ++ row ∷ [] → rows ≡ all_written L → row ≡ written L e
    → grown ≡ all_written (L ++ e ∷ [])
with_row rows grown row L e more was is =
    more ∙ ap (λ (ws : List Written). ws ++ row ∷ []) was ∙ ap (λ (w : Written). all_written L ++ w ∷ []) is ∙ sym (written_more [] L e)

pub returns-clause-ok : goal.returns-clause-ok
returns-clause-ok c = λ clean L u e next.
    let view = ap (λ (b : Replay). b.entries) c.self.view_is in
    let house = ap (λ (b : Replay). b.warehouse) c.self.view_is in
    let same = with_row c.self.inside.entries.items c.append.new.entries.items c.args.entry.now L e c.in_ok-append.ensures.ok (view ∙ u.keeps) next.entry in
    record {
      opened = refl;
      legal = subst (λ W. IsLegal Today W (L ++ e ∷ [])) (sym house) next.legal;
      keeps = same;
      stand = tt;
      only = λ M h. one_register c.self.inside.warehouse c.args.self.now.warehouse M (L ++ e ∷ []) h.1 next.legal (sym h.0 ∙ same);
    }

pub returns-clause-keeps : goal.returns-clause-keeps
returns-clause-keeps c = λ clean L kept e next.
    let view = ap (λ (b : Replay). b.entries) c.self.view_is in
    with_row c.self.inside.entries.items c.append.new.entries.items c.args.entry.now L e c.in_ok-append.ensures.ok (view ∙ kept) next.entry
