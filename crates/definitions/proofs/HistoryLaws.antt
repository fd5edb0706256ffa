-- How a history and a register go on: one entry more, one list of commands after another.
use Rattle.std.proofs.Common.{◌≡◌, ℕ, ◌+◌, List, [], ◌∷◌, ◌++◌, cond, refl, ap}
use Rattle.std.specs.Prelude.{fold}
use Rattle.std.proofs.lemmas.List.Sums.{fold-append}
use Rattle.definitions.specs.declared.rules.Rules.{Rules}
use Rattle.definitions.specs.Moments.{Moment}
use Rattle.definitions.specs.Header.{Who}
use Rattle.definitions.specs.Register.{Command, Entry, is_numbered, next_number}
use Rattle.definitions.specs.History.{History, after_entry, history}
use Rattle.definitions.specs.Accepted.{reply_to, after, accepted_on, replies_on}

-- the history of one entry more
pub history_snoc : (M : List Entry) (e : Entry) → history (M ++ e ∷ []) ≡ after_entry (history M) e
history_snoc M e = fold-append after_entry (record { numbered = 0; events = [] }) M (e ∷ [])

numbered_from : (h : History) (M : List Entry)
    → (fold after_entry h M).numbered ≡ fold (λ (a : ℕ) (e : Entry). a + cond (is_numbered e) 1 0) h.numbered M
numbered_from h [] = refl
numbered_from h (e ∷ M) = numbered_from (after_entry h e) M

-- a history counts the numbered entries
pub history-numbered : (M : List Entry) → (history M).numbered + 1 ≡ next_number M
history-numbered M = ap (λ n. n + 1) (numbered_from (record { numbered = 0; events = [] }) M)

-- the register after two lists of commands
pub accepted_on-append : (r : Rules) (W : Who) (L : List Entry) (cs ds : List (Command × Moment))
    → accepted_on r W L (cs ++ ds) ≡ accepted_on r W (accepted_on r W L cs) ds
accepted_on-append r W L cs ds = fold-append (after r W) L cs ds

-- the replies to two lists of commands
pub replies_on-append : (r : Rules) (W : Who) (L : List Entry) (cs ds : List (Command × Moment))
    → replies_on r W L (cs ++ ds) ≡ replies_on r W L cs ++ replies_on r W (accepted_on r W L cs) ds
replies_on-append r W L [] ds = refl
replies_on-append r W L (c ∷ cs) ds = ap (λ rs. reply_to r W L c.0 c.1 ∷ rs) (replies_on-append r W (after r W L c) cs ds)
