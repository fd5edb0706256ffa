use Rattle.std.proofs.Common.{sym, ap, ◌∙◌, arith}
use Rattle.std.proofs.lemmas.List.{get_or_default}
use Rattle.page_rows.specs.Keyed.{key_before, row_key}
use Rattle.page_rows.specs.OfPairs.{is_row, one}
use Rattle.page_rows.proofs.Keys.{was, rank_none}
use Rattle.page_rows.proofs.KeyLemmas.{pairs_strict, row_test, of_pair_found}
use Rattle.page_rows.proofs.rows.place_of.Goals as goal

pub returns-then-i-rows : goal.returns-then-i-rows
returns-then-i-rows c =
    of_pair_found one c.args.item.now c.args.lot.now c.args.rows.now c.requires
    ∙ ap (was one) (rank_none key_before pairs_strict row_key c.args.rows.now (c.args.item.now, c.args.lot.now) (is_row c.args.item.now c.args.lot.now) c.rank_of-i.result
    (row_test c.args.item.now c.args.lot.now) c.requires c.rank_of-i.ensures (λ d within. absurd (omega arith)))

pub returns : goal.returns
returns c =
    of_pair_found one c.args.item.now c.args.lot.now c.args.rows.now c.requires
    ∙ ap (was one) (rank_none key_before pairs_strict row_key c.args.rows.now (c.args.item.now, c.args.lot.now) (is_row c.args.item.now c.args.lot.now) c.rank_of-i.result
    (row_test c.args.item.now c.args.lot.now) c.requires c.rank_of-i.ensures
    (λ d within. ap (is_row c.args.item.now c.args.lot.now) (get_or_default c.args.rows.now c.rank_of-i.result d c.index-rows-i.result within ∙ sym c.index-rows-i.is) ∙ sym c.is_of.ensures ∙ c.if-is_of.false))
