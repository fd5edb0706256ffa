use Rattle.std.proofs.Common.{◌≡◌, ◌∙◌, ap, sym, false}
use Rattle.std.specs.Prelude.{bytes_eq}
use Rattle.std.specs.Ordering.{is_lt, nat_cmp}
use Rattle.std.specs.Cmp.Lexicographic.{slice_cmp}
use Rattle.std.proofs.lemmas.Slice.Eq.{bytes_eq-Decides}
use Rattle.page_rows.specs.Keyed.{Pair, row_key}
use Rattle.page_rows.proofs.KeyLemmas.{key_lot, key_apart}
use Rattle.page_rows.proofs.rows.Row.is_before.Goals as goal

pub returns-then-eq : goal.returns-then-eq
returns-then-eq c =
    let x : Pair = row_key c.args.self.now in
    let y : Pair = (c.args.item.now, c.args.lot.now) in
    let item : c.as_slice.result.now ≡ x.0 = cc (c.as_slice.ensures.value, c.self.view_is) in
    let lot : c.as_slice-then-eq.result.now ≡ x.1 = cc (c.as_slice-then-eq.ensures.value, c.self.view_is) in
    let same : x.0 ≡ y.0 = sym item ∙ (bytes_eq-Decides c.as_slice.result.now c.args.item.now).0 (sym c.if-eq.ensures) in
    c.is_lt.ensures ∙ ap is_lt c.cmp.ensures ∙ (λ i. is_lt (slice_cmp nat_cmp (lot i) c.args.lot.now)) ∙ sym (key_lot x y same)

pub returns : goal.returns
returns c =
    let x : Pair = row_key c.args.self.now in
    let y : Pair = (c.args.item.now, c.args.lot.now) in
    let item : c.as_slice.result.now ≡ x.0 = cc (c.as_slice.ensures.value, c.self.view_is) in
    let item2 : c.as_slice-2.result.now ≡ x.0 = cc (c.as_slice-2.ensures.value, c.self.view_is) in
    let apart : bytes_eq x.0 y.0 ≡ false = (λ i. bytes_eq (sym item i) y.0) ∙ sym c.if-eq.ensures in
    c.is_lt-2.ensures ∙ ap is_lt c.cmp-2.ensures ∙ (λ i. is_lt (slice_cmp nat_cmp (item2 i) c.args.item.now)) ∙ sym (key_apart x y apart)
