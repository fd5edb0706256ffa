use Rattle.std.proofs.Common.{◌≡◌, ◌∙◌, ◌+◌, ◌&&◌, Bool, List, map, take, ap, sym, true}
use Rattle.std.specs.List.{list_all}
use Rattle.std.proofs.lemmas.List.Folds.{list_all_at, list_all_more}
use Rattle.definitions.specs.Bytes.{is_one_of}
use Rattle.definitions.specs.Means.{Line}
use Rattle.definitions.specs.Page.{PageOrder}
use Rattle.page_rows.specs.Soundness.{item_alone}
use Rattle.stock.proofs.Repeats.{item_among}
use Rattle.stock.proofs.sound.in_lines_at_once.Goals as goal

pub returns-then-not-is_among : goal.returns-then-not-is_among
returns-then-not-is_among c =
    let k = c.args.order.now in
    let items = c.deref-line-items.result.now in
    let of : c.deref.result.now ≡ k.lines = c.deref.ensures.value ∙ ap (λ (o : PageOrder). o.lines) c.order.view_is in
    let reserved : items ≡ k.reserved = c.deref-line-items.ensures.value ∙ ap (λ (o : PageOrder). o.reserved) c.order.view_is in
    let item : c.deref-in-loop-line-2.result.now ≡ c.line-item.result.item = c.deref-in-loop-line-2.ensures.value ∙ ap (λ (l : Line). l.item) c.line.view_is in
    let p : Line → Bool = λ l. is_one_of (map (λ m. m.item) k.lines) l.item in
    let said : c.is_among.result ≡ p c.line-item.result =
    c.is_among.ensures (map item_alone c.deref.result.now) (rw c.deref-in-loop-line.ensures.value c.in_ok-items.ensures.are)
    ∙ item_among c.deref-in-loop-line-2.result.now c.deref.result.now
    ∙ (λ i. is_one_of (map (λ m. m.item) (of i)) (item i)) in
    sym (ap (list_all p) (sym reserved) ∙ list_all_at p items c.loop-line.line-index c.line-item.result c.loop-line-test.true (ap p (sym c.line-item.is) ∙ sym said ∙ c.if-not-is_among.true))

pub loop-line-preserved : goal.loop-line-preserved
loop-line-preserved c =
    let k = c.args.order.now in
    let items = c.deref-line-items.result.now in
    let of : c.deref.result.now ≡ k.lines = c.deref.ensures.value ∙ ap (λ (o : PageOrder). o.lines) c.order.view_is in
    let reserved : items ≡ k.reserved = c.deref-line-items.ensures.value ∙ ap (λ (o : PageOrder). o.reserved) c.order.view_is in
    let item : c.deref-in-loop-line-2.result.now ≡ c.line-item.result.item = c.deref-in-loop-line-2.ensures.value ∙ ap (λ (l : Line). l.item) c.line.view_is in
    let p : Line → Bool = λ l. is_one_of (map (λ m. m.item) k.lines) l.item in
    let said : c.is_among.result ≡ p c.line-item.result =
    c.is_among.ensures (map item_alone c.deref.result.now) (rw c.deref-in-loop-line.ensures.value c.in_ok-items.ensures.are)
    ∙ item_among c.deref-in-loop-line-2.result.now c.deref.result.now
    ∙ (λ i. is_one_of (map (λ m. m.item) (of i)) (item i)) in
    let before : list_all p (take c.loop-line.line-index items) ≡ true = ap (λ (ls : List Line). list_all p (take c.loop-line.line-index ls)) reserved ∙ c.loop-line.invariant in
    let here : p c.line-item.result ≡ true = sym said ∙ c.if-not-is_among.false in
    ap (λ (ls : List Line). list_all p (take (c.loop-line.line-index + 1) ls)) (sym reserved)
    ∙ list_all_more p items c.loop-line.line-index c.line-item.result c.loop-line-test.true
    ∙ (λ i. before i && (ap p (sym c.line-item.is) ∙ here) i)
