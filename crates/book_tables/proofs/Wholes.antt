-- An advice and an order that are looked up in parts.
use Rattle.std.proofs.Common.{◌≡◌, List, None, Some, Option, option_map, refl, sym, ap, ◌∙◌}
use Rattle.definitions.specs.Means.{Line}
use Rattle.definitions.specs.Page.{PageAdvice, PageLine, PageOrder}
use Rattle.book_tables.specs.Looking.{bare_advice, lines_advised, bare_order, lines_ordered, lines_reserved}

module _ {A B : Type 0} (f : A → B) where
  pub none_bare : (o : Option A) → None ≡ option_map f o → None ≡ o
  none_bare None h = refl
  none_bare (Some a) h = absurd (cc (h))

  pub some_bare : (o : Option A) (b : B) → Some b ≡ option_map f o → (a : A) × (o ≡ Some a) × (b ≡ f a)
  some_bare None b h = absurd (cc (h))
  some_bare (Some a) b h = (a, refl, same b (f a) h)
    where
      same : (x y : B) → ◌≡◌ {A = Option B} (Some x) (Some y) → x ≡ y
      same x y e = cc

pub whole_advice : (o : Option PageAdvice) (b : PageAdvice) (lines : List Line) → Some b ≡ option_map bare_advice o → lines ≡ lines_advised o
    → Some (record { shipment = b.shipment; order = b.order; lines = lines; is_open = b.is_open }) ≡ o
whole_advice o b lines is same =
    let it = some_bare bare_advice o b is in
    (λ i. Some (record { shipment = (it.2 i).shipment; order = (it.2 i).order; lines = (same ∙ ap lines_advised it.1) i; is_open = (it.2 i).is_open })) ∙ sym it.1

pub whole_order : (o : Option PageOrder) (b : PageOrder) (lines : List PageLine) (reserved : List Line) → Some b ≡ option_map bare_order o → lines ≡ lines_ordered o → reserved ≡ lines_reserved o
    → Some (record { number = b.number; address = b.address; lines = lines; reserved = reserved; is_open = b.is_open }) ≡ o
whole_order o b lines reserved is same alike =
    let it = some_bare bare_order o b is in
    (λ i. Some (record { number = (it.2 i).number; address = (it.2 i).address; lines = (same ∙ ap lines_ordered it.1) i; reserved = (alike ∙ ap lines_reserved it.1) i; is_open = (it.2 i).is_open })) ∙ sym it.1
