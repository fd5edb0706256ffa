use Rattle.std.proofs.Common.{◌≡◌, ℕ, false, zero, suc, List, refl, ap, ◌∙◌, sym}
use Rattle.std.specs.Prelude.{bytes_eq, codes}
use Rattle.definitions.specs.Words.{One, Then, optional, times_words, words_after}
use Rattle.tables.specs.Ids.{text_of}
use Rattle.tables.specs.Languages.{found, some_of}
use Rattle.tables.specs.Order.{line, total}
use Rattle.tables.specs.declared.ids.Id.{Id}
use Rattle.tables.specs.declared.ids.Id.TheVariants.{N9}
use Rattle.tables.proofs.order.after_goods.Goals as goal

not_pin : (id : Id) → (id ≡ N9 → ⊥) → bytes_eq (text_of id) (codes "N9") ≡ false
not_pin N9 h = absurd (h refl)
not_pin id h = refl

-- what isn't an N9 stands as after one
no_pin : (id : List ℕ) (left : ℕ) → bytes_eq id (codes "N9") ≡ false
    → words_after id (Then (Then (optional (One (codes "N9"))) (times_words 0 left line)) total) ≡ words_after id (some_of left line total)
no_pin id zero h = rw h refl
no_pin id (suc n) h = rw h refl

pub returns-in_default : goal.returns-in_default
returns-in_default c = λ r.
    c.after_pin.ensures r
    ∙ ap found (sym (no_pin (text_of c.args.id) c.args.left (not_pin c.args.id c.in_default.not-N9)))
