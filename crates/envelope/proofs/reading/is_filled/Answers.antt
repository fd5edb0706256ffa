use Rattle.std.proofs.Common.{refl, sym, ◌∙◌, ap, true, false, ◌-◌, length, drop, arith, ℕ, length-drop}
use Rattle.std.specs.List.{list_all}
use Rattle.std.proofs.lemmas.List.{take_all}
use Rattle.definitions.specs.declared.widths.TheConstants.{ISA_BYTES}
use Rattle.definitions.specs.Bytes.{is_digit}
use Rattle.definitions.specs.Header.{is_legible}
use Rattle.envelope.proofs.Legibility.{filled}
use Rattle.envelope.proofs.reading.is_filled.Goals as goal

pub returns-then-not-all_digits : goal.returns-then-not-all_digits
returns-then-not-all_digits c = filled c.args.delims.now c.args.text.now true true false _
    (sym c.if-not-is_separated.false ∙ c.is_separated.ensures) (sym c.if-not-has_data.false ∙ c.has_data.ensures)
    (sym c.if-not-all_digits.true ∙ (c.all_digits.ensures ∙ ap (list_all is_digit) c.element.ensures.value)) refl

pub returns : goal.returns
returns c = filled c.args.delims.now c.args.text.now true true true c.is_legible.result
    (sym c.if-not-is_separated.false ∙ c.is_separated.ensures) (sym c.if-not-has_data.false ∙ c.has_data.ensures)
    (sym c.if-not-all_digits.false ∙ (c.all_digits.ensures ∙ ap (list_all is_digit) c.element.ensures.value))
    (c.is_legible.ensures ∙ ap (is_legible c.args.delims.now true) (take_all (length c.args.text.now - ISA_BYTES) (drop ISA_BYTES c.args.text.now) (omega (arith, length-drop {A = ℕ}))))
