use Rattle.std.proofs.Common.{◌≡◌, sym, ap, ◌∙◌, true, false}
use Rattle.std.specs.Prelude.{bytes_eq, option_map, Option}
use Rattle.definitions.proofs.TextLaws.{text_is}
use Rattle.definitions.specs.Register.{canonical}
use Rattle.rules.specs.ReadActs.{read_act}
use Rattle.rules.specs.declared.readings.ReadAct.{ReadAct}
use Rattle.rules.proofs.ReadBack.{none_read, same_read, other_read}
use Rattle.rules.proofs.readings.read.Goals as goal

pub returns-in_default : goal.returns-in_default
returns-in_default c =
    sym (none_read c.args.rules c.args.text.now (sym c.in_ok-read.ensures ∙ ap (λ (o : Option ReadAct). option_map read_act o) c.in_default.is))

pub returns-then-eq : goal.returns-then-eq
returns-then-eq c =
    let same : bytes_eq (canonical (read_act c.in-Some.read)) c.args.text.now ≡ true =
    ap (λ x. bytes_eq x c.args.text.now) (ap canonical (sym c.act.ensures) ∙ sym c.in_ok-again.ensures ∙ sym c.as_slice.ensures.value) ∙ sym c.eq.ensures ∙ c.if-eq.true in
    sym (same_read c.args.rules c.args.text.now (read_act c.in-Some.read) (sym c.in_ok-read.ensures ∙ ap (λ (o : Option ReadAct). option_map read_act o) c.in-Some.is)
    (text_is (canonical (read_act c.in-Some.read)) c.args.text.now same))

pub returns : goal.returns
returns c =
    let other : bytes_eq (canonical (read_act c.in-Some.read)) c.args.text.now ≡ false =
    ap (λ x. bytes_eq x c.args.text.now) (ap canonical (sym c.act.ensures) ∙ sym c.in_ok-again.ensures ∙ sym c.as_slice.ensures.value) ∙ sym c.eq.ensures ∙ c.if-eq.false in
    sym (other_read c.args.rules c.args.text.now (read_act c.in-Some.read) (sym c.in_ok-read.ensures ∙ ap (λ (o : Option ReadAct). option_map read_act o) c.in-Some.is) other)
