use Rattle.std.proofs.Common.{sym, ◌∙◌, arith}
use Rattle.command_line.proofs.MomentLaws.{formed}
use Rattle.command_line.proofs.moments.moment_of.Goals as goal

pub pair_at-requires : goal.pair_at-requires
pair_at-requires c =
    let f = formed c.args.text.now (sym c.is_form.ensures ∙ c.if-not-is_form.false) in
    record { within = omega (arith, f.long); digits = f.century }

pub pair_at-requires-2 : goal.pair_at-requires-2
pair_at-requires-2 c =
    let f = formed c.args.text.now (sym c.is_form.ensures ∙ c.if-not-is_form.false) in
    record { within = omega (arith, f.long); digits = f.year }

pub pair_at-requires-3 : goal.pair_at-requires-3
pair_at-requires-3 c =
    let f = formed c.args.text.now (sym c.is_form.ensures ∙ c.if-not-is_form.false) in
    record { within = omega (arith, f.long); digits = f.month }

pub pair_at-requires-4 : goal.pair_at-requires-4
pair_at-requires-4 c =
    let f = formed c.args.text.now (sym c.is_form.ensures ∙ c.if-not-is_form.false) in
    record { within = omega (arith, f.long); digits = f.day }

pub pair_at-requires-5 : goal.pair_at-requires-5
pair_at-requires-5 c =
    let f = formed c.args.text.now (sym c.is_form.ensures ∙ c.if-not-is_form.false) in
    record { within = omega (arith, f.long); digits = f.hour }

pub pair_at-requires-6 : goal.pair_at-requires-6
pair_at-requires-6 c =
    let f = formed c.args.text.now (sym c.is_form.ensures ∙ c.if-not-is_form.false) in
    record { within = omega (arith, f.long); digits = f.minute }
