use Rattle.std.proofs.Common.{◌≡◌, ◌∙◌, ◌-◌, ◌++◌, ap, nat_lt, subst}
use Rattle.std.specs.Io.KnownBytes.{Appends}
use Rattle.std.proofs.KnownBytes.{Appends-trans}
use Rattle.folders.specs.Lines as meant
use Rattle.folders.proofs.ToldLaws.{told_more}
use Rattle.folders.proofs.told_names.write_name.Goals as goal

pub loop-first-preserved : goal.loop-first-preserved
loop-first-preserved g c =
    let i = c.loop-first.invariant in
    let b = c.in-Some.first.now in
    let bs = c.in-Some.others.now in
    let k = meant.control_left c.loop-first.left b bs in
    let still = told_more c.loop-first.left b bs c.loop-first.rest.now i.0 (meant.told_name c.args.name.now) c.in-Some.ensures.cases.0 i.2 in
    let is : c.control_left-now.result ≡ k = c.control_left-now.ensures in
    let left : c.saturating_sub-left.result ≡ k - 1 = c.saturating_sub-left.ensures ∙ ap (λ n. n - 1) is in (
      i.0 ++ meant.told_byte (nat_lt 0 k) b,
      Appends-trans _ _ _ _ _ i.1 (subst (λ n. Appends (g.W.Write.contents c.loop-first.out) (g.W.Write.contents c.write_byte.new.out) (meant.told_byte (nat_lt 0 n) b)) is (c.in_ok-write_byte.ensures)),
      ap (λ n. (i.0 ++ meant.told_byte (nat_lt 0 k) b) ++ meant.told_rest n bs) left ∙ still,
    )
