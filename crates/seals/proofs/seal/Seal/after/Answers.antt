use Rattle.std.proofs.Common.{rules, ◌≡◌, ◌++◌, decimal, ap, ◌∙◌}
use Rattle.sha2.specs.Sha256.{sha256}
use Rattle.definitions.specs.Header.{who_text}
use Rattle.definitions.specs.Moments.{stamp}
use Rattle.definitions.specs.Rules.{rules_number}
use Rattle.seals.specs.Seals.{framed}
use Rattle.seals.proofs.Chains.{six_added}
use Rattle.seals.proofs.seal.Seal.after.Goals as goal

pub returns : goal.returns
returns c =
    let w = c.args.entry.now in
    let held = c.add_number-2.ensures _ (c.add-4.ensures _ (c.add-3.ensures _ (c.add_number.ensures _ (c.add-2.ensures _ (c.add.ensures _ c.new_with_prefix-hasher.ensures))))) in
    let whose : c.text.result.now ≡ who_text w.who = search rules in
    let key : c.deref.result.now ≡ w.key = search rules in
    let number : c.number.result ≡ w.n = search rules in
    let when : c.stamp-moment.result ≡ stamp w.moment = search rules in
    let body : c.body.result.now ≡ w.body = search rules in
    let under : c.number_of.result ≡ rules_number w.rules = search rules in
    c.finalize.ensures _ held
    ∙ (λ i. sha256 (c.args.self.now.digest ++ framed (whose i) ++ framed (key i) ++ framed (decimal (number i)) ++ framed (when i) ++ framed (body i) ++ framed (decimal (under i))))
    ∙ ap sha256 (six_added c.args.self.now.digest (framed (who_text w.who)) (framed w.key) (framed (decimal w.n)) (framed (stamp w.moment)) (framed w.body) (framed (decimal (rules_number w.rules))))
