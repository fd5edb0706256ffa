use Rattle.std.proofs.Common.{◌≡◌, ◌∙◌, rules, sym, ap, subst, inl, inr, codes, Bool, true, false, List, Option, None, Some, unwrap_or}
use Rattle.std.specs.Prelude.{IsErrAnd, MatchBool}
use Rattle.std.proofs.NetLemmas.Theorems.{IsSocketText_unique}
use Rattle.clap.specs.Matches.{found_of}
use Rattle.clap.specs.Walk.{Row, Text, first_of, rows_of}
use Rattle.clap.proofs.WalkLemmas.{first_value-rows}
use Rattle.command_line.specs.Asked.{IsEndpointText, IsNear, MayListen, SaysEndpoint, SaysGuarded, has_flag}
use Rattle.std.specs.declared.net.socket_addr.SocketAddr.{SocketAddr}
use Rattle.command_line.specs.declared.words.Endpoint.{Endpoint}
use Rattle.command_line.specs.declared.words.Endpoint.TheVariants.{Inet, Unix}
use Rattle.command_line.proofs.AskedLaws.{reads_on}
use Rattle.command_line.proofs.values.guarded_endpoint.Goals as goal
use Rattle.command_line.proofs.values.guarded_endpoint.Goals.{then-is_near-via-then-is_near, then-is_near-via-else-is_near+then-has_flag}

-- a text writes one endpoint: what is so of it being near is so of each
near_by : (text : Text) (a b : Endpoint) → IsEndpointText text a → IsEndpointText text b → IsNear a → IsNear b
near_by text (Inet a) (Inet b) x y near = subst (λ (e : SocketAddr). IsNear (Inet e)) (IsSocketText_unique text a b x.1 y.1) near
near_by text (Inet a) (Unix path) x y near = tt
near_by text (Unix path) (Inet b) x y near = absurd (y.0 path.now x)
near_by text (Unix path) (Unix other) x y near = tt

neither : (rows : List Row) (a : Endpoint) → (IsNear a → ⊥) → has_flag rows (codes "anyone") ≡ false → MayListen rows a → ⊥
neither rows a far none (inl near) = far near
neither rows a far none (inr any) = absurd (let d : false ≡ true = sym none ∙ any in cc)

is_near : (a : Endpoint) (b : Bool) → b ≡ true → MatchBool b (IsNear a) (IsNear a → ⊥) → IsNear a
is_near a true is near = near
is_near a false is far = absurd (cc)

is_far : (a : Endpoint) (b : Bool) → b ≡ false → MatchBool b (IsNear a) (IsNear a → ⊥) → IsNear a → ⊥
is_far a true is near = absurd (cc)
is_far a false is far = far

module _ (rows : List Row) (id text : Text) (has : first_of id rows ≡ Some text) where
  -- what the option's one text writes
  writes : (a : Endpoint) → SaysEndpoint rows id a → IsEndpointText text a
  writes a says =
      let same : says.0 ≡ text = ap (λ (o : Option Text). unwrap_or o text) (sym says.1 ∙ has) in
      subst (λ (x : Text). IsEndpointText x a) same says.2

  written : (o : Option Endpoint) → SaysGuarded rows id o → (a : Endpoint) × IsEndpointText text a
  written None says = absurd (let d : ◌≡◌ {A = Option Text} None (Some text) = sym says ∙ has in cc)
  written (Some a) says = (a, writes a says.0)

  -- where that is far, and the line doesn't say that it may be, it isn't listened at
  refused : (a : Endpoint) → IsEndpointText text a → (IsNear a → ⊥) → has_flag rows (codes "anyone") ≡ false → (o : Option Endpoint) → SaysGuarded rows id o → ⊥
  refused a is far none None says = absurd (let d : ◌≡◌ {A = Option Text} None (Some text) = sym says ∙ has in cc)
  refused a is far none (Some b) says = neither rows b (λ near. far (near_by text b a (writes b says.0) is near)) none says.1

pub returns-in_default : goal.returns-in_default
returns-in_default c = record {
  ok = sym (first_value-rows (found_of c.args.values.now) c.args.id.now) ∙ sym c.in_default.ensures;
  err = tt;
}

pub returns-in_err-endpoint : goal.returns-in_err-endpoint
returns-in_err-endpoint c =
    let rows = rows_of (found_of c.args.values.now) in
    let has = sym (first_value-rows (found_of c.args.values.now) c.args.id.now) ∙ sym c.in-Some.ensures in
    let same : IsErrAnd c.from_residual.result (λ g. g ≡ c.in_err-endpoint.field-0.0) = search rules in
    reads_on (SaysGuarded rows c.args.id.now) c.from_residual.result c.in_err-endpoint.field-0.0 same c.in_err-endpoint.ensures.err
    (λ q. written rows c.args.id.now c.in-Some.text.now has q.0 q.1)

pub returns-then-is_near : goal.returns-then-is_near
returns-then-is_near c = record {
  ok =
      let has = sym (first_value-rows (found_of c.args.values.now) c.args.id.now) ∙ sym c.in-Some.ensures in (
        (c.in-Some.text.now, has, c.in_ok-endpoint.ensures.ok),
        elim c.then-is_near.branch [
          | then-is_near-via-then-is_near w ↦ inl (is_near c.in_ok-endpoint.endpoint c.is_near.result w.if-is_near.true c.is_near.ensures)
          | then-is_near-via-else-is_near+then-has_flag w ↦ inr (sym w.has_flag.ensures ∙ w.if-has_flag.true)
        ],
      );
  err = tt;
}

pub returns : goal.returns
returns c = record {
  ok = tt;
  err = λ q.
      let rows = rows_of (found_of c.args.values.now) in
      let has = sym (first_value-rows (found_of c.args.values.now) c.args.id.now) ∙ sym c.in-Some.ensures in
      let far = is_far c.in_ok-endpoint.endpoint c.is_near.result c.if-is_near.false c.is_near.ensures in
      absurd (refused rows c.args.id.now c.in-Some.text.now has c.in_ok-endpoint.endpoint c.in_ok-endpoint.ensures.ok far (sym c.has_flag.ensures ∙ c.if-has_flag.false) q.0 q.1);
}
