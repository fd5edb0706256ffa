use Rattle.std.proofs.Common.{◌≡◌, true, false, sym, ap, ◌∙◌, subst, List, ℕ, codes}
use Rattle.intake.specs.Answers.{seen}
use Rattle.head_fields.specs.Fields.{IsValues, values}
use Rattle.intake.specs.Fields.{head_of, seen_method}
use Rattle.intake.specs.Admitting.{asker_at}
use Rattle.intake.specs.Reaching.{may_reach}
use Rattle.request_guard.specs.Askers.{asker_of}
use Rattle.intake.specs.Targets.{has_body, seen_target, target_of}
use Rattle.counted_io.proofs.Sends.{tail_is}
use Rattle.intake.proofs.Answering.{foreign, encoded, refused, cut_off, wanting, queried, handed, at_head, from_head}
use Rattle.intake.proofs.serving.answer.Goals as goal

pub returns-then-is_among-clause-answered : goal.returns-then-is_among-clause-answered
returns-then-is_among-clause-answered g c = λ h at.
    let s : asker_at c.args.access h ≡ c.asker_of-asker.result = sym (c.asker_of-asker.ensures ∙ ap (asker_of c.args.access.from) at.fields) in
    let path : c.of.result.now ≡ h.target = c.of.ensures ∙ at.path in
    let r : target_of c.args.access.audience h.target ≡ seen_target c.in-Ok.target = cc (c.in-Ok.ensures, path) in
    let y : may_reach (asker_at c.args.access h) (target_of c.args.access.audience h.target) ≡ true = rw (s, r) (sym c.may_reach.ensures ∙ c.if-not-may_reach.false) in
    let e : (head_of h).is_encoded ≡ true = cc (c.is_among.ensures, at.fields, c.if-is_among.true) in
    encoded _ _ _ _ _ _ _ _ _ y e (ap seen c.unsent-then-is_among.ensures.response ∙ c.bare_response-then-is_among.ensures) c.unsent-then-is_among.ensures.sender

pub returns-then-not-may_reach-clause-answered : goal.returns-then-not-may_reach-clause-answered
returns-then-not-may_reach-clause-answered g c = λ h at.
    let s : asker_at c.args.access h ≡ c.asker_of-asker.result = sym (c.asker_of-asker.ensures ∙ ap (asker_of c.args.access.from) at.fields) in
    let path : c.of.result.now ≡ h.target = c.of.ensures ∙ at.path in
    let r : target_of c.args.access.audience h.target ≡ seen_target c.in-Ok.target = cc (c.in-Ok.ensures, path) in
    let y : may_reach (asker_at c.args.access h) (target_of c.args.access.audience h.target) ≡ false = rw (s, r) (sym c.may_reach.ensures ∙ c.if-not-may_reach.true) in
    foreign _ _ _ _ _ _ _ _ _ y (ap seen c.unsent-then-not-may_reach.ensures.response ∙ c.bare_response.ensures) c.unsent-then-not-may_reach.ensures.sender

pub returns-in_default-clause-answered : goal.returns-in_default-clause-answered
returns-in_default-clause-answered g c = λ h at. wanting _ _ _ _ _ _ _ _ _ (ap seen c.unsent.ensures.response ∙ c.of_fault.ensures) c.unsent.ensures.sender

pub returns-then-not-has_body-clause-answered : goal.returns-then-not-has_body-clause-answered
returns-then-not-has_body-clause-answered g c = λ h at.
    let e : (head_of h).is_encoded ≡ false = cc (c.is_among.ensures, at.fields, c.if-is_among.false) in
    let s : asker_at c.args.access h ≡ c.asker_of-asker.result = sym (c.asker_of-asker.ensures ∙ ap (asker_of c.args.access.from) at.fields) in
    let path : c.of.result.now ≡ h.target = c.of.ensures ∙ at.path in
    let r : target_of c.args.access.audience h.target ≡ seen_target c.in-Ok.target = cc (c.in-Ok.ensures, path) in
    let y : may_reach (asker_at c.args.access h) (target_of c.args.access.audience h.target) ≡ true = rw (s, r) (sym c.may_reach.ensures ∙ c.if-not-may_reach.false) in
    let m : (head_of h).method ≡ seen_method c.read_method-method.result = cc (c.read_method-method.ensures, c.of-2.ensures, at.method) in
    let x : has_body (head_of h).method (target_of c.args.access.audience h.target) ≡ false = rw (m, r) (sym c.has_body.ensures ∙ c.if-not-has_body.true) in
    queried _ _ _ _ _ _ _ _ _ _ y e x (at_head _ _ _ _ h _ _ _ _ _ _ s m r c.answer_at.ensures.served) (from_head _ h _ _ _ _ _ _ s m r c.answer_at.ensures.sender)

pub returns-in-Err-clause-answered : goal.returns-in-Err-clause-answered
returns-in-Err-clause-answered g c = λ h at.
    let e : (head_of h).is_encoded ≡ false = cc (c.is_among.ensures, at.fields, c.if-is_among.false) in
    let s : asker_at c.args.access h ≡ c.asker_of-asker.result = sym (c.asker_of-asker.ensures ∙ ap (asker_of c.args.access.from) at.fields) in
    let path : c.of.result.now ≡ h.target = c.of.ensures ∙ at.path in
    let r : target_of c.args.access.audience h.target ≡ seen_target c.in-Ok.target = cc (c.in-Ok.ensures, path) in
    let y : may_reach (asker_at c.args.access h) (target_of c.args.access.audience h.target) ≡ true = rw (s, r) (sym c.may_reach.ensures ∙ c.if-not-may_reach.false) in
    let m : (head_of h).method ≡ seen_method c.read_method-method.result = cc (c.read_method-method.ensures, c.of-2.ensures, at.method) in
    let x : has_body (head_of h).method (target_of c.args.access.audience h.target) ≡ true = rw (m, r) (sym c.has_body.ensures ∙ c.if-not-has_body.false) in
    let v : IsValues c.values_of.result (head_of h).lengths = subst (λ (fields : List (List ℕ × List ℕ)). IsValues c.values_of.result (values (codes "Content-Length") fields)) at.fields c.values_of.ensures in
    refused _ _ _ _ _ _ _ _ _ _ y e x (c.in-Err.ensures (head_of h).lengths v) (ap seen c.unsent-in-Err.ensures.response ∙ c.bare_response-in-Err.ensures) c.unsent-in-Err.ensures.sender

pub returns-in-Whole-clause-answered : goal.returns-in-Whole-clause-answered
returns-in-Whole-clause-answered g c = λ h at.
    let e : (head_of h).is_encoded ≡ false = cc (c.is_among.ensures, at.fields, c.if-is_among.false) in
    let s : asker_at c.args.access h ≡ c.asker_of-asker.result = sym (c.asker_of-asker.ensures ∙ ap (asker_of c.args.access.from) at.fields) in
    let path : c.of.result.now ≡ h.target = c.of.ensures ∙ at.path in
    let r : target_of c.args.access.audience h.target ≡ seen_target c.in-Ok.target = cc (c.in-Ok.ensures, path) in
    let y : may_reach (asker_at c.args.access h) (target_of c.args.access.audience h.target) ≡ true = rw (s, r) (sym c.may_reach.ensures ∙ c.if-not-may_reach.false) in
    let m : (head_of h).method ≡ seen_method c.read_method-method.result = cc (c.read_method-method.ensures, c.of-2.ensures, at.method) in
    let x : has_body (head_of h).method (target_of c.args.access.audience h.target) ≡ true = rw (m, r) (sym c.has_body.ensures ∙ c.if-not-has_body.false) in
    let v : IsValues c.values_of.result (head_of h).lengths = subst (λ (fields : List (List ℕ × List ℕ)). IsValues c.values_of.result (values (codes "Content-Length") fields)) at.fields c.values_of.ensures in
    let body = rw c.in-Whole.is at c.in_ok-body.ensures.body in
    handed _ _ _ _ _ _ _ _ _ _ _ body.0 _ _ (tail_is c.args.got.now c.args.spans.now.len) body.1 y e x (c.in-Ok-length_of.ensures (head_of h).lengths v) body.2.0
    (c.as_slice.ensures.value ∙ body.2.1) (at_head _ _ _ _ h _ _ _ _ _ _ s m r c.answer_at-in-Whole.ensures.served) (from_head _ h _ _ _ _ _ _ s m r c.answer_at-in-Whole.ensures.sender)

pub returns-in-CutOff-clause-answered : goal.returns-in-CutOff-clause-answered
returns-in-CutOff-clause-answered g c = λ h at.
    let e : (head_of h).is_encoded ≡ false = cc (c.is_among.ensures, at.fields, c.if-is_among.false) in
    let s : asker_at c.args.access h ≡ c.asker_of-asker.result = sym (c.asker_of-asker.ensures ∙ ap (asker_of c.args.access.from) at.fields) in
    let path : c.of.result.now ≡ h.target = c.of.ensures ∙ at.path in
    let r : target_of c.args.access.audience h.target ≡ seen_target c.in-Ok.target = cc (c.in-Ok.ensures, path) in
    let y : may_reach (asker_at c.args.access h) (target_of c.args.access.audience h.target) ≡ true = rw (s, r) (sym c.may_reach.ensures ∙ c.if-not-may_reach.false) in
    let m : (head_of h).method ≡ seen_method c.read_method-method.result = cc (c.read_method-method.ensures, c.of-2.ensures, at.method) in
    let x : has_body (head_of h).method (target_of c.args.access.audience h.target) ≡ true = rw (m, r) (sym c.has_body.ensures ∙ c.if-not-has_body.false) in
    let v : IsValues c.values_of.result (head_of h).lengths = subst (λ (fields : List (List ℕ × List ℕ)). IsValues c.values_of.result (values (codes "Content-Length") fields)) at.fields c.values_of.ensures in
    let body = rw c.in-CutOff.is at c.in_ok-body.ensures.body in
    cut_off _ _ _ _ _ _ _ _ _ _ body.0 _ (tail_is c.args.got.now c.args.spans.now.len) body.1 y e x (c.in-Ok-length_of.ensures (head_of h).lengths v) body.2
    (ap seen c.unsent-in-CutOff.ensures.response ∙ c.bare_response-in-CutOff.ensures) c.unsent-in-CutOff.ensures.sender

pub returns-in-NoMemory-clause-answered : goal.returns-in-NoMemory-clause-answered
returns-in-NoMemory-clause-answered g c = λ h at. wanting _ _ _ _ _ _ _ _ _ (ap seen c.unsent-in-NoMemory.ensures.response ∙ c.of_fault-in-NoMemory.ensures) c.unsent-in-NoMemory.ensures.sender
