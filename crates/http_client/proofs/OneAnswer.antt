-- an input has one answer
use Rattle.std.proofs.Common.{◌≡◌, ℕ, List, Option, Some, None, ◌∙◌, sym, subst, ap, take, codes}
use Rattle.httparse.specs.Grammar.{ResponseHead, ReadsResponse, status_code}
use Rattle.httparse.proofs.GrammarLemmas.{response_unique}
use Rattle.http_client.specs.declared.remote.answers.ServerAnswer.{ServerAnswer}
use Rattle.http_client.specs.Fields.{stated, is_x12}
use Rattle.http_client.specs.Answers.{IsAnswer, IsSame, HasBody}

-- what is read from what a reader has is read from some input
pub of_some_input : (known : Option (List ℕ)) (a : ServerAnswer) → IsAnswer known a → IsAnswer None a
of_some_input known a p = record {
  input = p.input;
  is_input = tt;
  head = p.head;
  rest = p.rest;
  begins = p.begins;
  status = p.status;
  kind = p.kind;
  body = p.body;
}

same_size : (m n : ℕ) (x : Option ℕ) → x ≡ Some m → x ≡ Some n → m ≡ n
same_size m n x p q = cc

one_body : (h : ResponseHead) (rest a b : List ℕ) → HasBody h rest a → HasBody h rest b → a ≡ b
one_body h rest a b p q =
    let size : p.size ≡ q.size = same_size p.size q.size _ p.length q.length in
    p.front.1 ∙ ap (λ n. take n rest) size ∙ sym q.front.1

pub one_answer : (input : List ℕ) (a b : ServerAnswer) → IsAnswer (Some input) a → IsAnswer (Some input) b → IsSame a b
one_answer input a b p q =
    let first : ReadsResponse input p.head p.rest = subst (λ (l : List ℕ). ReadsResponse l p.head p.rest) p.is_input p.begins.reads in
    let second : ReadsResponse input q.head q.rest = subst (λ (l : List ℕ). ReadsResponse l q.head q.rest) q.is_input q.begins.reads in
    let same = response_unique input p.head q.head p.rest q.rest first second in
    let body : HasBody p.head p.rest b.body.items =
    subst (λ (h : ResponseHead). HasBody h p.rest b.body.items) (sym same.0) (subst (λ (l : List ℕ). HasBody q.head l b.body.items) (sym same.1) q.body) in
    record {
      status = p.status ∙ ap status_code same.0 ∙ sym q.status;
      kind = p.kind ∙ ap (λ (h : ResponseHead). is_x12 (stated (codes "Content-Type") h)) same.0 ∙ sym q.kind;
      body = one_body p.head p.rest a.body.items b.body.items p.body body;
    }
