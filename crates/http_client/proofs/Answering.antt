-- the answer that a head and a body say
use Rattle.std.proofs.Common.{◌≡◌, ℕ, ◌-◌, ◌≤◌, List, ◌++◌, take, drop, Option, sym, subst, length, ◌∙◌, ap, arith, append_assoc, length-drop, Vec, Global, map}
use Rattle.std.proofs.lemmas.List.{length-take-le, length-map}
use Rattle.std.proofs.Math.Seq.{take-length}
use Rattle.std.specs.Io.KnownBytes.{Consumes}
use Rattle.httparse.specs.Grammar.{ResponseHead, print_response}
use Rattle.httparse.specs.Spans.{IsResponseWithin, IsResponseAt, header_bytes, name_and_value}
use Rattle.httparse.specs.declared.spans.HeaderSpan.{HeaderSpan}
use Rattle.httparse.specs.declared.spans.ResponseSpans.{ResponseSpans}
use Rattle.http_client.specs.declared.remote.heading.Said.{Said}
use Rattle.http_client.specs.Fields.{SaysOfBody}
use Rattle.head_fields.specs.Fields.{most_head, most_fields}
use Rattle.counted_io.specs.Inputs.{IsInput, IsFront}
use Rattle.counted_io.proofs.InputLemmas.{more_input}
use Rattle.http_client.specs.Answers.{HasResponseHead, IsAnswer}

-- the head that the spans cover is one of an input that begins with those bytes
head_within : (got more : List ℕ) (fields : List HeaderSpan) (spans : ResponseSpans) (h : ResponseHead) → length got ≤ most_head → length fields ≤ most_fields
    → IsResponseWithin got fields spans → IsResponseAt got fields spans h → HasResponseHead (got ++ more) h (drop spans.len got ++ more)
head_within got more fields spans h room many within at =
    let fits = within.section.len_fits in
    let count = within.section.count_fits in
    let len = at.len in
    let taken : length (take spans.headers fields) ≡ spans.headers = length-take-le spans.headers fields count in
    let as_many : length (take spans.headers fields) ≡ length h.fields =
    simp length-map at (ap length at.fields) in
    record {
      reads = (at.reads.0, ap (λ l. l ++ more) at.reads.1 ∙ append_assoc (print_response h) (drop spans.len got) more);
      size = omega arith;
      fields = omega arith;
    }

-- all that stands after a place
tail_is : (bs : List ℕ) (at : ℕ) → take (length bs - at) (drop at bs) ≡ drop at bs
tail_is bs at = rw (sym (length-drop at bs)) (take-length (drop at bs))

pub answer_is : (old new : Option (List ℕ)) (got : List ℕ) (fields : List HeaderSpan) (spans : ResponseSpans) (h : ResponseHead) (said : Said) (body : Vec ℕ Global)
    → length got ≤ most_head → length fields ≤ most_fields → IsResponseWithin got fields spans → IsResponseAt got fields spans h → Consumes old new got
    → SaysOfBody (map (header_bytes got) (take spans.headers fields)) said
    → (input : List ℕ) × IsInput new input × IsFront body.items said.size (take (length got - spans.len) (drop spans.len got) ++ input)
    → IsAnswer old (record { status = spans.code; is_interchange = said.is_interchange; body = body })
answer_is old new got fields spans h said body room many within at bytes says front =
    let says : SaysOfBody (map name_and_value h.fields) said = subst (λ (fields : List (List ℕ × List ℕ)). SaysOfBody fields said) at.fields says in
    record {
      input = got ++ front.0;
      is_input = more_input old new got front.0 bytes front.1;
      head = h;
      rest = drop spans.len got ++ front.0;
      begins = head_within got front.0 fields spans h room many within at;
      status = at.code;
      kind = says.kind;
      body = record {
        whole = says.whole;
        size = said.size;
        length = says.length;
        front = subst (λ (l : List ℕ). IsFront body.items said.size (l ++ front.0)) (tail_is got spans.len) front.2;
      };
    }
