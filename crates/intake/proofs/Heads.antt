-- what was read so far, and the heads that it may begin with
use Rattle.std.proofs.Common.{◌≡◌, ℕ, ◌+◌, ◌<◌, ◌≤◌, List, [], ◌++◌, take, drop, sym, length, ◌∙◌, ap, take-append-drop, arith, length-append}
use Rattle.std.proofs.lemmas.List.{take-append-le}
use Rattle.std.proofs.Math.Seq.{take-append_seam}
use Rattle.httparse.specs.Grammar.{RequestHead, ReadsRequest, HasNoRequest, print_request}
use Rattle.head_fields.specs.Fields.{most_head, most_fields}
use Rattle.intake.specs.Requests.{HasRequestHead, HasNoHead}
use Rattle.httparse.specs.Spans.{IsRequestWithin, IsRequestAt}
use Rattle.httparse.specs.declared.spans.HeaderSpan.{HeaderSpan}
use Rattle.httparse.specs.declared.spans.RequestSpans.{RequestSpans}
use Rattle.std.proofs.lemmas.List.{length-take-le, length-map}
use Rattle.std.proofs.Common.{append_assoc}

some_bytes : (h : RequestHead) → 0 < length (print_request h)
unfolding print_request
some_bytes h = simp length-append (omega arith)

pub none_in_nothing : HasNoRequest []
none_in_nothing h rest reads =
    let e : 0 ≡ length (print_request h) + length rest = ap length reads.1 ∙ length-append (print_request h) rest in
    let some = some_bytes h in
    absurd (omega arith)

-- a head that fits what was read begins that
within_read : (got more : List ℕ) (h : RequestHead) (rest : List ℕ) → length (print_request h) ≤ length got → ReadsRequest (got ++ more) h rest → ReadsRequest got h (drop (length (print_request h)) got)
within_read got more h rest fits reads =
    let p : List ℕ = print_request h in
    let front : take (length p) got ≡ p = sym (take-append-le (length p) got more fits) ∙ ap (take (length p)) reads.1 ∙ take-append_seam p rest in
    (reads.0, sym (take-append-drop (length p) got) ∙ ap (λ l. l ++ drop (length p) got) front)

pub none_too_large : (got more : List ℕ) → length got ≡ most_head → HasNoRequest got → HasNoHead (got ++ more)
none_too_large got more full none h rest found =
    let size = found.size in
    none h _ (within_read got more h rest (omega arith) found.reads)

-- the head that the spans cover is one of an input that begins with those bytes
pub head_within : (got more : List ℕ) (fields : List HeaderSpan) (spans : RequestSpans) (h : RequestHead) → length got ≤ most_head → length fields ≤ most_fields
    → IsRequestWithin got fields spans → IsRequestAt got fields spans h → HasRequestHead (got ++ more) h (drop spans.len got ++ more)
head_within got more fields spans h room many within at =
    let fits = within.section.len_fits in
    let count = within.section.count_fits in
    let len = at.len in
    let taken : length (take spans.headers fields) ≡ spans.headers = length-take-le spans.headers fields count in
    let as_many : length (take spans.headers fields) ≡ length h.fields =
    simp length-map at (ap length at.fields) in
    record {
      reads = (at.reads.0, ap (λ l. l ++ more) at.reads.1 ∙ append_assoc (print_request h) (drop spans.len got) more);
      size = omega arith;
      fields = omega arith;
    }
