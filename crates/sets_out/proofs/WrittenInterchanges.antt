-- Interchanges can be cut again, where no separator and no terminator stands in what was handed
-- over.
use Rattle.std.proofs.Common.{◌≡◌, ℕ, Bool, true, false, not, List, [], ◌∷◌, ◌++◌, length, map, refl, sym, ◌∙◌, ap, Option, Some, None, arith}
use Rattle.std.specs.Prelude.{codes, ◌||◌, ◌==◌, if◌then◌else◌}
use Rattle.std.specs.List.{AllByRecursion}
use Rattle.std.specs.Cmp.Derive.{both_true}
use Rattle.std.proofs.lemmas.Bool.Decides.{nat_tests}
use Rattle.std.proofs.lemmas.List.{append-nil}
use Rattle.definitions.specs.Limits.{most_partner}
use Rattle.definitions.specs.Bytes.{Delims, padded, zero_filled}
use Rattle.definitions.specs.Cut.{Segment, IsWritten, cut, spelled}
use Rattle.definitions.proofs.CutUniqueLaws.{written_again}
use Rattle.definitions.specs.Header.{Who, are_delimiters}
use Rattle.definitions.specs.Moments.{Moment, date6, time4}
use Rattle.definitions.specs.Texts.{own_delims, Receiver, receiver_of, Told, body_997, group_of_sets, isa_segment, set_of_segments}
use Rattle.definitions.proofs.TextLaws.{both_parts}
use Rattle.sets_out.specs.Handed.{receipt_of, shipment_of, function_of, number_of, body_of}
use Rattle.sets_out.specs.declared.sheets.Document.{Document}
use Rattle.sets_out.specs.declared.sheets.Document.TheVariants.{Received, Shipped, Adjusted}
use Rattle.sets_out.specs.Headings.{Heading, ta1_of}
use Rattle.sets_out.specs.Documents.{AdjustedLine, Receipt, Shipment, receipt_body, shipment_body, adjustment_body}
use Rattle.sets_out.specs.Inside.{IsInside, IsOwn, IsHeadingInside, IsToldInside, IsReceiptOwn, IsShipmentOwn, IsAdjustedOwn, IsDocumentOwn, IsCutAgain}
use Rattle.sets_out.specs.Interchanges.{acknowledged, answers_group, between, interchange_segments, groups_for}
use Rattle.sets_out.proofs.Inside.{inside_plain, inside_identifier, inside_padded, inside_date6, inside_time4}
use Rattle.sets_out.proofs.Written.{AreInside, AreWritten, Partner, partner_id, partner_qualifier, done, with, fixed, number, filled, named, all_both, set_written, group_written, ta1_written}
use Rattle.sets_out.proofs.WrittenBodies.{body_997-written, receipt_written, shipment_written, adjustment_written}

-- the component separator is neither of the others
component_apart : (s c t : ℕ) → not (s == c || s == t || c == t) ≡ true → not (c == s || c == t) ≡ true
component_apart s c t h = grind (arith, nat_tests)

component_inside : (d : Delims) → are_delimiters d ≡ true → IsInside d (d.component ∷ [])
component_inside d g = let p = both_parts _ _ g in both_true (component_apart d.separator d.component d.terminator p.1) refl

-- the other side of an interchange, as it stands in ISA
abbrev pub IsReceiverInside : Delims → Receiver → Type 0
IsReceiverInside d r = IsInside d r.qualifier × IsInside d r.id

partner_inside : (d : Delims) → are_delimiters d ≡ true → (w : Who) → Partner w → IsReceiverInside d (receiver_of w)
partner_inside d g w p = (inside_identifier d g w.qualifier (partner_qualifier w p), inside_padded d g most_partner w.id (partner_id w p))

isa_written : (d : Delims) → are_delimiters d ≡ true → (W : Who) (r : Receiver) (t : Moment) (n : ℕ) → Partner W → IsReceiverInside d r → IsWritten d (isa_segment d W r t n)
isa_written d g W r t n p h =
    let sender : IsReceiverInside d (receiver_of W) = partner_inside d g W p in
    let blank : IsInside d (padded 10 []) = inside_padded d g 10 [] refl in
    let last : AreInside d (codes "U" ∷ codes "00401" ∷ zero_filled 9 n ∷ codes "0" ∷ codes "P" ∷ (d.component ∷ []) ∷ []) =
    fixed d g (codes "U") refl (fixed d g (codes "00401") refl (filled d g 9 n (fixed d g (codes "0") refl (fixed d g (codes "P") refl (with d (d.component ∷ []) (component_inside d g) (done d)))))) in
    named d g (codes "ISA") (refl, refl) (fixed d g (codes "00") refl (with d (padded 10 []) blank (fixed d g (codes "00") refl (with d (padded 10 []) blank
    (with d W.qualifier sender.0 (with d (padded most_partner W.id) sender.1 (with d r.qualifier h.0 (with d r.id h.1
    (with d (date6 t) (inside_date6 d g t) (with d (time4 t) (inside_time4 d g t) last))))))))))

interchange_written : (d : Delims) → are_delimiters d ≡ true → (W : Who) (r : Receiver) (t : Moment) (n : ℕ) (inner : List Segment) (groups : ℕ) → Partner W → IsReceiverInside d r
    → AreWritten d inner → AreWritten d (interchange_segments d W r t n inner groups)
interchange_written d g W r t n inner groups p h k = (
  isa_written d g W r t n p h,
  all_both (IsWritten d) inner _ k (named d g (codes "IEA") (refl, refl) (number d g groups (filled d g 9 n (done d))), tt),
)

-- answers

acknowledged_written : (d : Delims) → are_delimiters d ≡ true → (h : Heading) → IsHeadingInside d h → AreWritten d (acknowledged h)
acknowledged_written d g h i = by_asks h.asks
  where
    by_asks : (b : Bool) → AreWritten d (if b then ta1_of h None ∷ [] else [])
    by_asks true = (ta1_written d g h None i, tt)
    by_asks false = tt

bodies_written : (d : Delims) → are_delimiters d ≡ true → (ts : List Told) → AllByRecursion (IsToldInside d) ts → AllByRecursion (AreWritten d) (map body_997 ts)
bodies_written d g [] h = tt
bodies_written d g (t ∷ ts) h = (body_997-written d g t h.0, bodies_written d g ts h.1)

answers_written : (d : Delims) → are_delimiters d ≡ true → (W w : Who) (t : Moment) (n : ℕ) (ts : List Told) → Partner W → Partner w → AllByRecursion (IsToldInside d) ts
    → AreWritten d (answers_group W w t n ts)
answers_written d g W w t n ts p q h = by_test (length ts == 0)
  where
    by_test : (b : Bool) → AreWritten d (if b then [] else group_of_sets W w t n (codes "FA") (codes "997") (map body_997 ts))
    by_test true = tt
    by_test false = group_written d g W w t n (codes "FA") (codes "997") (map body_997 ts) p q (inside_plain d g (codes "FA") refl) (inside_plain d g (codes "997") refl) (bodies_written d g ts h)

answer_written : (d : Delims) → are_delimiters d ≡ true → (W w : Who) (t : Moment) (n : ℕ) (h : Heading) (ts : List Told) → Partner W → Partner w → IsHeadingInside d h
    → AllByRecursion (IsToldInside d) ts → AreWritten d (interchange_segments d W (receiver_of w) t n (between W w t n h ts) (groups_for ts))
answer_written d g W w t n h ts p q i k = interchange_written d g W (receiver_of w) t n (between W w t n h ts) (groups_for ts) p (partner_inside d g w q)
    (all_both (IsWritten d) (acknowledged h) (answers_group W w t n ts) (acknowledged_written d g h i) (answers_written d g W w t n ts p q k))

refusal_written : (d : Delims) → are_delimiters d ≡ true → (W : Who) (t : Moment) (h : Heading) (note : ℕ) → Partner W → IsHeadingInside d h → IsInside d h.qualifier → IsInside d h.id
    → AreWritten d (interchange_segments d W (record { qualifier = h.qualifier; id = h.id }) t 0 (ta1_of h (Some note) ∷ []) 0)
refusal_written d g W t h note p i j k = interchange_written d g W (record { qualifier = h.qualifier; id = h.id }) t 0 (ta1_of h (Some note) ∷ []) 0 p (j, k) (ta1_written d g h (Some note) i, tt)

document_written : (W w : Who) (t : Moment) (n : ℕ) (function set : List ℕ) (body : List Segment) → Partner W → Partner w → IsOwn function → IsOwn set → AreWritten own_delims body
    → AreWritten own_delims (interchange_segments own_delims W (receiver_of w) t n (group_of_sets W w t n function set (body ∷ [])) 1)
document_written W w t n function set body p q i j h =
    interchange_written own_delims refl W (receiver_of w) t n (group_of_sets W w t n function set (body ∷ [])) 1 p (partner_inside own_delims refl w q)
    (group_written own_delims refl W w t n function set (body ∷ []) p q i j (h, tt))

-- the one cut

delimiters_apart : (d : Delims) → are_delimiters d ≡ true → (d.separator == d.terminator) ≡ false
delimiters_apart d g = let p = both_parts _ _ g in by_tests (d.separator == d.component) (d.separator == d.terminator) (d.component == d.terminator) p.1
  where
    by_tests : (a b c : Bool) → not (a || b || c) ≡ true → b ≡ false
    by_tests a false c h = refl
    by_tests true true c h = absurd (cc)
    by_tests false true c h = absurd (cc)

again : (d : Delims) → are_delimiters d ≡ true → (ss : List Segment) → AreWritten d ss → IsCutAgain d ss
again d g ss h = written_again d ss (delimiters_apart d g) h

pub ta1_again : (d : Delims) (h : Heading) (note : Option ℕ) → are_delimiters d ≡ true → IsHeadingInside d h
    → cut d (spelled d (ta1_of h note)) ≡ record { segments = ta1_of h note ∷ []; rest = [] }
ta1_again d h note g i =
    let whole : spelled d (ta1_of h note) ++ [] ≡ spelled d (ta1_of h note) = append-nil (spelled d (ta1_of h note)) in
    ap (cut d) (sym whole) ∙ again d g (ta1_of h note ∷ []) (ta1_written d g h note i, tt)

pub acknowledgment_again : (d : Delims) (place : ℕ) (t : Told) → are_delimiters d ≡ true → IsToldInside d t → IsCutAgain d (set_of_segments (codes "997") place (body_997 t))
acknowledgment_again d place t g h = again d g (set_of_segments (codes "997") place (body_997 t))
    (set_written d g (codes "997") place (body_997 t) (inside_plain d g (codes "997") refl) (body_997-written d g t h))

own_again : (set : List ℕ) (body : List Segment) → IsOwn set → AreWritten own_delims body → IsCutAgain own_delims (set_of_segments set 1 body)
own_again set body i h = again own_delims refl (set_of_segments set 1 body) (set_written own_delims refl set 1 body i h)

pub receipt_again : (t : Moment) (n : ℕ) (r : Receipt) → IsReceiptOwn r → IsCutAgain own_delims (set_of_segments (codes "944") 1 (receipt_body t n r))
receipt_again t n r h = own_again (codes "944") (receipt_body t n r) refl (receipt_written t n r h)

pub shipment_again : (t : Moment) (n : ℕ) (s : Shipment) → IsShipmentOwn s → IsCutAgain own_delims (set_of_segments (codes "945") 1 (shipment_body t n s))
shipment_again t n s h = own_again (codes "945") (shipment_body t n s) refl (shipment_written t n s h)

pub adjustment_again : (t : Moment) (n : ℕ) (ls : List AdjustedLine) → AllByRecursion IsAdjustedOwn ls → IsCutAgain own_delims (set_of_segments (codes "947") 1 (adjustment_body t n ls))
adjustment_again t n ls h = own_again (codes "947") (adjustment_body t n ls) refl (adjustment_written t n ls h)

pub answer_again : (d : Delims) (W w : Who) (t : Moment) (n : ℕ) (h : Heading) (ts : List Told) → are_delimiters d ≡ true → Partner W → Partner w → IsHeadingInside d h
    → AllByRecursion (IsToldInside d) ts → IsCutAgain d (interchange_segments d W (receiver_of w) t n (between W w t n h ts) (groups_for ts))
answer_again d W w t n h ts g p q i k = again d g (interchange_segments d W (receiver_of w) t n (between W w t n h ts) (groups_for ts)) (answer_written d g W w t n h ts p q i k)

pub refusal_again : (d : Delims) (W : Who) (t : Moment) (h : Heading) (note : ℕ) → are_delimiters d ≡ true → Partner W → IsHeadingInside d h → IsInside d h.qualifier → IsInside d h.id
    → IsCutAgain d (interchange_segments d W (record { qualifier = h.qualifier; id = h.id }) t 0 (ta1_of h (Some note) ∷ []) 0)
refusal_again d W t h note g p i j k =
    again d g (interchange_segments d W (record { qualifier = h.qualifier; id = h.id }) t 0 (ta1_of h (Some note) ∷ []) 0) (refusal_written d g W t h note p i j k)

one_set_again : (W w : Who) (t : Moment) (n : ℕ) (function set : List ℕ) (body : List Segment) → Partner W → Partner w → IsOwn function → IsOwn set → AreWritten own_delims body
    → IsCutAgain own_delims (interchange_segments own_delims W (receiver_of w) t n (group_of_sets W w t n function set (body ∷ [])) 1)
one_set_again W w t n function set body p q i j h =
    again own_delims refl (interchange_segments own_delims W (receiver_of w) t n (group_of_sets W w t n function set (body ∷ [])) 1) (document_written W w t n function set body p q i j h)

pub document_again : (W w : Who) (t : Moment) (n : ℕ) (document : Document) → Partner W → Partner w → IsDocumentOwn document
    → IsCutAgain own_delims (interchange_segments own_delims W (receiver_of w) t n (group_of_sets W w t n (function_of document) (number_of document) (body_of t n document ∷ [])) 1)
document_again W w t n (Received r) p q h = one_set_again W w t n (codes "RE") (codes "944") (receipt_body t n (receipt_of r.now)) p q refl refl (receipt_written t n (receipt_of r.now) h)
document_again W w t n (Shipped s) p q h = one_set_again W w t n (codes "SW") (codes "945") (shipment_body t n (shipment_of s.now)) p q refl refl (shipment_written t n (shipment_of s.now) h)
document_again W w t n (Adjusted lines) p q h = one_set_again W w t n (codes "AW") (codes "947") (adjustment_body t n lines.now) p q refl refl (adjustment_written t n lines.now h)
