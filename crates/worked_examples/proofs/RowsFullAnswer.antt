-- Worked example of the largest order: the interchange that a depositor sends with it, and the
-- answer that it gets, code A.
use Rattle.std.specs.Prelude.{◌≡◌, ℕ, List, [], ◌∷◌, ◌++◌, slice_get, Some, None, codes, flat_map}
use Rattle.std.proofs.Common.{refl, ap, ◌∙◌}
use Rattle.std.specs.Fmt.{digits}
use Rattle.definitions.specs.Rules.{Today}
use Rattle.definitions.specs.declared.set_kind.SetKind.TheVariants.{ShippingOrder}
use Rattle.definitions.specs.Cut.{Segment, spelled, cut}
use Rattle.definitions.specs.Words.{words_940}
use Rattle.definitions.specs.Faults.{set_fault}
use Rattle.definitions.specs.Structure.{Group, groups_of, envelope_fault}
use Rattle.definitions.specs.Means.{order_of}
use Rattle.definitions.specs.Register.{Entry, Interchange, own}
use Rattle.definitions.specs.Events.{Enrolment, order_fault}
use Rattle.definitions.specs.Halt.{halt}
use Rattle.definitions.specs.History.{Telling, tellings_on}
use Rattle.definitions.specs.Texts.{own_delims, answer}
use Rattle.definitions.specs.Reply.{Reply, Accepted, reply, reply_to_halt}
use Rattle.definitions.proofs.Sample.{WHSE1, ACME, morning, isa_in, gs_in, iea, sent, book}
use Rattle.worked_examples.proofs.RowsFullOrder.{st, full, closed, full_head, full_envelope, full_segments, full_trade}

-- a depositor that has only enrolled
abbrev enrolled : List Entry
enrolled = own (book Today []) ACME

-- its interchange, whatever stands after the ISA
abbrev text : List ℕ → List ℕ
text body = isa_in (codes "000000001") (codes "0") ++ body

-- a group with one set, closed by its SE
abbrev group_with : List Segment → Group
group_with segments = record {
  head = codes "GS" ∷ codes "OW" ∷ codes "ACME" ∷ codes "WHSE1" ∷ codes "20250304" ∷ codes "0915"
      ∷ codes "2" ∷ codes "X" ∷ codes "004010" ∷ [];
  sets = closed segments ∷ [];
  tail = Some (codes "GE" ∷ codes "1" ∷ codes "2" ∷ []);
}

-- what the groups of an interchange are told, and the answer to it
abbrev told : List Group → List Telling
told groups = tellings_on Today own_delims (Enrolment ∷ []) 1 groups

abbrev answer_to : List ℕ → List Group → List ℕ
answer_to body groups = answer WHSE1 ACME morning 1 (text body) (told groups)

abbrev reply_to : List ℕ → Reply
reply_to body = reply Today WHSE1 enrolled (Interchange (text body)) morning

abbrev passed : List ℕ
passed = sent (codes "FA") (codes "000000001") (codes "1")
    (codes "ST*997*0001~AK1*OW*2~AK2*940*0001~AK5*A~AK9*A*1*1*1~SE*6*0001~")

-- a 940 passes where nothing is wrong with its envelope, its segments and its trade
passes : (body : List ℕ) (ss : List Segment) → slice_get ss 0 ≡ Some st
    → envelope_fault (Some ShippingOrder) [] (closed ss) ≡ None
    → set_fault Today own_delims (words_940 Today) ss ≡ None
    → order_fault (Enrolment ∷ []) (order_of ss) ≡ None
    → answer_to body (group_with ss ∷ []) ≡ passed
unfolding digits
passes body ss head envelope segments trade = rw (envelope, segments, trade, head) refl

-- an interchange that nothing halts is accepted, with the answer to its groups
accepts : (body : List ℕ) (groups : List Group) → halt WHSE1 enrolled (text body) ≡ None
    → groups_of ((cut own_delims (text body)).segments) ≡ groups
    → reply_to body ≡ Accepted (answer_to body groups)
accepts body groups unhalted parts =
    ap (reply_to_halt Today WHSE1 enrolled (text body) morning) unhalted
    ∙ ap (λ gs. Accepted (answer_to body gs)) parts

-- the largest order as it is sent
abbrev full_body : List ℕ
full_body = gs_in (codes "OW") (codes "2") ++ flat_map (spelled own_delims) full ++ codes "GE*1*2~"
    ++ iea (codes "1") (codes "000000001")

-- nothing is wrong with it as an interchange
unhalted : halt WHSE1 enrolled (text full_body) ≡ None
unfolding digits
unhalted = refl

-- it has one group, and that has the order alone
full_group : groups_of ((cut own_delims (text full_body)).segments) ≡ group_with full ∷ []
unfolding digits
full_group = refl

-- an order of 999 lines is told A
full_order_passes : reply_to full_body ≡ Accepted passed
full_order_passes = accepts full_body (group_with full ∷ []) unhalted full_group
    ∙ ap (λ answer. Accepted answer)
    (passes full_body full full_head full_envelope full_segments full_trade)
