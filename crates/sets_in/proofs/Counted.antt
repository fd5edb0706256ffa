-- What is known of the numbers of a set without a fault, whichever rules it was judged by: what
-- rules 1 allow rules 2 allow.
use Rattle.std.proofs.Common.{◌≡◌, List, [], None, sym, ◌∙◌, subst}
use Rattle.std.specs.Prelude.{codes}
use Rattle.definitions.specs.declared.rules.Rules.{Rules}
use Rattle.definitions.specs.declared.rules.Rules.TheVariants.{One, Two}
use Rattle.definitions.specs.Bytes.{Delims}
use Rattle.definitions.specs.Cut.{Segment, segments_of, segment_with, element}
use Rattle.definitions.specs.Words.{kind_words, words_940, words_943, words_997}
use Rattle.definitions.specs.declared.set_kind.SetKind.{SetKind}
use Rattle.definitions.specs.declared.set_kind.SetKind.TheVariants.{ShippingOrder, ShipmentAdvice, FunctionalAcknowledgment}
use Rattle.definitions.specs.Faults.{fault_from, set_fault}
use Rattle.definitions.specs.declared.widths.TheConstants.{ADVICE_TOTAL_DIGITS_TWO, ORDER_TOTAL_DIGITS_TWO}
use Rattle.definitions.proofs.FaultsLaws.{set_fault-from}
use Rattle.definitions.proofs.LaterLaws.{set_fault-later}
use Rattle.tables.specs.Judged.{Whole, IsUnfaulted}
use Rattle.sets_in.specs.Amounts.{IsAmount, IsCountable}
use Rattle.sets_in.proofs.Sound.{goods_amounts, ordered_amounts, advised_totals, ordered_totals, document_numbers, amount_with}
use Rattle.sets_in.proofs.Most.{few_goods, few_ordered}

-- a set without fault has none by rules 2
later : (r : Rules) (d : Delims) (kind : SetKind) (ss : List Segment) → set_fault r d (kind_words r kind) ss ≡ None → set_fault Two d (kind_words Two kind) ss ≡ None
later One d kind ss h = set_fault-later d kind ss h
later Two d kind ss h = h

-- a set of the kind has no fault by some delimiters
pub passes : (w : Whole) (kind : SetKind) → IsUnfaulted w → w.kind ≡ kind
    → (d : Delims) × (fault_from Two d (kind_words Two kind) (kind_words Two kind) [] 1 (segments_of w.pieces) ≡ None)
passes w kind s k =
    let d = s.judged.0 in (
      d,
      subst (λ (k : SetKind). fault_from Two d (kind_words Two k) (kind_words Two k) [] 1 (segments_of w.pieces) ≡ None) k
          (sym (set_fault-from Two d (kind_words Two w.kind) (segments_of w.pieces)) ∙ later w.rules d w.kind (segments_of w.pieces) s.judged.1),
    )

pub advice_counted : (w : Whole) → IsUnfaulted w → w.kind ≡ ShipmentAdvice → IsCountable (codes "W04") (codes "W03") ADVICE_TOTAL_DIGITS_TWO (segments_of w.pieces)
advice_counted w s k = let p = passes w ShipmentAdvice s k in record {
  few = few_goods Two p.0 (segments_of w.pieces) p.1;
  quantities = goods_amounts Two p.0 (words_943 Two) (segments_of w.pieces) p.1;
  sum = amount_with (codes "W03") 1 ADVICE_TOTAL_DIGITS_TWO (segments_of w.pieces) (advised_totals Two p.0 (words_943 Two) (segments_of w.pieces) p.1);
}

pub order_counted : (w : Whole) → IsUnfaulted w → w.kind ≡ ShippingOrder → IsCountable (codes "W01") (codes "W76") ORDER_TOTAL_DIGITS_TWO (segments_of w.pieces)
order_counted w s k = let p = passes w ShippingOrder s k in record {
  few = few_ordered Two p.0 (segments_of w.pieces) p.1;
  quantities = ordered_amounts Two p.0 (words_940 Two) (segments_of w.pieces) p.1;
  sum = amount_with (codes "W76") 1 ORDER_TOTAL_DIGITS_TWO (segments_of w.pieces) (ordered_totals Two p.0 (words_940 Two) (segments_of w.pieces) p.1);
}

pub document_known : (w : Whole) → IsUnfaulted w → w.kind ≡ FunctionalAcknowledgment → IsAmount 9 (element (segment_with (codes "AK1") (segments_of w.pieces)) 2)
document_known w s k = let p = passes w FunctionalAcknowledgment s k in
    amount_with (codes "AK1") 2 9 (segments_of w.pieces) (document_numbers Two p.0 words_997 (segments_of w.pieces) p.1)
