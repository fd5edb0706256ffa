-- Lots in the order of the rules.
use Rattle.std.proofs.Common.{◌≡◌, ℕ, true, false, not, ◌&&◌, ◌||◌, eqb, ltb, List, refl, ap, sym, ◌∙◌, subst, inl, inr, Option, Some, None, Ordering}
use Rattle.std.specs.Cmp.{IsStrictWeakOrder, IsTotalOrder}
use Rattle.std.specs.Cmp.Lexicographic.{slice_cmp}
use Rattle.std.specs.Ordering.{is_gt, is_lt, nat_cmp, ordering_reverse, ordering_then}
use Rattle.std.specs.declared.cmp.Ordering.TheVariants.{Less, Equal, Greater}
use Rattle.std.proofs.lemmas.Bool.{cases_Bool}
use Rattle.std.proofs.lemmas.Cmp.{nat_cmp_total, nat_list_cmp_total, on_total, ranked, then_total, tied_itself}
use Rattle.std.proofs.lemmas.List.Sorted.{ranks_by}
use Rattle.definitions.specs.declared.rules.Rules.{Rules}
use Rattle.definitions.specs.declared.rules.Rules.TheVariants.{One, Two}
use Rattle.definitions.specs.Allotment.{Ranked, expires_before, counted_before, ranks_before}
use Rattle.page_rows.specs.Lots.{date_order, count_order, rank_order}
use Rattle.page_rows.proofs.Orders.{Has, IsOrder, AreTotal}
use Rattle.page_rows.proofs.Texts.{texts_total}

-- Each is a total order.

dates_total : IsTotalOrder date_order
dates_total = record { antisymm = turned; trans = through; congr = alike }
  where
    turned : (x y : Option (List ℕ)) → date_order x y ≡ ordering_reverse (date_order y x)
    turned (Some x) (Some y) = nat_list_cmp_total.antisymm x y
    turned (Some x) None = refl
    turned None (Some y) = refl
    turned None None = refl

    through : (x y z : Option (List ℕ)) → date_order x y ≡ Less → date_order y z ≡ Less → date_order x z ≡ Less
    through (Some x) (Some y) (Some z) h g = nat_list_cmp_total.trans x y z h g
    through (Some x) (Some y) None h g = refl
    through (Some x) None (Some z) h g = absurd (cc)
    through (Some x) None None h g = refl
    through None (Some y) z h g = absurd (cc)
    through None None z h g = absurd (cc)

    alike : (x y z : Option (List ℕ)) → date_order x y ≡ Equal → date_order x z ≡ date_order y z
    alike (Some x) (Some y) (Some z) h = nat_list_cmp_total.congr x y z h
    alike (Some x) (Some y) None h = refl
    alike (Some x) None z h = absurd (cc)
    alike None (Some y) z h = absurd (cc)
    alike None None z h = refl

counts_total : IsTotalOrder count_order
counts_total = then_total (on_total (λ (k : Ranked). k.since) nat_cmp_total) (on_total (λ (k : Ranked). k.lot) nat_list_cmp_total)

pub ranks_total : (r : Rules) → IsTotalOrder (rank_order r)
ranks_total One = counts_total
ranks_total Two = then_total (on_total (λ (k : Ranked). k.expiry) dates_total) counts_total

-- The definitions tell what comes before by it.

sooner : (x y : Option (List ℕ)) → expires_before x y ≡ is_lt (date_order x y)
sooner (Some x) (Some y) = refl
sooner (Some x) None = refl
sooner None (Some y) = refl
sooner None None = refl

after : (o : Ordering) → is_lt (ordering_reverse o) ≡ is_gt o
after Less = refl
after Equal = refl
after Greater = refl

earlier : (x y : Ranked) → counted_before x y ≡ is_lt (count_order x y)
earlier x y = elim (cases_Bool (ltb x.since y.since)) [
  | inl e ↦ rw e refl
  | inr e ↦ elim (cases_Bool (eqb x.since y.since)) [ inl f ↦ rw (e, f) refl | inr f ↦ rw (e, f) refl ]
]

pub ranks_are : (r : Rules) (x y : Ranked) → ranks_before r x y ≡ is_lt (rank_order r x y)
ranks_are One x y = earlier x y
ranks_are Two x y =
    (λ i. sooner x.expiry y.expiry i || (not (back i) && earlier x y i)) ∙ then_is (date_order x.expiry y.expiry) (count_order x y)
  where
    back : expires_before y.expiry x.expiry ≡ is_gt (date_order x.expiry y.expiry)
    back = sooner y.expiry x.expiry ∙ ap is_lt (dates_total.antisymm y.expiry x.expiry) ∙ after (date_order x.expiry y.expiry)

    then_is : (o p : Ordering) → (is_lt o || (not (is_gt o) && is_lt p)) ≡ is_lt (ordering_then o p)
    then_is Less p = refl
    then_is Equal p = refl
    then_is Greater p = refl

less_is : (o : Ordering) → is_lt o ≡ true → o ≡ Less
less_is Less h = refl
less_is Equal h = absurd (cc)
less_is Greater h = absurd (cc)

pub ranks_order : (r : Rules) → IsOrder (ranks_before r)
ranks_order r = record {
  never = λ x. ranks_are r x x ∙ ap is_lt (tied_itself (ranks_total r) x);
  through = λ x y z h g. ranks_are r x z
      ∙ ap is_lt ((ranks_total r).trans x y z (less_is (rank_order r x y) (sym (ranks_are r x y) ∙ h)) (less_is (rank_order r y z) (sym (ranks_are r y z) ∙ g)));
}

pub ranks_weak : (r : Rules) → IsStrictWeakOrder (ranks_before r)
ranks_weak r = subst IsStrictWeakOrder (λ i x y. sym (ranks_are r x y) i) (ranks_by (ranks_total r) (λ k. k))

-- Of which neither comes before the other, number and lot are the same.

neither : (r : Rules) (x y : Ranked) → ranks_before r x y ≡ false → ranks_before r y x ≡ false → rank_order r x y ≡ Equal
neither r x y h g = tied (rank_order r x y) (sym (ranks_are r x y) ∙ h) (sym (after (rank_order r x y)) ∙ ap is_lt (sym ((ranks_total r).antisymm y x)) ∙ sym (ranks_are r y x) ∙ g)
  where
    tied : (o : Ordering) → is_lt o ≡ false → is_gt o ≡ false → o ≡ Equal
    tied Less h g = absurd (cc)
    tied Equal h g = refl
    tied Greater h g = absurd (cc)

both : (o p : Ordering) → ordering_then o p ≡ Equal → (o ≡ Equal) × (p ≡ Equal)
both Less p h = absurd (cc)
both Equal p h = (refl, h)
both Greater p h = absurd (cc)

counts_tied : (r : Rules) (x y : Ranked) → rank_order r x y ≡ Equal → count_order x y ≡ Equal
counts_tied One x y h = h
counts_tied Two x y h = (both (date_order x.expiry y.expiry) (count_order x y) h).1

counts_same : (x y : Ranked) → count_order x y ≡ Equal → (x.since ≡ y.since) × (x.lot ≡ y.lot)
counts_same x y h =
    let t = both (nat_cmp x.since y.since) (slice_cmp nat_cmp x.lot y.lot) h in
    let u = both (nat_cmp y.since x.since) (slice_cmp nat_cmp y.lot x.lot) (counts_total.antisymm y x ∙ ap ordering_reverse h) in
    (ranked x.since y.since Equal (sym t.0), texts_total x.lot y.lot (ap is_lt t.1) (ap is_lt u.1))

-- lots of which each has one date
pub ranks_one : (r : Rules) (date : List ℕ → Option (List ℕ)) (xs : List Ranked) → ((x : Ranked) → Has x xs → x.expiry ≡ date x.lot) → AreTotal (ranks_before r) xs
ranks_one r date xs dated = λ x y has there h g.
    let t = counts_same x y (counts_tied r x y (neither r x y h g)) in
    let expiry : x.expiry ≡ y.expiry = dated x has ∙ ap date t.1 ∙ sym (dated y there) in
    (λ i. record { expiry = expiry i; since = t.0 i; lot = t.1 i })
