-- One seal is of one register, or two texts have one digest.
use Rattle.std.proofs.Common.{◌≡◌, ◌≢◌, ◌⊎◌, inl, inr, ℕ, zero, suc, Bool, true, false, Option, Some, None, List, [], ◌∷◌, ◌++◌, length, take, decimal, leb-true, refl, sym, ap, subst, ◌∙◌, arith}
use Rattle.std.specs.Prelude.{All, bytes_eq, nat_le, if◌then◌else◌}
use Rattle.std.specs.List.{list_all}
use Rattle.std.specs.Cmp.Derive.{both_true}
use Rattle.std.proofs.lemmas.List.{length-take-le}
use Rattle.std.proofs.lemmas.List.Elements.{All-head, All-tail, All-take}
use Rattle.std.proofs.lemmas.Fmt.{decimal_injective}
use Rattle.sha2.proofs.Facts256.{length-sha256}
use Rattle.definitions.specs.declared.rules.Rules.{Rules}
use Rattle.definitions.specs.declared.rules.Rules.TheVariants.{One, Two}
use Rattle.definitions.specs.Rules.{rules_number}
use Rattle.definitions.specs.Header.{Who}
use Rattle.definitions.specs.Register.{Entry}
use Rattle.definitions.specs.Readings.{entry_from, is_entry}
use Rattle.definitions.specs.Accepted.{IsLegal}
use Rattle.definitions.proofs.TextLaws.{both_parts, same_text, text_is}
use Rattle.definitions.proofs.ReadingLaws.{entry_from-entry}
use Rattle.definitions.proofs.RegisterLaws.{legal-entries}
use Rattle.rules.specs.Written.{Written, written}
use Rattle.store.specs.Replayed.{all_written, written_on}
use Rattle.seals.specs.Seals.{AreHeld, Collide, IsHeld, blank_seal, digested, digested_on, entry_text, fields, seal_after, seal_of, seal_of_first, seal_on}
use Rattle.seals.proofs.Chains.{length-written_on, written_on-take}
use Rattle.seals.proofs.Framing.{framed_apart, splits_at}

-- two texts are one, or differ
one_or_other : (a b : List ℕ) → (a ≡ b) ⊎ (a ≢ b)
one_or_other a b = by (bytes_eq a b) refl
  where
    by : (t : Bool) → bytes_eq a b ≡ t → (a ≡ b) ⊎ (a ≢ b)
    by true h = inl (text_is a b h)
    by false h = inr (λ e. let wrong : ◌≡◌ {A = Bool} true false = sym (same_text a) ∙ ap (bytes_eq a) e ∙ h in cc)

-- what is written down of entries, each as its fields
abbrev all_fields : List Written → List (List (List ℕ))
all_fields [] = []
all_fields (w ∷ ws) = fields w ∷ all_fields ws

-- a collision at a later place
later : (t u : List ℕ) (ts us : List (List ℕ)) → Collide ts us → Collide (t ∷ ts) (u ∷ us)
later t u ts us k = record { place = suc k.place; first = k.first; second = k.second; of_one = k.of_one; of_other = k.of_other; differ = k.differ; same = k.same }

-- seals of 32 bytes that come to one by as many entries are one, and so are the fields of these
same_chains : (s t : List ℕ) (ws vs : List Written) → length s ≡ length t → length ws ≡ length vs
    → All (λ w. AreHeld (fields w)) ws → All (λ w. AreHeld (fields w)) vs → seal_on s ws ≡ seal_on t vs
    → ((s ≡ t) × (all_fields ws ≡ all_fields vs)) ⊎ Collide (digested_on s ws) (digested_on t vs)
same_chains s t [] [] long many m n h = inl (h, refl)
same_chains s t [] (v ∷ vs) long many m n h = absurd (omega (arith, many))
same_chains s t (w ∷ ws) [] long many m n h = absurd (omega (arith, many))
same_chains s t (w ∷ ws) (v ∷ vs) long many m n h =
    let H : Written → Type 0 = λ w. AreHeld (fields w) in
    let digests : length (seal_after s w) ≡ length (seal_after t v) = length-sha256 (s ++ entry_text w) ∙ sym (length-sha256 (t ++ entry_text v)) in
    elim (same_chains (seal_after s w) (seal_after t v) ws vs digests (omega (arith, many)) (All-tail H w ws m) (All-tail H v vs n) h) [
      | inr found ↦ inr (later (s ++ entry_text w) (t ++ entry_text v) (digested_on (seal_after s w) ws) (digested_on (seal_after t v) vs) found)
      | inl same ↦ elim (one_or_other (s ++ entry_text w) (t ++ entry_text v)) [
        | inr differ ↦ inr (record { place = 0; first = s ++ entry_text w; second = t ++ entry_text v; of_one = refl; of_other = refl; differ = differ; same = same.0 })
        | inl one ↦
            let parts = splits_at s t (entry_text w) (entry_text v) long one in
            let here = framed_apart (fields w) (fields v) (All-head H w ws m) (All-head H v vs n) parts.1 in
            inl (parts.0, (λ i. here i ∷ same.1 i))
      ]
    ]

-- numbers of rules are told apart
rules_apart : (q r : Rules) → decimal (rules_number q) ≡ decimal (rules_number r) → q ≡ r
rules_apart One One h = refl
rules_apart One Two h = absurd (omega (arith, decimal_injective 1 2 (omega arith) (omega arith) h))
rules_apart Two One h = absurd (omega (arith, decimal_injective 2 1 (omega arith) (omega arith) h))
rules_apart Two Two h = refl

-- a field at its place
abbrev field_at : ℕ → List (List ℕ) → List ℕ
field_at n [] = []
field_at zero (t ∷ ts) = t
field_at (suc n) (t ∷ ts) = field_at n ts

-- an entry that can be read from its row is told by its fields
same_entry : (before behind : List Entry) (e f : Entry) → is_entry e ≡ true → is_entry f ≡ true → fields (written before e) ≡ fields (written behind f) → e ≡ f
same_entry before behind e f good fine h =
    let whose = ap (field_at 0) h in
    let key = ap (field_at 1) h in
    let when = ap (field_at 3) h in
    let body = ap (field_at 4) h in
    let under = rules_apart e.rules f.rules (ap (field_at 5) h) in
    let both : Some e ≡ Some f = sym (entry_from-entry e good) ∙ (λ i. entry_from (under i) (whose i) (key i) (when i) (body i)) ∙ entry_from-entry f fine in
    cc

heads : {X : Type 0} (x y : X) (xs ys : List X) → x ∷ xs ≡ y ∷ ys → x ≡ y
heads x y xs ys h = cc

tails : {X : Type 0} (x y : X) (xs ys : List X) → x ∷ xs ≡ y ∷ ys → xs ≡ ys
tails x y xs ys h = cc

same_entries : (before behind L M : List Entry) → length L ≡ length M → list_all is_entry L ≡ true → list_all is_entry M ≡ true → all_fields (written_on before L) ≡ all_fields (written_on behind M) → L ≡ M
same_entries before behind [] [] many good fine h = refl
same_entries before behind [] (f ∷ M) many good fine h = absurd (omega (arith, many))
same_entries before behind (e ∷ L) [] many good fine h = absurd (omega (arith, many))
same_entries before behind (e ∷ L) (f ∷ M) many good fine h =
    let p = both_parts (is_entry e) (list_all is_entry L) good in
    let q = both_parts (is_entry f) (list_all is_entry M) fine in
    let first = heads (fields (written before e)) (fields (written behind f)) (all_fields (written_on (before ++ e ∷ []) L)) (all_fields (written_on (behind ++ f ∷ []) M)) h in
    let rest = tails (fields (written before e)) (fields (written behind f)) (all_fields (written_on (before ++ e ∷ []) L)) (all_fields (written_on (behind ++ f ∷ []) M)) h in
    let here = same_entry before behind e f p.0 q.0 first in
    let more = same_entries (before ++ e ∷ []) (behind ++ f ∷ []) L M (omega (arith, many)) p.1 q.1 rest in
    (λ i. here i ∷ more i)

-- registers of as many entries
one_register : (L M : List Entry) → list_all is_entry L ≡ true → list_all is_entry M ≡ true → IsHeld L → IsHeld M → length L ≡ length M → seal_of L ≡ seal_of M
    → (L ≡ M) ⊎ Collide (digested L) (digested M)
one_register L M good fine m n many h =
    elim (same_chains blank_seal blank_seal (all_written L) (all_written M) refl (length-written_on [] L ∙ many ∙ sym (length-written_on [] M)) m n h) [
      | inr found ↦ inr found
      | inl same ↦ inl (same_entries [] [] L M many good fine same.1)
    ]

-- the first entries
entries_taken : (n : ℕ) (L : List Entry) → list_all is_entry L ≡ true → list_all is_entry (take n L) ≡ true
entries_taken zero L h = refl
entries_taken (suc n) [] h = refl
entries_taken (suc n) (e ∷ L) h = let p = both_parts (is_entry e) (list_all is_entry L) h in both_true p.0 (entries_taken n L p.1)

held_taken : (n : ℕ) (L : List Entry) → IsHeld L → IsHeld (take n L)
held_taken n L h =
    let H : Written → Type 0 = λ w. AreHeld (fields w) in
    subst (All H) (sym (written_on-take [] L n)) (All-take H n (all_written L) h)

pub noted : (V W : Who) (L M : List Entry) → IsLegal Two V L → IsLegal Two W M → IsHeld L → IsHeld M → seal_of_first (length L) M ≡ Some (seal_of L)
    → (take (length L) M ≡ L) ⊎ Collide (digested (take (length L) M)) (digested L)
noted V W L M legal lawful m n h = by (nat_le (length L) (length M)) refl h
  where
    by : (t : Bool) → nat_le (length L) (length M) ≡ t → (if t then Some (seal_of (take (length L) M)) else None) ≡ Some (seal_of L)
        → (take (length L) M ≡ L) ⊎ Collide (digested (take (length L) M)) (digested L)
    by false fits is = absurd (let wrong : ◌≡◌ {A = Option (List ℕ)} None (Some (seal_of L)) = is in cc)
    by true fits is =
        let one : seal_of (take (length L) M) ≡ seal_of L = cc in
        one_register (take (length L) M) L (entries_taken (length L) M (legal-entries Two W M lawful)) (legal-entries Two V L legal)
        (held_taken (length L) M n) m (length-take-le (length L) M (leb-true (length L) (length M) fits)) one
