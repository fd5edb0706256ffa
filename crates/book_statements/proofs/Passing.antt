-- The rows of a table that a query passes.
use Rattle.std.proofs.Common.{◌≡◌, ◌⊎◌, inl, inr, ℕ, zero, suc, List, [], ◌∷◌, map, filter, flat_map, ◌&&◌, Bool, true, false, cond, refl, sym, ap, subst, ◌∙◌}
use Rattle.std.proofs.lemmas.Bool.{cases_Bool}
use Rattle.std.specs.List.Sorted.{IsPermutation}
use Rattle.std.proofs.lemmas.List.Sorted.{Contains-permutation, IsPermutation-sym}
use Rattle.sqlite.specs.declared.types.Value.{Value}
use Rattle.sqlite.specs.declared.types.Value.TheVariants.{Null, Int, Real, Text, Blob}
use Rattle.sqlite.specs.Order.{Row, column}
use Rattle.sqlite.specs.Collation.TheVariants.{Binary}
use Rattle.sqlite.specs.Query.{Query, output, Output}
use Rattle.sqlite.specs.Term.{Env}
use Rattle.sqlite_schema.specs.Rules.{equal, agree}
use Rattle.sqlite_value.specs.Keys.{plain}
use Rattle.sqlite_value.proofs.KeyLemmas.{first_key-plain}
use Rattle.sqlite_rules.specs.Lists.{Has}
use Rattle.sqlite_rules.proofs.ListLemmas.{has_filtered, has_kept, has_contained, contains_had}
use Rattle.sqlite_rules.proofs.ProbeLemmas.{has_mapped, mapped_has}
use Rattle.book_statements.specs.Steps.{has_key, key_of}
use Rattle.book_statements.proofs.KeyLemmas.{keys_same, keys_agree}

pub flat_map-cond : {A B : Type 0} (t : A → Bool) (f : A → B) (xs : List A) → flat_map (λ x. cond (t x) (f x ∷ []) []) xs ≡ map f (filter t xs)
flat_map-cond t f [] = refl
flat_map-cond t f (x ∷ xs) = elim (cases_Bool (t x)) [ inl e ↦ rw e (ap (λ ys. f x ∷ ys) (flat_map-cond t f xs)) | inr e ↦ rw e (flat_map-cond t f xs) ]

-- the rows of a table that pass the test, each shown by the query
module _ (q : Query) (params : Row) (t : Row → Bool) (src rows : List Row) (kept ordered : List Output)
    (is : kept ≡ map (output q) (map (λ (r : Row). params ∷ r ∷ []) (filter t src))) (same : IsPermutation kept ordered) (shown : rows ≡ map (λ (o : Output). o.1) ordered) where
  abbrev pub env_of : Row → Env
  env_of r = params ∷ r ∷ []

  pub from_row : (row : Row) → Has rows row → (r : Row) × Has src r × (t r ≡ true) × (row ≡ (output q (env_of r)).1)
  from_row row there =
      let o = has_mapped (λ (o : Output). o.1) ordered row (subst (λ rs. Has rs row) shown there) in
      let k = has_contained kept o.0 (Contains-permutation ordered kept o.0 (IsPermutation-sym kept ordered same) (contains_had ordered o.0 o.1)) in
      let e = has_mapped (output q) (map env_of (filter t src)) o.0 (subst (λ os. Has os o.0) is k) in
      let r = has_mapped env_of (filter t src) e.0 e.1 in
      let f = has_filtered t src r.0 r.1 in
      (r.0, f.0, f.1, o.2 ∙ ap (λ (x : Output). x.1) e.2 ∙ ap (λ (x : Env). (output q x).1) r.2)

  pub to_row : (r : Row) → Has src r → t r ≡ true → Has rows (output q (env_of r)).1
  to_row r there passes =
      let kept_it = has_kept t src r there passes in
      let o = subst (λ os. Has os (output q (env_of r))) (sym is) (mapped_has (output q) (map env_of (filter t src)) (env_of r) (mapped_has env_of (filter t src) r kept_it)) in
      let ordered_it = has_contained ordered (output q (env_of r)) (Contains-permutation kept ordered (output q (env_of r)) same (contains_had kept (output q (env_of r)) o)) in
      subst (λ rs. Has rs (output q (env_of r)).1) (sym shown) (mapped_has (λ (x : Output). x.1) ordered (output q (env_of r)) ordered_it)

-- some row passes, or none does
pub find_row : (test : Row → Bool) (rows : List Row) → ((r : Row) × Has rows r × (test r ≡ true)) ⊎ ((r : Row) → Has rows r → test r ≡ false)
find_row test [] = inr (λ r none. absurd none)
find_row test (x ∷ rows) = elim (cases_Bool (test x)) [
  | inl hit ↦ inl (x, inl refl, hit)
  | inr miss ↦ elim (find_row test rows) [
    | inl found ↦ inl (found.0, inr found.1, found.2)
    | inr none ↦ inr (λ r there. elim there [ inl here ↦ ap test here ∙ miss | inr later ↦ none r later ])
  ]
]

-- a row with a key of one column more has one of so many
pub fewer : (k : ℕ) (cells : Row) → has_key (suc k) cells ≡ true → has_key k cells ≡ true
fewer zero cells h = refl
fewer (suc k) [] h = absurd (let e : ◌≡◌ {A = Bool} false true = h in cc)
fewer (suc k) (Null ∷ cells) h = absurd (let e : ◌≡◌ {A = Bool} false true = h in cc)
fewer (suc k) (Int n ∷ cells) h = fewer k cells h
fewer (suc k) (Real x ∷ cells) h = absurd (let e : ◌≡◌ {A = Bool} false true = h in cc)
fewer (suc k) (Text t ∷ cells) h = fewer k cells h
fewer (suc k) (Blob b ∷ cells) h = absurd (let e : ◌≡◌ {A = Bool} false true = h in cc)

-- WHERE the first column is this, and the one at a place that
abbrev pub whose_at : ℕ → Value → Value → Row → Bool
whose_at at a b r = equal Binary (column r 1) a && (equal Binary (column r at) b && true)

-- WHERE the first two columns are these
abbrev pub whose : Value → Value → Row → Bool
whose = whose_at 2

whose_agrees : (a b : Value) (r : Row) → agree plain (1 ∷ 2 ∷ []) r (1 ∷ 2 ∷ []) (Null ∷ a ∷ b ∷ []) ≡ whose a b r
whose_agrees a b r = rw first_key-plain refl

pub whose_key : (id a b : Value) (cells : Row) → has_key 2 (a ∷ b ∷ []) ≡ true → has_key 2 cells ≡ true → whose a b (id ∷ cells) ≡ true → key_of 2 (id ∷ cells) ≡ a ∷ b ∷ []
whose_key id a b cells given has h = keys_same 2 id Null cells (a ∷ b ∷ []) has given (whose_agrees a b (id ∷ cells) ∙ h)

pub key_whose : (id a b : Value) (cells : Row) → has_key 2 (a ∷ b ∷ []) ≡ true → has_key 2 cells ≡ true → key_of 2 (id ∷ cells) ≡ a ∷ b ∷ [] → whose a b (id ∷ cells) ≡ true
key_whose id a b cells given has same = sym (whose_agrees a b (id ∷ cells)) ∙ keys_agree 2 id Null cells (a ∷ b ∷ []) has given same
