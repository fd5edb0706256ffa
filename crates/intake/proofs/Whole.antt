-- a path that leads to a route which is always served calls for nothing
use Rattle.std.proofs.Common.{◌≡◌, ◌≢◌, ℕ, zero, suc, ◌-◌, ◌<◌, List, [], ◌∷◌, ◌++◌, drop, Option, Some, None, Bool, true, false, cond, refl, sym, ap, subst, inl, inr, ◌∙◌, arith, ltb, length, ◌==◌, codes, if◌then◌else◌}
use Rattle.std.proofs.lemmas.Bool.Decides.{nat_tests}
use Rattle.std.specs.List.{list_all, onto_first}
use Rattle.std.specs.Str.{is_utf8}
use Rattle.matchit.proofs.OnLiterals.{matchit_on_literals}
use Rattle.matchit.specs.Rows.{RowsOf, param_token, catch_all_token}
use Rattle.matchit.specs.Router.{RouteOf}
use Rattle.matchit.specs.Seek.{first, own, step, seek, slash, param_step, has_slash, with_suffix, longest_suffix, segment, same_text}
use Rattle.definitions.specs.Readings.{parts_at}
use Rattle.definitions.specs.Response.{Method, Get, Post, OtherMethod, Nowhere, is_exchange}
use Rattle.intake.specs.Calls.{call_of, call_in}
use Rattle.intake.specs.Routes.{table, route_of, route_by, route_by_row}
use Rattle.intake.specs.declared.routes.RouteKind.{RouteKind}
use Rattle.intake.specs.declared.routes.RouteKind.TheVariants.{Exchange, Stock, Outbox, Content}
use Rattle.intake.proofs.Seeking.{IsIn, own_in, step_in, param_in, by_either}

-- as `Fits`, to the end of the path, and the last parameter takes no slash
abbrev Ends : List ℕ → List ℕ → Type 0
Ends [] path = path ≡ []
Ends (x ∷ t) path = (x < 256 → (p : List ℕ) × (path ≡ x ∷ p) × Ends t p)
    × (x ≡ 256 → (k : ℕ) × Ends t (drop k path) × (t ≡ [] → has_slash path ≡ false))

none_left : (t path : List ℕ) → t ≡ [] → Ends t path → path ≡ []
none_left [] path e f = f
none_left (x ∷ t) path e f = cc

one_byte : (b : ℕ) (path : List ℕ) → b ≡ 256 → path ≡ [] → has_slash (b ∷ path) ≡ false
one_byte b path e f = rw (e, f) refl

-- no segment of an empty text is longer
not_longer : (s t : List ℕ) → [] ≡ t → 0 < length s → same_text (segment t) s ≡ true → ⊥
not_longer [] t n some e = absurd (omega (arith, some))
not_longer (x ∷ s) [] n some e = cc
not_longer (x ∷ s) (b ∷ t) n some e = cc

module _ {K : Type 0} where
  abbrev Whole : RowsOf K → List ℕ → K → Type 0
  Whole rs path key = (t : List ℕ) × IsIn (t, key) rs × Ends t path

  not_with : (s : List ℕ) (rs : RowsOf K) (key : K) → 0 < length s → IsIn ([], key) (with_suffix s rs) → ⊥
  not_with s [] key some h = h
  not_with s ((t, k) ∷ rest) key some h = by (same_text (segment t) s) refl (not_with s rest key some) h
    where
      by : (v : Bool) → same_text (segment t) s ≡ v → (IsIn ([], key) (with_suffix s rest) → ⊥)
          → IsIn ([], key) (cond v ((t, k) ∷ with_suffix s rest) (with_suffix s rest)) → ⊥
      by true e go (inl same) = not_longer s t (ap (λ (q : List ℕ × K). q.0) same) some e
      by true e go (inr more) = go more
      by false e go more = go more

  last_takes : (rs : RowsOf K) (path : List ℕ) (key : K) → IsIn ([], key) ((param_step rs path).1) → has_slash path ≡ false
  unfolding param_step
  last_takes rs path key h = by (ltb 0 (length (longest_suffix (segment path) rs))) (has_slash path) refl refl h
    where
      by : (u v : Bool) → ltb 0 (length (longest_suffix (segment path) rs)) ≡ u → has_slash path ≡ v
          → IsIn ([], key) ((cond {A = ℕ × RowsOf K} u (length (segment path) - length (longest_suffix (segment path) rs), with_suffix (longest_suffix (segment path) rs) rs)
          (cond v (0, []) (length path, rs))).1) → has_slash path ≡ false
      by true v e f h = absurd (not_with (longest_suffix (segment path) rs) rs key (grind (arith, nat_tests)) h)
      by false true e f h = absurd h
      by false false e f h = f

  by_step : (b : ℕ) (rs : RowsOf K) (path : List ℕ) (key : K) → Whole (step b rs) path key → Whole rs (b ∷ path) key
  by_step b rs path key f = (
    b ∷ f.0,
    step_in b rs f.0 key f.1,
    ((λ few. (path, refl, f.2)), (λ many. (1, f.2, λ last. one_byte b path many (none_left f.0 path last f.2)))),
  )

  by_param : (b : ℕ) (rs : RowsOf K) (path : List ℕ) (n : ℕ) (key : K) → Whole ((param_step (step param_token rs) (b ∷ path)).1) (drop n path) key → Whole rs (b ∷ path) key
  by_param b rs path n key f =
      let ends : f.0 ≡ [] → has_slash (b ∷ path) ≡ false = λ last. last_takes (step param_token rs) (b ∷ path) key
      (subst (λ (t : List ℕ). IsIn (t, key) ((param_step (step param_token rs) (b ∷ path)).1)) last f.1) in (
        param_token ∷ f.0,
        step_in param_token rs f.0 key (param_in (step param_token rs) (b ∷ path) (f.0, key) f.1),
        ((λ few. absurd (omega arith)), (λ many. (suc n, f.2, ends))),
      )

  by_all : (rs : RowsOf K) (path : List ℕ) (key : K) → own (step catch_all_token rs) ≡ Some key → Whole rs path key
  by_all rs path key e =
      (catch_all_token ∷ [], step_in catch_all_token rs [] key (own_in (step catch_all_token rs) key e), ((λ few. absurd (omega arith)), (λ many. absurd (omega arith))))

  whole_in : (skip : ℕ) (rs : RowsOf K) (path : List ℕ) (key : K) → seek skip rs path ≡ Some key → Whole rs (drop skip path) key
  unfolding seek
  whole_in zero rs [] key e = ([], own_in rs key e, refl)
  whole_in (suc skip) rs [] key e = ([], own_in rs key e, refl)
  whole_in (suc skip) rs (b ∷ path) key e = whole_in skip rs path key e
  whole_in zero rs (b ∷ path) key e =
      by_either _ _ key
      (λ s. by_step b rs path key (whole_in 0 (step b rs) path key s))
      (by_either _ _ key
      (λ s. by_param b rs path ((param_step (step param_token rs) (b ∷ path)).0 - 1) key (whole_in ((param_step (step param_token rs) (b ∷ path)).0 - 1) ((param_step (step param_token rs) (b ∷ path)).1) path key s))
      (λ s. by_all rs (b ∷ path) key s))
      e

-- the bytes of a pattern in front of its first parameter
ends_text : (w t path : List ℕ) → list_all (λ b. ltb b 256) w ≡ true → Ends (w ++ t) path → (p : List ℕ) × (path ≡ w ++ p) × Ends t p
ends_text [] t path low f = (path, refl, f)
ends_text (b ∷ w) t path low f =
    let few : b < 256 = grind (arith, nat_tests) in
    let here = f.0 few in
    let rest = ends_text w t here.0 (grind (arith, nat_tests)) here.2 in
    (rest.0, here.1 ∙ ap (λ (l : List ℕ). b ∷ l) rest.1, rest.2)

-- Paths by their first part.

outbox_calls : (p : List ℕ) → call_of (codes "/outbox/" ++ p) ≡ None
outbox_calls p = by (parts_at 47 p)
  where
    by : (parts : List (List ℕ)) → call_in ([] ∷ codes "outbox" ∷ parts) ≡ None
    by [] = refl
    by (a ∷ []) = refl
    by (a ∷ b ∷ []) = refl
    by (a ∷ b ∷ c ∷ []) = refl
    by (a ∷ b ∷ c ∷ d ∷ more) = refl

-- a text without a slash is one part
one_part : (p : List ℕ) → has_slash p ≡ false → parts_at 47 p ≡ p ∷ []
one_part [] free = refl
one_part (b ∷ p) free = by (b == slash) (one_part p) free
  where
    by : (v : Bool) → (has_slash p ≡ false → parts_at 47 p ≡ p ∷ []) → cond v true (has_slash p) ≡ false
        → cond v ([] ∷ parts_at 47 p) (onto_first b (parts_at 47 p)) ≡ (b ∷ p) ∷ []
    by true go free = cc
    by false go free = ap (onto_first b) (go free)

stock_calls : (p : List ℕ) → has_slash p ≡ false → call_of (codes "/stock/" ++ p) ≡ None
stock_calls p free = subst (λ (parts : List (List ℕ)). call_in ([] ∷ codes "stock" ∷ parts) ≡ None) (sym (one_part p free)) refl

exchange_calls : (p : List ℕ) → p ≡ [] → call_of (codes "/x12" ++ p) ≡ None
exchange_calls p e = rw e refl

row_calls : (path : List ℕ) (r : RouteOf RouteKind) → Whole table path r → call_of path ≡ None
unfolding matchit_on_literals
row_calls path r (t, inl e, f) =
    let fits = ends_text (codes "/outbox/") (256 ∷ 47 ∷ 256 ∷ []) path refl (subst (λ (w : List ℕ). Ends w path) (ap (λ (q : List ℕ × RouteOf RouteKind). q.0) e) f) in
    subst (λ (l : List ℕ). call_of l ≡ None) (sym fits.1) (outbox_calls fits.0)
row_calls path r (t, inr (inl e), f) =
    let fits = ends_text (codes "/outbox/") (256 ∷ []) path refl (subst (λ (w : List ℕ). Ends w path) (ap (λ (q : List ℕ × RouteOf RouteKind). q.0) e) f) in
    subst (λ (l : List ℕ). call_of l ≡ None) (sym fits.1) (outbox_calls fits.0)
row_calls path r (t, inr (inr (inl e)), f) =
    let fits = ends_text (codes "/stock/") (256 ∷ []) path refl (subst (λ (w : List ℕ). Ends w path) (ap (λ (q : List ℕ × RouteOf RouteKind). q.0) e) f) in
    let last = fits.2.1 refl in
    subst (λ (l : List ℕ). call_of l ≡ None) (sym fits.1) (stock_calls fits.0 (last.2 refl))
row_calls path r (t, inr (inr (inr (inl e))), f) =
    let fits = ends_text (codes "/x12") [] path refl (subst (λ (w : List ℕ). Ends w path) (ap (λ (q : List ℕ × RouteOf RouteKind). q.0) e) f) in
    subst (λ (l : List ℕ). call_of l ≡ None) (sym fits.1) (exchange_calls fits.0 fits.2)
row_calls path r (t, inr (inr (inr (inr none))), f) = absurd none

pub calls_nothing : (path : List ℕ) → route_of path ≢ Nowhere → call_of path ≡ None
calls_nothing path not = by (is_utf8 path) refl (first table path) refl
  where
    by : (b : Bool) → is_utf8 path ≡ b → (o : Option (RouteOf RouteKind)) → first table path ≡ o → call_of path ≡ None
    by false e o f = absurd (not (rw e refl))
    by true e None f = absurd (not (rw (e, f) refl))
    by true e (Some r) f = row_calls path r (whole_in 0 table path r f)

-- One path leads to where interchanges are handed in.

exchange_row : (path : List ℕ) (r : RouteOf RouteKind) → Whole table path r → r.value ≡ Exchange → path ≡ codes "/x12"
unfolding matchit_on_literals
exchange_row path r (t, inl e, f) is = let other : r.value ≡ Content = ap (λ (q : List ℕ × RouteOf RouteKind). (q.1).value) e in absurd (cc)
exchange_row path r (t, inr (inl e), f) is = let other : r.value ≡ Outbox = ap (λ (q : List ℕ × RouteOf RouteKind). (q.1).value) e in absurd (cc)
exchange_row path r (t, inr (inr (inl e)), f) is = let other : r.value ≡ Stock = ap (λ (q : List ℕ × RouteOf RouteKind). (q.1).value) e in absurd (cc)
exchange_row path r (t, inr (inr (inr (inl e))), f) is =
    let fits = ends_text (codes "/x12") [] path refl (subst (λ (w : List ℕ). Ends w path) (ap (λ (q : List ℕ × RouteOf RouteKind). q.0) e) f) in
    fits.1 ∙ ap (λ (l : List ℕ). codes "/x12" ++ l) fits.2
exchange_row path r (t, inr (inr (inr (inr none))), f) is = absurd none

exchange_kind : (m : Method) (k : RouteKind) (parts : List (List ℕ × List ℕ)) → is_exchange m (route_by k parts) ≡ true → k ≡ Exchange
exchange_kind m Exchange parts e = refl
exchange_kind Post Stock parts e = cc
exchange_kind Post Outbox parts e = cc
exchange_kind Post Content parts e = cc
exchange_kind Get Stock parts e = cc
exchange_kind Get Outbox parts e = cc
exchange_kind Get Content parts e = cc
exchange_kind OtherMethod Stock parts e = cc
exchange_kind OtherMethod Outbox parts e = cc
exchange_kind OtherMethod Content parts e = cc

not_nowhere : (m : Method) → is_exchange m Nowhere ≡ true → ⊥
not_nowhere Post e = cc
not_nowhere Get e = cc
not_nowhere OtherMethod e = cc

pub exchange_path : (m : Method) (path : List ℕ) → is_exchange m (route_of path) ≡ true → path ≡ codes "/x12"
exchange_path m path = by (is_utf8 path) (first table path) refl
  where
    by : (b : Bool) (o : Option (RouteOf RouteKind)) → first table path ≡ o → is_exchange m (if b then route_by_row path o else Nowhere) ≡ true → path ≡ codes "/x12"
    by false o f e = absurd (not_nowhere m e)
    by true None f e = absurd (not_nowhere m e)
    by true (Some r) f e = exchange_row path r (whole_in 0 table path r f) (exchange_kind m r.value _ e)
