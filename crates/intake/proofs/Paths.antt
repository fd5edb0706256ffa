-- paths and their parts, as text
use Rattle.std.proofs.Common.{◌≡◌, ℕ, ◌+◌, ◌-◌, ◌<◌, List, [], ◌∷◌, ◌++◌, length, take, drop, get_or, Some, true, false, cond, ltb, leb, ◌&&◌, inl, inr, subst, refl, sym, ◌∙◌, ap, arith, codes, Bool, if◌then◌else◌}
use Rattle.std.proofs.lemmas.Bool.Decides.{nat_tests}
use Rattle.std.specs.Str.{IsUtf8, is_utf8, IsCharBoundary}
use Rattle.std.proofs.lemmas.Str.{is_utf8-from_IsUtf8, IsUtf8-from_is_utf8, IsUtf8-between, IsUtf8-nil, IsCharBoundary-after_ascii, IsCharBoundary-before_ascii, IsCharBoundary-end}
use Rattle.intake.proofs.Seeking.{found_in, Found, Fits}
use Rattle.matchit.proofs.OnLiterals.{matchit_on_literals}
use Rattle.intake.proofs.Slashes.{slash_after, segment_ends}
use Rattle.matchit.specs.Params.{walk, AllText, part_of, next_at, wild_from, wild_stop, after_token}
use Rattle.matchit.specs.Router.{RouteOf}
use Rattle.std.specs.List.{list_all}
use Rattle.std.proofs.lemmas.List.{get_or-append-add}
use Rattle.matchit.specs.Seek.{first, has_slash, segment}
use Rattle.definitions.specs.Response.{Nowhere}
use Rattle.intake.specs.declared.routes.RouteKind.{RouteKind}
use Rattle.intake.specs.Routes.{table, route_of, route_by_row}

-- a path that is text has the route of its row
pub route_of_text : (text path : List ℕ) → text ≡ path → IsUtf8 path → route_by_row text (first table text) ≡ route_of path
route_of_text text path e u = rw (e, is_utf8-from_IsUtf8 path u) refl

-- any other has none
pub no_route : (path : List ℕ) → ¬ (IsUtf8 path) → Nowhere ≡ route_of path
no_route path n = by (is_utf8 path) refl
  where
    by : (b : Bool) → is_utf8 path ≡ b → Nowhere ≡ (if b then route_by_row path (first table path) else Nowhere)
    by true e = absurd (n (IsUtf8-from_is_utf8 path e))
    by false e = refl

-- a part between two boundaries of a text is text
part_is_text : (path : List ℕ) (a b : ℕ) → IsUtf8 path → IsCharBoundary path a → IsCharBoundary path b → IsUtf8 (part_of path a b)
part_is_text path a b u from to = by (leb a b) (leb b (length path)) refl
  where
    by : (v w : Bool) → leb a b ≡ v → IsUtf8 (cond (v && w) (take (b - a) (drop a path)) [])
    by true true e = IsUtf8-between path a b u (grind (arith, nat_tests)) from to
    by true false e = IsUtf8-nil
    by false w e = IsUtf8-nil

-- after an ASCII byte a part may begin
later : (path : List ℕ) (i : ℕ) → IsUtf8 path → i < length path → get_or path i 0 < 128 → IsCharBoundary path (next_at (length path) i)
later path i u h low =
    let e : ltb i (length path) ≡ true = grind (arith, nat_tests) in
    rw e (IsCharBoundary-after_ascii path i u h low)

next_is : (len at : ℕ) → at < len → next_at len at ≡ at + 1
next_is len at h = let e : ltb at len ≡ true = grind (arith, nat_tests) in rw e refl

-- the bytes of a pattern in front of its first parameter
fits_text : (w t path : List ℕ) → list_all (λ b. ltb b 256) w ≡ true → Fits (w ++ t) path → (p : List ℕ) × (path ≡ w ++ p) × Fits t p
fits_text [] t path low f = (path, refl, f)
fits_text (b ∷ w) t path low f =
    let few : b < 256 = grind (arith, nat_tests) in
    let here = f.0 few in
    let rest = fits_text w t here.0 (grind (arith, nat_tests)) here.2 in
    (rest.0, here.1 ∙ ap (λ (l : List ℕ). b ∷ l) rest.1, rest.2)

who_is_text : IsUtf8 (codes "who")
unfolding lib.Utf8.encode
who_is_text = (codes "who", (refl, refl))

n_is_text : IsUtf8 (codes "n")
unfolding lib.Utf8.encode
n_is_text = (codes "n", (refl, refl))

abbrev content_pattern : List ℕ
content_pattern = codes "/outbox/" ++ 256 ∷ 47 ∷ 256 ∷ []

-- seven and eight steps from the start
module _ (len : ℕ) where
  seven : 6 < len → next_at len (next_at len (next_at len (next_at len (next_at len (next_at len (next_at len 0)))))) ≡ 7
  seven h =
      ap (λ n. next_at len (next_at len (next_at len (next_at len (next_at len (next_at len n)))))) (next_is len 0 (omega arith))
      ∙ ap (λ n. next_at len (next_at len (next_at len (next_at len (next_at len n))))) (next_is len 1 (omega arith))
      ∙ ap (λ n. next_at len (next_at len (next_at len (next_at len n)))) (next_is len 2 (omega arith))
      ∙ ap (λ n. next_at len (next_at len (next_at len n))) (next_is len 3 (omega arith))
      ∙ ap (λ n. next_at len (next_at len n)) (next_is len 4 (omega arith))
      ∙ ap (λ n. next_at len n) (next_is len 5 (omega arith))
      ∙ next_is len 6 h

  eight : 7 < len → next_at len (next_at len (next_at len (next_at len (next_at len (next_at len (next_at len (next_at len 0))))))) ≡ 8
  eight h = ap (next_at len) (seven (omega arith)) ∙ next_is len 7 h

module _ (p : List ℕ) where
  stock_parts : IsUtf8 (codes "/stock/" ++ p) → AllText (walk (codes "/stock/" ++ 256 ∷ []) (codes "/stock/{who}") (codes "/stock/" ++ p) ((8, 11) ∷ []) 0 0)
  stock_parts u =
      let path : List ℕ = codes "/stock/" ++ p in
      let long : 6 < length path = omega arith in (
        who_is_text,
        subst (λ i. IsUtf8 (part_of path i (length path))) (sym (seven (length path) long))
            (part_is_text path 7 (length path) u (IsCharBoundary-after_ascii path 6 u long (omega arith)) (IsCharBoundary-end path)),
        tt,
      )

  outbox_parts : IsUtf8 (codes "/outbox/" ++ p) → AllText (walk (codes "/outbox/" ++ 256 ∷ []) (codes "/outbox/{who}") (codes "/outbox/" ++ p) ((9, 12) ∷ []) 0 0)
  outbox_parts u =
      let path : List ℕ = codes "/outbox/" ++ p in
      let long : 7 < length path = omega arith in (
        who_is_text,
        subst (λ i. IsUtf8 (part_of path i (length path))) (sym (eight (length path) long))
            (part_is_text path 8 (length path) u (IsCharBoundary-after_ascii path 7 u long (omega arith)) (IsCharBoundary-end path)),
        tt,
      )

  content_parts : IsUtf8 (codes "/outbox/" ++ p) → has_slash p ≡ true
      → AllText (walk content_pattern (codes "/outbox/{who}/{n}") (codes "/outbox/" ++ p) ((9, 12) ∷ (15, 16) ∷ []) 0 0)
  content_parts u h =
      let path : List ℕ = codes "/outbox/" ++ p in
      let ends = segment_ends p h in
      let m : ℕ = length (segment p) - 1 in
      let long : 7 < length path = omega arith in
      let low : get_or path (8 + m) 0 ≡ 47 = get_or-append-add (codes "/outbox/") p m 0 ∙ ends.2 in
      let within : 8 + m < length path = omega (arith, ends.1) in
      let still : 8 + length (segment p) - 1 ≡ 8 + m = omega (arith, ends.0) in
      let stop : wild_stop content_pattern 8 path 8 ≡ 8 + m = still in
      let from : wild_from (drop 0 content_pattern) (length path) 0 0 ≡ (8, 8) = ap (λ (i : ℕ). (8, i)) (eight (length path) long) in
      let who : IsUtf8 (part_of path 8 (8 + m)) =
      part_is_text path 8 (8 + m) u (IsCharBoundary-after_ascii path 7 u long (omega arith)) (IsCharBoundary-before_ascii path (8 + m) within (omega (arith, low))) in
      let n : IsUtf8 (part_of path (next_at (length path) (8 + m)) (length path)) =
      part_is_text path (next_at (length path) (8 + m)) (length path) u (later path (8 + m) u within (omega (arith, low))) (IsCharBoundary-end path) in
      let last : AllText (walk content_pattern (codes "/outbox/{who}/{n}") path ((15, 16) ∷ []) 9 (8 + m)) = (n_is_text, n, tt) in
      subst (λ (w : ℕ × ℕ). IsUtf8 (part_of (codes "/outbox/{who}/{n}") 9 12) × IsUtf8 (part_of path w.1 (wild_stop content_pattern w.0 path w.1))
      × AllText (walk content_pattern (codes "/outbox/{who}/{n}") path ((15, 16) ∷ []) (after_token w.0) (wild_stop content_pattern w.0 path w.1))) (sym from)
      (subst (λ (k : ℕ). IsUtf8 (codes "who") × IsUtf8 (part_of path 8 k)
      × AllText (walk content_pattern (codes "/outbox/{who}/{n}") path ((15, 16) ∷ []) 9 k)) (sym stop) (who_is_text, who, last))

-- a slash that a pattern has after its first parameter
slash_in : (p : List ℕ) → Fits (256 ∷ 47 ∷ 256 ∷ []) p → has_slash p ≡ true
slash_in p f =
    let rest = f.1 refl in
    let there = rest.1.0 (omega arith) in
    slash_after rest.0 p there.0 there.1

abbrev Text : List ℕ → RouteOf RouteKind → Type 0
Text path r = AllText (walk r.pattern r.text path r.names 0 0)

by_row : (path : List ℕ) (r : RouteOf RouteKind) → IsUtf8 path → Found table path r → Text path r
unfolding matchit_on_literals
by_row path r u (t, inl e, f) =
    let fits = fits_text (codes "/outbox/") (256 ∷ 47 ∷ 256 ∷ []) path refl (subst (λ (w : List ℕ). Fits w path) (ap (λ (q : List ℕ × RouteOf RouteKind). q.0) e) f) in
    subst (Text path) (sym (ap (λ (q : List ℕ × RouteOf RouteKind). q.1) e))
    (subst (λ (l : List ℕ). AllText (walk content_pattern (codes "/outbox/{who}/{n}") l ((9, 12) ∷ (15, 16) ∷ []) 0 0)) (sym fits.1)
    (content_parts fits.0 (subst IsUtf8 fits.1 u) (slash_in fits.0 fits.2)))
by_row path r u (t, inr (inl e), f) =
    let fits = fits_text (codes "/outbox/") (256 ∷ []) path refl (subst (λ (w : List ℕ). Fits w path) (ap (λ (q : List ℕ × RouteOf RouteKind). q.0) e) f) in
    subst (Text path) (sym (ap (λ (q : List ℕ × RouteOf RouteKind). q.1) e))
    (subst (λ (l : List ℕ). AllText (walk (codes "/outbox/" ++ 256 ∷ []) (codes "/outbox/{who}") l ((9, 12) ∷ []) 0 0)) (sym fits.1)
    (outbox_parts fits.0 (subst IsUtf8 fits.1 u)))
by_row path r u (t, inr (inr (inl e)), f) =
    let fits = fits_text (codes "/stock/") (256 ∷ []) path refl (subst (λ (w : List ℕ). Fits w path) (ap (λ (q : List ℕ × RouteOf RouteKind). q.0) e) f) in
    subst (Text path) (sym (ap (λ (q : List ℕ × RouteOf RouteKind). q.1) e))
    (subst (λ (l : List ℕ). AllText (walk (codes "/stock/" ++ 256 ∷ []) (codes "/stock/{who}") l ((8, 11) ∷ []) 0 0)) (sym fits.1)
    (stock_parts fits.0 (subst IsUtf8 fits.1 u)))
by_row path r u (t, inr (inr (inr (inl e))), f) = subst (Text path) (sym (ap (λ (q : List ℕ × RouteOf RouteKind). q.1) e)) tt
by_row path r u (t, inr (inr (inr (inr none))), f) = absurd none

-- the parts of a path that is text are text
pub parts_are_text : (path : List ℕ) (r : RouteOf RouteKind) → IsUtf8 path → first table path ≡ Some r → AllText (walk r.pattern r.text path r.names 0 0)
parts_are_text path r u e = by_row path r u (found_in 0 table path r e)
