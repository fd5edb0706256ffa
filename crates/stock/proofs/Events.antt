-- What is found in the events, with one event more.
use Rattle.std.proofs.Common.{◌≡◌, ℕ, Bool, true, false, ◌||◌, not, List, [], ◌∷◌, ◌++◌, refl, ap, sym, ◌∙◌, subst, Option, Some, None}
use Rattle.std.proofs.lemmas.List.Folds.{list_any-append}
use Rattle.std.proofs.lemmas.Bool.{and_parts}
use Rattle.std.specs.Prelude.{option_map}
use Rattle.std.specs.List.{list_any, list_all}
use Rattle.definitions.specs.Lists.{or_else, first_found}
use Rattle.definitions.specs.Means.{Advice}
use Rattle.definitions.specs.Rows.{acknowledges}
use Rattle.definitions.specs.Page.{page_advice, page_order}
use Rattle.definitions.specs.Events.{Event, advice_if, advice_under, Reserved, order_if, order_under, counts, picks}
use Rattle.stock.specs.Shows.{sent_if, sent_under, document_of, NamesEachOnce}
use Rattle.page_rows.proofs.Finds.{first_found_push, or_else_none}
use Rattle.stock.proofs.Views.{advice_seen, order_seen, uncounted, unpicked, advice_view, order_view}

pub or_false : (v : Bool) → (v || false) ≡ v
or_false true = refl
or_false false = refl

pub or_else_left : {X : Type 0} (x y : Option X) → or_else x y ≡ None → x ≡ None
or_else_left (Some x) y h = h
or_else_left None y h = refl

-- an event in which nothing is found
pub found_kept : {X Y : Type 0} (f : X → Option Y) (xs : List X) (x : X) → f x ≡ None → first_found f (xs ++ x ∷ []) ≡ first_found f xs
found_kept f xs x h = first_found_push f xs x ∙ ap (or_else (first_found f xs)) h ∙ or_else_none (first_found f xs)

pub any_push : {X : Type 0} (p : X → Bool) (xs : List X) (x : X) → list_any p (xs ++ x ∷ []) ≡ (list_any p xs || p x)
any_push p xs x = list_any-append p xs (x ∷ []) ∙ ap (λ (v : Bool). list_any p xs || v) (or_false (p x))

pub any_kept : {X : Type 0} (p : X → Bool) (xs : List X) (x : X) → p x ≡ false → list_any p (xs ++ x ∷ []) ≡ list_any p xs
any_kept p xs x h = any_push p xs x ∙ ap (λ (v : Bool). list_any p xs || v) h ∙ or_false (list_any p xs)

pub all_push : {X : Type 0} (p : X → Bool) (xs : List X) (x : X) → list_all p xs ≡ true → p x ≡ true → list_all p (xs ++ x ∷ []) ≡ true
all_push p [] x h t = rw t refl
all_push p (y ∷ ys) x h t = let q = and_parts (p y) (list_all p ys) h in rw (q.0, all_push p ys x q.1 t) refl

-- an event that is about no advice
pub advice_kept : (es : List Event) (e : Event) (s : List ℕ) → advice_if s e ≡ None → counts s e ≡ false
    → option_map (page_advice es) (advice_under s es) ≡ option_map (page_advice (es ++ e ∷ [])) (advice_under s (es ++ e ∷ []))
advice_kept es e s h g = advice_view s es
    ∙ ap (λ (o : Option Advice). advice_seen o (uncounted s es)) (sym (found_kept (advice_if s) es e h))
    ∙ ap (λ (v : Bool). advice_seen (advice_under s (es ++ e ∷ [])) (not v)) (sym (any_kept (counts s) es e g))
    ∙ sym (advice_view s (es ++ e ∷ []))

-- an event that is about no order
pub order_kept : (es : List Event) (e : Event) (n : List ℕ) → order_if n e ≡ None → picks n e ≡ false
    → option_map (page_order es) (order_under n es) ≡ option_map (page_order (es ++ e ∷ [])) (order_under n (es ++ e ∷ []))
order_kept es e n h g = order_view n es
    ∙ ap (λ (o : Option Reserved). order_seen o (unpicked n es)) (sym (found_kept (order_if n) es e h))
    ∙ ap (λ (v : Bool). order_seen (order_under n (es ++ e ∷ [])) (not v)) (sym (any_kept (picks n) es e g))
    ∙ sym (order_view n (es ++ e ∷ []))

-- an event that is about no document
pub document_kept : (es : List Event) (e : Event) (n : ℕ) → sent_if n e ≡ None → ((f : List ℕ) → acknowledges n f e ≡ None)
    → option_map (document_of es n) (sent_under n es) ≡ option_map (document_of (es ++ e ∷ []) n) (sent_under n (es ++ e ∷ []))
document_kept es e n h g =
    by (sent_under n es) ∙ ap (option_map (document_of (es ++ e ∷ []) n)) (sym (found_kept (sent_if n) es e h))
  where
    by : (o : Option (List ℕ)) → option_map (document_of es n) o ≡ option_map (document_of (es ++ e ∷ []) n) o
    by (Some f) = ap (λ (v : Option Bool). Some (record { n = n; function = f; said = v })) (sym (found_kept (acknowledges n f) es e (g f)))
    by None = refl

pub shares_kept : (es : List Event) (e : Event) (n : List ℕ) → order_if n e ≡ None → NamesEachOnce (order_under n es) → NamesEachOnce (order_under n (es ++ e ∷ []))
shares_kept es e n h once = subst NamesEachOnce (sym (found_kept (order_if n) es e h)) once

-- an event that counts no advice, and one that picks no order
pub counted_kept : (es : List Event) (e : Event) (s : List ℕ) → counts s e ≡ false → (advice_under s es ≡ None → list_any (counts s) es ≡ false)
    → advice_under s (es ++ e ∷ []) ≡ None → list_any (counts s) (es ++ e ∷ []) ≡ false
counted_kept es e s h known none =
    any_kept (counts s) es e h ∙ known (or_else_left (advice_under s es) (advice_if s e) (sym (first_found_push (advice_if s) es e) ∙ none))

pub picked_kept : (es : List Event) (e : Event) (n : List ℕ) → picks n e ≡ false → (order_under n es ≡ None → list_any (picks n) es ≡ false)
    → order_under n (es ++ e ∷ []) ≡ None → list_any (picks n) (es ++ e ∷ []) ≡ false
picked_kept es e n h known none =
    any_kept (picks n) es e h ∙ known (or_else_left (order_under n es) (order_if n e) (sym (first_found_push (order_if n) es e) ∙ none))
