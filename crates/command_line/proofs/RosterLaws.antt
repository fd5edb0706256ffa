-- The partners that values name, one after the other.
use Rattle.std.proofs.Common.{◌≡◌, ℕ, ◌+◌, ◌<◌, List, [], ◌∷◌, ◌++◌, length, get_or, drop, Option, Some, None, option_map, refl, sym, ap, ◌∙◌, append_assoc, unwrap_or}
use Rattle.toml.specs.Data.{Data, Items, item, string, integer, float, boolean, datetime, array, table, as_array}
use Rattle.toml.specs.View.{items_view, view}
use Rattle.toml.specs.declared.value.Value.{Value}
use Rattle.toml.proofs.Views.{items_view-drop}
use Rattle.definitions.specs.Header.{Who}
use Rattle.command_line.specs.Rosters.{partner_in, partners_in, led_by, listed}

-- nothing is found in front
pub none_before : (found : Option (List Who)) → found ≡ option_map (λ ws. [] ++ ws) found
none_before None = refl
none_before (Some ws) = refl

-- one more is found
pub one_more : (front : List Who) (w : Who) (d : Data) (ds : Items) → partner_in d ≡ Some w
    → option_map (λ ws. front ++ ws) (partners_in (item d ds)) ≡ option_map (λ ws. (front ++ w ∷ []) ++ ws) (partners_in ds)
one_more front w d ds e = ap (λ o. option_map (λ ws. front ++ ws) (led_by o (partners_in ds))) e ∙ by_rest (partners_in ds)
  where
    by_rest : (rest : Option (List Who)) → option_map (λ ws. front ++ ws) (led_by (Some w) rest) ≡ option_map (λ ws. (front ++ w ∷ []) ++ ws) rest
    by_rest None = refl
    by_rest (Some ws) = ap Some (sym (append_assoc front (w ∷ []) ws))

-- one names nobody
pub no_more : (front : List Who) (d : Data) (ds : Items) → partner_in d ≡ None → option_map (λ ws. front ++ ws) (partners_in (item d ds)) ≡ None
no_more front d ds e = ap (λ o. option_map (λ ws. front ++ ws) (led_by o (partners_in ds))) e

-- the partners from `i` on, of the value that stands there and of those after it
led_at : (vs : List Value) (i : ℕ) (v : Value) → i < length vs → v ≡ get_or vs i v
    → partners_in (items_view (drop i vs)) ≡ partners_in (item (view v) (items_view (drop (i + 1) vs)))
led_at vs i v h is =
    ap partners_in (items_view-drop vs i v h)
    ∙ ap (λ (x : Value). partners_in (item (view x) (items_view (drop (i + 1) vs)))) (sym is)

-- the value at `i` names one more
pub more_at : (vs : List Value) (i : ℕ) (v : Value) (front : List Who) (w : Who) → i < length vs → v ≡ get_or vs i v
    → partner_in (view v) ≡ Some w
    → option_map (λ ws. front ++ ws) (partners_in (items_view (drop i vs)))
    ≡ option_map (λ ws. (front ++ w ∷ []) ++ ws) (partners_in (items_view (drop (i + 1) vs)))
more_at vs i v front w h is e =
    ap (option_map (λ ws. front ++ ws)) (led_at vs i v h is) ∙ one_more front w (view v) (items_view (drop (i + 1) vs)) e

-- the value at `i` names nobody
pub none_at : (vs : List Value) (i : ℕ) (v : Value) (front : List Who) → i < length vs → v ≡ get_or vs i v
    → partner_in (view v) ≡ None → option_map (λ ws. front ++ ws) (partners_in (items_view (drop i vs))) ≡ None
none_at vs i v front h is e =
    ap (option_map (λ ws. front ++ ws)) (led_at vs i v h is) ∙ no_more front (view v) (items_view (drop (i + 1) vs)) e

-- what an array lists
pub array_listed : (d : Data) (ds : Items) → Some ds ≡ as_array d → partners_in ds ≡ listed (Some d)
array_listed (array es) ds e = ap (λ o. partners_in (unwrap_or o ds)) e
array_listed (string t) ds e = absurd (cc)
array_listed (integer z) ds e = absurd (cc)
array_listed (float x) ds e = absurd (cc)
array_listed (boolean b) ds e = absurd (cc)
array_listed (datetime t) ds e = absurd (cc)
array_listed (table ms) ds e = absurd (cc)

-- and what is no array
pub other_listed : (d : Data) → None ≡ as_array d → None ≡ listed (Some d)
other_listed (array es) e = absurd (cc)
other_listed (string t) e = refl
other_listed (integer z) e = refl
other_listed (float x) e = refl
other_listed (boolean b) e = refl
other_listed (datetime t) e = refl
other_listed (table ms) e = refl
