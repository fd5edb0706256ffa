-- The advices and the orders of a page are those that the definitions give for its events.
use Rattle.std.proofs.Common.{◌≡◌, ℕ, Bool, true, cond, List, [], ◌∷◌, refl, sym, ap, ◌∙◌, Option, Some, None}
use Rattle.std.specs.Prelude.{bytes_eq, find, option_map}
use Rattle.std.proofs.lemmas.Slice.Eq.{bytes_eq-Decides}
use Rattle.definitions.specs.Bytes.{comes_before}
use Rattle.definitions.specs.Lists.{placed, in_order, or_else}
use Rattle.definitions.specs.Means.{Advice}
use Rattle.definitions.specs.Events.{Event, Enrolment, Advised, Ordered, Acknowledged, Counted, Picked, Recounted, advice_if, advice_under, Reserved, order_if, order_under}
use Rattle.definitions.specs.Page.{advices_of, orders_of, page_advice, page_order, page_advices, page_orders}
use Rattle.stock.specs.Keyed.{rises_by, shipment_of, number_of}
use Rattle.stock.specs.Pages.{PageFacts, AreSorted, is_shipment, is_number, advice_at, order_at}
use Rattle.stock.specs.Shows.{Shows}
use Rattle.stock.proofs.Keys.{IsTest}
use Rattle.stock.proofs.KeyLemmas.{texts_strict, shipment_test, number_test}
use Rattle.stock.proofs.Finds.{or_else_none}
use Rattle.set_effects.proofs.KeyedLists.{Once, last_found, once_last, find_map, rises_map, order_rises, find_ordered, same_found}

-- Advices.

abbrev announced : List Event → List Advice
announced [] = []
announced (Enrolment ∷ es) = announced es
announced (Advised a ∷ es) = a ∷ announced es
announced (Ordered o shares ∷ es) = announced es
announced (Acknowledged n a ∷ es) = announced es
announced (Counted n a sheet ∷ es) = announced es
announced (Picked n o shares sheet ∷ es) = announced es
announced (Recounted n before sheet ∷ es) = announced es

abbrev name : Advice → List ℕ
name a = a.shipment

abbrev advice_before : Advice → Advice → Bool
advice_before a b = comes_before (name a) (name b)

abbrev is_under : List ℕ → Advice → Bool
is_under s a = bytes_eq a.shipment s

under_test : (s : List ℕ) → IsTest name s (is_under s)
under_test s = record { says = λ a h. (bytes_eq-Decides a.shipment s).0 h; said = λ a e. (bytes_eq-Decides a.shipment s).1 e }

advices_are : (es : List Event) → advices_of es ≡ in_order advice_before (announced es)
advices_are [] = refl
advices_are (Enrolment ∷ es) = advices_are es
advices_are (Advised a ∷ es) = ap (placed advice_before a) (advices_are es)
advices_are (Ordered o shares ∷ es) = advices_are es
advices_are (Acknowledged n a ∷ es) = advices_are es
advices_are (Counted n a sheet ∷ es) = advices_are es
advices_are (Picked n o shares sheet ∷ es) = advices_are es
advices_are (Recounted n before sheet ∷ es) = advices_are es

abbrev last_advice : List ℕ → List Event → Option Advice
last_advice s es = last_found (λ (a : Advice). cond (is_under s a) (Some a) None) (announced es)

last_is : (s : List ℕ) (es : List Event) → last_advice s es ≡ last_found (advice_if s) es
last_is s [] = refl
last_is s (Enrolment ∷ es) = last_is s es ∙ sym (or_else_none (last_found (advice_if s) es))
last_is s (Advised a ∷ es) = ap (λ (o : Option Advice). or_else o (advice_if s (Advised a))) (last_is s es)
last_is s (Ordered o shares ∷ es) = last_is s es ∙ sym (or_else_none (last_found (advice_if s) es))
last_is s (Acknowledged n a ∷ es) = last_is s es ∙ sym (or_else_none (last_found (advice_if s) es))
last_is s (Counted n a sheet ∷ es) = last_is s es ∙ sym (or_else_none (last_found (advice_if s) es))
last_is s (Picked n o shares sheet ∷ es) = last_is s es ∙ sym (or_else_none (last_found (advice_if s) es))
last_is s (Recounted n before sheet ∷ es) = last_is s es ∙ sym (or_else_none (last_found (advice_if s) es))

advice_found : (es : List Event) (s : List ℕ) → Once (advice_if s) es → advice_at s (page_advices es) ≡ option_map (page_advice es) (advice_under s es)
advice_found es s once =
    find_map (page_advice es) (is_under s) (is_shipment s) (λ a. refl) (advices_of es)
    ∙ ap (option_map (page_advice es))
    (ap (find (is_under s)) (advices_are es) ∙ find_ordered comes_before texts_strict name s (is_under s) (under_test s) (announced es) ∙ last_is s es ∙ once_last (advice_if s) es once)

pub advices_rise : (es : List Event) → rises_by comes_before shipment_of (page_advices es) ≡ true
advices_rise es =
    rises_map comes_before (page_advice es) name shipment_of (λ a. refl) (advices_of es)
    ∙ ap (rises_by comes_before name) (advices_are es) ∙ order_rises comes_before texts_strict name (announced es)

-- where each shipment number is announced at most once
pub advices_are_page : (p : PageFacts) (es : List Event) → AreSorted p → Shows p es → ((s : List ℕ) → Once (advice_if s) es) → p.advices ≡ page_advices es
advices_are_page p es sorted shows once =
    same_found comes_before texts_strict shipment_of is_shipment shipment_test p.advices (page_advices es) sorted.advices (advices_rise es)
    (λ s. shows.advices s ∙ sym (advice_found es s (once s)))

-- Orders.

abbrev ordered : List Event → List Reserved
ordered [] = []
ordered (Enrolment ∷ es) = ordered es
ordered (Advised a ∷ es) = ordered es
ordered (Ordered o shares ∷ es) = record { order = o; shares = shares } ∷ ordered es
ordered (Acknowledged n a ∷ es) = ordered es
ordered (Counted n a sheet ∷ es) = ordered es
ordered (Picked n o shares sheet ∷ es) = ordered es
ordered (Recounted n before sheet ∷ es) = ordered es

abbrev number : Reserved → List ℕ
number r = r.order.number

abbrev order_before : Reserved → Reserved → Bool
order_before a b = comes_before (number a) (number b)

abbrev is_numbered_so : List ℕ → Reserved → Bool
is_numbered_so s r = bytes_eq r.order.number s

numbered_test : (s : List ℕ) → IsTest number s (is_numbered_so s)
numbered_test s = record { says = λ r h. (bytes_eq-Decides r.order.number s).0 h; said = λ r e. (bytes_eq-Decides r.order.number s).1 e }

orders_are : (es : List Event) → orders_of es ≡ in_order order_before (ordered es)
orders_are [] = refl
orders_are (Enrolment ∷ es) = orders_are es
orders_are (Advised a ∷ es) = orders_are es
orders_are (Ordered o shares ∷ es) = ap (placed order_before (record { order = o; shares = shares })) (orders_are es)
orders_are (Acknowledged n a ∷ es) = orders_are es
orders_are (Counted n a sheet ∷ es) = orders_are es
orders_are (Picked n o shares sheet ∷ es) = orders_are es
orders_are (Recounted n before sheet ∷ es) = orders_are es

abbrev last_order : List ℕ → List Event → Option Reserved
last_order s es = last_found (λ (r : Reserved). cond (is_numbered_so s r) (Some r) None) (ordered es)

last_order_is : (s : List ℕ) (es : List Event) → last_order s es ≡ last_found (order_if s) es
last_order_is s [] = refl
last_order_is s (Enrolment ∷ es) = last_order_is s es ∙ sym (or_else_none (last_found (order_if s) es))
last_order_is s (Advised a ∷ es) = last_order_is s es ∙ sym (or_else_none (last_found (order_if s) es))
last_order_is s (Ordered o shares ∷ es) = ap (λ (x : Option Reserved). or_else x (order_if s (Ordered o shares))) (last_order_is s es)
last_order_is s (Acknowledged n a ∷ es) = last_order_is s es ∙ sym (or_else_none (last_found (order_if s) es))
last_order_is s (Counted n a sheet ∷ es) = last_order_is s es ∙ sym (or_else_none (last_found (order_if s) es))
last_order_is s (Picked n o shares sheet ∷ es) = last_order_is s es ∙ sym (or_else_none (last_found (order_if s) es))
last_order_is s (Recounted n before sheet ∷ es) = last_order_is s es ∙ sym (or_else_none (last_found (order_if s) es))

order_found : (es : List Event) (s : List ℕ) → Once (order_if s) es → order_at s (page_orders es) ≡ option_map (page_order es) (order_under s es)
order_found es s once =
    find_map (page_order es) (is_numbered_so s) (is_number s) (λ r. refl) (orders_of es)
    ∙ ap (option_map (page_order es))
    (ap (find (is_numbered_so s)) (orders_are es) ∙ find_ordered comes_before texts_strict number s (is_numbered_so s) (numbered_test s) (ordered es) ∙ last_order_is s es ∙ once_last (order_if s) es once)

pub orders_rise : (es : List Event) → rises_by comes_before number_of (page_orders es) ≡ true
orders_rise es =
    rises_map comes_before (page_order es) number number_of (λ r. refl) (orders_of es)
    ∙ ap (rises_by comes_before number) (orders_are es) ∙ order_rises comes_before texts_strict number (ordered es)

-- where each order number is ordered at most once
pub orders_are_page : (p : PageFacts) (es : List Event) → AreSorted p → Shows p es → ((s : List ℕ) → Once (order_if s) es) → p.orders ≡ page_orders es
orders_are_page p es sorted shows once =
    same_found comes_before texts_strict number_of is_number number_test p.orders (page_orders es) sorted.orders (orders_rise es)
    (λ s. shows.orders s ∙ sym (order_found es s (once s)))
