-- A date and a time of day by the rows of elements.
use Rattle.std.proofs.Common.{◌≡◌, ℕ, arith, Bool, true, false, not, List, length, take, refl, ◌∙◌, ap, Some, None}
use Rattle.std.specs.Prelude.{if◌then◌else◌, is_none, is_some, ◌&&◌, codes, ◌++◌, Option, drop, nat_lt}
use Rattle.std.specs.List.{list_all}
use Rattle.std.proofs.lemmas.List.{take_all}
use Rattle.definitions.specs.Bytes.{Delims, is_digit, value}
use Rattle.definitions.specs.Elements.{element_fault, must, Date, Time}
use Rattle.definitions.specs.Moments.{is_date, is_clock, is_day}

by_parts : (digits day : Bool) → is_none {T = ℕ} (if not digits then Some 6 else (if digits && day then None else Some 8)) ≡ (digits && day)
by_parts false day = refl
by_parts true true = refl
by_parts true false = refl

date_alone : (d : Delims) (e : List ℕ) → length e ≡ 8 → is_none (element_fault d (must Date 8 8) e) ≡ is_date e
date_alone d e w = rw w (by_parts (list_all is_digit e) (is_day (value (take 4 e)) (value (take 2 (drop 4 e))) (value (drop 6 e))))

clock_parts : (digits hour minute : Bool) → is_none {T = ℕ} (if not digits then Some 6 else (if (digits && hour && minute) && true then None else Some 8)) ≡ (digits && hour && minute)
clock_parts false hour minute = refl
clock_parts true true true = refl
clock_parts true true false = refl
clock_parts true false minute = refl

clock_alone : (d : Delims) (e : List ℕ) → length e ≡ 4 → is_none (element_fault d (must Time 4 4) e) ≡ is_clock e
clock_alone d e w =
    let whole : take 4 e ≡ e = take_all 4 e (omega arith) in
    rw (whole, w) (clock_parts (list_all is_digit e) (nat_lt (value (take 2 e)) 24) (nat_lt (value (drop 2 e)) 60))

pub no_date_fault : (d : Delims) (e text : List ℕ) (fault : Option ℕ) → fault ≡ element_fault d (must Date 8 8) e → e ≡ codes "20" ++ text → length text ≡ 6 → is_none fault ≡ is_date (codes "20" ++ text)
no_date_fault d e text fault f s w =
    let wide : length e ≡ 8 = omega (arith, ap length s) in
    ap is_none f ∙ (date_alone d e wide ∙ ap is_date s)

pub no_clock_fault : (d : Delims) (e : List ℕ) (fault : Option ℕ) → fault ≡ element_fault d (must Time 4 4) e → length e ≡ 4 → is_none fault ≡ is_clock e
no_clock_fault d e fault f w = ap is_none f ∙ clock_alone d e w

pub is_none_of : (o : Option ℕ) (b : Bool) → is_some o ≡ not b → b ≡ is_none o
is_none_of (Some x) true e = absurd (cc)
is_none_of (Some x) false e = refl
is_none_of None true e = refl
is_none_of None false e = absurd (cc)
