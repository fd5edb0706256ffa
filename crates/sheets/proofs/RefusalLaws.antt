-- Why lines make no sheet.
use Rattle.std.proofs.Common.{◌≡◌, Bool, true, false, cond, List, map, length, refl, ap, Option, Some, None, Result, Ok, Err}
use Rattle.std.specs.Prelude.{nat_lt}
use Rattle.std.specs.List.{list_any}
use Rattle.definitions.specs.declared.rules.Rules.{Rules}
use Rattle.definitions.specs.Limits.{most_lines}
use Rattle.definitions.specs.Lists.{has_repeats, in_order}
use Rattle.definitions.specs.Means.{Line}
use Rattle.definitions.specs.Events.{pair_before}
use Rattle.definitions.specs.declared.refusals.Refusal.{Refusal}
use Rattle.definitions.specs.declared.refusals.Refusal.TheVariants.{TooMuch, RepeatedLine, BadText, TooManyLines}
use Rattle.definitions.specs.Clerk.{RawLine, line_of, sheet_of, is_bad_line, is_too_much, same_raw_pair}
use Rattle.definitions.specs.declared.sheet_kind.SheetKind.{SheetKind}
use Rattle.sheets.specs.Misfits.{misfit_of}

abbrev refusal_or : Refusal → Option Refusal → Refusal
refusal_or d (Some r) = r
refusal_or d None = d

-- it is the refusal
pub misfit_is : (r : Rules) (kind : SheetKind) (raw : List RawLine) (why : Refusal) → misfit_of r kind raw ≡ Some why → sheet_of r kind raw ≡ Err why
misfit_is r kind raw why h =
    by_tests (nat_lt (most_lines r) (length raw)) (list_any (is_bad_line kind) raw) (list_any (is_too_much r kind) raw) refl refl refl h
  where
    by_tests : (a b c : Bool) → nat_lt (most_lines r) (length raw) ≡ a → list_any (is_bad_line kind) raw ≡ b → list_any (is_too_much r kind) raw ≡ c
        → cond {A = Option Refusal} a (Some TooManyLines) (cond b (Some BadText) (cond c (Some TooMuch) None)) ≡ Some why
        → sheet_of r kind raw ≡ Err why
    by_tests true b c e f g k = rw e (ap (λ o. Err (refusal_or BadText o)) k)
    by_tests false true c e f g k = rw (e, f) (ap (λ o. Err (refusal_or BadText o)) k)
    by_tests false false true e f g k = rw (e, f, g) (ap (λ o. Err (refusal_or BadText o)) k)
    by_tests false false false e f g k = absurd (cc)

-- without one the lines make a sheet, or have a pair twice
pub fitting : (r : Rules) (kind : SheetKind) (raw : List RawLine) → misfit_of r kind raw ≡ None
    → sheet_of r kind raw ≡ cond {A = Result (List Line) Refusal} (has_repeats same_raw_pair raw) (Err RepeatedLine) (Ok (in_order pair_before (map line_of raw)))
fitting r kind raw h =
    by_tests (nat_lt (most_lines r) (length raw)) (list_any (is_bad_line kind) raw) (list_any (is_too_much r kind) raw) refl refl refl h
  where
    by_tests : (a b c : Bool) → nat_lt (most_lines r) (length raw) ≡ a → list_any (is_bad_line kind) raw ≡ b → list_any (is_too_much r kind) raw ≡ c
        → cond {A = Option Refusal} a (Some TooManyLines) (cond b (Some BadText) (cond c (Some TooMuch) None)) ≡ None
        → sheet_of r kind raw ≡ cond {A = Result (List Line) Refusal} (has_repeats same_raw_pair raw) (Err RepeatedLine) (Ok (in_order pair_before (map line_of raw)))
    by_tests true b c e f g k = absurd (cc)
    by_tests false true c e f g k = absurd (cc)
    by_tests false false true e f g k = absurd (cc)
    by_tests false false false e f g k = rw (e, f, g) refl
