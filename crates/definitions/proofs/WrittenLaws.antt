-- Elements of data may be written.
use Rattle.std.proofs.Common.{◌≡◌, ℕ, ◌-◌, ◌<◌, Bool, true, false, not, List, [], ◌∷◌, length, refl, arith}
use Rattle.std.specs.Prelude.{◌||◌, ◌==◌}
use Rattle.std.specs.List.{list_all}
use Rattle.std.specs.Cmp.Derive.{both_true}
use Rattle.std.proofs.lemmas.Bool.Decides.{nat_tests}
use Rattle.definitions.specs.Bytes.{Delims, is_between, is_data, is_line_end}
use Rattle.definitions.specs.Cut.{Segment, IsWritten, element, is_inside}
use Rattle.definitions.specs.Header.{is_delimiter, are_delimiters}
use Rattle.definitions.proofs.TextLaws.{both_parts, all_in}

-- neither a separator nor a terminator is data
pub data_inside : (d : Delims) (text : List ℕ) → list_all (is_data d) text ≡ true → list_all (is_inside d) text ≡ true
data_inside d text h = all_in (is_data d) (is_inside d) byte text h
  where
    by_tests : (s c t : Bool) → not (s || c || t) ≡ true → not (s || t) ≡ true
    by_tests true c t k = absurd (cc)
    by_tests false true t k = absurd (cc)
    by_tests false false t k = k

    byte : (b : ℕ) → is_data d b ≡ true → is_inside d b ≡ true
    byte b k = by_tests (b == d.separator) (b == d.component) (b == d.terminator) (both_parts (is_between 32 126 b) _ k).1

all_inside : (d : Delims) (es : Segment) → list_all (list_all (is_data d)) es ≡ true → list_all (list_all (is_inside d)) es ≡ true
all_inside d [] h = refl
all_inside d (e ∷ es) h =
    let p = both_parts (list_all (is_data d) e) (list_all (list_all (is_data d)) es) h in
    both_true (data_inside d e p.0) (all_inside d es p.1)

-- CR and LF are neither data nor a separator

clean_byte : (b : ℕ) → is_between 32 126 b ≡ true → is_line_end b ≡ false
clean_byte b h = grind (arith, nat_tests)

clean_delimiter : (b : ℕ) → is_delimiter b ≡ true → is_line_end b ≡ false
clean_delimiter b h = grind (arith, nat_tests)

clean_separator : (d : Delims) → are_delimiters d ≡ true → is_line_end d.separator ≡ false
clean_separator d g = clean_delimiter d.separator (both_parts _ _ (both_parts _ _ (both_parts _ _ g).0).0).0

first_data : (d : Delims) (b : ℕ) (bs : List ℕ) (es : Segment) → list_all (list_all (is_data d)) ((b ∷ bs) ∷ es) ≡ true → is_between 32 126 b ≡ true
first_data d b bs es h = (both_parts _ _ (both_parts _ _ (both_parts (list_all (is_data d) (b ∷ bs)) _ h).0).0).0

pub data_written : (d : Delims) (es : Segment) → are_delimiters d ≡ true → list_all (list_all (is_data d)) es ≡ true → 0 < length (element es (length es - 1)) → IsWritten d es
data_written d [] g h last = absurd (omega (arith, last))
data_written d ([] ∷ []) g h last = absurd (omega (arith, last))
data_written d ([] ∷ x ∷ xs) g h last = (all_inside d ([] ∷ x ∷ xs) h, clean_separator d g)
data_written d ((b ∷ bs) ∷ es) g h last = (all_inside d ((b ∷ bs) ∷ es) h, clean_byte b (first_data d b bs es h))
