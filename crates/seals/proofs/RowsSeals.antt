-- Worked examples of seals. The digests are those that another program gives (Python's hashlib).
use Rattle.std.specs.Prelude.{◌≡◌, List, [], ◌∷◌, ◌++◌, replicate, flat_map, Some, None, codes, true, false}
use Rattle.std.proofs.Common.{refl}
use Rattle.std.specs.Fmt.{digits}
use Rattle.sha2.specs.Sha256.{sha256, first_words, schedule, rounds, compress, hash_after, digest_bytes}
use Rattle.hex.specs.Hex.{encode_with, decode_pairs}
use Rattle.definitions.specs.declared.rules.Rules.TheVariants.{One, Two}
use Rattle.definitions.specs.Register.{Enrolled, Entry}
use Rattle.definitions.proofs.Sample.{ACME, morning}
use Rattle.rules.specs.Written.{Written}
use Rattle.seals.specs.Noted.{beginning_in, begins_so, noted_line, noted_of, noted_of_first}
use Rattle.seals.specs.Seals.{blank_seal, entry_text, framed, seal_in, seal_of, seal_on, seal_text}

-- texts behind their lengths
two_texts : flat_map framed (codes "AB" ∷ codes "C" ∷ []) ≡ codes "2:AB1:C"
unfolding digits
two_texts = refl

as_many_bytes : flat_map framed (codes "A" ∷ codes "BC" ∷ []) ≡ codes "1:A2:BC"
unfolding digits
as_many_bytes = refl

no_bytes : framed [] ≡ codes "0:"
unfolding digits
no_bytes = refl

twelve_bytes : framed (codes "1:A2:BC12:AB") ≡ codes "12:1:A2:BC12:AB"
unfolding digits
twelve_bytes = refl

-- entries, each as one text
abbrev enrolment : Written
enrolment = record { who = ACME; key = codes "E"; n = 0; moment = morning; body = []; rules = Two }

abbrev act : Written
act = record { who = ACME; key = codes "TC1"; n = 1; moment = morning; body = codes "act"; rules = One }

an_enrolment : entry_text enrolment ≡ codes "7:ZZ-ACME1:E1:012:2025030409150:1:2"
unfolding digits
an_enrolment = refl

an_act : entry_text act ≡ codes "7:ZZ-ACME3:TC11:112:2025030409153:act1:1"
unfolding digits
an_act = refl

-- seals
nothing : seal_text (seal_of []) ≡ replicate 64 48
unfolding encode_with
nothing = refl

-- a register of one entry
abbrev one : List Entry
one = record { who = ACME; moment = morning; deed = Enrolled; rules = Two } ∷ []

one_entry : seal_text (seal_of one) ≡
    codes "85bb607987bfd2847354c77d144d93815b28d5e29a88650214333ebb89566e97"
unfolding first_words schedule rounds compress hash_after digest_bytes sha256 encode_with digits
one_entry = refl

two_entries : seal_text (seal_on blank_seal (enrolment ∷ act ∷ [])) ≡
    codes "06b7811d584346a252c94d6bfd229dd0eb16be3e47cac9ed3b08e7f5994a90bf"
unfolding first_words schedule rounds compress hash_after digest_bytes sha256 encode_with digits
two_entries = refl

-- what is read as a seal
zeros : seal_in (replicate 64 48) ≡ Some blank_seal
unfolding encode_with decode_pairs
zeros = refl

lower_case : seal_in (replicate 63 48 ++ codes "a") ≡ Some (replicate 31 0 ++ 10 ∷ [])
unfolding encode_with decode_pairs
lower_case = refl

upper_case : seal_in (replicate 63 48 ++ codes "A") ≡ None
unfolding encode_with decode_pairs
upper_case = refl

no_digit : seal_in (replicate 63 48 ++ codes "g") ≡ None
unfolding encode_with decode_pairs
no_digit = refl

one_digit_less : seal_in (replicate 63 48) ≡ None
unfolding encode_with decode_pairs
one_digit_less = refl

two_digits_more : seal_in (replicate 66 48) ≡ None
unfolding encode_with decode_pairs
two_digits_more = refl

-- the lines that tell them
line_of_none : noted_line (noted_of []) ≡ codes "0:" ++ replicate 64 48 ++ codes " -" ++ 10 ∷ []
unfolding encode_with digits
line_of_none = refl

line_of_one : noted_line (noted_of one) ≡
    codes "1:85bb607987bfd2847354c77d144d93815b28d5e29a88650214333ebb89566e97 202503040915" ++ 10 ∷ []
unfolding first_words schedule rounds compress hash_after digest_bytes sha256 encode_with digits
line_of_one = refl

first_none : noted_of_first 0 one ≡ Some (noted_of [])
first_none = refl

first_one : noted_of_first 1 one ≡ Some (noted_of one)
first_one = refl

first_two : noted_of_first 2 one ≡ None
first_two = refl

-- what is read as a beginning
forty_six : beginning_in (codes "46:" ++ replicate 64 48) ≡ Some (46, blank_seal)
unfolding encode_with decode_pairs
forty_six = refl

zeros_in_front : beginning_in (codes "000000046:" ++ replicate 64 48) ≡ Some (46, blank_seal)
unfolding encode_with decode_pairs
zeros_in_front = refl

ten_digits : beginning_in (codes "0000000046:" ++ replicate 64 48) ≡ None
unfolding encode_with decode_pairs
ten_digits = refl

no_number : beginning_in (codes ":" ++ replicate 64 48) ≡ None
unfolding encode_with decode_pairs
no_number = refl

no_colon : beginning_in (codes "46" ++ replicate 64 48) ≡ None
unfolding encode_with decode_pairs
no_colon = refl

a_space : beginning_in (codes "46: " ++ replicate 64 48) ≡ None
unfolding encode_with decode_pairs
a_space = refl

another_colon : beginning_in (codes "4:6:" ++ replicate 64 48) ≡ None
unfolding encode_with decode_pairs
another_colon = refl

a_whole_line : beginning_in (codes "46:" ++ replicate 64 48 ++ codes " 202503040915") ≡ None
unfolding encode_with decode_pairs
a_whole_line = refl

-- registers that begin so
all_begin_with_none : begins_so (0, blank_seal) one ≡ true
all_begin_with_none = refl

too_short : begins_so (1, blank_seal) [] ≡ false
too_short = refl

another_seal : begins_so (1, blank_seal) one ≡ false
unfolding first_words schedule rounds compress hash_after digest_bytes sha256 digits
another_seal = refl
