-- A path that is put together leads where it is meant to.
use Rattle.std.proofs.Common.{◌≡◌, ℕ, List, [], ◌∷◌, ◌++◌, Bool, true, false, cond, refl, ap, subst, ◌∙◌, ◌==◌, not, ◌&&◌, codes, take, drop, length, Some, None, if◌then◌else◌, arith}
use Rattle.std.specs.Prelude.{bytes_eq}
use Rattle.std.proofs.lemmas.Bool.Decides.{nat_tests}
use Rattle.std.proofs.lemmas.List.{append-nil}
use Rattle.std.specs.List.{slice_split, list_all, onto_first}
use Rattle.std.specs.Cmp.Derive.{both_true}
use Rattle.definitions.specs.Bytes.{is_identifier, is_identifier_byte, is_alphanumeric}
use Rattle.definitions.specs.Header.{Who, who_of, who_text, is_partner}
use Rattle.definitions.specs.Limits.{most_ticket, most_number}
use Rattle.definitions.proofs.TextLaws.{both_parts, text_is}
use Rattle.intake.specs.Calls.{ToOrder, ToExport, ToOpen, ToDepositors, call_of, call_in, is_named, owner_of, tried}
use Rattle.definitions.specs.declared.sheet_kind.SheetKind.{SheetKind}
use Rattle.definitions.specs.declared.sheet_kind.SheetKind.TheVariants.{Count, Pick, Recount}
use Rattle.http_client.specs.Paths.{path_text, deed_text, deed_call, tried_at}

-- the parts between slashes
abbrev pub parts : List ℕ → List (List ℕ)
parts text = slice_split (λ b. b == 47) text

-- no slash stands in it
abbrev pub Whole : List ℕ → Type 0
Whole text = list_all (λ b. not (b == 47)) text ≡ true

abbrev pub AllWhole : List (List ℕ) → Type 0
AllWhole [] = Unit {0}
AllWhole (p ∷ ps) = Whole p × AllWhole ps

part_before : (p rest : List ℕ) → Whole p → parts (p ++ 47 ∷ rest) ≡ p ∷ parts rest
part_before [] rest whole = refl
part_before (b ∷ p) rest whole = by (b == 47) (part_before p rest) whole
  where
    by : (v : Bool) → (Whole p → parts (p ++ 47 ∷ rest) ≡ p ∷ parts rest) → (not v && list_all (λ b. not (b == 47)) p) ≡ true
        → cond v ([] ∷ parts (p ++ 47 ∷ rest)) (onto_first b (parts (p ++ 47 ∷ rest))) ≡ (b ∷ p) ∷ parts rest
    by true go h = absurd (cc)
    by false go h = ap (onto_first b) (go h)

part_last : (p : List ℕ) → Whole p → parts p ≡ p ∷ []
part_last [] whole = refl
part_last (b ∷ p) whole = by (b == 47) (part_last p) whole
  where
    by : (v : Bool) → (Whole p → parts p ≡ p ∷ []) → (not v && list_all (λ b. not (b == 47)) p) ≡ true
        → cond v ([] ∷ parts p) (onto_first b (parts p)) ≡ (b ∷ p) ∷ []
    by true go h = absurd (cc)
    by false go h = ap (onto_first b) (go h)

parts_after : (p : List ℕ) (ps : List (List ℕ)) → Whole p → AllWhole ps → parts (p ++ path_text ps) ≡ p ∷ ps
parts_after p [] whole all = ap parts (append-nil p) ∙ part_last p whole
parts_after p (q ∷ qs) whole all = part_before p (q ++ path_text qs) whole ∙ ap (λ (xs : List (List ℕ)). p ∷ xs) (parts_after q qs all.0 all.1)

-- the parts of a path are those of which it was put together
pub path_parts : (p : List ℕ) (ps : List (List ℕ)) → Whole p → AllWhole ps → parts (path_text (p ∷ ps)) ≡ [] ∷ p ∷ ps
path_parts p ps whole all = ap (λ (xs : List (List ℕ)). [] ∷ xs) (parts_after p ps whole all)

-- identifiers have no slash

byte_whole : (b : ℕ) → is_identifier_byte b ≡ true → not (b == 47) ≡ true
byte_whole b h = by (b == 47) refl
  where
    by : (v : Bool) → (b == 47) ≡ v → not v ≡ true
    by false e = refl
    by true e =
        let is : b ≡ 47 = grind (arith, nat_tests) in
        let no : is_identifier_byte 47 ≡ true = subst (λ (x : ℕ). is_identifier_byte x ≡ true) is h in
        absurd (cc)

bytes_whole : (text : List ℕ) → list_all is_identifier_byte text ≡ true → Whole text
bytes_whole [] h = refl
bytes_whole (b ∷ text) h =
    let both = both_parts (is_identifier_byte b) (list_all is_identifier_byte text) h in
    both_true (byte_whole b both.0) (bytes_whole text both.1)

pub identifier_whole : (least most : ℕ) (text : List ℕ) → is_identifier least most text ≡ true → Whole text
identifier_whole least most text h = bytes_whole text (both_parts _ (list_all is_identifier_byte text) h).1

alphanumeric_whole : (text : List ℕ) → list_all is_alphanumeric text ≡ true → Whole text
alphanumeric_whole [] h = refl
alphanumeric_whole (b ∷ text) h =
    let both = both_parts (is_alphanumeric b) (list_all is_alphanumeric text) h in
    let byte : is_identifier_byte b ≡ true = rw both.0 refl in
    both_true (byte_whole b byte) (alphanumeric_whole text both.1)

both_whole : (a b : List ℕ) → Whole a → Whole b → Whole (a ++ b)
both_whole [] b h k = k
both_whole (x ∷ a) b h k =
    let both = both_parts (not (x == 47)) (list_all (λ b. not (b == 47)) a) h in
    both_true both.0 (both_whole a b both.1 k)

-- nor has a depositor's name
pub who_whole : (text : List ℕ) (w : Who) → who_of text ≡ Some w → Whole text
who_whole text w h = by (is_partner v && same) refl h
  where
    v : Who
    v = record { qualifier = take 2 text; id = drop 3 text }

    same : Bool
    same = bytes_eq (who_text v) text

    by : (c : Bool) → (is_partner v && same) ≡ c → (if c then Some v else None) ≡ Some w → Whole text
    by false e k = absurd (cc)
    by true e k =
        let both = both_parts (is_partner v) same e in
        let is = both_parts (length v.qualifier == 2 && list_all is_alphanumeric v.qualifier) _ both.0 in
        let q = alphanumeric_whole v.qualifier (both_parts (length v.qualifier == 2) _ is.0).1 in
        let i = identifier_whole _ _ v.id is.1 in
        subst Whole (text_is (who_text v) text both.1) (both_whole (v.qualifier ++ codes "-") v.id (both_whole v.qualifier (codes "-") q refl) i)

-- a server finds a deed where its words lead
pub deed_found : (d : SheetKind) (who ticket number : List ℕ) (w : Who) → (if is_identifier 1 most_ticket ticket && is_named d number then who_of who else None) ≡ Some w
    → call_of (deed_text d who ticket number) ≡ Some (deed_call d who ticket number)
deed_found d who ticket number w h = by (is_identifier 1 most_ticket ticket && is_named d number) refl h
  where
    found : (d : SheetKind) → Whole who → Whole ticket → is_named d number ≡ true → call_of (deed_text d who ticket number) ≡ Some (deed_call d who ticket number)
    found Count u t n = ap call_in (path_parts (codes "count") (who ∷ ticket ∷ number ∷ []) refl (u, (t, (identifier_whole 1 most_number number n, tt))))
    found Pick u t n = ap call_in (path_parts (codes "pick") (who ∷ ticket ∷ number ∷ []) refl (u, (t, (identifier_whole 1 most_number number n, tt))))
    found Recount u t n = ap call_in (path_parts (codes "recount") (who ∷ ticket ∷ []) refl (u, (t, tt)))

    by : (c : Bool) → (is_identifier 1 most_ticket ticket && is_named d number) ≡ c → (if c then who_of who else None) ≡ Some w → call_of (deed_text d who ticket number) ≡ Some (deed_call d who ticket number)
    by false e k = absurd (cc)
    by true e k =
        let both = both_parts (is_identifier 1 most_ticket ticket) (is_named d number) e in
        found d (who_whole who w k) (identifier_whole 1 most_ticket ticket both.0) both.1

-- and one that is tried
pub tried_found : (d : SheetKind) (who ticket number : List ℕ) (w : Who) → (if is_identifier 1 most_ticket ticket && is_named d number then who_of who else None) ≡ Some w
    → call_of (tried_at (deed_text d who ticket number)) ≡ tried (Some (deed_call d who ticket number))
tried_found d who ticket number w h = by (is_identifier 1 most_ticket ticket && is_named d number) refl h
  where
    found : (d : SheetKind) → Whole who → Whole ticket → is_named d number ≡ true → call_of (tried_at (deed_text d who ticket number)) ≡ tried (Some (deed_call d who ticket number))
    found Count u t n = ap call_in (path_parts (codes "try") (codes "count" ∷ who ∷ ticket ∷ number ∷ []) refl (refl, (u, (t, (identifier_whole 1 most_number number n, tt)))))
    found Pick u t n = ap call_in (path_parts (codes "try") (codes "pick" ∷ who ∷ ticket ∷ number ∷ []) refl (refl, (u, (t, (identifier_whole 1 most_number number n, tt)))))
    found Recount u t n = ap call_in (path_parts (codes "try") (codes "recount" ∷ who ∷ ticket ∷ []) refl (refl, (u, (t, tt))))

    by : (c : Bool) → (is_identifier 1 most_ticket ticket && is_named d number) ≡ c → (if c then who_of who else None) ≡ Some w
        → call_of (tried_at (deed_text d who ticket number)) ≡ tried (Some (deed_call d who ticket number))
    by false e k = absurd (cc)
    by true e k =
        let both = both_parts (is_identifier 1 most_ticket ticket) (is_named d number) e in
        found d (who_whole who w k) (identifier_whole 1 most_ticket ticket both.0) both.1

-- and a picking sheet where it stands
pub order_found : (who number : List ℕ) (w : Who) → owner_of who number ≡ Some w → call_of (path_text (codes "orders" ∷ who ∷ number ∷ [])) ≡ Some (ToOrder who number)
order_found who number w h = by (is_identifier 1 most_number number) refl h
  where
    by : (c : Bool) → is_identifier 1 most_number number ≡ c → (if c then who_of who else None) ≡ Some w → call_of (path_text (codes "orders" ∷ who ∷ number ∷ [])) ≡ Some (ToOrder who number)
    by false e k = absurd (cc)
    by true e k = ap call_in (path_parts (codes "orders") (who ∷ number ∷ []) refl (who_whole who w k, (identifier_whole 1 most_number number e, tt)))

pub export_found : (who : List ℕ) (w : Who) → who_of who ≡ Some w → call_of (path_text (codes "stock" ∷ who ∷ codes "csv" ∷ [])) ≡ Some (ToExport who)
export_found who w h = ap call_in (path_parts (codes "stock") (who ∷ codes "csv" ∷ []) refl (who_whole who w h, (refl, tt)))

pub open_found : (who : List ℕ) (w : Who) → who_of who ≡ Some w → call_of (path_text (codes "open" ∷ who ∷ [])) ≡ Some (ToOpen who)
open_found who w h = ap call_in (path_parts (codes "open") (who ∷ []) refl (who_whole who w h, tt))

pub depositors_found : call_of (path_text (codes "depositors" ∷ [])) ≡ Some ToDepositors
depositors_found = refl
