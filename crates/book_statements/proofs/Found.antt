-- What the book's queries find in tables that stand for a register.
use Rattle.std.proofs.Common.{codes, ◌≡◌, ◌≤◌, ◌<◌, inl, inr, ℕ, suc, ◌+◌, pos, List, [], ◌∷◌, ◌++◌, length, length-append, map, filter, flat_map, Bool, true, cond, Less, refl, sym, ap, subst, ◌∙◌, arith, lt-ltb}
use Rattle.std.specs.List.{AllByRecursion}
use Rattle.std.specs.List.Sorted.{IsPermutation}
use Rattle.std.proofs.lemmas.Bool.{cases_Bool}
use Rattle.std.proofs.lemmas.List.{length-map}
use Rattle.std.proofs.lemmas.List.Sorted.{length_permutation}
use Rattle.sqlite.specs.declared.types.Value.{Value}
use Rattle.sqlite.specs.declared.types.Value.TheVariants as value
use Rattle.sqlite.specs.Order.{Row, column}
use Rattle.sqlite.specs.Query.{output, Output}
use Rattle.sqlite.specs.Tree.{IsTable}
use Rattle.sqlite.specs.Effect.{Database, Reads}
use Rattle.sqlite.specs.Command.TheVariants.{Select}
use Rattle.sqlite_value.specs.Order.{value_cmp}
use Rattle.sqlite_value.proofs.OrderLemmas.{value_cmp-Int}
use Rattle.sqlite_trees.specs.Tree.{rowid}
use Rattle.sqlite.proofs.Callers.{one_permutation}
use Rattle.definitions.specs.declared.rules.Rules.{Rules}
use Rattle.definitions.specs.declared.rules.Rules.TheVariants.{One, Two}
use Rattle.definitions.specs.Rules.{rules_number}
use Rattle.definitions.specs.Header.{Who, is_partner}
use Rattle.definitions.specs.Register.{Entry}
use Rattle.definitions.specs.Tables.{entries_on, entry_table, entry_rules_on, book_table}
use Rattle.book_statements.specs.Held.{entry_values, first_row}
use Rattle.book_statements.specs.declared.names.TableName.TheVariants as table
use Rattle.book_statements.specs.Carrying.{StandsAs}
use Rattle.book_statements.specs.Asking.{Finds, house_text}
use Rattle.book_statements.specs.Recorded.{IsHouse}
use Rattle.book_statements.proofs.Asked.{found, found_first}
use Rattle.book_statements.proofs.ReadingTexts.{count_text, count_query, count_is, count_reads, house_query, house_is, house_reads}

pub flat_map-cond : {A B : Type 0} (t : A → Bool) (f : A → B) (xs : List A) → flat_map (λ x. cond (t x) (f x ∷ []) []) xs ≡ map f (filter t xs)
flat_map-cond t f [] = refl
flat_map-cond t f (x ∷ xs) = elim (cases_Bool (t x)) [ inl e ↦ rw e (ap (λ ys. f x ∷ ys) (flat_map-cond t f xs)) | inr e ↦ rw e (flat_map-cond t f xs) ]

pub map-both : {A B C : Type 0} (f : A → B) (g : B → C) (xs : List A) → map g (map f xs) ≡ map (λ x. g (f x)) xs
map-both f g [] = refl
map-both f g (x ∷ xs) = ap (λ ys. g (f x) ∷ ys) (map-both f g xs)

passing : {A : Type 0} (xs : List A) → filter (λ _. true) xs ≡ xs
passing [] = refl
passing (x ∷ xs) = ap (λ ys. x ∷ ys) (passing xs)

-- The order of the entries' rows.

int_less : (m n : ℕ) → m < n → value_cmp (value.Int (pos m)) (value.Int (pos n)) ≡ Less
int_less m n h = value_cmp-Int (pos m) (pos n) ∙ rw (lt-ltb m n h) refl

above : (n : ℕ) (before L : List Entry) → n ≤ length before → AllByRecursion (λ r. value_cmp (value.Int (pos n)) (rowid r) ≡ Less) (map entry_values (entries_on before L))
above n before [] h = tt
above n before (e ∷ L) h = (int_less n (length before + 1) (omega (arith, h)), above n (before ++ e ∷ []) L (omega (arith, h, length-append before (e ∷ []))))

pub entries_rise : (before L : List Entry) → IsTable (map entry_values (entries_on before L))
entries_rise before [] = tt
entries_rise before (e ∷ L) = (above (length before + 1) (before ++ e ∷ []) L (omega (arith, length-append before (e ∷ []))), entries_rise (before ++ e ∷ []) L)

pub rules_rise : (before L : List Entry) → IsTable (map entry_values (entry_rules_on before L))
rules_rise before [] = tt
rules_rise before (e ∷ L) = (rules_above (length before + 1) (before ++ e ∷ []) L (omega (arith, length-append before (e ∷ []))), rules_rise (before ++ e ∷ []) L)
  where
    rules_above : (n : ℕ) (before L : List Entry) → n ≤ length before → AllByRecursion (λ r. value_cmp (value.Int (pos n)) (rowid r) ≡ Less) (map entry_values (entry_rules_on before L))
    rules_above n before [] h = tt
    rules_above n before (e ∷ L) h = (int_less n (length before + 1) (omega (arith, h)), rules_above n (before ++ e ∷ []) L (omega (arith, h, length-append before (e ∷ []))))

-- How many entries there are.

entries_long : (before L : List Entry) → length (entries_on before L) ≡ length L
entries_long before [] = refl
entries_long before (e ∷ L) = ap suc (entries_long (before ++ e ∷ []) L)

count_read : (L : List Entry) (db : Database) (rows : List Row) → db.trees 1 ≡ map entry_values (entry_table L) → Reads (Select (record { lets = []; body = count_query }) (codes "seq" ∷ [])) db [] rows → length rows ≡ length L
count_read L db rows entries read =
    let a = read.answer value.Null in
    let is : a.kept ≡ map (output count_query) (map (λ (r : Row). [] ∷ r ∷ []) (filter (λ _. true) (db.trees 1))) = a.distinct ∙ ap (map (output count_query)) (a.grouped ∙ flat_map-cond (λ _. true) (λ (r : Row). [] ∷ r ∷ []) (db.trees 1)) in
    ap length a.shown ∙ length-map a.ordered (λ (o : Output). o.1) ∙ length_permutation a.kept a.ordered a.same
    ∙ ap length is ∙ length-map (map (λ (r : Row). [] ∷ r ∷ []) (filter (λ _. true) (db.trees 1))) (output count_query) ∙ length-map (filter (λ _. true) (db.trees 1)) (λ (r : Row). [] ∷ r ∷ [])
    ∙ ap length (passing (db.trees 1) ∙ entries) ∙ length-map (entry_table L) entry_values ∙ entries_long [] L

pub count_found : (q : Rules) (W : Who) (L : List Entry) (db : Database) (rows : List Row) → StandsAs q W L db → Finds count_text [] db rows → length rows ≡ length L
count_found One W L db rows stands h = count_read L db rows (let r = stands.rows in r.1.0) (found_first count_text [] db rows _ stands.schema count_reads count_is h)
count_found Two W L db rows stands h = count_read L db rows (let r = stands.rows in r table.Entry) (found count_text [] db rows _ stands.schema count_reads count_is h)

-- The warehouse.

house_read : (q : Rules) (W : Who) (db : Database) (rows : List Row) → is_partner W ≡ true → db.trees 0 ≡ map first_row (book_table q W)
    → Reads (Select (record { lets = []; body = house_query }) (codes "version" ∷ codes "qualifier" ∷ codes "id" ∷ [])) db [] rows → IsHouse q rows W
house_read q W db rows partner book read =
    let a = read.answer value.Null in
    let is : a.kept ≡ map (output house_query) (map (λ (r : Row). [] ∷ r ∷ []) (filter (λ _. true) (db.trees 0))) = a.distinct ∙ ap (map (output house_query)) (a.grouped ∙ flat_map-cond (λ _. true) (λ (r : Row). [] ∷ r ∷ []) (db.trees 0)) in
    let row : Row = value.Int (pos (rules_number q)) ∷ value.Text W.qualifier ∷ value.Text W.id ∷ [] in
    let one : a.kept ≡ ([], row) ∷ [] = is ∙ ap (λ src. map (output house_query) (map (λ (r : Row). [] ∷ r ∷ []) (filter (λ _. true) src))) book in
    let ordered : a.ordered ≡ ([], row) ∷ [] = one_permutation ([], row) a.ordered (subst (λ kept. IsPermutation kept a.ordered) one a.same) in
    record { row = row; one = a.shown ∙ ap (map (λ (o : Output). o.1)) ordered; version = refl; qualifier = refl; id = refl; partner = partner }

pub house_found : (q : Rules) (W : Who) (L : List Entry) (db : Database) (rows : List Row) → StandsAs q W L db → Finds house_text [] db rows → IsHouse q rows W
house_found One W L db rows stands h =
    house_read One W db rows (let legal = stands.legal in legal.of_a_partner) (let r = stands.rows in r.0) (found_first house_text [] db rows _ stands.schema house_reads house_is h)
house_found Two W L db rows stands h =
    house_read Two W db rows (let legal = stands.legal in legal.of_a_partner) (let r = stands.rows in r table.Book) (found house_text [] db rows _ stands.schema house_reads house_is h)

-- one version and one warehouse are named
pub one_house : (rows : List Row) (p q : Rules) (V W : Who) → IsHouse p rows V → IsHouse q rows W → (p ≡ q) × (V ≡ W)
one_house rows p q V W v w =
    let same : v.row ≡ w.row = same_head v.row w.row (sym v.one ∙ w.one) in
    let versions : rules_number p ≡ rules_number q = same_number_value (rules_number p) (rules_number q) (sym v.version ∙ ap (λ (r : Row). column r 0) same ∙ w.version) in
    let qualifiers : V.qualifier ≡ W.qualifier = same_text_value V.qualifier W.qualifier (sym v.qualifier ∙ ap (λ (r : Row). column r 1) same ∙ w.qualifier) in
    let ids : V.id ≡ W.id = same_text_value V.id W.id (sym v.id ∙ ap (λ (r : Row). column r 2) same ∙ w.id) in
    (one_rules p q versions, λ i. record { qualifier = qualifiers i; id = ids i })
  where
    same_head : (r s : Row) → ◌≡◌ {A = List Row} (r ∷ []) (s ∷ []) → r ≡ s
    same_head r s e = cc

    same_text_value : (a b : List ℕ) → ◌≡◌ {A = Value} (value.Text a) (value.Text b) → a ≡ b
    same_text_value a b e = cc

    same_number_value : (a b : ℕ) → ◌≡◌ {A = Value} (value.Int (pos a)) (value.Int (pos b)) → a ≡ b
    same_number_value a b e = cc

    one_rules : (p q : Rules) → rules_number p ≡ rules_number q → p ≡ q
    one_rules One One e = refl
    one_rules One Two e = absurd (let no : ◌≡◌ {A = ℕ} 1 2 = e in cc)
    one_rules Two One e = absurd (let no : ◌≡◌ {A = ℕ} 2 1 = e in cc)
    one_rules Two Two e = refl
