-- The texts that ask for all of a table, and what they mean.
use Rattle.std.proofs.Common.{◌≡◌, codes, ℕ, ◌+◌, List, [], ◌∷◌, map, drop, length, refl, ap, false}
use Rattle.sqlite.specs.Schema.{Schema}
use Rattle.sqlite.specs.Command.TheVariants.{Select}
use Rattle.sqlite.specs.Term.{Term, col}
use Rattle.sqlite.specs.Table.{Table}
use Rattle.sqlite.specs.Query.{Query}
use Rattle.sqlite.specs.Collation.TheVariants.{Binary}
use Rattle.sqlite_value.specs.Keys.{ascending}
use Rattle.sqlite_value.specs.declared.keys.Key.{Key}
use Rattle.sqlite_schema.specs.declared.schema.Column.{Column}
use Rattle.sqlite_tied.specs.Compute.{everything}
use Rattle.sqlite.specs.Listing.{understood, reads_listing}
use Rattle.sqlite.proofs.Callers.{command_of}
use Rattle.book_statements.specs.Asking.{OnlyReads}
use Rattle.book_statements.specs.declared.names.TableName.{TableName}
use Rattle.book_statements.specs.declared.names.TableName.TheVariants.{Book, Entry, Outgoing, Stock, Advice, AdviceLine, Orders, OrderLine, Reservation, EntryRules, LotExpiry}
use Rattle.book_statements.specs.Whole.{whole_text}
use Rattle.book_statements.specs.Layout.{Others, beside, IsLayout, tree_in, rules_tree, expiry_tree}
use Rattle.book_statements.specs.Standing.{Keying, Alone, ByRowid, ByColumns, keying_of, layout_of, width_of, tree_of}
use Rattle.book_statements.proofs.Understood.{Compiles, query_is}
use Rattle.book_statements.proofs.KeyLemmas.{places}
use Rattle.book_statements.proofs.ReadingTexts.{ordered_from}
use Rattle.book_statements.proofs.Beside.{under}
use Rattle.book_statements.proofs.ExpiryReads.{whole_dates_is}
use Rattle.book_statements.proofs.PlacedAnswers.{from_tree}
use Rattle.book_statements.proofs.RulesReads.{all_rules_is}
use Rattle.book_statements.proofs.Selects.{query_reads}

abbrev pub columns_at : List ℕ → List Term
columns_at places = map (λ (p : ℕ). col 1 p) places

abbrev pub rising_at : List ℕ → List (Term × Key)
rising_at places = map (λ (p : ℕ). (col 1 p, ascending Binary)) places

-- how many columns a table has
abbrev pub columns_of : TableName → ℕ
columns_of t = length (let l = layout_of t in l.columns)

-- the places of all columns of a table with so many, its rowid among them where it tells rows
-- apart; and those of the key of so many, by which they are asked for in order
abbrev all_places : Keying → ℕ → List ℕ
all_places Alone n = places 0 (n + 1)
all_places ByRowid n = 0 ∷ drop 1 (places 1 n)
all_places ByColumns n = places 1 n

abbrev key_places : Keying → ℕ → List ℕ
key_places Alone k = []
key_places ByRowid k = 0 ∷ []
key_places ByColumns k = places 1 k

abbrev query_as : Keying → TableName → Query
query_as g t = ordered_from (tree_of t) [] (columns_at (all_places g (columns_of t))) (rising_at (key_places g (width_of t)))

-- all columns of a table, in the order of its key
abbrev pub whole_query : TableName → Query
whole_query t = query_as (keying_of t) t

abbrev pub book_query : Query
book_query = whole_query Book

abbrev pub entry_query : Query
entry_query = whole_query Entry

abbrev pub rules_query : Query
rules_query = whole_query EntryRules

-- the same of a table that is keyed by its first columns
abbrev pub keyed_query : TableName → Query
keyed_query t = ordered_from (tree_of t) [] (columns_at (places 1 (columns_of t))) (rising_at (places 1 (width_of t)))

pub keyed_is : (t : TableName) → keying_of t ≡ ByColumns → whole_query t ≡ keyed_query t
keyed_is t is = ap (λ g. query_as g t) is

abbrev names_in : Table → List (List ℕ)
names_in t = map (λ (c : Column). c.name) t.columns

abbrev pub whole_names : TableName → List (List ℕ)
whole_names Book = codes "rowid" ∷ names_in (layout_of Book)
whole_names t = names_in (layout_of t)

-- a table of version 1
abbrev IsFirst : TableName → Type 0
IsFirst EntryRules = ⊥
IsFirst LotExpiry = ⊥
IsFirst _ = Unit {0}

pub over_its_tree : (t : TableName) → from_tree (tree_of t) (whole_query t) ≡ whole_query t
over_its_tree t = refl

-- the text of a table asks for its tree
abbrev IsWhole : TableName → Schema → Type 0
IsWhole t schema = (command_of (understood schema (whole_text t)) ≡ Select (record { lets = []; body = from_tree (tree_in schema (tree_of t)) (whole_query t) }) (whole_names t)) × (reads_listing schema (whole_text t) ≡ false)

-- a table of version 1 has a tree that no schema moves
first_compiles : (t : TableName) → IsFirst t → (others : Others) → Compiles (beside others) (whole_text t) 0 (Select (record { lets = []; body = from_tree (tree_in (beside others) (tree_of t)) (whole_query t) }) (whole_names t))
unfolding everything
first_compiles Book first others = refl
first_compiles Entry first others = refl
first_compiles Outgoing first others = refl
first_compiles Stock first others = refl
first_compiles Advice first others = refl
first_compiles AdviceLine first others = refl
first_compiles Orders first others = refl
first_compiles OrderLine first others = refl
first_compiles Reservation first others = refl
first_compiles EntryRules first others = absurd first
first_compiles LotExpiry first others = absurd first

first_whole : (t : TableName) → IsFirst t → (others : Others) → IsWhole t (beside others)
first_whole t first others = query_is (beside others) (whole_text t) 0 _ _ (first_compiles t first others)

pub whole_is : (t : TableName) (schema : Schema) → IsLayout schema → IsWhole t schema
whole_is Book schema lies = under (IsWhole Book) schema lies (first_whole Book tt)
whole_is Entry schema lies = under (IsWhole Entry) schema lies (first_whole Entry tt)
whole_is Outgoing schema lies = under (IsWhole Outgoing) schema lies (first_whole Outgoing tt)
whole_is Stock schema lies = under (IsWhole Stock) schema lies (first_whole Stock tt)
whole_is Advice schema lies = under (IsWhole Advice) schema lies (first_whole Advice tt)
whole_is AdviceLine schema lies = under (IsWhole AdviceLine) schema lies (first_whole AdviceLine tt)
whole_is Orders schema lies = under (IsWhole Orders) schema lies (first_whole Orders tt)
whole_is OrderLine schema lies = under (IsWhole OrderLine) schema lies (first_whole OrderLine tt)
whole_is Reservation schema lies = under (IsWhole Reservation) schema lies (first_whole Reservation tt)
whole_is EntryRules schema lies = all_rules_is schema lies.rules_place (rules_tree schema) lies.rules
whole_is LotExpiry schema lies = whole_dates_is schema lies.expiry_place (expiry_tree schema) lies.expiry

pub whole_reads : (t : TableName) → OnlyReads (whole_text t)
unfolding everything
whole_reads Book = query_reads (whole_text Book) (λ schema base. refl)
whole_reads Entry = query_reads (whole_text Entry) (λ schema base. refl)
whole_reads Outgoing = query_reads (whole_text Outgoing) (λ schema base. refl)
whole_reads Stock = query_reads (whole_text Stock) (λ schema base. refl)
whole_reads Advice = query_reads (whole_text Advice) (λ schema base. refl)
whole_reads AdviceLine = query_reads (whole_text AdviceLine) (λ schema base. refl)
whole_reads Orders = query_reads (whole_text Orders) (λ schema base. refl)
whole_reads OrderLine = query_reads (whole_text OrderLine) (λ schema base. refl)
whole_reads Reservation = query_reads (whole_text Reservation) (λ schema base. refl)
whole_reads EntryRules = query_reads (whole_text EntryRules) (λ schema base. refl)
whole_reads LotExpiry = query_reads (whole_text LotExpiry) (λ schema base. refl)
