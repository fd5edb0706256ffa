-- What a writer that quotes nothing writes.
use Rattle.std.proofs.Common.{◌≡◌, ◌≢◌, ℕ, List, [], ◌∷◌, ◌++◌, ap, ◌∙◌, Some, None, Option, Vec, Global, false, subst, append-nil}
use Rattle.std.specs.List.{join_with_byte}
use Rattle.std.specs.Io.KnownBytes.{Appends}
use Rattle.csv.specs.Writing.{default_writer, with_style, writer_setup, text_written, fields_written, has_written, fields_text, is_blank, row_text}
use Rattle.csv.specs.declared.writer.Writer.{Writer}
use Rattle.csv.specs.declared.writer.WriterBuilder.{WriterBuilder}
use Rattle.csv.specs.declared.writer.QuoteStyle.TheVariants as style
use Rattle.definitions.specs.Reports.{csv_record}
use Rattle.reports.specs.Exports.{HoldsText}

abbrev quotes_nothing : WriterBuilder
quotes_nothing = with_style default_writer style.Never

joined : (field : List ℕ) (rest : List (List ℕ)) → field ++ fields_text quotes_nothing rest ≡ join_with_byte 44 (field ∷ rest)
unfolding fields_text
joined field [] = append-nil field
joined field (next ∷ rest) = ap (λ text. field ++ 44 ∷ text) (joined next rest)

-- a record of several fields
record_text : (a b : List ℕ) (rest : List (List ℕ)) → row_text quotes_nothing (a ∷ b ∷ rest) ≡ csv_record (a ∷ b ∷ rest)
unfolding is_blank
record_text a b rest = ap (λ text. text ++ 10 ∷ []) (joined a (b ∷ rest))

abbrev contents : Vec ℕ Global → Option (List ℕ)
contents v = Some v.items

appended : (old new : Option (List ℕ)) (text more : List ℕ) → old ≡ Some text → Appends old new more → new ≡ Some (text ++ more)
appended None new text more h g = absurd (cc)
appended (Some xs) None text more h g = absurd g
appended (Some xs) (Some ys) text more h g = ap Some (g ∙ ap (λ (zs : List ℕ). zs ++ more) (some_same xs text h))
  where
    some_or : Option (List ℕ) → List ℕ
    some_or (Some zs) = zs
    some_or None = []

    some_same : (xs ys : List ℕ) → Some xs ≡ Some ys → xs ≡ ys
    some_same xs ys e = cc

-- after a record of several fields the writer holds it too
pub holds_more : (old new : Writer (Vec ℕ Global)) (text a b : List ℕ) (rest : List (List ℕ)) → HoldsText old text
    → (fields_written old ≡ 0 → has_written old ≡ false → (writer_setup old).style ≢ style.NonNumeric
    → Appends (text_written contents old) (text_written contents new) (row_text (writer_setup old) (a ∷ b ∷ rest)))
    → fields_written new ≡ 0 → has_written new ≡ false → writer_setup new ≡ writer_setup old
    → HoldsText new (text ++ csv_record (a ∷ b ∷ rest))
holds_more old new text a b rest h bytes ended clean setup =
    let plain : (writer_setup old).style ≢ style.NonNumeric = rw h.setup (λ e. cc e) in
    let row : row_text (writer_setup old) (a ∷ b ∷ rest) ≡ csv_record (a ∷ b ∷ rest) = ap (λ c. row_text c (a ∷ b ∷ rest)) h.setup ∙ record_text a b rest in
    record {
      setup = setup ∙ h.setup;
      written = appended (text_written contents old) (text_written contents new) text (csv_record (a ∷ b ∷ rest)) h.written
          (subst (Appends (text_written contents old) (text_written contents new)) row (bytes h.fields h.wrote plain));
      fields = ended;
      wrote = clean;
    }
