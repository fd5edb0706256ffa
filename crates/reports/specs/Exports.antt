-- What a depositor has, as a report or exported, and a writer of the export.
use Rattle.std.specs.Prelude.{◌≡◌, ℕ, Bool, List, Some, Vec, false, if◌then◌else◌}
use Rattle.std.specs.Global.{Global}
use Rattle.csv.specs.Writing.{default_writer, with_style, writer_setup, text_written, fields_written, has_written}
use Rattle.csv.specs.declared.writer.Writer.{Writer}
use Rattle.csv.specs.declared.writer.QuoteStyle.TheVariants as style
use Rattle.definitions.specs.Rules.{Today}
use Rattle.definitions.specs.Reports.{stock_csv, stock_report}
use Rattle.definitions.specs.Rows.{StockRow}

-- the report of rows, or their export as CSV
abbrev pub stock_text : Bool → List StockRow → List ℕ
stock_text is_csv rows = if is_csv then stock_csv Today rows else stock_report Today rows

-- it has written this text, ends a record, and quotes nothing
pub record HoldsText (w : Writer (Vec ℕ Global)) (text : List ℕ) : Type 0 where
  pub setup : writer_setup w ≡ with_style default_writer style.Never
  pub written : text_written (λ (v : Vec ℕ Global). Some v.items) w ≡ Some text
  pub fields : fields_written w ≡ 0
  pub wrote : has_written w ≡ false
