use Rattle.std.proofs.Common.{refl, rules}
use Rattle.reports.proofs.exports.stock_csv.Goals as goal

pub write_rows-requires : goal.write_rows-requires
write_rows-requires c =
    let from = c.from_writer-writer.ensures in
    record {
      setup = search rules;
      written = rw (from.wtr, from.empty, c.new-2.ensures.items) refl;
      fields = from.fields;
      wrote = from.wrote;
    }
