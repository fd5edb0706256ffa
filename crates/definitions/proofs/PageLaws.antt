-- What the tables hold of a depositor is what its page says.
use Rattle.std.proofs.Common.{◌≡◌, List, map, refl}
use Rattle.definitions.specs.Register.{Entry}
use Rattle.definitions.specs.Rows.{stock_rows, shown_row}
use Rattle.definitions.specs.Page.{page_of}

pub stock_rows-page : (M : List Entry) → stock_rows M ≡ map shown_row (page_of M).rows
stock_rows-page M = refl
