-- What segments name, one after the other.
use Rattle.std.proofs.Common.{◌≡◌, ℕ, List, refl, ap}
use Rattle.definitions.specs.Bytes.{Delims}
use Rattle.definitions.specs.Cut.{Piece, cut, pieces_left, segments_of}
use Rattle.definitions.specs.Need.{Need, nothing, together, need_of_segments}
use Rattle.envelope.proofs.PieceLemmas.{pieces_elements}

-- what pieces name
abbrev pub named_by : List Piece → Need
named_by ps = need_of_segments (segments_of ps)

-- before the first of them
pub named_first : (d : Delims) (text : List ℕ) → together nothing (named_by (pieces_left (record { delims = d; text = text }))) ≡ need_of_segments (cut d text).segments
named_first d text = ap need_of_segments (pieces_elements d text (pieces_left (record { delims = d; text = text })) refl)
