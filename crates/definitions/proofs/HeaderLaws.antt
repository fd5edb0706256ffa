-- The offsets of ISA's elements and of the separators between them follow from the widths.
use Rattle.std.proofs.Common.{◌≡◌, ◌+◌, map, take, refl}
use Rattle.definitions.specs.Header.{places, separator_offsets, offsets_from}

-- each element begins one byte after the end of the one before it
pub offsets-widths : map (λ p. p.0) places ≡ offsets_from 0 (map (λ p. p.1) places)
offsets-widths = refl

-- and that byte is a separator
pub separators-ends : separator_offsets ≡ map (λ p. p.0 + p.1) (take 16 places)
separators-ends = refl
