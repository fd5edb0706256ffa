-- A folder that wasn't taken.
use Rattle.std.proofs.Common.{None, inl, refl}
use Rattle.definitions.specs.Moments.{Moment}
use Rattle.store.specs.Fault.TheVariants.{OutOfMemory}
use Rattle.store.specs.Standing.{Standing}
use Rattle.folders.proofs.Taking.{none_counted}
use Rattle.folders.specs.Folders.{IsFolderStopped}

-- for want of memory, before anything of it was read
pub not_begun : (a : Standing) (t : Moment) → IsFolderStopped OutOfMemory a a t
not_begun a t =
    (none_counted (record { fault = OutOfMemory; at = None; taken = 0 }) a t (record { why = inl refl; nowhere = refl; none_taken = refl })).stopped
