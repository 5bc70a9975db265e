-- What is said of a connection on a disk that returns what was written.
use Rattle.sqlite_trees.specs.declared.store.Store.{Ghosts}
use Rattle.sqlite.specs.Held.{Held, state}
use Rattle.sqlite.specs.State.{HasCleanDisk}

-- it holds where the disk has returned so far what was written, and nobody else wrote there
abbrev pub OnHonestDisk : {S : Type 0} → Ghosts S → Held S → Type 0 → Type 0
OnHonestDisk g conn P = HasCleanDisk (state g conn) → P
