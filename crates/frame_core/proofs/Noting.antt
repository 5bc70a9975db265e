-- What noting a message returns.
use Rattle.std.proofs.Common.{◌≡◌, ◌↔◌, Option, None, Result, Ok, refl, subst}
use Rattle.std.specs.Prelude.{IsSome}
use Rattle.std.specs.declared.alloc.AllocError.{AllocError}
use Rattle.frame_core.specs.declared.seen_messages.Noted.{Noted}
use Rattle.frame_core.specs.declared.seen_messages.Noted.TheVariants.{Fresh, Repeat}

-- what was not seen is fresh
pub noted_fresh : {A P : Type 0} {before : Option A} (noted : Noted) → (◌≡◌ {A = Result Noted AllocError} (Ok noted) (Ok Repeat)) ↔ IsSome before → ((◌≡◌ {A = Result Noted AllocError} (Ok noted) (Ok Fresh)) → P) → before ≡ None → P
noted_fresh Fresh repeat fresh none = fresh refl
noted_fresh Repeat repeat fresh none = let some = subst IsSome none (repeat.0 refl) in cc
