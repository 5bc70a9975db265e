-- Each frame that has a name has a place.
use Rattle.std.proofs.Common.{◌≡◌, ℕ, suc, Some, None, length, refl, sym}
use Rattle.std.specs.List.{Contains}
use Rattle.std.proofs.lemmas.Option.{slice_get_read}
use Rattle.scholten_core.specs.Engagement.{Engagement}
use Rattle.site_core.specs.declared.naming.FrameName.{FrameName}
use Rattle.site_core.specs.Emitting.{emittable, frame_at}
use Rattle.site_core.specs.Naming.{frame_named}
use Rattle.site_core.proofs.NamedFrames.{frames_have_names}

pub place_of_name : (e : Engagement) (name : FrameName) → (place : ℕ) × (frame_at e place ≡ frame_named e name)
place_of_name e name = elim (frame_named e name) as (λ o. frame_named e name ≡ o → (place : ℕ) × (frame_at e place ≡ o)) [
  | None ↦ λ _. (0, refl)
  | Some f ↦ λ is.
      let (k, within, at) : Contains (emittable e) f = (frames_have_names e f).1 (name, is) in
      (suc k, slice_get_read (emittable e) (length (emittable e)) k f refl within (sym at))
] refl
