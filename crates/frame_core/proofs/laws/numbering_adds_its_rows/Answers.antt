use Rattle.std.proofs.Common.{◌+◌, refl}
use Rattle.frame_core.proofs.Numbering.{numbered_kept, numbered_above, numbered_told, numbered_origin}
use Rattle.frame_core.proofs.laws.numbering_adds_its_rows.Goals as goal

pub returns : goal.returns
returns c = record {
  earlier = numbered_kept;
  later = numbered_above;
  told = λ rows n r out place pair is. numbered_told rows n r out place (n + place) pair is refl;
  origin = numbered_origin;
}
