use Rattle.std.proofs.Common.{nat_cmp, ◌∙◌, take}
use Rattle.std.specs.Cmp.Lexicographic.{slice_cmp}
use Rattle.epc_core.proofs.Compared.{padded_compared}
use Rattle.epc_core.proofs.Plain.{serial_plain}
use Rattle.epc_core.proofs.serials.Serial.compare.Goals as goal

pub returns : goal.returns
returns c =
    let s = c.self.invariant in
    let t = c.other.invariant in
    let xs = take c.self.inside.count c.self.inside.bytes in
    let ys = take c.other.inside.count c.other.inside.bytes in
    c.compare_blocks.ensures
    ∙ ((λ i. slice_cmp nat_cmp (s.0.zeros i) (t.0.zeros i))
    ∙ (padded_compared 20 xs ys (serial_plain xs s.1.allowed) (serial_plain ys t.1.allowed)
    ∙ (λ i. slice_cmp nat_cmp (c.self.view_is i) (c.other.view_is i))))
