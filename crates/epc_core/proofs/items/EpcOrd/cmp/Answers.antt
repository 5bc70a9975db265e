use Rattle.std.proofs.Common.{◌≡◌, sym, ap, ◌∙◌, nat_cmp, subst}
use Rattle.std.specs.Ordering.{ordering_then}
use Rattle.std.specs.Cmp.Lexicographic.{slice_cmp}
use Rattle.epc_core.specs.Items.{sgtin_key}
use Rattle.epc_core.specs.Forms.{key_of_form, IsForm}
use Rattle.epc_core.proofs.Compared.{slice_cmp-sgtin_key, then_decided}
use Rattle.std.specs.declared.cmp.Ordering.TheVariants.{Equal}
use Rattle.epc_core.proofs.items.EpcOrd.cmp.Goals as goal

pub returns-in-Equal : goal.returns-in-Equal
returns-in-Equal c =
    let it = c.in-Item-Item in
    let key : sgtin_key it.gtin it.serial ≡ c.args.self.now = ap key_of_form (sym it.is-0) ∙ c.self.view_is in
    let other : sgtin_key it.other_gtin it.other_serial ≡ c.args.other.now = ap key_of_form (sym it.is-1) ∙ c.other.view_is in
    let counted = (subst IsForm it.is-0 c.self.invariant).0.counted in
    let also = (subst IsForm it.is-1 c.other.invariant).0.counted in
    let compared : c.compare_blocks.result ≡ slice_cmp nat_cmp it.gtin it.other_gtin = c.compare_blocks.ensures in
    let gtins : slice_cmp nat_cmp it.gtin it.other_gtin ≡ Equal = sym compared ∙ c.in-Equal.is in
    let serials : c.compare.result ≡ slice_cmp nat_cmp it.serial it.other_serial = c.compare.ensures in
    let whole = slice_cmp-sgtin_key _ _ it.serial it.other_serial counted also in
    serials ∙ (ap (λ o. ordering_then o (slice_cmp nat_cmp it.serial it.other_serial)) (sym gtins) ∙ (sym whole ∙ (λ i. slice_cmp nat_cmp (key i) (other i))))

pub returns-in_default : goal.returns-in_default
returns-in_default c =
    let it = c.in-Item-Item in
    let key : sgtin_key it.gtin it.serial ≡ c.args.self.now = ap key_of_form (sym it.is-0) ∙ c.self.view_is in
    let other : sgtin_key it.other_gtin it.other_serial ≡ c.args.other.now = ap key_of_form (sym it.is-1) ∙ c.other.view_is in
    let counted = (subst IsForm it.is-0 c.self.invariant).0.counted in
    let also = (subst IsForm it.is-1 c.other.invariant).0.counted in
    let whole = slice_cmp-sgtin_key _ _ it.serial it.other_serial counted also in
    sym (then_decided _ _ c.in_default.not-Equal) ∙ (ap (λ o. ordering_then o (slice_cmp nat_cmp it.serial it.other_serial)) c.compare_blocks.ensures ∙ (sym whole ∙ (λ i. slice_cmp nat_cmp (key i) (other i))))
