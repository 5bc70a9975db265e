use Rattle.std.proofs.Common.{arith}
use Rattle.std.specs.List.{Contains}
use Rattle.gap_core.specs.GapPacks.{IsPackOnce}
use Rattle.gap_core.proofs.Additions.{more_before}
use Rattle.gap_core.proofs.PackSteps.{all_in}
use Rattle.gap_core.proofs.packs.note_site.Goals as goal

pub loop-place-preserved : goal.loop-place-preserved
loop-place-preserved c =
    more_before (IsPackOnce c.args.known.now c.args.wanted.now c.args.site c.args.source.at c.args.source.from c.args.packer.now) c.loop-place.place (Contains c.args.packs.now.items) (Contains c.loop-place.packs.items) (Contains c.note_event.new.packs.items)
    c.loop-place.invariant c.in_ok-note_event.ensures

pub returns : goal.returns
returns c =
    all_in c.args.known.now c.args.wanted.now c.args.source.at c.args.source.from c.args.site c.args.packer.now c.loop-place.place c.args.packs.now.items c.loop-place.packs.items
    (omega (arith, c.loop-place-test.false, c.len-place-end.ensures)) c.loop-place.invariant
