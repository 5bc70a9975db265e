use Rattle.std.proofs.Common.{◌≡◌, Some, rules, sym}
use Rattle.gap_core.proofs.SourceLists.{first_source, list_changed}
use Rattle.gap_core.proofs.sources.note_source.Goals as goal

pub returns-in-Some : goal.returns-in-Some
returns-in-Some c =
    list_changed c.args.index.now (c.get_mut.follows.lender c.note.new.self) c.args.item.now c.note.new.self ((c.get_mut.follows.holds c.note.new.self).3 (search rules)) (Some c.in-Some.sources.now)
    (sym c.in-Some.ensures.value) (λ x. c.args.source ≡ x) c.in_ok-note.ensures.added

-- the item is new
pub returns : goal.returns
returns c =
    first_source c.args.index.now c.get_mut.follows.lender-at-none c.insert.new.self c.args.item.now c.in_ok-copy.field-0 c.in_ok-sources.sources c.args.source c.get_mut.follows.holds-at-none c.in_ok-copy.ensures
    (sym c.in_default.ensures.value) c.in_ok-insert.ensures.updates c.in_ok-sources.ensures
