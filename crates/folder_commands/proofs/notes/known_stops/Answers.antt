use Rattle.std.proofs.Common.{sym, refl, subst, ◌∙◌, take, ◌+◌, string_bytes}
use Rattle.std.specs.List.{AllZip}
use Rattle.folder_commands.specs.Notes.{NotesStop}
use Rattle.folder_commands.proofs.NoteLemmas.{pairs_more}
use Rattle.folder_commands.proofs.notes.known_stops.Goals as goal

pub loop-stop-preserved : goal.loop-stop-preserved
loop-stop-preserved g c =
    let knows = g.F.Files.knows c.args.files.now in
    let folder = c.args.folder.now in
    let sites = c.args.sites.now in
    let stops = c.args.stops.now in
    let i = c.loop-stop.stop-index in
    let stop = c.stop-item.result in
    let path = c.as_str.ensures.value ∙ c.in_ok-path.ensures in
    let known = c.in_ok-known.known in
    let noted : NotesStop knows folder sites stop (record { site = stop.site; times = stop.times; cause = stop.cause; known = known }) = record { site = refl; times = refl; cause = refl; known = subst (λ p. knows p (string_bytes known)) path c.in_ok-known.ensures } in
    subst (λ xs. AllZip (NotesStop knows folder sites) (take (i + 1) stops) xs) (sym c.in_ok-push.ensures.items)
    (pairs_more (NotesStop knows folder sites) stops c.loop-stop.all.items i stop _ c.loop-stop-test.true c.stop-item.is c.loop-stop.invariant noted)
