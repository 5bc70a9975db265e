use Rattle.std.proofs.Common.{subst, arith, List, ℕ}
use Rattle.std.proofs.lemmas.Result.{IfOk-weaker}
use Rattle.folder_commands.specs.Untraced.{IsOutside, NamesPlaces, ShipsOutside}
use Rattle.folder_commands.proofs.DocumentLemmas.{read_text, read_utf8, told_counts}
use Rattle.folder_commands.proofs.PlaceLemmas.{counted_none, document_named, enough_named}
use Rattle.folder_commands.proofs.untraced.places_of.Goals.{then-untraced-eq0-via-then-untraced-eq0, then-untraced-eq0-via-else-untraced-eq0+then-len-ge-MAX_PLACES}
use Rattle.folder_commands.proofs.untraced.places_of.Goals as goal

pub returns-then-untraced-eq0-clause-found : goal.returns-then-untraced-eq0-clause-found
returns-then-untraced-eq0-clause-found c = λ doc read told.
    let sites = c.args.sites.now in
    let document = c.args.document.now in
    let named = c.args.named.now in
    let copy = c.in_ok-named.named in
    subst (λ (ps : List (List ℕ)). NamesPlaces (ShipsOutside sites document) ps copy) c.in_ok-named.ensures (elim c.then-untraced-eq0.branch [
      | then-untraced-eq0-via-then-untraced-eq0 w ↦
          counted_none sites document doc c.args.untraced copy (read_text sites document doc read) (told_counts sites document doc c.args.untraced read told) (omega (arith, w.if-untraced-eq0.true))
      | then-untraced-eq0-via-else-untraced-eq0+then-len-ge-MAX_PLACES w ↦
          enough_named (ShipsOutside sites document) copy (omega (arith, w.if-len-ge-MAX_PLACES.true, w.len.ensures))
    ])

pub returns-in-Ok-clause-found : goal.returns-in-Ok-clause-found
returns-in-Ok-clause-found c = λ doc read told.
    let sites = c.args.sites.now in
    let document = c.args.document.now in
    let named = c.args.named.now in
    let copy = c.in_ok-named.named in
    let own = c.in-Ok.doc in
    IfOk-weaker c.with_places.result (NamesPlaces (IsOutside own.events) copy) (NamesPlaces (ShipsOutside sites document) named)
    (λ places names. document_named sites document own named copy places (c.in-Ok.ensures.text (read_utf8 sites document doc read)) c.in_ok-named.ensures names)
    c.with_places.ensures.found
