use Rattle.std.proofs.Common.{◌≡◌, subst, arith}
use Rattle.std.specs.Prelude.{Contains}
use Rattle.folder_commands.proofs.PlaceLemmas.{enough_named, named_before, names_had, names_new, not_named}
use Rattle.folder_commands.proofs.places.name_place.Goals.{then-len-ge-MAX_PLACES-via-then-len-ge-MAX_PLACES, then-len-ge-MAX_PLACES-via-else-len-ge-MAX_PLACES+then-contains}
use Rattle.folder_commands.proofs.places.name_place.Goals as goal

pub returns-then-len-ge-MAX_PLACES : goal.returns-then-len-ge-MAX_PLACES
returns-then-len-ge-MAX_PLACES c =
    let named = c.args.named.now.items in
    let place = c.args.place.now in
    elim c.then-len-ge-MAX_PLACES.branch [
      | then-len-ge-MAX_PLACES-via-then-len-ge-MAX_PLACES w ↦ enough_named (λ x. place ≡ x) named (omega (arith, w.if-len-ge-MAX_PLACES.true, c.len.ensures))
      | then-len-ge-MAX_PLACES-via-else-len-ge-MAX_PLACES+then-contains w ↦ names_had (λ x. place ≡ x) named
          (λ fewer x same. subst (Contains named) same (named_before w.deref.result.now named place w.contains.result w.deref.ensures.value w.contains.ensures.value w.if-contains.true))
    ]

pub returns : goal.returns
returns c =
    let named = c.args.named.now.items in
    let place = c.args.place.now in
    names_new named c.push.new.self.items c.in_ok-copy.field-0 place c.in_ok-push.ensures.items c.in_ok-copy.ensures (omega (arith, c.if-len-ge-MAX_PLACES.false, c.len.ensures))
    (not_named c.deref.result.now named place c.contains.result c.deref.ensures.value c.contains.ensures.value c.if-contains.false)
