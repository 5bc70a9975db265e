use Rattle.std.proofs.Common.{◌≡◌, ◌+◌, ◌∷◌, [], ◌++◌, Some, None, sym, ap, ◌∙◌, subst, arith, append-nil}
use Rattle.std.specs.Prelude.{slice_get}
use Rattle.std.specs.Option.{option_and_then}
use Rattle.event_json.specs.Sites.{Site}
use Rattle.sha2.specs.Hashers.{Holds256}
use Rattle.frame_lines.proofs.SumLemmas.{all_taken, ended, few_addresses, one_more}
use Rattle.frame_lines.proofs.sums.add_addresses.Goals as goal
use Rattle.frame_lines.proofs.sums.add_addresses.Goals.{in-Some, in_default}

pub loop-place-init : goal.loop-place-init
loop-place-init c = λ m s is held. subst (Holds256 c.args.hasher.now) (sym (append-nil m)) held

pub loop-place-preserved : goal.loop-place-preserved
loop-place-preserved c = λ m s is held.
    let place = c.loop-place.place in
    let before = c.loop-place.invariant m s is held in
    elim c.match-address.branch [
      | in-Some w ↦
          let there : slice_get s.addresses place ≡ Some w.in-Some.address.now = sym (w.in-Some.ensures ∙ ap (option_and_then (λ (t : Site). slice_get t.addresses place)) is) in
          rw w.hasher-is (subst (Holds256 w.add_line.new.hasher) (one_more (λ a. a ++ 10 ∷ []) m s.addresses place w.in-Some.address.now there) (w.add_line.ensures _ before))
      | in_default w ↦
          let none : slice_get s.addresses place ≡ None = sym (w.in_default.ensures ∙ ap (option_and_then (λ (t : Site). slice_get t.addresses place)) is) in
          let past = ended s.addresses place none in
          let same = all_taken (λ a. a ++ 10 ∷ []) m s.addresses place past ∙ sym (all_taken (λ a. a ++ 10 ∷ []) m s.addresses (place + 1) (omega (arith, past))) in
          rw w.hasher-is (subst (Holds256 c.loop-place.hasher) same before)
    ]

pub returns : goal.returns
returns c = λ m s is held.
    let few = few_addresses c.args.sites.now c.args.site s c.len-few.ensures.in_order is in
    subst (Holds256 c.loop-place.hasher) (all_taken (λ a. a ++ 10 ∷ []) m s.addresses c.loop-place.place (omega (arith, few, c.loop-place-test.false))) (c.loop-place.invariant m s is held)
