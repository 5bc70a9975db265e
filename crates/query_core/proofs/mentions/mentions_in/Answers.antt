use Rattle.std.proofs.Common.{◌≡◌, ◌∙◌, ◌+◌, ◌<◌, Some, None, ℕ, List, [], ◌∷◌, get_or, slice_get, length, take, sym, ap, subst, arith}
use Rattle.std.specs.Option.{option_map}
use Rattle.std.proofs.lemmas.Option.{slice_get-get_or, slice_get_within, get_or_from_slice_get}
use Rattle.event_json.specs.Events.{Content}
use Rattle.trace_core.specs.Spreads.{items_of}
use Rattle.query_core.specs.Mentions.{AreCounted, Mention}
use Rattle.query_core.proofs.Mentioning.{one_more_counted}
use Rattle.query_core.proofs.mentions.mentions_in.Goals.{in-Some+in_ok-mention_all_of, in_default}
use Rattle.query_core.proofs.mentions.mentions_in.Goals as goal

not_past : (events : List Content) (place : ℕ) → place < length events → None ≡ slice_get events place → ⊥
not_past [] place below none = omega arith
not_past (e ∷ events) place below none = let clash : None ≡ Some (get_or (e ∷ events) place e) = none ∙ slice_get-get_or (e ∷ events) place e below in cc

pub loop-place-preserved : goal.loop-place-preserved
loop-place-preserved c =
    let events = c.args.captured.now.events in
    let place = c.loop-place.place in
    elim c.match-event.branch as (λ _. AreCounted (take (place + 1) events) (place + 1) c.match-event.counts) [
      | in-Some+in_ok-mention_all_of w ↦
          let event = w.in-Some.event.now in
          let there = sym (sym (ap (option_map (λ e. e.now)) w.in-Some.is) ∙ c.event.ensures) in
          let mentions = subst (λ b. Mention c.loop-place.counts w.mention_all_of.new.counts place (items_of b)) w.body.ensures.value w.in_ok-mention_all_of.ensures in
          subst (AreCounted (take (place + 1) events) (place + 1)) (sym w.counts-is)
          (one_more_counted events place event c.loop-place.counts w.mention_all_of.new.counts (slice_get_within events place event there) (sym (get_or_from_slice_get events place event event there)) c.loop-place.invariant mentions)
      | in_default w ↦
          let below : place < length events = subst (λ n. place < n) c.len-place-end.ensures c.loop-place-test.true in
          let none = sym (ap (option_map (λ e. e.now)) w.in_default.is) ∙ c.event.ensures in
          absurd (not_past events place below none)
    ]
