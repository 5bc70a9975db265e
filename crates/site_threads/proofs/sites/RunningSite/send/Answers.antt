use Rattle.std.proofs.Common.{refl, ◌≢◌, ◌≡◌, ◌+◌, ◌<◌, length, Some, None, Option, set, sym, ap, ◌∙◌, subst, arith, rules}
use Rattle.std.proofs.lemmas.Bool.{eqb-true}
use Rattle.std.proofs.lemmas.List.{get_or-set_same}
use Rattle.std.specs.Prelude.{IfSome, option_map}
use Rattle.frame_core.specs.declared.frames.Frame.{Frame}
use Rattle.site_threads.specs.Keepers.{shown_if}
use Rattle.site_threads.specs.Offers.{IsFor, IsRound, message_of, moved, round_at}
use Rattle.site_threads.specs.Passing.{PostsFrames, outgoing, owed_in, place_of}
use Rattle.site_threads.specs.Views.{running}
use Rattle.site_threads.specs.declared.passing.Given.{Given}
use Rattle.site_threads.specs.declared.rounds.Round.{Round}
use Rattle.site_threads.proofs.Offering.{next_shown, wish_found}
use Rattle.site_threads.proofs.Passed.{may_post, mine, posted_runs}
use Rattle.site_threads.proofs.Placing.{posted_round}
use Rattle.site_threads.proofs.Posting.{place_found, place_in, places_moved, place_full, place_posted, posted, posts_found, posts_none, wishes_closed, wishes_none, wishes_one}
use Rattle.site_threads.proofs.Wired.{others_itself}
use Rattle.site_threads.proofs.Rounding.{found_round, found_rounds, posted_rounds, set_rounds, shown_round}
use Rattle.site_threads.proofs.sites.RunningSite.send.Goals as goal

pub returns-then-eq-clause-posted : goal.returns-then-eq-clause-posted
returns-then-eq-clause-posted g c =
    let s = running c.self.inside in
    let same : s.me ≡ c.args.number = sym (eqb-true _ _ (sym c.eq.ensures ∙ c.if-eq.true)) ∙ c.in-Some.ensures.value in
    let shown = shown_if g.K.SiteKeeper.shown s.keeper in
    let out = outgoing s.seat.logs in
    rw (← c.self.view_is)
    (subst (λ (z : Given). PostsFrames s.me c.args.number (c.args.number + 1) shown (owed_in s) out out (place_of s) (place_of s) z.posted z.uncopied) (sym c.none.ensures)
    (subst (λ k. PostsFrames s.me k (k + 1) shown (owed_in s) out out (place_of s) (place_of s) 0 0) same
    (posts_none s.me s.me (s.me + 1) shown (owed_in s) out (place_of s) (place_of s) (omega arith) (wishes_none s.me s.me (s.me + 1) shown (owed_in s) (place_of s) (others_itself s.me)) (λ _. refl))))

pub next_message-next-requires : goal.next_message-next-requires
next_message-next-requires g c =
    let s = running c.self.inside in
    let at = c.number-place.result in
    record { round = subst (λ k. IfSome (shown_if g.K.SiteKeeper.shown s.keeper) (λ r. IsRound r.engagement k (round_at s.rounds at))) c.number-place.ensures.value (shown_round _ _ _ _ _ _ _ c.self.invariant.runs s.rounds c.self.invariant.rounds at) }

pub invariant_of-self : goal.invariant_of-self
invariant_of-self g c = record {
  seat = c.self.invariant.seat;
  there = c.self.invariant.there;
  runs = c.self.invariant.runs;
  rounds = found_rounds _ _ _ _ _ _ _ c.self.invariant.runs c.self.inside.rounds c.self.invariant.rounds c.number-place.result c.in-Some.to c.number-place.ensures.value c.next_message-next.new.round c.next_message-next.ensures.round;
  out = c.self.invariant.out;
}

pub returns-in_default-view_of-clause-posted : goal.returns-in_default-view_of-clause-posted
returns-in_default-view_of-clause-posted g c =
    let s = running c.self.inside in
    let at = c.number-place.result in
    let shown = shown_if g.K.SiteKeeper.shown s.keeper in
    let out = outgoing s.seat.logs in
    let found = c.next_message-next.new.round in
    let shut : shown ≡ None = search rules in
    let there : at < length s.rounds = search rules in
    let place' = place_in (set s.rounds at found) in
    rw (← c.in-Some.ensures.value, ← c.self.view_is)
    (subst (λ (z : Given). PostsFrames s.me c.in-Some.to (c.in-Some.to + 1) shown (owed_in s) out out (place_of s) place' z.posted z.uncopied) (sym c.none-in_default-view_of.ensures)
    (posts_none s.me c.in-Some.to (c.in-Some.to + 1) shown (owed_in s) out (place_of s) place' (omega arith) (wishes_closed s.me c.in-Some.to (c.in-Some.to + 1) shown (owed_in s) (place_of s) shut) (place_found s.rounds at there found c.next_message-next.ensures.place)))

pub invariant_of-self-in_default-offered : goal.invariant_of-self-in_default-offered
invariant_of-self-in_default-offered g c = record {
  seat = c.self.invariant.seat;
  there = c.self.invariant.there;
  runs = c.self.invariant.runs;
  rounds = found_rounds _ _ _ _ _ _ _ c.self.invariant.runs c.self.inside.rounds c.self.invariant.rounds c.number-place.result c.in-Some.to c.number-place.ensures.value c.next_message-next.new.round c.next_message-next.ensures.round;
  out = c.self.invariant.out;
}

pub returns-in_default-offered-clause-posted : goal.returns-in_default-offered-clause-posted
returns-in_default-offered-clause-posted g c =
    let s = running c.self.inside in
    let apart : c.in-Some.to ≢ s.me = search rules in
    let at = c.number-place.result in
    let value = c.number-place.ensures.value in
    let shown = shown_if g.K.SiteKeeper.shown s.keeper in
    let r = c.in-Some-view_of.state.now in
    let stands = sym c.in-Some-view_of.ensures in
    let found = c.next_message-next.new.round in
    let there : at < length s.rounds = search rules in
    let owed = c.owed_at-owed.ensures in
    let next = next_shown shown r c.in-Some.to (place_of s at) (place_of s c.in-Some.to) c.next_message-next.result c.next_message-next.ensures.next stands (ap (place_of s) value) in
    let is = wish_found r.engagement c.in-Some.to c.owed_at-owed.result (owed_in s c.in-Some.to) (place_of s c.in-Some.to) c.next_message-next.result owed next in
    rw (← c.in-Some.ensures.value, ← c.self.view_is)
    (posts_found s.me c.in-Some.to shown (owed_in s) _ (place_of s) _ _ c.in_default-offered.ensures.uncopied (wishes_one s.me c.in-Some.to shown r (owed_in s) (place_of s) _ stands apart is)
    (place_found s.rounds at there found c.next_message-next.ensures.place))

pub invariant_of-self-in_default-found : goal.invariant_of-self-in_default-found
invariant_of-self-in_default-found g c = record {
  seat = c.self.invariant.seat;
  there = c.self.invariant.there;
  runs = c.self.invariant.runs;
  rounds = found_rounds _ _ _ _ _ _ _ c.self.invariant.runs c.self.inside.rounds c.self.invariant.rounds c.number-place.result c.in-Some.to c.number-place.ensures.value c.next_message-next.new.round c.next_message-next.ensures.round;
  out = c.self.invariant.out;
}

pub returns-in_default-found-clause-posted : goal.returns-in_default-found-clause-posted
returns-in_default-found-clause-posted g c =
    let s = running c.self.inside in
    let apart : c.in-Some.to ≢ s.me = search rules in
    let at = c.number-place.result in
    let value = c.number-place.ensures.value in
    let shown = shown_if g.K.SiteKeeper.shown s.keeper in
    let out = outgoing s.seat.logs in
    let r = c.in-Some-view_of.state.now in
    let stands = sym c.in-Some-view_of.ensures in
    let found = c.next_message-next.new.round in
    let there : at < length s.rounds = search rules in
    let owed = c.owed_at-owed.ensures in
    let next = next_shown shown r c.in-Some.to (place_of s at) (place_of s c.in-Some.to) c.next_message-next.result c.next_message-next.ensures.next stands (ap (place_of s) value) in
    let is = c.in-Ok.ensures.found ∙ wish_found r.engagement c.in-Some.to c.owed_at-owed.result (owed_in s c.in-Some.to) (place_of s c.in-Some.to) c.next_message-next.result owed next in
    let place' = place_in (set s.rounds at found) in
    let none : c.in-Ok.found ≡ None = c.in_default-found.is in
    rw (← c.in-Some.ensures.value, ← c.self.view_is)
    (subst (λ (z : Given). PostsFrames s.me c.in-Some.to (c.in-Some.to + 1) shown (owed_in s) out out (place_of s) place' z.posted z.uncopied) (sym c.none-in_default-found.ensures)
    (posts_none s.me c.in-Some.to (c.in-Some.to + 1) shown (owed_in s) out (place_of s) place' (omega arith) (wishes_one s.me c.in-Some.to shown r (owed_in s) (place_of s) None stands apart (sym none ∙ is)) (place_found s.rounds at there found c.next_message-next.ensures.place)))

pub post-requires-clause-may : goal.post-requires-clause-may
post-requires-clause-may g c =
    let fits = subst (λ (o : Option Frame). IfSome o (IsFor c.in-Some-view_of.state.now.engagement c.in-Some.to)) c.in-Some-found.is c.in-Ok.ensures.fits in
    let apart : c.in-Some.to ≢ c.self.inside.me = search rules in
    let there = rw (← c.self.view_is) at c.requires.there in
    may_post _ _ _ _ _ _ _ c.self.invariant.runs c.in-Some-view_of.state.now (sym c.in-Some-view_of.ensures) c.in-Some.to c.in-Some-found.frame fits _ apart (rw c.in-Some.ensures.value there.0)

pub invariant_of-self-2 : goal.invariant_of-self-2
invariant_of-self-2 g c =
    let s = running c.self.inside in
    let at = c.number-place.result in
    let value = c.number-place.ensures.value in
    let h = c.self.invariant.runs in
    let a = c.self.invariant.rounds in
    let f = c.in-Some-found.frame in
    let found = c.next_message-next.new.round in
    let there : at < length s.rounds = search rules in
    let fits = subst (λ (o : Option Frame). IfSome o (IsFor c.in-Some-view_of.state.now.engagement c.in-Some.to)) c.in-Some-found.is c.in-Ok.ensures.fits in
    let own = mine _ _ _ _ _ _ _ h c.in-Some-view_of.state.now (sym c.in-Some-view_of.ensures) c.in-Some.to f fits in
    let moves = c.behind.ensures ∙ ap (λ (x : Round). moved x c.count_posted-posted.result c.number_of-message.result) (get_or-set_same s.rounds at found _ there) in
    let first = found_round _ _ _ _ _ _ _ h s.rounds a at c.in-Some.to value found c.next_message-next.ensures.round in
    let kept = found_rounds _ _ _ _ _ _ _ h s.rounds a at c.in-Some.to value found c.next_message-next.ensures.round in
    let next = subst (λ (x : Round). IsRound h.log.last.engagement at x) (sym moves) (posted_round h.log.last.engagement at found first c.count_posted-posted.result c.number_of-message.result) in
    let all = set_rounds _ _ _ _ _ _ _ h (set s.rounds at found) kept at c.behind.result next in
    record {
      seat = c.post.ensures.seat;
      there = c.self.invariant.there;
      runs = posted_runs _ _ _ _ _ _ _ h f _ c.post.new.seat.logs own _ _ _ c.post.result c.post.ensures.answer;
      rounds = posted_rounds _ _ _ _ _ _ _ h (set (set s.rounds at found) at c.behind.result) all f _ c.post.new.seat.logs own _ _ _ c.post.result c.post.ensures.answer;
      out = c.self.invariant.out;
    }

pub returns-clause-posted : goal.returns-clause-posted
returns-clause-posted g c =
    let s = running c.self.inside in
    let apart : c.in-Some.to ≢ s.me = search rules in
    let at = c.number-place.result in
    let value = c.number-place.ensures.value in
    let shown = shown_if g.K.SiteKeeper.shown s.keeper in
    let h = c.self.invariant.runs in
    let r = c.in-Some-view_of.state.now in
    let stands = sym c.in-Some-view_of.ensures in
    let f = c.in-Some-found.frame in
    let found = c.next_message-next.new.round in
    let number = option_map (λ m. m.number) (message_of f) in
    let there : at < length s.rounds = search rules in
    let fits = subst (λ (o : Option Frame). IfSome o (IsFor r.engagement c.in-Some.to)) c.in-Some-found.is c.in-Ok.ensures.fits in
    let own = mine _ _ _ _ _ _ _ h r stands c.in-Some.to f fits in
    let owed = c.owed_at-owed.ensures in
    let next = next_shown shown r c.in-Some.to (place_of s at) (place_of s c.in-Some.to) c.next_message-next.result c.next_message-next.ensures.next stands (ap (place_of s) value) in
    let is = c.in-Ok.ensures.found ∙ wish_found r.engagement c.in-Some.to c.owed_at-owed.result (owed_in s c.in-Some.to) (place_of s c.in-Some.to) c.next_message-next.result owed next in
    let one = wishes_one s.me c.in-Some.to shown r (owed_in s) (place_of s) (Some f) stands apart (sym c.in-Some-found.is ∙ is) in
    let moves = c.behind.ensures ∙ (λ i. moved (get_or-set_same s.rounds at found (record { place = 0; least = 0; next = 0 }) there i) c.count_posted-posted.result (c.number_of-message.ensures i)) in
    let places = places_moved s.rounds at found number in
    let same = c.next_message-next.ensures.place in
    rw (← c.in-Some.ensures.value, ← c.self.view_is)
    (subst (λ (x : Round). PostsFrames s.me c.in-Some.to (c.in-Some.to + 1) shown (owed_in s) (outgoing s.seat.logs) (outgoing c.post.new.seat.logs) (place_of s) (place_in (set (set s.rounds at found) at x)) c.count_posted-posted.result 0) (sym moves)
    (posted _ _ _ _ _ _ _ h r stands c.in-Some.to f fits own apart c.post.new.seat.logs (owed_in s) (place_of s) one _ _ _ places c.count_posted-posted.result c.post.result
    (place_posted s.rounds at there found same f (fits.there ∙ sym value)) (place_full s.rounds at there found same number) c.post.ensures.answer c.count_posted-posted.ensures.posted).0)
