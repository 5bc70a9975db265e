-- A run that the logs are at one moment goes on to one that they are a step later.
use Rattle.std.proofs.Common.{◌≡◌, ◌≢◌, ◌⊎◌, inl, inr, ⊎_elim, ℕ, ◌<◌, ◌≤◌, List, [], ◌++◌, map, length, set, refl, sym, ap, ◌∙◌, subst, append-nil, append_assoc, length-set, arith}
use Rattle.std.proofs.lemmas.List.{length-map}
use mathlib.Core.Option.{some, some-injective}
use lib.ListN.{get_elem?}
use Rattle.atomic_table.proofs.Lists.{at_map, at_set}
use Rattle.site_core.specs.Records.{Record}
use Rattle.site_recovery.proofs.Exact.{within_or_past}
use Rattle.world_core.specs.KeptSteps.{handed_to}
use Rattle.world_core.specs.Turns.{Runs}
use Rattle.world_core.proofs.Opened.{runs_on as both_runs}
use Rattle.wire_core.specs.declared.views.Log.{Log}
use Rattle.wire_core.specs.Continuing.{ChangesAreSteps, GoesOnTo, HasSent, IsMarked, IsOneStepOf, IsUnmoved, StepsExtendTheRun}
use Rattle.wire_core.specs.Frames.{sender}
use Rattle.wire_core.specs.Rule.{AreAnswered, IsRun, Ruled, last_records, world_up}
use Rattle.wire_core.proofs.Between.{known}
use Rattle.wire_core.proofs.Boxes.{Table}
use Rattle.wire_core.proofs.Closing.{same_all}
use Rattle.wire_core.proofs.Lists.{there, within}
use Rattle.wire_core.proofs.Running.{run_marked, run_sent}

abbrev AllUnmoved : List Log → List Log → Type 0
AllUnmoved old new = (i : ℕ) (e n : Log) → get_elem? old i ≡ some e → get_elem? new i ≡ some n → IsUnmoved e n

-- logs of which the run says the same
module _ (start : List Record) (old new : List Log) (R : IsRun start old) (count : length new ≡ length old) (openings : map (λ (e : Log). e.opening) new ≡ start) (still : AllUnmoved old new) where
  was : (i : ℕ) (n : Log) → get_elem? new i ≡ some n → (e : Log) × (get_elem? old i ≡ some e) × IsUnmoved e n
  was i n at =
      let e = there old i (subst (λ k. i < k) count (within new i n at)) in
      (e.0, e.1, still i e.0 n e.1 at)

  lasts : last_records new ≡ last_records old
  lasts = same_all (last_records new) (last_records old) (length-map new (λ (e : Log). e.last) ∙ count ∙ sym (length-map old (λ (e : Log). e.last)))
      (λ i r at.
      let n = there new i (subst (λ k. i < k) (length-map new (λ (e : Log). e.last)) (within (last_records new) i r at)) in
      let e = was i n.0 n.1 in
      let here : n.0.last ≡ r = some-injective n.0.last r (sym (at_map (λ (x : Log). x.last) new i n.0 n.1) ∙ at) in
      at_map (λ (x : Log). x.last) old i e.0 e.1 ∙ ap some (sym e.2.last ∙ here))

  run_still : GoesOnTo start old R new
  run_still = record {
    longer = record {
      begun = R.begun;
      openings = openings;
      events = R.events;
      answers = R.answers;
      sent = R.sent;
      happened = R.happened;
      runs = subst (λ (l : List Record). Runs (world_up start []) R.events R.answers (world_up l R.sent)) (sym lasts) R.runs;
      handed = λ i n at. let e = was i n at in subst (AreAnswered (handed_to i R.sent R.events R.answers)) (sym e.2.inputs) (R.handed i e.0 e.1);
      from = λ i n at. let e = was i n at in R.from i e.0 e.1 ∙ sym e.2.sent;
      senders = λ f c. subst (λ k. sender f < k) (sym count) (R.senders f c);
    };
    events = [];
    answers = [];
    all_events = sym (append-nil R.events);
    all_answers = sym (append-nil R.answers);
    runs_on = ap (λ (l : List Record). world_up l R.sent) lasts;
  }

-- a run goes on once more
goes_on_again : (start : List Record) (old mid new : List Log) (R : IsRun start old) (g : GoesOnTo start old R mid) → GoesOnTo start mid g.longer new → GoesOnTo start old R new
goes_on_again start old mid new R g h = record {
  longer = h.longer;
  events = g.events ++ h.events;
  answers = g.answers ++ h.answers;
  all_events = h.all_events ∙ ap (λ l. l ++ h.events) g.all_events ∙ append_assoc R.events g.events h.events;
  all_answers = h.all_answers ∙ ap (λ l. l ++ h.answers) g.all_answers ∙ append_assoc R.answers g.answers h.answers;
  runs_on = both_runs (world_up (last_records old) R.sent) (world_up (last_records mid) g.longer.sent) (world_up (last_records new) h.longer.sent) g.events h.events g.answers h.answers g.runs_on h.runs_on;
}

module _ (start : List Record) (s t : Table) (h : Ruled start s) (k : Ruled start t) (site : ℕ) (step : IsOneStepOf site s.views t.views) (R : IsRun start h.0) where
  count : length k.0 ≡ length h.0
  count = k.2 ∙ sym h.2

  -- what became of the log of a site
  became : (i : ℕ) (e n : Log) → get_elem? h.0 i ≡ some e → get_elem? k.0 i ≡ some n → IsUnmoved e n ⊎ ((i ≡ site) × (IsMarked e n ⊎ HasSent e n))
  became i e n was is =
      let own = h.4.own i e was in
      ⊎_elim (λ (x : IsUnmoved e n). inl x) (λ (x : (e.site ≡ site) × (IsMarked e n ⊎ HasSent e n)). inr (sym own ∙ x.0, x.1))
      (step e n (known start s h i e was) (known start t k i n is) (k.4.own i n is ∙ sym own))

  -- where no site moved
  nowhere : AllUnmoved h.0 k.0 → GoesOnTo start h.0 R k.0
  nowhere = run_still start h.0 k.0 R count k.5.run.openings

  -- the log of one site is put in, and the others are as they were
  module _ (e n : Log) (was : get_elem? h.0 site ≡ some e) (is : get_elem? k.0 site ≡ some n) where
    opening : n.opening ≡ e.opening
    opening = some-injective n.opening e.opening
        (sym (at_map (λ (x : Log). x.opening) k.0 site n is) ∙ ap (λ l. get_elem? l site) (k.5.run.openings ∙ sym R.openings) ∙ at_map (λ (x : Log). x.opening) h.0 site e was)

    after : GoesOnTo start h.0 R (set h.0 site n) → GoesOnTo start h.0 R k.0
    after g =
        goes_on_again start h.0 (set h.0 site n) k.0 R g
        (run_still start (set h.0 site n) k.0 g.longer (count ∙ sym (length-set h.0 site n)) k.5.run.openings rest)
      where
        rest : AllUnmoved (set h.0 site n) k.0
        rest i x y at now = ⊎_elim
            (λ (o : (i ≡ site) × (n ≡ x)).
            let same : y ≡ x = some-injective y x (sym now ∙ ap (get_elem? k.0) o.0 ∙ is ∙ ap some o.1) in
            record { inputs = ap (λ (z : Log). z.inputs) same; last = ap (λ (z : Log). z.last) same; sent = ap (λ (z : Log). z.sent) same })
            (λ (o : (i ≢ site) × (get_elem? h.0 i ≡ some x)).
            ⊎_elim (λ (z : IsUnmoved x y). z) (λ (z : (i ≡ site) × (IsMarked x y ⊎ HasSent x y)). absurd (o.0 z.0)) (became i x y o.1 now))
            (at_set h.0 site i n x at)

    marked : IsMarked e n → GoesOnTo start h.0 R k.0
    marked m = after
        (run_marked start h.0 R site e n was opening m.input m.after.0 m.after.1
        (λ f delivers. let c = h.5.noted site e f was (m.noted f delivers) in (c.1, c.0)) m.sent m.inputs)

    has_sent : HasSent e n → GoesOnTo start h.0 R k.0
    has_sent m = after (run_sent start h.0 R site e n was opening m.frame (m.site ∙ h.4.own site e was) m.emitted m.last m.sent m.inputs)

    here : GoesOnTo start h.0 R k.0
    here = ⊎_elim
        (λ (u : IsUnmoved e n). nowhere (λ i x y at now. ⊎_elim
        (λ (z : IsUnmoved x y). z)
        (λ (z : (i ≡ site) × (IsMarked x y ⊎ HasSent x y)).
        let old : x ≡ e = some-injective x e (sym at ∙ ap (get_elem? h.0) z.0 ∙ was) in
        let new : y ≡ n = some-injective y n (sym now ∙ ap (get_elem? k.0) z.0 ∙ is) in
        subst (λ (p : Log × Log). IsUnmoved p.0 p.1) (λ q. (sym old q, sym new q)) u)
        (became i x y at now)))
        (λ (x : (site ≡ site) × (IsMarked e n ⊎ HasSent e n)). ⊎_elim marked has_sent x.1)
        (became site e n was is)

  goes_on : GoesOnTo start h.0 R k.0
  goes_on = ⊎_elim
      (λ (low : site < length h.0). let e = there h.0 site low in let n = there k.0 site (subst (λ m. site < m) (sym count) low) in here e.0 n.0 e.1 n.1)
      (λ (past : length h.0 ≤ site). nowhere (λ i x y at now. ⊎_elim
      (λ (z : IsUnmoved x y). z)
      (λ (z : (i ≡ site) × (IsMarked x y ⊎ HasSent x y)). let low = within h.0 i x at in let same = z.0 in absurd (omega (arith, past, low, same)))
      (became i x y at now)))
      (within_or_past site (length h.0))

pub steps_extend_the_run : StepsExtendTheRun
steps_extend_the_run start s t old new site step run = goes_on start s t old new site step run

pub changes_are_steps : ChangesAreSteps
changes_are_steps = record {
  claims = λ to f e. record { inputs = refl; last = refl; sent = refl };
  offers_one = λ f e. record { inputs = refl; last = refl; sent = refl };
  notes_one = λ from f e. record { inputs = refl; last = refl; sent = refl };
  asks_one = λ other e. record { inputs = refl; last = refl; sent = refl };
  releases = λ e. record { inputs = refl; last = refl; sent = refl };
  publishes = λ f e site emitted. record { frame = f; site = site; emitted = emitted; inputs = refl; last = refl; sent = refl };
  marks_one = λ input new e after noted. record { input = input; after = after; noted = noted; inputs = refl; sent = refl };
}
