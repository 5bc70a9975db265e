-- A recall that was begun can end. While it is live a frame of it waits that changes something; it is sent and
-- delivered, and then less is left to be passed.
use Rattle.std.proofs.Common.{◌≡◌, inl, inr, ℕ, zero, suc, ◌+◌, ◌^◌, ◌<◌, ◌≤◌, true, false, cond, not, ◌&&◌, List, [], ◌∷◌, ◌++◌, length, Some, None, refl, sym, ap, ◌∙◌, subst, Contains, slice_get, slice_set, get_or, le_refl, arith}
use Rattle.std.specs.Prelude.{IsFalse, is_some, option_map}
use Rattle.std.specs.FinMap as finite
use Rattle.std.proofs.lemmas.List.{length-map, length-set, map-set, get_or_past}
use Rattle.std.proofs.lemmas.Option.{slice_get-get_or, get_or_from_slice_get}
use Rattle.frame_core.specs.Identifiers.{same_message}
use Rattle.frame_core.specs.Numbers.{Recall, Message}
use Rattle.frame_core.specs.Orders.{recall_total}
use Rattle.frame_core.specs.declared.frames.Frame.{Frame}
use Rattle.frame_core.specs.declared.frames.Frame.TheVariants as frames
use Rattle.frame_core.specs.declared.rows.Row.{Row}
use Rattle.frame_core.proofs.Found.{is_found}
use Rattle.frame_core.proofs.Sameness.{one_message}
use Rattle.frame_core.proofs.Sums.{list_any-map}
use Rattle.scholten_core.specs.Engagement.{Engagement}
use Rattle.scholten_core.specs.declared.own_recalls.Own.{Own}
use Rattle.site_core.specs.Emitting.{emittable, is_parent, message_frame, signal_frame}
use Rattle.site_core.specs.Records.{Record, IsRecallAmong, IsSound, fresh}
use Rattle.site_core.specs.Steps.{Does, IsForSite, IsOwnMessage}
use Rattle.site_core.specs.Ways.{ClearsRow, TakesMessage}
use Rattle.site_core.specs.declared.inputs.SiteInput.TheVariants as inputs
use Rattle.site_core.specs.declared.naming.FrameName.TheVariants as names
use Rattle.site_core.specs.declared.outcomes.Effects.{Effects}
use Rattle.site_core.proofs.NamedFrames.{frames_have_names}
use Rattle.site_recovery.specs.Fit.{IsAnswered, IsEngaged}
use Rattle.site_recovery.specs.Looks.{World, world_of, row, seen, own}
use Rattle.site_recovery.proofs.Absent.{no_row, none_seen, none_begun}
use Rattle.site_recovery.proofs.Changes.{Takes, Clears}
use Rattle.site_recovery.proofs.Climbing.{engaged_below}
use Rattle.site_recovery.proofs.Exact.{within_or_past}
use Rattle.site_recovery.proofs.Lifting.{takes_everywhere, clears_everywhere}
use Rattle.site_recovery.proofs.OneSite.{set_here, set_elsewhere}
use Rattle.world_core.specs.EndingLaws.{AreGoing, CanEnd, CarriesOn, EveryRecallCanEnd, HasBegun, HasNumbersFor}
use Rattle.world_core.specs.Turns.{Runs, addressee}
use Rattle.world_core.specs.Worlds.{Up, WorldFits, WorldState, record_of, records}
use Rattle.world_core.specs.declared.events.Answer.{Answer}
use Rattle.world_core.specs.declared.events.Answer.TheVariants.{Done}
use Rattle.world_core.specs.declared.events.WorldEvent.{WorldEvent}
use Rattle.world_core.proofs.EachRun.{set_or_stood}
use Rattle.world_core.proofs.Fitting.{record_at, runs_keep_the_fit}
use Rattle.world_core.proofs.FreeNumbers.{numbers_after_take, numbers_after_signal}
use Rattle.world_core.proofs.Going.{record_there, runs_keep_going}
use Rattle.world_core.proofs.NextFrames.{HasRowOf, Waiting, message, signal, next_frame}
use Rattle.world_core.proofs.Opened.{AllAreUp, all_both, all_opened, runs_on}
use Rattle.world_core.proofs.Passing.{deliver_event, passed_world, passes, send_answer, send_event}
use Rattle.world_core.proofs.Pending.{left_below, taking_leaves_less, clearing_leaves_less}
use Rattle.world_core.proofs.Taken.{message_taken, signal_clears}

-- a message that is the parent of no recall passes no test of parents
no_parent_found : (e : Engagement) (m : Message) → ((q : Recall) → finite.get e.parents q ≡ Some m → ⊥) → is_parent e m ≡ false
no_parent_found e m free = elim (is_parent e m) as (λ b. is_parent e m ≡ b → is_parent e m ≡ false) [
  | false ↦ λ is. is
  | true ↦ λ is.
      let there = is_found recall_total (λ z. same_message z.1 m) e.parents (sym (list_any-map (λ z. z.1) (λ p. same_message p m) (finite.entries e.parents)) ∙ is) in
      absurd (free there.key (there.found ∙ ap Some (one_message there.value m there.passes)))
] refl

-- the numbers of messages are below it
bound : (b : ℕ) × ((n : ℕ) → n ≤ 2 ^ 62 → n < b)
bound = (2 ^ 62 + 1, λ n le. omega (arith, le))

module _ (recall : Recall) (root : List ℕ) (sites : ℕ) where
  record Ready (world : WorldState) : Type 0 where
    fits : WorldFits world
    going : AreGoing (records world)
    up : AllAreUp world
    numbers : (place : ℕ) (r : Record) → slice_get (records world) place ≡ Some r → HasNumbersFor recall r
    count : length (records world) ≡ sites

  -- the recall was begun from the root
  abbrev Known : WorldState → Own → Type 0
  Known world o = (own (world_of (records world)) recall.site recall.number ≡ Some o) × (o.root ≡ root)

  abbrev left_in : WorldState → ℕ
  left_in world = left_below sites bound.0 (world_of (records world))

  -- one frame was sent and delivered, and less is left
  record Goes (world : WorldState) : Type 0 where
    sent : WorldEvent
    delivered : WorldEvent
    told : Answer
    answered : Answer
    new : WorldState
    runs : (events : List WorldEvent) (answers : List Answer) (last : WorldState) → Runs new events answers last → Runs world (sent ∷ delivered ∷ events) (told ∷ answered ∷ answers) last
    carries : CarriesOn sent × CarriesOn delivered
    ready : Ready new
    less : left_in new < left_in world
    known : (o : Own) → Known world o → (p : Own) × Known new p

  module _ (world : WorldState) (h : Ready world) where
    abbrev rs : List Record
    rs = records world

    abbrev W : World
    W = world_of rs

    sound_at : (s : ℕ) → s < length rs → IsSound (W s)
    sound_at s below = h.going.sound s (W s) (record_there rs s below)

    sites_at : (s : ℕ) → s < length rs → length (W s).sites ≡ length rs
    sites_at s below = ap length (h.going.one.2.each s (W s) (record_there rs s below)).0 ∙ sym h.going.one.2.number

    up_at : (s : ℕ) → s < length rs → slice_get world.sites s ≡ Some (Up (W s))
    up_at s below =
        let within : s < length world.sites = subst (λ n. s < n) (length-map world.sites record_of) below in
        let standing = get_or world.sites s (Up (W s)) in
        let at : slice_get world.sites s ≡ Some standing = slice_get-get_or world.sites s (Up (W s)) within in
        let is = h.up s standing at in
        let there = record_at world.sites s standing at in
        at ∙ ap Some (is.1 ∙ ap Up (sym (there.1 ∙ ap record_of is.1)))

    -- past the last site nothing is kept
    row_within : (s n : ℕ) (x : Row) → row W s n ≡ Some x → s < length rs
    row_within s n x e = elim (within_or_past s (length rs)) as (λ _. s < length rs) [
      | inl below ↦ below
      | inr past ↦ absurd (let none : None ≡ Some x = no_row W s (get_or_past rs s (fresh [] s) past) n ∙ e in cc)
    ]

    seen_within : (s : ℕ) (m : Message) (q : Recall) → seen W s m ≡ Some q → s < length rs
    seen_within s m q e = elim (within_or_past s (length rs)) as (λ _. s < length rs) [
      | inl below ↦ below
      | inr past ↦ absurd (let none : None ≡ Some q = none_seen W s (get_or_past rs s (fresh [] s) past) m ∙ e in cc)
    ]

    own_within : (s k : ℕ) (o : Own) → own W s k ≡ Some o → s < length rs
    own_within s k o e = elim (within_or_past s (length rs)) as (λ _. s < length rs) [
      | inl below ↦ below
      | inr past ↦ absurd (let none : None ≡ Some o = none_begun W s (get_or_past rs s (fresh [] s) past) k ∙ e in cc)
    ]

    engaged_waits : (s : ℕ) → IsEngaged W s recall → HasRowOf W s recall
    engaged_waits s e =
        let w = h.going.await s (W s) (record_there rs s (engaged_below rs recall s e.0 e.1)) recall (inl e) in
        record { number = w.number; row_there = w.row; stands = w.stands; of_recall = w.of_recall }

    live_waits : (o : Own) → own W recall.site recall.number ≡ Some o → IsFalse o.ended → HasRowOf W recall.site recall
    live_waits o e unended =
        let below = own_within recall.site recall.number o e in
        let w = h.going.await recall.site (W recall.site) (record_there rs recall.site below) recall (inr (record { mine = (h.fits.places recall.site below).engagement; own = o; known = e; unended = unended })) in
        record { number = w.number; row_there = w.row; stands = w.stands; of_recall = w.of_recall }

    -- a frame was sent and delivered
    module _ (f : Frame) (sender : ℕ) (from : sender < length rs) (among : Contains (emittable (W sender).engagement) f) (to : addressee f < length rs)
        (e : Effects) (after : Record) (does : Does (W (addressee f)) (inputs.Deliver f) e after) (numbers : HasNumbersFor recall after) where
      abbrev next : WorldState
      next = passed_world world f sender (W sender) (up_at sender from) among (W (addressee f)) (up_at (addressee f) to) e after does

      abbrev sending : WorldEvent
      sending = send_event world f sender (W sender) (up_at sender from) among (W (addressee f)) (up_at (addressee f) to) e after does

      abbrev delivering : WorldEvent
      delivering = deliver_event world f sender (W sender) (up_at sender from) among (W (addressee f)) (up_at (addressee f) to) e after does

      abbrev sending_told : Answer
      sending_told = send_answer world f sender (W sender) (up_at sender from) among (W (addressee f)) (up_at (addressee f) to) e after does

      next_records : records next ≡ slice_set rs (addressee f) after
      next_records = map-set record_of world.sites (addressee f) (Up after)

      next_runs : (events : List WorldEvent) (answers : List Answer) (last : WorldState) → Runs next events answers last → Runs world (sending ∷ delivering ∷ events) (sending_told ∷ Done e ∷ answers) last
      next_runs = passes world f sender (W sender) (up_at sender from) among (W (addressee f)) (up_at (addressee f) to) e after does

      next_ready : Ready next
      next_ready =
          let run = next_runs [] [] next refl in
          record {
            fits = runs_keep_the_fit world next (sending ∷ delivering ∷ []) (sending_told ∷ Done e ∷ []) h.fits run;
            going = runs_keep_going world next (sending ∷ delivering ∷ []) (sending_told ∷ Done e ∷ []) h.fits h.going run;
            up = λ site standing at. elim (set_or_stood world.sites (addressee f) (Up after) site standing at) as (λ _. (r : Record) × (standing ≡ Up r)) [
              | inl set ↦ (after, sym set)
              | inr stood ↦ h.up site standing stood
            ];
            numbers = λ place r at. elim (set_or_stood rs (addressee f) after place r (subst (λ l. slice_get l place ≡ Some r) next_records at)) as (λ _. HasNumbersFor recall r) [
              | inl set ↦ subst (HasNumbersFor recall) set numbers
              | inr stood ↦ h.numbers place r stood
            ];
            count = ap length next_records ∙ length-set rs (addressee f) after ∙ h.count;
          }

      goes_on : left_below sites bound.0 (world_of (slice_set rs (addressee f) after)) < left_in world
          → ((o : Own) → Known world o → (p : Own) × (own (world_of (slice_set rs (addressee f) after)) recall.site recall.number ≡ Some p) × (p.root ≡ root)) → Goes world
      goes_on less known = record {
        sent = sending;
        delivered = delivering;
        told = sending_told;
        answered = Done e;
        new = next;
        runs = next_runs;
        carries = (tt, tt);
        ready = next_ready;
        less = subst (λ l. left_below sites bound.0 (world_of l) < left_in world) (sym next_records) less;
        known = λ o k. let p = known o k in (p.0, (subst (λ l. own (world_of l) recall.site recall.number ≡ Some p.0) (sym next_records) p.1, p.2));
      }

    -- a message that its site hasn't seen
    message_goes : (s n t : ℕ) (i : List ℕ) → row W s n ≡ Some (record { dest = t; recall = recall; item = i }) → seen W t (record { site = s; number = n }) ≡ None → Goes world
    message_goes s n t i stands unseen =
        let m : Message = record { site = s; number = n } in
        let x : Row = record { dest = t; recall = recall; item = i } in
        let from = row_within s n x stands in
        let right = (sound_at s from).rows n x stands in
        let to : t < length rs = subst (λ k. t < k) (sites_at s from) right.dest in
        let ships = ((h.fits.fits.records_fit.justified s).rows n x stands).1 in
        let mine : IsForSite (W t) m t recall = record {
          here = sym (h.fits.places t to).engagement;
          elsewhere = λ e. ships.0 (sym (e ∙ (h.fits.places t to).engagement) ∙ sym (h.fits.places s from).captured);
          message = record { site = subst (λ k. s < k) (sym (sites_at t to)) from; number = right.number };
          recall = subst (λ k. IsRecallAmong k recall) (sites_at s from ∙ sym (sites_at t to)) right.recall;
        } in
        let numbers = h.numbers t (W t) (record_there rs t to) in
        let taken = message_taken (W t) m t recall i mine unseen numbers in
        let f : Frame = frames.Recall m t recall i in
        let among : Contains (emittable (W s).engagement) f =
        (frames_have_names (W s).engagement f).1
        (names.Message n, ap (option_map (λ y. message_frame (W s).engagement.me (n, y))) stands ∙ ap (λ z. Some (frames.Recall (record { site = z; number = n }) t recall i)) (h.fits.places s from).engagement) in
        let V = world_of (slice_set rs t taken.after) in
        let takes : TakesMessage (W t) (V t) m recall i = subst (λ z. TakesMessage (W t) z m recall i) (sym (set_here rs t taken.after to)) taken.takes in
        let c : Takes W V t m recall i = takes_everywhere W V t (set_elsewhere rs t taken.after) (h.fits.places t to).engagement m recall i takes in
        goes_on f s from among to taken.effects_told taken.after taken.does (numbers_after_take (W t) taken.after m recall i taken.takes numbers)
        (taking_leaves_less W V t m recall i c sites bound.0 (subst (λ k. s < k) h.count from) (bound.1 n right.number.high) ((h.fits.fits.records_fit.numbers_are_below s).rows n x stands) stands)
        (λ o k. (o, c.own recall.site recall.number ∙ k.0, k.1))

    -- the signal of a message that was seen and is no parent
    signal_goes : (s n t : ℕ) (i : List ℕ) → row W s n ≡ Some (record { dest = t; recall = recall; item = i }) → IsAnswered W t (record { site = s; number = n }) → Goes world
    signal_goes s n t i stands answered =
        let m : Message = record { site = s; number = n } in
        let x : Row = record { dest = t; recall = recall; item = i } in
        let to = row_within s n x stands in
        let right = (sound_at s to).rows n x stands in
        let from = seen_within t m answered.0.0 answered.0.1 in
        let mine : IsOwnMessage (W s) m = record { site = sym (h.fits.places s to).engagement; number = right.number } in
        let cleared = signal_clears (W s) m t x mine stands refl in
        let f : Frame = frames.Signal m t in
        let among : Contains (emittable (W t).engagement) f =
        (frames_have_names (W t).engagement f).1 (
          names.Signal m,
          ap (λ o. cond (is_some o && not (is_parent (W t).engagement m)) (Some (signal_frame (W t).engagement.me m)) None) answered.0.1
              ∙ ap (λ b. cond (not b) (Some (signal_frame (W t).engagement.me m)) None) (no_parent_found (W t).engagement m answered.1)
              ∙ ap (λ z. Some (frames.Signal m z)) (h.fits.places t from).engagement,
        ) in
        let V = world_of (slice_set rs s cleared.after) in
        let clears : ClearsRow (W s) (V s) n x = subst (λ z. ClearsRow (W s) z n x) (sym (set_here rs s cleared.after to)) cleared.clears in
        let c : Clears W V s n x = clears_everywhere W V s (set_elsewhere rs s cleared.after) (h.fits.places s to).engagement n x clears in
        goes_on f t from among to cleared.effects_told cleared.after cleared.does (numbers_after_signal (W s) cleared.after n x recall cleared.clears (h.numbers s (W s) (record_there rs s to)))
        (clearing_leaves_less W V s n x c sites bound.0 answered.0.0 (subst (λ k. s < k) h.count to) (bound.1 n right.number.high) ((h.fits.fits.records_fit.numbers_are_below s).rows n x stands) answered.0.1 clears.clears.row_gone)
        (λ o k. let p = c.own_kept recall.site recall.number o k.0 in (p.0, p.1, p.2 ∙ k.1))

    waiting_goes : Waiting W recall → Goes world
    waiting_goes (message s n t i stands unseen) = message_goes s n t i stands unseen
    waiting_goes (signal s n t i stands answered) = signal_goes s n t i stands answered

    goes : (o : Own) → Known world o → IsFalse o.ended → Goes world
    goes o known unended = waiting_goes (next_frame W recall h.fits.fits.records_fit (length rs) (engaged_below rs recall) engaged_waits (live_waits o known.0 unended))

    -- it has ended, or goes on
    ended_or : (o : Own) → Known world o → (IsFalse o.ended → CanEnd recall root world) → CanEnd recall root world
    ended_or o known on = elim o.ended as (λ b. o.ended ≡ b → CanEnd recall root world) [
      | true ↦ λ ended. record {
        events = [];
        answers = [];
        new = world;
        runs = refl;
        carries = tt;
        ended = record {
          initiator = W recall.site;
          there = record_there rs recall.site (own_within recall.site recall.number o known.0);
          own = o;
          begun = known.0;
          from = known.1;
          ended = ended;
        };
      }
      | false ↦ λ unended. on unended
    ] refl

  ends_by : (fuel : ℕ) (world : WorldState) (h : Ready world) → left_in world ≤ fuel → (o : Own) → Known world o → CanEnd recall root world
  ends_by zero world h le o known = ended_or world h o known (λ unended. absurd (let less = (goes world h o known unended).less in omega (arith, le, less)))
  ends_by (suc fuel) world h le o known = ended_or world h o known (λ unended.
      let g = goes world h o known unended in
      let k = g.known o known in
      let less = g.less in
      let rest = ends_by fuel g.new g.ready (omega (arith, le, less)) k.0 k.1 in
      record {
        events = g.sent ∷ g.delivered ∷ rest.events;
        answers = g.told ∷ g.answered ∷ rest.answers;
        new = rest.new;
        runs = g.runs rest.events rest.answers rest.new rest.runs;
        carries = (g.carries.0, (g.carries.1, rest.carries));
        ended = rest.ended;
      })

-- while no site is closed
ends_from : (world : WorldState) (recall : Recall) (root : List ℕ) → WorldFits world → AreGoing (records world) → AllAreUp world → HasBegun recall root (records world)
    → ((place : ℕ) (r : Record) → slice_get (records world) place ≡ Some r → HasNumbersFor recall r) → CanEnd recall root world
ends_from world recall root fits going up begun numbers =
    let initiator : world_of (records world) recall.site ≡ begun.initiator = get_or_from_slice_get (records world) recall.site begun.initiator (fresh [] recall.site) begun.there in
    ends_by recall root (length (records world)) _ world (record { fits = fits; going = going; up = up; numbers = numbers; count = refl }) (le_refl _) begun.own
    (ap (λ (r : Record). finite.get r.engagement.own recall.number) initiator ∙ begun.begun, begun.from)

pub every_recall_can_end : EveryRecallCanEnd
every_recall_can_end world recall root fits going begun numbers =
    let all = all_opened world in
    let o = all.0 in
    let rest = ends_from o.new recall root (runs_keep_the_fit world o.new o.events o.answers fits o.runs) (runs_keep_going world o.new o.events o.answers fits going o.runs) all.1
    (subst (HasBegun recall root) (sym o.same) begun)
    (λ place r at. numbers place r (subst (λ l. slice_get l place ≡ Some r) o.same at)) in
    record {
      events = o.events ++ rest.events;
      answers = o.answers ++ rest.answers;
      new = rest.new;
      runs = runs_on world o.new rest.new o.events rest.events o.answers rest.answers o.runs rest.runs;
      carries = all_both CarriesOn o.events rest.events o.carries rest.carries;
      ended = rest.ended;
    }
