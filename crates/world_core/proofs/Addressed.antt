-- In every run from sites at which nothing happened yet a site has seen messages of other sites alone, and none that
-- goes elsewhere. So no frame that was sent is refused as not for its site.
use Rattle.std.proofs.Common.{◌≡◌, ◌≢◌, inl, inr, ℕ, ◌<◌, ◌≤◌, List, [], ◌∷◌, ◌++◌, length, Option, Some, None, refl, sym, ap, ◌∙◌, subst, Contains, slice_get, slice_set, arith}
use Rattle.std.specs.Prelude.{option_map}
use Rattle.std.specs.FinMap.{get}
use Rattle.std.proofs.lemmas.List.{length-set, set-get_or, get_or_past}
use Rattle.std.proofs.lemmas.List.Elements.{Contains-append_cases}
use Rattle.std.proofs.lemmas.Option.{cond_some}
use Rattle.frame_core.specs.Numbers.{Recall, Message}
use Rattle.frame_core.specs.declared.frames.Frame.{Frame}
use Rattle.frame_core.specs.declared.frames.Frame.TheVariants as frames
use Rattle.frame_core.specs.declared.rows.Row.{Row}
use Rattle.scholten_core.specs.Engagement.{Engagement}
use Rattle.scholten_core.specs.declared.outcomes.Signalled.{Signalled}
use Rattle.scholten_core.specs.declared.outcomes.Signalled.TheVariants as signals
use Rattle.site_core.specs.Emitting.{emittable, message_frame, signal_frame}
use Rattle.site_core.specs.Records.{Record, IsMessageAmong, IsRecallAmong, IsSound, fresh}
use Rattle.site_core.specs.StepLaws.{ClearsFor}
use Rattle.site_core.specs.Steps.{Does, IsForSite}
use Rattle.site_core.specs.Ways as ways
use Rattle.site_core.specs.declared.inputs.SiteInput.{SiteInput}
use Rattle.site_core.specs.declared.inputs.SiteInput.TheVariants.{Capture, Start, Deliver}
use Rattle.site_core.specs.declared.naming.FrameName.{FrameName}
use Rattle.site_core.specs.declared.naming.FrameName.TheVariants as names
use Rattle.site_core.specs.declared.outcomes.Effects.{Effects}
use Rattle.site_core.specs.declared.outcomes.Effects.TheVariants as effects
use Rattle.site_core.specs.Naming.{frame_named}
use Rattle.site_core.proofs.Clearings.{signals_clear}
use Rattle.site_core.proofs.NamedFrames.{frames_have_names}
use Rattle.site_core.proofs.Openings.{starts_open}
use Rattle.site_core.proofs.Soundness.{does_sound}
use Rattle.site_core.proofs.Takings.{messages_are_taken}
use Rattle.site_recovery.specs.Fit.{Fit, Fits}
use Rattle.site_recovery.specs.Laws.{AreInPlace, WasSent}
use Rattle.site_recovery.specs.Looks.{World, world_of, row, seen, next_message}
use Rattle.site_recovery.proofs.Absent.{none_seen as absent_seen}
use Rattle.site_recovery.proofs.Changes.{Clears, Opens, Spreads, Takes}
use Rattle.site_recovery.proofs.EmptySites.{each_is_empty, none_seen}
use Rattle.site_recovery.proofs.Exact.{within_or_past}
use Rattle.site_recovery.proofs.Lifting.{clears_everywhere, opens_everywhere, takes_everywhere}
use Rattle.site_recovery.proofs.OneSite.{SameElsewhere, same, set_elsewhere, set_here}
use Rattle.trace_core.proofs.Members.{contains_cases, contains_none}
use Rattle.world_core.specs.EndingLaws.{FindsItsSite, FramesFindTheirSite}
use Rattle.world_core.specs.Worlds.{records}
use Rattle.world_core.proofs.EachRun.{run_keeps_it, set_or_stood}
use Rattle.world_core.proofs.Fitting.{Way, goes_on, runs_keep_the_fit, stays, tells}
use Rattle.world_core.proofs.FreshSites.{fresh_at, fresh_sites_fit}
use Rattle.world_core.proofs.Going.{fresh_sites_are_going, record_there}
use Rattle.world_core.proofs.Pins.{does_sites}

-- what a site has seen is of another site, and goes here
abbrev SeenHere : World → Type 0
SeenHere W = (t : ℕ) (m : Message) (q : Recall) → seen W t m ≡ Some q → (m.site ≢ t) × ((x : Row) → row W m.site m.number ≡ Some x → x.dest ≡ t)

here_same : (V W : World) → ((t : ℕ) → (W t).engagement ≡ (V t).engagement) → SeenHere V → SeenHere W
here_same V W still h t m q e =
    let was = h t m q (sym (ap (λ (z : Engagement). get z.seen m) (still t)) ∙ e) in
    (was.0, λ x at. was.1 x (sym (ap (λ (z : Engagement). get z.outbox m.number) (still m.site)) ∙ at))

-- the rows of a message that was seen before aren't new
old_rows : (V W : World) (s : ℕ) (r : Recall) (item : List ℕ) → Spreads V W s r item → Fit V → SeenHere V → (t : ℕ) (m : Message) (q : Recall) → seen V t m ≡ Some q → (x : Row) → row W m.site m.number ≡ Some x → x.dest ≡ t
old_rows V W s r item c f h t m q e x at = elim (c.row_origin m.site m.number x at) as (λ _. x.dest ≡ t) [
  | inl old ↦ (h t m q e).1 x old
  | inr new ↦ absurd (let high = subst (λ z. next_message V z ≤ m.number) (sym new.0) new.1.above in let low = (f.numbers_are_below m.site).seen t m q e refl in omega (arith, high, low))
]

here_opens : (V W : World) (s : ℕ) (item : List ℕ) (c : (o : _) × Opens V W s item o) → Fit V → SeenHere V → SeenHere W
here_opens V W s item c f h t m q e =
    let was : seen V t m ≡ Some q = sym (c.1.seen t m) ∙ e in
    ((h t m q was).0, old_rows V W s _ item c.1.spreads f h t m q was)

here_takes : (V W : World) (s : ℕ) (m : Message) (r : Recall) (item : List ℕ) → Takes V W s m r item → m.site ≢ s → row V m.site m.number ≡ Some (record { dest = s; recall = r; item = item }) → Fit V → SeenHere V → SeenHere W
here_takes V W s m r item c away stands f h t p q e = elim (c.seen_origin t p q e) as (λ _. (p.site ≢ t) × ((x : Row) → row W p.site p.number ≡ Some x → x.dest ≡ t)) [
  | inl was ↦ ((h t p q was).0, old_rows V W s r item c.spreads f h t p q was)
  | inr new ↦ (
    λ at_home. away (ap (λ (z : Message). z.site) (sym new.1) ∙ at_home ∙ new.0),
    λ x at. elim (c.spreads.row_origin p.site p.number x at) as (λ _. x.dest ≡ t) [
      | inl old ↦
          let there : row V m.site m.number ≡ Some x = subst (λ (z : Message). row V z.site z.number ≡ Some x) new.1 old in
          let one : Some x ≡ Some (record { dest = s; recall = r; item = item }) = sym there ∙ stands in
          let is : x ≡ record { dest = s; recall = r; item = item } = cc in
          ap (λ (z : Row). z.dest) is ∙ sym new.0
      | inr mine ↦ absurd (away (ap (λ (z : Message). z.site) (sym new.1) ∙ mine.0))
    ],
  )
]

here_clears : (V W : World) (s n : ℕ) (x : Row) → Clears V W s n x → SeenHere V → SeenHere W
here_clears V W s n x c h t m q e =
    let was = h t m q (sym (c.seen t m) ∙ e) in
    (was.0, λ y at. was.1 y (c.row_origin m.site m.number y at))

-- So it is after each step.
module _ (V W : World) (s : ℕ) (sent : List Frame) (f : Fits V sent) (elsewhere : SameElsewhere V W s) (me : (V s).engagement.me ≡ s) (h : SeenHere V) where
  here_unchanged : (W s).engagement ≡ (V s).engagement → SeenHere W
  here_unchanged is = here_same V W (same V W s elsewhere (λ z. z.engagement) is) h

  here_taken : (m : Message) (dest : ℕ) (r : Recall) (i : List ℕ) → IsForSite (V s) m dest r → ways.TakesMessage (V s) (W s) m r i → Contains sent (frames.Recall m dest r i) → SeenHere W
  here_taken m dest r i mine w at =
      let here : dest ≡ s = mine.here ∙ me in
      let Stands : Type 0 = row V m.site m.number ≡ Some (record { dest = s; recall = r; item = i }) in
      let stands : Stands = elim (f.frames_fit (frames.Recall m s r i) (subst (λ z. Contains sent (frames.Recall m z r i)) here at)) as (λ _. Stands) [
        | inl waits ↦ waits
        | inr answered ↦ let twice : None ≡ Some answered.0.0 = sym w.takes.unseen ∙ answered.0.1 in cc
      ] in
      here_takes V W s m r i (takes_everywhere V W s elsewhere me m r i w) (λ home. mine.elsewhere (home ∙ sym me)) stands f.records_fit h

  here_cleared : (m : Message) (by : ℕ) (answer : Signalled) → ClearsFor (V s) (W s) m by answer → SeenHere W
  here_cleared m by answer c = here_clears V W s m.number c.row (clears_everywhere V W s elsewhere me m.number c.row c.clears) h

  here_steps : (input : SiteInput) (e : Effects) → WasSent sent input → Does (V s) input e (W s) → SeenHere W
  here_steps (Capture bytes) (effects.Captured fresh known skipped) at does = here_unchanged (ap (λ (z : Record). z.engagement) does.rest)
  here_steps (Start root) (effects.Started recall quarantined numbered ended) at does =
      here_opens V W s root (_, opens_everywhere V W s elsewhere me root (starts_open (V s) (W s) root recall quarantined numbered ended does).0) f.records_fit h
  here_steps (Deliver (frames.Recall m dest r i)) (effects.Received quarantined numbered owed) at does =
      let w = messages_are_taken (V s) (W s) m dest r i quarantined numbered owed does in
      here_taken m dest r i w.0 w.1 (at (frames.Recall m dest r i) refl)
  here_steps (Deliver (frames.Recall m dest r i)) effects.Repeat at does = here_unchanged (ap (λ (z : Record). z.engagement) does.1)
  here_steps (Deliver (frames.Signal m by)) effects.Stale at does = here_unchanged (ap (λ (z : Record). z.engagement) does.1)
  here_steps (Deliver (frames.Signal m by)) effects.Cleared at does = here_cleared m by signals.Cleared ((signals_clear (V s) (W s) m by).0 does)
  here_steps (Deliver (frames.Signal m by)) (effects.ParentDue parent) at does = here_cleared m by (signals.ParentDue parent) ((signals_clear (V s) (W s) m by).1 parent does)
  here_steps (Deliver (frames.Signal m by)) (effects.Ended recall) at does = here_cleared m by (signals.Ended recall) ((signals_clear (V s) (W s) m by).2 recall does)
  here_steps input other at does = absurd does

-- a message from one of so many sites to another of them
record IsBetween (sites : ℕ) (m : Message) (dest : ℕ) (r : Recall) : Type 0 where
  to : dest < sites
  elsewhere : m.site ≢ dest
  message : IsMessageAmong sites m
  recall : IsRecallAmong sites r

-- a record is sound, and of so many sites
record IsOneOf (sites : ℕ) (r : Record) : Type 0 where
  sound : IsSound r
  all : length r.sites ≡ sites

record IsAddressed (sites : ℕ) (rs : List Record) (sent : List Frame) : Type 0 where
  count : length rs ≡ sites
  each : (place : ℕ) (r : Record) → slice_get rs place ≡ Some r → IsOneOf sites r
  here : SeenHere (world_of rs)
  between : (m : Message) (dest : ℕ) (r : Recall) (i : List ℕ) → Contains sent (frames.Recall m dest r i) → IsBetween sites m dest r

-- a message that a site may send has its row there
emitted_row : (e : Engagement) (m : Message) (dest : ℕ) (r : Recall) (i : List ℕ) (name : FrameName) → frame_named e name ≡ Some (frames.Recall m dest r i)
    → (m.site ≡ e.me) × (get e.outbox m.number ≡ Some (record { dest = dest; recall = r; item = i }))
emitted_row e m dest r i (names.Message n) is = row_of (get e.outbox n) refl is
  where
    row_of : (o : Option Row) → get e.outbox n ≡ o → option_map (λ x. message_frame e.me (n, x)) o ≡ Some (frames.Recall m dest r i) → (m.site ≡ e.me) × (get e.outbox m.number ≡ Some (record { dest = dest; recall = r; item = i }))
    row_of None at e' = let none : None ≡ Some (frames.Recall m dest r i) = e' in cc
    row_of (Some x) at e' =
        let frame : frames.Recall (record { site = e.me; number = n }) x.dest x.recall x.item ≡ frames.Recall m dest r i = same_frame (message_frame e.me (n, x)) (frames.Recall m dest r i) e' in
        let name : record { site = e.me; number = n } ≡ m = cc in
        let dest_is : x.dest ≡ dest = cc in
        let recall_is : x.recall ≡ r = cc in
        let item_is : x.item ≡ i = cc in
        (ap (λ (z : Message). z.site) (sym name), ap (get e.outbox) (ap (λ (z : Message). z.number) (sym name)) ∙ at ∙ (λ k. Some (record { dest = dest_is k; recall = recall_is k; item = item_is k })))
      where
        same_frame : (a b : Frame) → ◌≡◌ {A = Option Frame} (Some a) (Some b) → a ≡ b
        same_frame a b h = cc
emitted_row e m dest r i (names.Signal p) is =
    let frame : signal_frame e.me p ≡ frames.Recall m dest r i = (cond_some _ (signal_frame e.me p) (frames.Recall m dest r i) is).1 in
    absurd (let other : frames.Signal p e.me ≡ frames.Recall m dest r i = frame in cc)

module _ (sites : ℕ) where
  unchanged : (rs : List Record) (sent : List Frame) (site : ℕ) (new : Record) → new ≡ world_of rs site → IsAddressed sites rs sent → IsAddressed sites (slice_set rs site new) sent
  unchanged rs sent site new is h = subst (λ r. IsAddressed sites (slice_set rs site r) sent) (sym is) (subst (λ l. IsAddressed sites l sent) (sym (set-get_or rs site (fresh [] site))) h)

  told : (rs : List Record) (sent : List Frame) (site : ℕ) (f : Frame) → AreInPlace rs → Fits (world_of rs) sent → site < length rs → Contains (emittable (world_of rs site).engagement) f → IsAddressed sites rs sent → IsAddressed sites rs (sent ++ f ∷ [])
  told rs sent site f places fits below among h = record {
    count = h.count;
    each = h.each;
    here = h.here;
    between = λ m dest r i at. elim (Contains-append_cases sent (f ∷ []) (frames.Recall m dest r i) at) as (λ _. IsBetween sites m dest r) [
      | inl before ↦ h.between m dest r i before
      | inr last ↦ elim (contains_cases f (frames.Recall m dest r i) [] last) as (λ _. IsBetween sites m dest r) [
        | inr none ↦ absurd (contains_none (frames.Recall m dest r i) none)
        | inl is ↦
            let s = world_of rs site in
            let name = (frames_have_names s.engagement f).0 among in
            let at_row = emitted_row s.engagement m dest r i name.0 (name.1 ∙ ap Some is) in
            let one = h.each site s (record_there rs site below) in
            let home : m.site ≡ site = at_row.0 ∙ (places site below).engagement in
            let right = one.sound.rows m.number (record { dest = dest; recall = r; item = i }) at_row.1 in
            let ships = ((fits.records_fit.justified site).rows m.number (record { dest = dest; recall = r; item = i }) at_row.1).1 in
            record {
              to = subst (λ n. dest < n) one.all right.dest;
              elsewhere = λ same. ships.0 (sym same ∙ home ∙ sym (places site below).captured);
              message = record { site = subst (λ z. z < sites) (sym home) (subst (λ n. site < n) h.count below); number = right.number };
              recall = subst (λ n. IsRecallAmong n r) one.all right.recall;
            }
      ]
    ];
  }

  way_keeps : (rs : List Record) (sent : List Frame) (site : ℕ) (new : Record) (now : List Frame) → AreInPlace rs → Fits (world_of rs) sent → site < length rs → Way (world_of rs site) sent new now → IsAddressed sites rs sent → IsAddressed sites (slice_set rs site new) now
  way_keeps rs sent site new now places fits below (stays is is_sent) h = subst (IsAddressed sites (slice_set rs site new)) (sym is_sent) (unchanged rs sent site new is h)
  way_keeps rs sent site new now places fits below (tells frame among is more) h =
      subst (IsAddressed sites (slice_set rs site new)) (sym more) (unchanged rs (sent ++ frame ∷ []) site new is (told rs sent site frame places fits below among h))
  way_keeps rs sent site new now places fits below (goes_on input was after is_sent) h =
      let old = world_of rs site in
      let one = h.each site old (record_there rs site below) in
      subst (IsAddressed sites (slice_set rs site new)) (sym is_sent) (record {
        count = length-set rs site new ∙ h.count;
        each = λ place r e. elim (set_or_stood rs site new place r e) as (λ _. IsOneOf sites r) [
          | inl set ↦ subst (IsOneOf sites) set (record { sound = does_sound old input after.0 new one.sound after.1; all = ap length (does_sites old new input after.0 after.1) ∙ one.all })
          | inr stood ↦ h.each place r stood
        ];
        here = here_steps (world_of rs) (world_of (slice_set rs site new)) site sent fits (set_elsewhere rs site new) (places site below).engagement h.here input after.0 was
            (subst (λ z. Does old input after.0 z) (sym (set_here rs site new below)) after.1);
        between = h.between;
      })

  -- what is sent so finds its site
  finds : (rs : List Record) (sent : List Frame) → AreInPlace rs → Fits (world_of rs) sent → IsAddressed sites rs sent → (f : Frame) → Contains sent f → FindsItsSite f rs
  finds rs sent places fits h (frames.Recall m dest r i) at =
      let b = h.between m dest r i at in
      let below : dest < length rs = subst (λ n. dest < n) (sym h.count) b.to in
      let s = world_of rs dest in
      let there = record_there rs dest below in
      let all = (h.each dest s there).all in
      let mine : IsForSite s m dest r = record {
        here = sym (places dest below).engagement;
        elsewhere = λ same. b.elsewhere (same ∙ (places dest below).engagement);
        message = subst (λ n. IsMessageAmong n m) (sym all) b.message;
        recall = subst (λ n. IsRecallAmong n r) (sym all) b.recall;
      } in
      record { site = s; there = there; its = λ refused. refused mine }
  finds rs sent places fits h (frames.Signal m by) at =
      let answered = fits.frames_fit (frames.Signal m by) at in
      let q = answered.0.0 in
      let saw = answered.0.1 in
      let by_below : by < length rs = elim (within_or_past by (length rs)) as (λ _. by < length rs) [
        | inl below ↦ below
        | inr past ↦ absurd (let none : None ≡ Some q = absent_seen (world_of rs) by (get_or_past rs by (fresh [] by) past) m ∙ saw in cc)
      ] in
      let signer = h.each by (world_of rs by) (record_there rs by by_below) in
      let among : IsMessageAmong sites m = subst (λ n. IsMessageAmong n m) signer.all (signer.sound.seen m q saw).0 in
      let below : m.site < length rs = subst (λ n. m.site < n) (sym h.count) among.site in
      record {
        site = world_of rs m.site;
        there = record_there rs m.site below;
        its = λ refused. elim refused as (λ _. ⊥) [
          | inl foreign ↦ foreign (record { site = sym (places m.site below).engagement; number = among.number })
          | inr differs ↦ differs.2 ((h.here by m q saw).1 differs.0 differs.1.stands)
        ];
      }

pub frames_find_their_site : FramesFindTheirSite
frames_find_their_site old new events answers one fresh_ones none run f at =
    let rs = records old in
    let fits = fresh_sites_fit old one fresh_ones none in
    let going = fresh_sites_are_going rs one fresh_ones in
    let empty = each_is_empty one.0.sites rs (fresh_at rs one fresh_ones) in
    let addressed : IsAddressed (length rs) rs old.sent = record {
      count = refl;
      each = λ place r e. record { sound = going.sound place r e; all = ap length (one.2.each place r e).0 ∙ sym one.2.number };
      here = λ t m q e. absurd (none_seen (world_of rs) empty t m q e);
      between = λ m dest r i among. absurd (contains_none (frames.Recall m dest r i) (subst (λ l. Contains l (frames.Recall m dest r i)) none among));
    } in
    let still = run_keeps_it (IsAddressed (length rs)) (way_keeps (length rs)) old new events answers fits run addressed in
    let now = runs_keep_the_fit old new events answers fits run in
    finds (length rs) (records new) new.sent now.places now.fits still f at
