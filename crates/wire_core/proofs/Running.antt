-- The run that the rule carries: what it comes to, and how a mark and a post lead on from it.
use Rattle.std.proofs.Common.{◌≡◌, ◌≢◌, ℕ, zero, suc, ◌<◌, ◌==◌, ⊎_elim, Bool, true, false, cond, nat_eq, Option as Maybe, Some, None, List, [], ◌∷◌, ◌++◌, map, length, set, slice_get, Contains, sym, refl, ap, ◌∙◌, subst, length-set, append-nil, append_assoc}
use Rattle.std.specs.List.{AllZip}
use Rattle.std.proofs.lemmas.Bool.{eq-eqb, ne_eqb}
use Rattle.std.proofs.lemmas.List.{map-set}
use Rattle.std.proofs.lemmas.List.Elements.{All-contains, All-filter, All-contains_itself, Contains-push_cases, filter-append}
use Rattle.std.proofs.lemmas.Option.{same_Some}
use mathlib.Core.Option.{some, some-injective, some-ne-none}
use lib.ListN.{get_elem?}
use Rattle.atomic_table.proofs.Lists.{at_set, at_map}
use Rattle.frame_core.specs.declared.frames.Frame.{Frame}
use Rattle.site_core.specs.Emitting as site
use Rattle.site_core.specs.Records.{Record}
use Rattle.site_core.specs.Steps.{Does}
use Rattle.site_core.specs.declared.inputs.SiteInput.{SiteInput}
use Rattle.site_core.specs.declared.inputs.SiteInput.TheVariants as inputs
use Rattle.site_core.specs.declared.outcomes.Effects.{Effects}
use Rattle.keeper_core.specs.Keeping.{IsAfter}
use Rattle.site_recovery.specs.Fit.{Fits}
use Rattle.site_recovery.specs.Laws.{AreInPlace}
use Rattle.site_recovery.specs.Looks.{world_of}
use Rattle.world_core.specs.declared.events.Answer.{Answer}
use Rattle.world_core.specs.declared.events.Answer.TheVariants.{Done, Sent as WasSent}
use Rattle.world_core.specs.declared.events.WorldEvent.{WorldEvent}
use Rattle.world_core.specs.declared.events.WorldEvent.TheVariants.{Step, Send}
use Rattle.world_core.specs.declared.events.WorldInput.{WorldInput}
use Rattle.world_core.specs.declared.events.WorldInput.TheVariants.{Capture, Start, Deliver}
use Rattle.world_core.specs.KeptSteps.{LeadsOn, Handed, Answered, Broken, StandsAfter, handed, handed_to, input_told}
use Rattle.world_core.specs.Turns.{Runs, Sends, Steps, Turns, TurnsFrom, addressee, frame_at, input_at, input_of_frame, site_of}
use Rattle.world_core.specs.Worlds.{Standing, Up, Down, WorldState, WorldFits, record_of}
use Rattle.world_core.proofs.Fitting.{runs_keep_the_fit}
use Rattle.world_core.proofs.KeptSteps.{frames_stay, sites_stand}
use Rattle.world_core.proofs.Running.{run_more}
use Rattle.wire_core.specs.declared.views.Log.{Log}
use Rattle.wire_core.specs.Continuing.{GoesOnTo}
use Rattle.wire_core.specs.Fitting.{RecordsFit}
use Rattle.wire_core.specs.Frames.{sender}
use Rattle.wire_core.specs.Laws.{RunsFit, RunsStand}
use Rattle.wire_core.specs.Rule.{AreAnswered, Happened, IsRun, frames, last_records, sent_from, world_up}
use Rattle.wire_core.proofs.Fitting.{fewer_fit}
use Rattle.wire_core.proofs.Lists.{at_Contains, from_flat, map_set_same, within}

-- A list by place, in the two ways.

found : {A : Type 0} (l : List A) (i : ℕ) (a : A) → get_elem? l i ≡ some a → slice_get l i ≡ Some a
found [] i a e = absurd (some-ne-none a (sym e))
found (x ∷ xs) zero a e = ap Some (some-injective x a e)
found (x ∷ xs) (suc i) a e = found xs i a e

pub up_records : (rs : List Record) → map record_of (map (λ (r : Record). Up r) rs) ≡ rs
up_records [] = refl
up_records (r ∷ rs) = ap (λ (l : List Record). r ∷ l) (up_records rs)

pub up_fits : (rs : List Record) (sent : List Frame) → RecordsFit rs sent → WorldFits (world_up rs sent)
up_fits rs sent fit = record { places = subst AreInPlace (sym (up_records rs)) fit.places; fits = subst (λ (l : List Record). Fits (world_of l) sent) (sym (up_records rs)) fit.fits }

fits_up : (rs : List Record) (sent : List Frame) → WorldFits (world_up rs sent) → RecordsFit rs sent
fits_up rs sent fit = record { places = subst AreInPlace (up_records rs) fit.places; fits = subst (λ (l : List Record). Fits (world_of l) sent) (up_records rs) fit.fits }

-- What was handed.

answered_stands : (handed : List Handed) (inputs : List SiteInput) (opening last : Record) → AreAnswered handed inputs → StandsAfter LeadsOn opening handed last → StandsAfter IsAfter opening inputs last
answered_stands [] [] opening last a s = s
answered_stands (Answered given effects ∷ rest) (input ∷ inputs) opening last a s = (s.0, (effects, subst (λ (x : SiteInput). Does opening x effects s.0) a.0 s.1), answered_stands rest inputs s.0 last a.1 s.2)
answered_stands [] (input ∷ inputs) opening last a s = absurd a
answered_stands (Answered given effects ∷ rest) [] opening last a s = absurd a
answered_stands (Broken given ∷ rest) inputs opening last a s = absurd a

answered_more : (handed : List Handed) (inputs : List SiteInput) (input : SiteInput) (effects : Effects) → AreAnswered handed inputs → AreAnswered (handed ++ Answered input effects ∷ []) (inputs ++ input ∷ [])
answered_more [] [] input effects a = (refl, tt)
answered_more (Answered given e ∷ rest) (x ∷ inputs) input effects a = (a.0, answered_more rest inputs input effects a.1)
answered_more [] (x ∷ inputs) input effects a = absurd a
answered_more (Answered given e ∷ rest) [] input effects a = absurd a
answered_more (Broken given ∷ rest) inputs input effects a = absurd a

-- what one event hands to a site
abbrev handed_by : ℕ → List Frame → WorldEvent → Answer → List Handed
handed_by site sent event answer = cond (site_of event == site) (handed answer (input_told sent event)) []

handed_more : (events : List WorldEvent) (answers : List Answer) (site : ℕ) (sent : List Frame) (event : WorldEvent) (answer : Answer) → AllZip Happened events answers
    → handed_to site sent (events ++ event ∷ []) (answers ++ answer ∷ []) ≡ handed_to site sent events answers ++ handed_by site sent event answer
handed_more [] [] site sent event answer h = append-nil (handed_by site sent event answer)
handed_more (e ∷ es) (a ∷ bs) site sent event answer h =
    ap (λ (l : List Handed). handed_by site sent e a ++ l) (handed_more es bs site sent event answer h.1) ∙ sym (append_assoc (handed_by site sent e a) (handed_to site sent es bs) (handed_by site sent event answer))
handed_more [] (a ∷ bs) site sent event answer h = absurd h
handed_more (e ∷ es) [] site sent event answer h = absurd h

happened_more : (events : List WorldEvent) (answers : List Answer) (event : WorldEvent) (answer : Answer) → AllZip Happened events answers → Happened event answer → AllZip Happened (events ++ event ∷ []) (answers ++ answer ∷ [])
happened_more [] [] event answer h one = (one, tt)
happened_more (e ∷ es) (a ∷ bs) event answer h one = (h.0, happened_more es bs event answer h.1 one)
happened_more [] (a ∷ bs) event answer h one = absurd h
happened_more (e ∷ es) [] event answer h one = absurd h

-- What was handed stays so, whatever is sent later.

longer : {A : Type 0} (l more : List A) (i : ℕ) (a : A) → slice_get l i ≡ Some a → slice_get (l ++ more) i ≡ Some a
longer [] more i a e = let n : None ≡ Some a = e in cc
longer (x ∷ xs) more zero a e = e
longer (x ∷ xs) more (suc i) a e = longer xs more i a e

frame_longer : (sent more : List Frame) (i place : ℕ) (at : Maybe Frame) (given : SiteInput) → frame_at sent place ≡ at → input_of_frame i at ≡ Some given → input_of_frame i (frame_at (sent ++ more) place) ≡ Some given
frame_longer sent more i place None given at e = let n : None ≡ Some given = e in cc
frame_longer sent more i zero (Some f) given at e = let n : None ≡ Some f = at in cc
frame_longer sent more i (suc place) (Some f) given at e = ap (input_of_frame i) (longer sent more place f at) ∙ e

input_longer : (sent more : List Frame) (i : ℕ) (input : WorldInput) (given : SiteInput) → input_at sent i input ≡ Some given → input_at (sent ++ more) i input ≡ Some given
input_longer sent more i (Capture bytes) given e = e
input_longer sent more i (Start root) given e = e
input_longer sent more i (Deliver place) given e = frame_longer sent more i place (frame_at sent place) given refl e

step_longer : (old : Record) (sent x y : List Frame) (i : ℕ) (input : WorldInput) (effects : Effects) (changed : Standing) (given : Maybe SiteInput) → input_at sent i input ≡ given → Steps old given (Done effects) changed
    → handed (Done effects) (input_at (sent ++ x) i input) ≡ handed (Done effects) (input_at (sent ++ y) i input)
step_longer old sent x y i input effects changed (Some given) e s = ap (handed (Done effects)) (input_longer sent x i input given e ∙ sym (input_longer sent y i input given e))
step_longer old sent x y i input effects changed None e s = absurd s

told_longer : (old new : WorldState) (event : WorldEvent) (answer : Answer) (at : Maybe Standing) → Happened event answer → TurnsFrom at old event answer new → (x y : List Frame)
    → handed answer (input_told (old.sent ++ x) event) ≡ handed answer (input_told (old.sent ++ y) event)
told_longer old new (Step i input) (Done effects) (Some (Up r)) h t x y = step_longer r old.sent x y i input effects t.0 (input_at old.sent i input) refl t.1.0
told_longer old new (Step i input) (Done effects) (Some (Down r)) h t x y = let e = t.1.0 in cc
told_longer old new (Step i input) (Done effects) None h t x y = let e = t.0 in cc
told_longer old new (Send i place) (WasSent number) at h t x y = refl
told_longer old new event answer at h t x y = absurd h

handed_longer : (old new : WorldState) (events : List WorldEvent) (answers : List Answer) (site : ℕ) (more : List Frame) → AllZip Happened events answers → Runs old events answers new → handed_to site (new.sent ++ more) events answers ≡ handed_to site new.sent events answers
handed_longer old new [] [] site more h is = refl
handed_longer old new (e ∷ es) (a ∷ bs) site more h is =
    let stay = frames_stay old new (e ∷ es) (a ∷ bs) is in
    let head : handed a (input_told (new.sent ++ more) e) ≡ handed a (input_told new.sent e) =
    ap (λ (l : List Frame). handed a (input_told l e)) (ap (λ (l : List Frame). l ++ more) stay.1 ∙ append_assoc old.sent stay.0 more)
    ∙ told_longer old is.0 e a (slice_get old.sites (site_of e)) h.0 is.1 (stay.0 ++ more) stay.0
    ∙ ap (λ (l : List Frame). handed a (input_told l e)) (sym stay.1) in
    λ k. cond (site_of e == site) (head k) [] ++ handed_longer is.0 new es bs site more h.1 is.2 k
handed_longer old new [] (a ∷ bs) site more h is = absurd h
handed_longer old new (e ∷ es) [] site more h is = absurd h

-- The frames of a site.

in_sent_from : (site : ℕ) (sent : List Frame) (f : Frame) → Contains (sent_from site sent) f → Contains sent f
in_sent_from site sent f c = All-contains (Contains sent) (sent_from site sent) f (All-filter (λ g. nat_eq (sender g) site) (Contains sent) sent (All-contains_itself sent)) c

sent_more : (site : ℕ) (sent : List Frame) (f : Frame) → sender f ≡ site → sent_from site (sent ++ f ∷ []) ≡ sent_from site sent ++ f ∷ []
sent_more site sent f e = filter-append (λ g. nat_eq (sender g) site) sent (f ∷ []) ∙ ap (λ (t : Bool). sent_from site sent ++ cond t (f ∷ []) []) (eq-eqb _ _ e)

sent_else : (site : ℕ) (sent : List Frame) (f : Frame) → sender f ≢ site → sent_from site (sent ++ f ∷ []) ≡ sent_from site sent
sent_else site sent f ne = filter-append (λ g. nat_eq (sender g) site) sent (f ∷ []) ∙ ap (λ (t : Bool). sent_from site sent ++ cond t (f ∷ []) []) (ne_eqb _ _ ne) ∙ append-nil (sent_from site sent)

-- an input of a site as the world gives it: a frame by its place among those sent
as_given : (sent : List Frame) (i : ℕ) (input : SiteInput) → ((f : Frame) → input ≡ inputs.Deliver f → Contains sent f × (addressee f ≡ i)) → (w : WorldInput) × (input_at sent i w ≡ Some input)
as_given sent i (inputs.Capture bytes) known = (Capture bytes, refl)
as_given sent i (inputs.Start root) known = (Start root, refl)
as_given sent i (inputs.Deliver f) known =
    let k = known f refl in
    let p = at_Contains sent f k.0 in
    (Deliver (suc p.0), ap (input_of_frame i) (found sent p.0 f p.1) ∙ ap (λ (t : Bool). cond t (Some (inputs.Deliver f)) None) (eq-eqb (addressee f) i k.1))

module _ (start : List Record) (logs : List Log) (R : IsRun start logs) where
  pub run_has : (f : Frame) → Contains (frames logs) f → Contains R.sent f
  run_has f c =
      let p = from_flat (λ (x : Log). x.sent) logs f c in
      in_sent_from p.0 R.sent f (subst (λ (l : List Frame). Contains l f) (sym (R.from p.0 p.1 p.2)) p.3)

  run_world : WorldFits (world_up (last_records logs) R.sent)
  run_world = runs_keep_the_fit (world_up start []) (world_up (last_records logs) R.sent) R.events R.answers (up_fits start [] R.begun) R.runs

  -- what was consistent at the start is consistent now
  pub run_fits : RecordsFit (last_records logs) (frames logs)
  run_fits = fewer_fit (last_records logs) R.sent (frames logs) (fits_up (last_records logs) R.sent run_world) run_has

  -- each site stands as its inputs
  pub run_stands : (i : ℕ) (e : Log) → get_elem? logs i ≡ some e → StandsAfter IsAfter e.opening e.inputs e.last
  run_stands i e at =
      let began = found start i e.opening (ap (λ (l : List Record). get_elem? l i) (sym R.openings) ∙ at_map (λ (x : Log). x.opening) logs i e at) in
      let stands = (sites_stand (world_up start []) (world_up (last_records logs) R.sent) R.events R.answers R.runs).each i e.opening (ap (λ (l : List Record). slice_get l i) (up_records start) ∙ began) in
      let now = ap (λ (l : List Record). slice_get l i) (up_records (last_records logs)) ∙ found (last_records logs) i e.last (at_map (λ (x : Log). x.last) logs i e at) in
      let same : stands.now ≡ e.last = same_Some stands.now e.last (sym stands.there ∙ now) in
      answered_stands (handed_to i R.sent R.events R.answers) e.inputs e.opening e.last (R.handed i e at) (subst (StandsAfter LeadsOn e.opening (handed_to i R.sent R.events R.answers)) same stands.kept)

  module _ (i : ℕ) (e e' : Log) (at : get_elem? logs i ≡ some e) (opening : e'.opening ≡ e.opening) where
    few : (f : Frame) → Contains R.sent f → sender f < length (set logs i e')
    few f c = subst (λ k. sender f < k) (sym (length-set logs i e')) (R.senders f c)

    opened : map (λ (x : Log). x.opening) (set logs i e') ≡ start
    opened = map_set_same (λ (x : Log). x.opening) logs i e e' at opening ∙ R.openings

    -- nothing of the world changes
    pub run_same : e'.last ≡ e.last → e'.sent ≡ e.sent → e'.inputs ≡ e.inputs → GoesOnTo start logs R (set logs i e')
    run_same last sent added = record {
      longer = record {
        begun = R.begun;
        openings = opened;
        events = R.events;
        answers = R.answers;
        sent = R.sent;
        happened = R.happened;
        runs = subst (λ (l : List Record). Runs (world_up start []) R.events R.answers (world_up l R.sent)) (sym lasts) R.runs;
        handed = λ x b there. ⊎_elim
            (λ (t : (x ≡ i) × (e' ≡ b)). subst (AreAnswered (handed_to x R.sent R.events R.answers)) (sym added ∙ ap (λ (z : Log). z.inputs) t.1) (R.handed x e (ap (get_elem? logs) t.0 ∙ at)))
            (λ (t : (x ≢ i) × (get_elem? logs x ≡ some b)). R.handed x b t.1) (at_set logs i x e' b there);
        from = λ x b there. ⊎_elim
            (λ (t : (x ≡ i) × (e' ≡ b)). R.from x e (ap (get_elem? logs) t.0 ∙ at) ∙ sym sent ∙ ap (λ (z : Log). z.sent) t.1)
            (λ (t : (x ≢ i) × (get_elem? logs x ≡ some b)). R.from x b t.1) (at_set logs i x e' b there);
        senders = few;
      };
      events = [];
      answers = [];
      all_events = sym (append-nil R.events);
      all_answers = sym (append-nil R.answers);
      runs_on = ap (λ (l : List Record). world_up l R.sent) lasts;
    }
      where
        lasts : last_records (set logs i e') ≡ last_records logs
        lasts = map_set_same (λ (x : Log). x.last) logs i e e' at last

    before : slice_get (world_up (last_records logs) R.sent).sites i ≡ Some (Up e.last)
    before = found (map (λ (r : Record). Up r) (last_records logs)) i (Up e.last) (at_map (λ (r : Record). Up r) (last_records logs) i e.last (at_map (λ (x : Log). x.last) logs i e at))

    changed : map (λ (r : Record). Up r) (last_records (set logs i e')) ≡ set (map (λ (r : Record). Up r) (last_records logs)) i (Up e'.last)
    changed = ap (map (λ (r : Record). Up r)) (map-set (λ (x : Log). x.last) logs i e') ∙ map-set (λ (r : Record). Up r) (last_records logs) i e'.last

    -- a mark is a step that was done
    pub run_marked : (input : SiteInput) (effects : Effects) → Does e.last input effects e'.last → ((f : Frame) → input ≡ inputs.Deliver f → Contains (frames logs) f × (addressee f ≡ i)) → e'.sent ≡ e.sent → e'.inputs ≡ e.inputs ++ input ∷ [] → GoesOnTo start logs R (set logs i e')
    run_marked input effects does known sent added = record {
      longer = record {
        begun = R.begun;
        openings = opened;
        events = R.events ++ Step i w.0 ∷ [];
        answers = R.answers ++ Done effects ∷ [];
        sent = R.sent;
        happened = happened_more R.events R.answers (Step i w.0) (Done effects) R.happened tt;
        runs = run_more (world_up start []) old new R.events R.answers (Step i w.0) (Done effects) R.runs turn;
        handed = λ x b there. subst (λ (l : List Handed). AreAnswered l b.inputs) (sym (handed_more R.events R.answers x R.sent (Step i w.0) (Done effects) R.happened)) (⊎_elim
            (λ (t : (x ≡ i) × (e' ≡ b)). subst (λ (z : List Handed × List SiteInput). AreAnswered (handed_to x R.sent R.events R.answers ++ z.0) z.1) (λ k. (sym (here x (sym t.0)) k, (sym added ∙ ap (λ (z : Log). z.inputs) t.1) k))
            (answered_more (handed_to x R.sent R.events R.answers) e.inputs input effects (R.handed x e (ap (get_elem? logs) t.0 ∙ at))))
            (λ (t : (x ≢ i) × (get_elem? logs x ≡ some b)). subst (λ (l : List Handed). AreAnswered l b.inputs) (sym (ap (λ (l : List Handed). handed_to x R.sent R.events R.answers ++ l) (else x (λ q. t.0 (sym q))) ∙ append-nil (handed_to x R.sent R.events R.answers))) (R.handed x b t.1))
            (at_set logs i x e' b there));
        from = λ x b there. ⊎_elim
            (λ (t : (x ≡ i) × (e' ≡ b)). R.from x e (ap (get_elem? logs) t.0 ∙ at) ∙ sym sent ∙ ap (λ (z : Log). z.sent) t.1)
            (λ (t : (x ≢ i) × (get_elem? logs x ≡ some b)). R.from x b t.1) (at_set logs i x e' b there);
        senders = few;
      };
      events = Step i w.0 ∷ [];
      answers = Done effects ∷ [];
      all_events = refl;
      all_answers = refl;
      runs_on = (new, turn, refl);
    }
      where
        w : (w : WorldInput) × (input_at R.sent i w ≡ Some input)
        w = as_given R.sent i input (λ f is. let k = known f is in (run_has f k.0, k.1))

        old : WorldState
        old = world_up (last_records logs) R.sent

        new : WorldState
        new = world_up (last_records (set logs i e')) R.sent

        turn : Turns old (Step i w.0) (Done effects) new
        turn = subst (λ (at : Maybe Standing). TurnsFrom at old (Step i w.0) (Done effects) new) (sym before)
            (Up e'.last, (subst (λ (given : Maybe SiteInput). Steps e.last given (Done effects) (Up e'.last)) (sym w.1) (e'.last, does, refl), refl), changed)

        here : (x : ℕ) → i ≡ x → handed_by x R.sent (Step i w.0) (Done effects) ≡ Answered input effects ∷ []
        here x same = λ k. cond (eq-eqb i x same k) (handed (Done effects) (w.1 k)) []

        else : (x : ℕ) → i ≢ x → handed_by x R.sent (Step i w.0) (Done effects) ≡ []
        else x ne = ap (λ (t : Bool). cond t (handed (Done effects) (input_at R.sent i w.0)) []) (ne_eqb i x ne)

    -- a frame that is published is one that was sent
    pub run_sent : (f : Frame) → sender f ≡ i → Contains (site.emittable e.last.engagement) f → e'.last ≡ e.last → e'.sent ≡ e.sent ++ f ∷ [] → e'.inputs ≡ e.inputs → GoesOnTo start logs R (set logs i e')
    run_sent f by may last sent added = record {
      longer = record {
        begun = R.begun;
        openings = opened;
        events = R.events ++ Send i place ∷ [];
        answers = R.answers ++ WasSent number ∷ [];
        sent = R.sent ++ f ∷ [];
        happened = happened_more R.events R.answers (Send i place) (WasSent number) R.happened tt;
        runs = run_more (world_up start []) old new R.events R.answers (Send i place) (WasSent number) R.runs turn;
        handed = λ x b there. subst (λ (l : List Handed). AreAnswered l b.inputs) (sym (later x)) (⊎_elim
            (λ (t : (x ≡ i) × (e' ≡ b)). subst (AreAnswered (handed_to x R.sent R.events R.answers)) (sym added ∙ ap (λ (z : Log). z.inputs) t.1) (R.handed x e (ap (get_elem? logs) t.0 ∙ at)))
            (λ (t : (x ≢ i) × (get_elem? logs x ≡ some b)). R.handed x b t.1) (at_set logs i x e' b there));
        from = λ x b there. ⊎_elim
            (λ (t : (x ≡ i) × (e' ≡ b)). sent_more x R.sent f (by ∙ sym t.0) ∙ ap (λ (l : List Frame). l ++ f ∷ []) (R.from x e (ap (get_elem? logs) t.0 ∙ at)) ∙ sym sent ∙ ap (λ (z : Log). z.sent) t.1)
            (λ (t : (x ≢ i) × (get_elem? logs x ≡ some b)). sent_else x R.sent f (λ q. t.0 (sym q ∙ by)) ∙ R.from x b t.1) (at_set logs i x e' b there);
        senders = λ g c. ⊎_elim (λ (d : Contains R.sent g). few g d)
            (λ (d : f ≡ g). subst (λ (k : ℕ × ℕ). k.0 < k.1) (λ q. ((sym by ∙ ap sender d) q, sym (length-set logs i e') q)) (within logs i e at)) (Contains-push_cases R.sent f g c);
      };
      events = Send i place ∷ [];
      answers = WasSent number ∷ [];
      all_events = refl;
      all_answers = refl;
      runs_on = (new, turn, refl);
    }
      where
        emitted : (p : ℕ) × (get_elem? (site.emittable e.last.engagement) p ≡ some f)
        emitted = at_Contains (site.emittable e.last.engagement) f may

        place : ℕ
        place = suc emitted.0

        number : ℕ
        number = length (R.sent ++ f ∷ [])

        old : WorldState
        old = world_up (last_records logs) R.sent

        new : WorldState
        new = world_up (last_records (set logs i e')) (R.sent ++ f ∷ [])

        turn : Turns old (Send i place) (WasSent number) new
        turn = subst (λ (at : Maybe Standing). TurnsFrom at old (Send i place) (WasSent number) new) (sym before)
            (Up e'.last, (subst (λ (given : Maybe Frame). Sends given R.sent (WasSent number) (R.sent ++ f ∷ [])) (sym (found (site.emittable e.last.engagement) emitted.0 f emitted.1)) (refl, refl), ap (λ (r : Record). Up r) last), changed)

        nothing : (x : ℕ) → handed_by x (R.sent ++ f ∷ []) (Send i place) (WasSent number) ≡ []
        nothing x = by_site (i == x)
          where
            by_site : (b : Bool) → cond b (handed (WasSent number) None) [] ≡ []
            by_site true = refl
            by_site false = refl

        later : (x : ℕ) → handed_to x (R.sent ++ f ∷ []) (R.events ++ Send i place ∷ []) (R.answers ++ WasSent number ∷ []) ≡ handed_to x R.sent R.events R.answers
        later x = handed_more R.events R.answers x (R.sent ++ f ∷ []) (Send i place) (WasSent number) R.happened
            ∙ (λ k. handed_longer (world_up start []) old R.events R.answers x (f ∷ []) R.happened R.runs k ++ nothing x k)
            ∙ append-nil (handed_to x R.sent R.events R.answers)

pub runs_fit : RunsFit
runs_fit start logs R = run_fits start logs R

pub runs_stand : RunsStand
runs_stand start logs e R c = let p = at_Contains logs e c in run_stands start logs R p.0 e p.1
