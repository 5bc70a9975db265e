-- Each site stands as its kept steps: an induction over the run, with one lemma for each kind of event.
use Rattle.std.proofs.Common.{◌≡◌, ℕ, zero, suc, ◌==◌, Bool, true, false, Option, Some, None, List, [], ◌∷◌, ◌++◌, length, map, refl, sym, ◌∙◌, ap, subst, inl, inr, ⊎_elim, append_assoc, cond, slice_get, slice_set}
use Rattle.std.proofs.lemmas.Bool.{cases_eq, eq-eqb, ne_eqb}
use Rattle.std.proofs.lemmas.List.{append-nil, length-set}
use Rattle.std.specs.Option.{option_map}
use Rattle.std.proofs.lemmas.Option.{same_Some, slice_get-map}
use Rattle.frame_core.specs.declared.frames.Frame.{Frame}
use Rattle.site_core.specs.Emitting as emitting
use Rattle.site_core.specs.Records.{Record}
use Rattle.site_core.specs.declared.inputs.SiteInput.{SiteInput}
use Rattle.keeper_core.specs.declared.faults.Keep.{Keep}
use Rattle.keeper_core.specs.declared.faults.Keep.TheVariants.{Old, New}
use Rattle.keeper_core.specs.declared.faults.KeepFault.TheVariants.{Refused, Device, Store}
use Rattle.keeper_core.specs.Keeping.{IsAfter}
use Rattle.world_core.specs.declared.events.WorldInput.{WorldInput}
use Rattle.world_core.specs.declared.events.WorldInput.TheVariants.{Capture, Start, Deliver}
use Rattle.world_core.specs.declared.events.WorldEvent.{WorldEvent}
use Rattle.world_core.specs.declared.events.WorldEvent.TheVariants.{Step, Send, Stop, Reopen}
use Rattle.world_core.specs.declared.events.Answer.{Answer}
use Rattle.world_core.specs.declared.events.Answer.TheVariants.{Done, Fault, Sent, NoFrame, NoSite, Stopped, Reopened, NotReopened, NoMemory}
use Rattle.world_core.specs.Worlds.{Standing, Up, Down, WorldState, record_of, records}
use Rattle.world_core.specs.Turns.{site_of, input_at, input_of_frame, frame_at, GoesDown, Steps, Stops, Sends, Reopens, TurnsAt, TurnsFrom, Turns, Runs}
use Rattle.world_core.specs.KeptSteps.{LeadsOn, Handed, Answered, Broken, StandsAfter, SitesStand, input_told, handed, handed_to}

-- One place of a list.

get_kept : {X : Type 0} (xs more : List X) (i : ℕ) (x : X) → slice_get xs i ≡ Some x → slice_get (xs ++ more) i ≡ Some x
get_kept [] more i x e = let n : None ≡ Some x = e in cc
get_kept (y ∷ ys) more zero x e = e
get_kept (y ∷ ys) more (suc i) x e = get_kept ys more i x e

get_set : {X : Type 0} (xs : List X) (i : ℕ) (x y : X) → slice_get xs i ≡ Some x → slice_get (slice_set xs i y) i ≡ Some y
get_set [] i x y e = let n : None ≡ Some x = e in cc
get_set (z ∷ zs) zero x y e = refl
get_set (z ∷ zs) (suc i) x y e = get_set zs i x y e

get_set_other : {X : Type 0} (xs : List X) (i j : ℕ) (y : X) → (j ≡ i → ⊥) → slice_get (slice_set xs i y) j ≡ slice_get xs j
get_set_other [] i j y ne = refl
get_set_other (z ∷ zs) zero zero y ne = absurd (ne refl)
get_set_other (z ∷ zs) zero (suc j) y ne = refl
get_set_other (z ∷ zs) (suc i) zero y ne = refl
get_set_other (z ∷ zs) (suc i) (suc j) y ne = get_set_other zs i j y (λ e. ne (ap suc e))

-- Frames stay in their places.

frame_kept : (sent more : List Frame) (place : ℕ) (frame : Frame) → frame_at sent place ≡ Some frame → frame_at (sent ++ more) place ≡ Some frame
frame_kept sent more zero frame e = e
frame_kept sent more (suc place) frame e = get_kept sent more place frame e

delivered_kept : (sent more : List Frame) (site place : ℕ) (found : Option Frame) (input : SiteInput) → frame_at sent place ≡ found → input_of_frame site found ≡ Some input → input_of_frame site (frame_at (sent ++ more) place) ≡ Some input
delivered_kept sent more site place None input f e = let h : None ≡ Some input = e in cc
delivered_kept sent more site place (Some frame) input f e = subst (λ o. input_of_frame site o ≡ Some input) (sym (frame_kept sent more place frame f)) e

input_kept : (sent more : List Frame) (site : ℕ) (told : WorldInput) (input : SiteInput) → input_at sent site told ≡ Some input → input_at (sent ++ more) site told ≡ Some input
input_kept sent more site (Capture bytes) input e = e
input_kept sent more site (Start root) input e = e
input_kept sent more site (Deliver place) input e = delivered_kept sent more site place (frame_at sent place) input refl e

-- One event at its site: what was found then is found in the end.

module _ (old : Record) where
  down_kept : (input : SiteInput) (new : Standing) → GoesDown old input new → StandsAfter LeadsOn old (Broken input ∷ []) (record_of new)
  down_kept input new h = (record_of new, ⊎_elim (λ e. inl (ap record_of e)) (λ a. inr (subst (λ (r : Record). IsAfter old input r) (sym (ap record_of a.2)) a.1)) h, refl)

  step_kept : (found last : Option SiteInput) (answer : Answer) (new : Standing) → ((input : SiteInput) → found ≡ Some input → last ≡ Some input) → Steps old found answer new → StandsAfter LeadsOn old (handed answer last) (record_of new)
  step_kept (Some input) last (Done effects) new k h = subst (λ l. StandsAfter LeadsOn old (handed (Done effects) l) (record_of new)) (sym (k input refl)) (h.0, h.1, ap record_of h.2)
  step_kept (Some input) last (Fault (Refused why)) new k h = ap record_of h.1
  step_kept (Some input) last (Fault Device) new k h = subst (λ l. StandsAfter LeadsOn old (handed (Fault Device) l) (record_of new)) (sym (k input refl)) (down_kept input new h)
  step_kept (Some input) last (Fault Store) new k h = subst (λ l. StandsAfter LeadsOn old (handed (Fault Store) l) (record_of new)) (sym (k input refl)) (down_kept input new h)
  step_kept (Some input) last NoMemory new k h = ap record_of h
  step_kept None last NoFrame new k h = ap record_of h
  step_kept found last answer new k h = absurd h

  stop_kept : (found last : Option SiteInput) (keep : Keep) (answer : Answer) (new : Standing) → ((input : SiteInput) → found ≡ Some input → last ≡ Some input) → Stops old found keep answer new → StandsAfter LeadsOn old (handed answer last) (record_of new)
  stop_kept (Some input) last Old Stopped new k h = subst (λ l. StandsAfter LeadsOn old (handed Stopped l) (record_of new)) (sym (k input refl)) (record_of new, inl (ap record_of h), refl)
  stop_kept (Some input) last New Stopped new k h = subst (λ l. StandsAfter LeadsOn old (handed Stopped l) (record_of new)) (sym (k input refl)) (down_kept input new h)
  stop_kept (Some input) last Old NoMemory new k h = ap record_of h
  stop_kept (Some input) last New NoMemory new k h = ap record_of h
  stop_kept None last Old NoFrame new k h = ap record_of h
  stop_kept None last New NoFrame new k h = ap record_of h
  stop_kept found last keep answer new k h = absurd h

  -- nothing is given by the other events
  none_kept : (answer : Answer) (new : Record) → new ≡ old → StandsAfter LeadsOn old (handed answer None) new
  none_kept (Done effects) new h = h
  none_kept (Fault Device) new h = h
  none_kept (Fault Store) new h = h
  none_kept Stopped new h = h
  none_kept answer new h = h

reopen_same : (old : Record) (answer : Answer) (new : Standing) → Reopens old answer new → record_of new ≡ old
reopen_same old Reopened new h = ap record_of h
reopen_same old (NotReopened Device) new h = ap record_of h
reopen_same old (NotReopened Store) new h = ap record_of h
reopen_same old NoMemory new h = ap record_of h
reopen_same old answer new h = absurd h

turn_kept : (old : Standing) (sent more : List Frame) (event : WorldEvent) (answer : Answer) (new : Standing) (now : List Frame) → TurnsAt old sent event answer new now → StandsAfter LeadsOn (record_of old) (handed answer (input_told (sent ++ more) event)) (record_of new)
turn_kept (Up r) sent more (Step site told) answer new now h = step_kept r (input_at sent site told) _ answer new (input_kept sent more site told) h.0
turn_kept (Up r) sent more (Stop site told keep) answer new now h = stop_kept r (input_at sent site told) _ keep answer new (input_kept sent more site told) h.0
turn_kept (Up r) sent more (Send site place) answer new now h = none_kept r answer (record_of new) (ap record_of h.1)
turn_kept (Up r) sent more (Reopen site) answer new now h = none_kept r answer (record_of new) (ap record_of h.1)
turn_kept (Down r) sent more (Reopen site) answer new now h = none_kept r answer (record_of new) (reopen_same r answer new h.0)
turn_kept (Down r) sent more (Step site told) answer new now h = subst (λ a. StandsAfter LeadsOn r (handed a (input_at (sent ++ more) site told)) (record_of new)) (sym h.0) (ap record_of h.1)
turn_kept (Down r) sent more (Stop site told keep) answer new now h = subst (λ a. StandsAfter LeadsOn r (handed a (input_at (sent ++ more) site told)) (record_of new)) (sym h.0) (ap record_of h.1)
turn_kept (Down r) sent more (Send site place) answer new now h = none_kept r answer (record_of new) (ap record_of h.1)

-- What was sent before is sent.

sends_more : (found : Option Frame) (sent : List Frame) (answer : Answer) (now : List Frame) → Sends found sent answer now → (more : List Frame) × (now ≡ sent ++ more)
sends_more (Some frame) sent (Sent place) now h = (frame ∷ [], h.0)
sends_more (Some frame) sent NoMemory now h = ([], h ∙ sym (append-nil sent))
sends_more None sent NoFrame now h = ([], h ∙ sym (append-nil sent))
sends_more found sent answer now h = absurd h

sent_more : (old : Standing) (sent : List Frame) (event : WorldEvent) (answer : Answer) (new : Standing) (now : List Frame) → TurnsAt old sent event answer new now → (more : List Frame) × (now ≡ sent ++ more)
sent_more (Up r) sent (Step site told) answer new now h = ([], h.1 ∙ sym (append-nil sent))
sent_more (Up r) sent (Stop site told keep) answer new now h = ([], h.1 ∙ sym (append-nil sent))
sent_more (Up r) sent (Send site place) answer new now h = sends_more (emitting.frame_at r.engagement place) sent answer now h.0
sent_more (Up r) sent (Reopen site) answer new now h = ([], h.2 ∙ sym (append-nil sent))
sent_more (Down r) sent (Reopen site) answer new now h = ([], h.1 ∙ sym (append-nil sent))
sent_more (Down r) sent (Step site told) answer new now h = ([], h.2 ∙ sym (append-nil sent))
sent_more (Down r) sent (Stop site told keep) answer new now h = ([], h.2 ∙ sym (append-nil sent))
sent_more (Down r) sent (Send site place) answer new now h = ([], h.2 ∙ sym (append-nil sent))

-- One event at any site.

-- from the record r the site comes, by these inputs, to the record that it has in the new world
abbrev Comes : ℕ → Record → List Handed → WorldState → Type 0
Comes site r inputs new = (s : Record) × (slice_get (records new) site ≡ Some s) × StandsAfter LeadsOn r inputs s

-- what one event does to the sites, and to what was sent
record Kept (old : WorldState) (event : WorldEvent) (answer : Answer) (new : WorldState) : Type 0 where
  sites : length new.sites ≡ length old.sites
  more : List Frame
  sent : new.sent ≡ old.sent ++ more
  stands : (site : ℕ) (r : Record) (rest : List Frame) → slice_get (records old) site ≡ Some r → Comes site r (cond (site_of event == site) (handed answer (input_told (old.sent ++ rest) event)) []) new

-- where there is no such site nothing is given to one
no_site_kept : (old : Record) (found : Option SiteInput) (b : Bool) → StandsAfter LeadsOn old (cond b (handed NoSite found) []) old
no_site_kept old found true = refl
no_site_kept old found false = refl

record_there : (sites : List Standing) (site : ℕ) (standing : Standing) → slice_get sites site ≡ Some standing → slice_get (map record_of sites) site ≡ Some (record_of standing)
record_there sites site standing e = slice_get-map record_of sites site ∙ ap (option_map record_of) e

kept_from : (found : Option Standing) (old new : WorldState) (event : WorldEvent) (answer : Answer) → slice_get old.sites (site_of event) ≡ found → TurnsFrom found old event answer new → Kept old event answer new
kept_from None old new event answer e h = record {
  sites = ap (λ w. length w.sites) h.1;
  more = [];
  sent = ap (λ w. w.sent) h.1 ∙ sym (append-nil old.sent);
  stands = λ site r rest at. (
    r,
    ap (λ w. slice_get (records w) site) h.1 ∙ at,
    subst (λ a. StandsAfter LeadsOn r (cond (site_of event == site) (handed a (input_told (old.sent ++ rest) event)) []) r) (sym h.0) (no_site_kept r (input_told (old.sent ++ rest) event) (site_of event == site)),
  );
}
kept_from (Some standing) old new event answer e (changed, turns, is) =
    let place = site_of event in
    let m = sent_more standing old.sent event answer changed new.sent turns in
    record {
      sites = ap length is ∙ length-set old.sites place changed;
      more = m.0;
      sent = m.1;
      stands = λ site r rest at.
          let told = handed answer (input_told (old.sent ++ rest) event) in
          ⊎_elim
          (λ same.
          let was : record_of standing ≡ r = same_Some (record_of standing) r (sym (record_there old.sites place standing e) ∙ subst (λ s. slice_get (records old) s ≡ Some r) same at) in
          let now : slice_get (records new) site ≡ Some (record_of changed) =
          subst (λ s. slice_get (records new) s ≡ Some (record_of changed)) (sym same) (record_there new.sites place changed (ap (λ l. slice_get l place) is ∙ get_set old.sites place standing changed e)) in
          let kept : StandsAfter LeadsOn (record_of standing) told (record_of changed) = turn_kept standing old.sent rest event answer changed new.sent turns in
          (record_of changed, now, subst (λ b. StandsAfter LeadsOn r (cond b told []) (record_of changed)) (sym (eq-eqb place site (sym same))) (subst (λ q. StandsAfter LeadsOn q told (record_of changed)) was kept)))
          (λ ne.
          let now : slice_get (records new) site ≡ Some r =
          slice_get-map record_of new.sites site ∙ ap (option_map record_of) (ap (λ l. slice_get l site) is ∙ get_set_other old.sites place site changed ne) ∙ sym (slice_get-map record_of old.sites site) ∙ at in
          (r, now, subst (λ b. StandsAfter LeadsOn r (cond b told []) r) (sym (ne_eqb place site (λ e. ne (sym e)))) refl))
          (cases_eq site place);
    }

turn_kept_all : (old new : WorldState) (event : WorldEvent) (answer : Answer) → Turns old event answer new → Kept old event answer new
turn_kept_all old new event answer h = kept_from (slice_get old.sites (site_of event)) old new event answer refl h

-- A run.

module _ {R S : Type 0} (step : R → S → R → Type 0) where
  pub stands_append : (xs ys : List S) (a b c : R) → StandsAfter step a xs b → StandsAfter step b ys c → StandsAfter step a (xs ++ ys) c
  stands_append [] ys a b c h k = subst (λ (r : R). StandsAfter step r ys c) h k
  stands_append (x ∷ xs) ys a b c h k = (h.0, h.1, stands_append xs ys h.0 b c h.2 k)

pub frames_stay : (old new : WorldState) (events : List WorldEvent) (answers : List Answer) → Runs old events answers new → (more : List Frame) × (new.sent ≡ old.sent ++ more)
frames_stay old new [] [] h = ([], ap (λ w. w.sent) h ∙ sym (append-nil old.sent))
frames_stay old new (event ∷ events) (answer ∷ answers) h =
    let k = turn_kept_all old h.0 event answer h.1 in
    let r = frames_stay h.0 new events answers h.2 in
    (k.more ++ r.0, r.1 ∙ (ap (λ f. f ++ r.0) k.sent ∙ append_assoc old.sent k.more r.0))
frames_stay old new [] (answer ∷ answers) h = absurd h
frames_stay old new (event ∷ events) [] h = absurd h

sites_stay : (old new : WorldState) (events : List WorldEvent) (answers : List Answer) → Runs old events answers new → length new.sites ≡ length old.sites
sites_stay old new [] [] h = ap (λ w. length w.sites) h
sites_stay old new (event ∷ events) (answer ∷ answers) h = sites_stay h.0 new events answers h.2 ∙ (turn_kept_all old h.0 event answer h.1).sites
sites_stay old new [] (answer ∷ answers) h = absurd h
sites_stay old new (event ∷ events) [] h = absurd h

run_kept : (old new : WorldState) (events : List WorldEvent) (answers : List Answer) (site : ℕ) (r : Record) (last rest : List Frame) → last ≡ new.sent ++ rest → Runs old events answers new → slice_get (records old) site ≡ Some r → Comes site r (handed_to site last events answers) new
run_kept old new [] [] site r last rest e h at = (r, ap (λ w. slice_get (records w) site) h ∙ at, refl)
run_kept old new (event ∷ events) (answer ∷ answers) site r last rest e h at =
    let k = turn_kept_all old h.0 event answer h.1 in
    let f = frames_stay h.0 new events answers h.2 in
    let more = k.more ++ (f.0 ++ rest) in
    let whole : last ≡ old.sent ++ more =
    e ∙ (ap (λ l. l ++ rest) f.1 ∙ (append_assoc h.0.sent f.0 rest ∙ (ap (λ l. l ++ (f.0 ++ rest)) k.sent ∙ append_assoc old.sent k.more (f.0 ++ rest)))) in
    let first : Comes site r (cond (site_of event == site) (handed answer (input_told last event)) []) h.0 =
    subst (λ l. Comes site r (cond (site_of event == site) (handed answer (input_told l event)) []) h.0) (sym whole) (k.stands site r more at) in
    let next = run_kept h.0 new events answers site first.0 last rest e h.2 first.1 in
    (next.0, next.1, stands_append LeadsOn (cond (site_of event == site) (handed answer (input_told last event)) []) (handed_to site last events answers) r first.0 next.0 first.2 next.2)
run_kept old new [] (answer ∷ answers) site r last rest e h at = absurd h
run_kept old new (event ∷ events) [] site r last rest e h at = absurd h

pub sites_stand : (old new : WorldState) (events : List WorldEvent) (answers : List Answer) → Runs old events answers new → SitesStand old events answers new
sites_stand old new events answers h = record {
  count = sites_stay old new events answers h;
  each = λ site r at.
      let k = run_kept old new events answers site r new.sent [] (sym (append-nil new.sent)) h at in
      record { now = k.0; there = k.1; kept = k.2 };
}
