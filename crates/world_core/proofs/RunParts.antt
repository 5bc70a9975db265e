-- What a run does at its sites are acts; and lists of acts go on.
use Rattle.std.proofs.Common.{◌≡◌, ◌⊎◌, ℕ, zero, suc, ◌<◌, Option, Some, None, List, [], ◌∷◌, ◌++◌, length, refl, sym, ◌∙◌, ap, subst, inl, inr, ⊎_elim, append_assoc, cond, Contains, slice_get, slice_set, arith}
use Rattle.std.proofs.lemmas.Bool.{cases_eq, eq-eqb, ne_eqb}
use Rattle.std.proofs.lemmas.List.{append-nil, length-set}
use Rattle.std.proofs.lemmas.List.Elements.{Contains-append_left, Contains-append_right, Contains-append_cases}
use Rattle.std.proofs.lemmas.Option.{same_Some}
use Rattle.std.specs.List.{AllByRecursion}
use Rattle.frame_core.specs.declared.frames.Frame.{Frame}
use Rattle.site_core.specs.Emitting.{emittable}
use Rattle.site_core.specs.Emitting as emitting
use Rattle.site_core.specs.Records.{Record}
use Rattle.site_core.specs.declared.inputs.SiteInput.{SiteInput}
use Rattle.site_core.specs.declared.inputs.SiteInput.TheVariants as inputs
use Rattle.keeper_core.specs.declared.faults.Keep.{Keep}
use Rattle.world_core.specs.declared.events.WorldInput.{WorldInput}
use Rattle.world_core.specs.declared.events.WorldInput.TheVariants.{Capture, Start, Deliver}
use Rattle.world_core.specs.declared.events.WorldEvent.{WorldEvent}
use Rattle.world_core.specs.declared.events.WorldEvent.TheVariants.{Step, Send, Stop, Reopen}
use Rattle.world_core.specs.declared.events.Answer.{Answer}
use Rattle.world_core.specs.declared.events.Answer.TheVariants.{Done, Fault, Sent, NoFrame, NoSite, Stopped, Reopened, NotReopened, NotClosed, NoMemory}
use Rattle.world_core.specs.KeptSteps.{StandsAfter}
use Rattle.world_core.specs.Parts.{Act, Given, Halted, Gave, Opened, Acts, AreActs, CameAfter, Deed, PartsGoOn, RunsAreParts, IsCarried, acts_at, came, came_in, gave, given_by, world_after}
use Rattle.world_core.specs.Turns.{Runs, Sends, Steps, Stops, TurnsAt, TurnsFrom, addressee, frame_at, input_at, input_of_frame, site_of}
use Rattle.world_core.specs.Worlds.{Standing, Up, Down, WorldState}
use Rattle.world_core.proofs.KeptSteps.{stands_append}

pub get_set : {X : Type 0} (xs : List X) (i : ℕ) (x y : X) → slice_get xs i ≡ Some x → slice_get (slice_set xs i y) i ≡ Some y
get_set [] i x y e = let n : None ≡ Some x = e in cc
get_set (z ∷ zs) zero x y e = refl
get_set (z ∷ zs) (suc i) x y e = get_set zs i x y e

pub get_set_other : {X : Type 0} (xs : List X) (i j : ℕ) (y : X) → (j ≡ i → ⊥) → slice_get (slice_set xs i y) j ≡ slice_get xs j
get_set_other [] i j y ne = refl
get_set_other (z ∷ zs) zero zero y ne = absurd (ne refl)
get_set_other (z ∷ zs) zero (suc j) y ne = refl
get_set_other (z ∷ zs) (suc i) zero y ne = refl
get_set_other (z ∷ zs) (suc i) (suc j) y ne = get_set_other zs i j y (λ e. ne (ap suc e))

pub at_place : {X : Type 0} (xs : List X) (i : ℕ) → i < length xs → (x : X) × (slice_get xs i ≡ Some x)
at_place [] i below = absurd (omega (arith, below))
at_place (x ∷ xs) zero below = (x, refl)
at_place (x ∷ xs) (suc i) below = at_place xs i (omega (arith, below))

pub there_still : (n m : ℕ) (deeds : List Deed) → m ≡ n → AllByRecursion (λ d. d.site < n) deeds → AllByRecursion (λ d. d.site < m) deeds
there_still n m deeds e h = subst (λ k. AllByRecursion (λ d. d.site < k) deeds) (sym e) h

pub acts_past : (d : Deed) (ds : List Deed) (site : ℕ) → (d.site ≡ site → ⊥) → acts_at site (d ∷ ds) ≡ acts_at site ds
acts_past d ds site ne = ap (λ b. cond b (d.act ∷ acts_at site ds) (acts_at site ds)) (ne_eqb d.site site ne)

pub acts_first : (d : Deed) (ds : List Deed) → acts_at d.site (d ∷ ds) ≡ d.act ∷ acts_at d.site ds
acts_first d ds = ap (λ b. cond b (d.act ∷ acts_at d.site ds) (acts_at d.site ds)) (eq-eqb d.site d.site refl)

-- One event.

-- it is an act of its site, or it leaves all as it was
IsActOrNone : Standing → List Frame → ℕ → Standing → List Frame → Type 0
IsActOrNone standing sent site changed now =
    ((act : Act) × Acts standing act changed × IsCarried site sent (came act) × (now ≡ sent ++ gave act)) ⊎ ((changed ≡ standing) × (now ≡ sent))

-- what was found for a site is for it, and was sent
frame_found : (sent : List Frame) (place : ℕ) (f : Frame) → frame_at sent place ≡ Some f → Contains sent f
frame_found sent zero f e = absurd (let n : None ≡ Some f = e in cc)
frame_found [] (suc place) f e = absurd (let n : None ≡ Some f = e in cc)
frame_found (x ∷ xs) (suc zero) f e = (0, omega arith, same_Some x f e)
frame_found (x ∷ xs) (suc (suc place)) f e = let more = frame_found xs (suc place) f e in let below = more.1 in (suc more.0, omega arith, more.2)

carried_frame : (sent : List Frame) (site : ℕ) (found : Option Frame) (input : SiteInput) → ((f : Frame) → found ≡ Some f → Contains sent f) → input_of_frame site found ≡ Some input → IsCarried site sent (came_in input)
carried_frame sent site None input known e = absurd (let n : None ≡ Some input = e in cc)
carried_frame sent site (Some f) input known e = elim (cases_eq (addressee f) site) as (λ _. IsCarried site sent (came_in input)) [
  | inl same ↦
      let is : Some (inputs.Deliver f) ≡ Some input = ap (λ b. cond b (Some (inputs.Deliver f)) None) (sym (eq-eqb (addressee f) site same)) ∙ e in
      subst (λ i. IsCarried site sent (came_in i)) (same_Some (inputs.Deliver f) input is) (same, known f refl)
  | inr ne ↦
      let is : None ≡ Some input = ap (λ b. cond b (Some (inputs.Deliver f)) None) (sym (ne_eqb (addressee f) site ne)) ∙ e in
      absurd (let n : None ≡ Some input = is in cc)
]

carried : (sent : List Frame) (site : ℕ) (told : WorldInput) (input : SiteInput) → input_at sent site told ≡ Some input → IsCarried site sent (came_in input)
carried sent site (Capture bytes) input e = subst (λ i. IsCarried site sent (came_in i)) (same_Some (inputs.Capture bytes) input e) tt
carried sent site (Start root) input e = subst (λ i. IsCarried site sent (came_in i)) (same_Some (inputs.Start root) input e) tt
carried sent site (Deliver place) input e = carried_frame sent site (frame_at sent place) input (λ f is. frame_found sent place f is) e

emitted_found : (r : Record) (place : ℕ) (f : Frame) → emitting.frame_at r.engagement place ≡ Some f → Contains (emittable r.engagement) f
emitted_found r zero f e = absurd (let n : None ≡ Some f = e in cc)
emitted_found r (suc place) f e = frame_found (emittable r.engagement) (suc place) f e

step_acts : (r : Record) (sent : List Frame) (site : ℕ) (found : Option SiteInput) (answer : Answer) (changed : Standing) (now : List Frame) → ((input : SiteInput) → found ≡ Some input → IsCarried site sent (came_in input))
    → Steps r found answer changed → now ≡ sent → IsActOrNone (Up r) sent site changed now
unfolding IsActOrNone
step_acts r sent site (Some input) answer changed now known h same = inl (Given input answer, h, known input refl, same ∙ sym (append-nil sent))
step_acts r sent site None NoFrame changed now known h same = inr (h, same)
step_acts r sent site None (Done effects) changed now known h same = absurd h
step_acts r sent site None (Fault why) changed now known h same = absurd h
step_acts r sent site None NoMemory changed now known h same = absurd h
step_acts r sent site None (Sent at) changed now known h same = absurd h
step_acts r sent site None NoSite changed now known h same = absurd h
step_acts r sent site None Stopped changed now known h same = absurd h
step_acts r sent site None Reopened changed now known h same = absurd h
step_acts r sent site None (NotReopened why) changed now known h same = absurd h
step_acts r sent site None NotClosed changed now known h same = absurd h

stop_acts : (r : Record) (sent : List Frame) (site : ℕ) (found : Option SiteInput) (keep : Keep) (answer : Answer) (changed : Standing) (now : List Frame) → ((input : SiteInput) → found ≡ Some input → IsCarried site sent (came_in input))
    → Stops r found keep answer changed → now ≡ sent → IsActOrNone (Up r) sent site changed now
unfolding IsActOrNone
stop_acts r sent site (Some input) keep answer changed now known h same = inl (Halted input keep answer, h, known input refl, same ∙ sym (append-nil sent))
stop_acts r sent site None keep NoFrame changed now known h same = inr (h, same)
stop_acts r sent site None keep (Done effects) changed now known h same = absurd h
stop_acts r sent site None keep (Fault why) changed now known h same = absurd h
stop_acts r sent site None keep NoMemory changed now known h same = absurd h
stop_acts r sent site None keep (Sent at) changed now known h same = absurd h
stop_acts r sent site None keep NoSite changed now known h same = absurd h
stop_acts r sent site None keep Stopped changed now known h same = absurd h
stop_acts r sent site None keep Reopened changed now known h same = absurd h
stop_acts r sent site None keep (NotReopened why) changed now known h same = absurd h
stop_acts r sent site None keep NotClosed changed now known h same = absurd h

send_acts : (r : Record) (sent : List Frame) (site : ℕ) (found : Option Frame) (answer : Answer) (changed : Standing) (now : List Frame) → ((f : Frame) → found ≡ Some f → Contains (emittable r.engagement) f)
    → Sends found sent answer now → changed ≡ Up r → IsActOrNone (Up r) sent site changed now
unfolding IsActOrNone
send_acts r sent site (Some f) (Sent place) changed now known h same = inl (Gave f, (known f refl, same), tt, h.0)
send_acts r sent site (Some f) NoMemory changed now known h same = inr (same, h)
send_acts r sent site None NoFrame changed now known h same = inr (same, h)
send_acts r sent site (Some f) (Done effects) changed now known h same = absurd h
send_acts r sent site (Some f) (Fault why) changed now known h same = absurd h
send_acts r sent site (Some f) NoFrame changed now known h same = absurd h
send_acts r sent site (Some f) NoSite changed now known h same = absurd h
send_acts r sent site (Some f) Stopped changed now known h same = absurd h
send_acts r sent site (Some f) Reopened changed now known h same = absurd h
send_acts r sent site (Some f) (NotReopened why) changed now known h same = absurd h
send_acts r sent site (Some f) NotClosed changed now known h same = absurd h
send_acts r sent site None (Done effects) changed now known h same = absurd h
send_acts r sent site None (Fault why) changed now known h same = absurd h
send_acts r sent site None NoMemory changed now known h same = absurd h
send_acts r sent site None (Sent at) changed now known h same = absurd h
send_acts r sent site None NoSite changed now known h same = absurd h
send_acts r sent site None Stopped changed now known h same = absurd h
send_acts r sent site None Reopened changed now known h same = absurd h
send_acts r sent site None (NotReopened why) changed now known h same = absurd h
send_acts r sent site None NotClosed changed now known h same = absurd h

turn_acts : (standing : Standing) (sent : List Frame) (event : WorldEvent) (answer : Answer) (changed : Standing) (now : List Frame) → TurnsAt standing sent event answer changed now → IsActOrNone standing sent (site_of event) changed now
unfolding IsActOrNone
turn_acts (Up r) sent (Step at told) answer changed now h = step_acts r sent at (input_at sent at told) answer changed now (λ input e. carried sent at told input e) h.0 h.1
turn_acts (Up r) sent (Stop at told keep) answer changed now h = stop_acts r sent at (input_at sent at told) keep answer changed now (λ input e. carried sent at told input e) h.0 h.1
turn_acts (Up r) sent (Send at place) answer changed now h = send_acts r sent at (emitting.frame_at r.engagement place) answer changed now (λ f e. emitted_found r place f e) h.0 h.1
turn_acts (Up r) sent (Reopen at) answer changed now h = inr (h.1, h.2)
turn_acts (Down r) sent (Reopen at) answer changed now h = inl (Opened answer, h.0, tt, h.1 ∙ sym (append-nil sent))
turn_acts (Down r) sent (Step at told) answer changed now h = inr (h.1, h.2)
turn_acts (Down r) sent (Stop at told keep) answer changed now h = inr (h.1, h.2)
turn_acts (Down r) sent (Send at place) answer changed now h = inr (h.1, h.2)

-- One after another.

set_same : {X : Type 0} (xs : List X) (i : ℕ) (x : X) → slice_get xs i ≡ Some x → slice_set xs i x ≡ xs
set_same [] i x e = absurd (let n : None ≡ Some x = e in cc)
set_same (y ∷ ys) zero x e = ap (λ z. z ∷ ys) (sym (same_Some y x e))
set_same (y ∷ ys) (suc i) x e = ap (λ zs. y ∷ zs) (set_same ys i x e)

pub in_place : {X : Type 0} (xs : List X) (i : ℕ) (x : X) → slice_get xs i ≡ Some x → i < length xs
in_place [] i x e = absurd (let n : None ≡ Some x = e in cc)
in_place (y ∷ ys) zero x e = omega arith
in_place (y ∷ ys) (suc i) x e = let more = in_place ys i x e in omega (arith, more)

-- an act of one site, and then others, of all sites
pub one_more_act : (old : List Standing) (site : ℕ) (was : Standing) (act : Act) (changed : Standing) (ds : List Deed) (new : List Standing) → slice_get old site ≡ Some was → Acts was act changed → AreActs (slice_set old site changed) ds new
    → AreActs old (record { site = site; act = act } ∷ ds) new
one_more_act old site was act changed ds new at acts are =
    let d : Deed = record { site = site; act = act } in
    let count : length (slice_set old site changed) ≡ length old = length-set old site changed in
    let set = get_set old site was changed at in
    record {
      count = are.count ∙ count;
      there = (in_place old site was at, there_still (length (slice_set old site changed)) (length old) ds (sym count) are.there);
      each = λ place then' last here end. elim (cases_eq site place) as (λ _. StandsAfter Acts then' (acts_at place (d ∷ ds)) last) [
        | inl e ↦
            let is : was ≡ then' = same_Some was then' (sym at ∙ ap (λ i. slice_get old i) e ∙ here) in
            let rest : StandsAfter Acts changed (acts_at site ds) last = are.each site changed last set (ap (λ i. slice_get new i) e ∙ end) in
            let own : StandsAfter Acts was (act ∷ acts_at site ds) last = (changed, acts, rest) in
            subst (λ i. StandsAfter Acts then' (acts_at i (d ∷ ds)) last) e (subst (λ s. StandsAfter Acts s (acts_at site (d ∷ ds)) last) is (subst (λ l. StandsAfter Acts was l last) (sym (acts_first d ds)) own))
        | inr ne ↦ subst (λ l. StandsAfter Acts then' l last) (sym (acts_past d ds place ne))
            (are.each place then' last (get_set_other old site place changed (λ e. ne (sym e)) ∙ here) end)
      ];
    }

pub no_acts : (sites : List Standing) → AreActs sites [] sites
no_acts sites = record { count = refl; there = tt; each = λ site was now at end. sym (same_Some was now (sym at ∙ end)) }

IsParted : WorldState → WorldState → Type 0
IsParted old new = (deeds : List Deed) × AreActs old.sites deeds new.sites × CameAfter old.sent deeds × (new ≡ world_after old deeds new.sites)

go_on_with : (old mid new : WorldState) → mid.sites ≡ old.sites → mid.sent ≡ old.sent → IsParted mid new → IsParted old new
unfolding IsParted
go_on_with old mid new sites sent (ds, are, came, is) = (
  ds,
  subst (λ (l : List Standing). AreActs l ds new.sites) sites are,
  subst (λ (l : List Frame). CameAfter l ds) sent came,
  is ∙ ap (λ (l : List Frame). record { sites = new.sites; sent = l ++ given_by ds }) sent,
)

go_on_by : (old mid new : WorldState) (site : ℕ) (was changed : Standing) → slice_get old.sites site ≡ Some was → mid.sites ≡ slice_set old.sites site changed → IsActOrNone was old.sent site changed mid.sent → IsParted mid new → IsParted old new
unfolding IsParted IsActOrNone
go_on_by old mid new site was changed at sites (inr (same, sent)) rest =
    go_on_with old mid new (sites ∙ ap (slice_set old.sites site) same ∙ set_same old.sites site was at) sent rest
go_on_by old mid new site was changed at sites (inl (act, acts, carried', sent)) (ds, are, came, is) =
    let d : Deed = record { site = site; act = act } in (
      d ∷ ds,
      one_more_act old.sites site was act changed ds new.sites at acts (subst (λ (l : List Standing). AreActs l ds new.sites) sites are),
      (carried', subst (λ (l : List Frame). CameAfter l ds) sent came),
      is ∙ ap (λ (l : List Frame). record { sites = new.sites; sent = l ++ given_by ds }) sent
          ∙ ap (λ (l : List Frame). record { sites = new.sites; sent = l }) (append_assoc old.sent (gave act) (given_by ds)),
    )

parted_from : (found : Option Standing) (old mid new : WorldState) (event : WorldEvent) (answer : Answer) → slice_get old.sites (site_of event) ≡ found → TurnsFrom found old event answer mid → IsParted mid new → IsParted old new
parted_from None old mid new event answer at h rest = go_on_with old mid new (ap (λ w. w.sites) h.1) (ap (λ w. w.sent) h.1) rest
parted_from (Some was) old mid new event answer at (changed, turn, sites) rest =
    go_on_by old mid new (site_of event) was changed at sites (turn_acts was old.sent event answer changed mid.sent turn) rest

parted : (old : WorldState) (events : List WorldEvent) (answers : List Answer) (new : WorldState) → Runs old events answers new → IsParted old new
unfolding IsParted
parted old [] [] new same = (
  [],
  subst (λ (w : WorldState). AreActs old.sites [] w.sites) (sym same) (no_acts old.sites),
  tt,
  same ∙ ap (λ (l : List Frame). record { sites = old.sites; sent = l }) (sym (append-nil old.sent)) ∙ ap (λ (l : List Standing). world_after old [] l) (sym (ap (λ w. w.sites) same)),
)
parted old (event ∷ events) (answer ∷ answers) new (mid, turn, rest) =
    parted_from (slice_get old.sites (site_of event)) old mid new event answer refl turn (parted mid events answers new rest)
parted old [] (answer ∷ answers) new h = absurd h
parted old (event ∷ events) [] new h = absurd h

pub runs_are_parts : RunsAreParts
unfolding IsParted
runs_are_parts old events answers new runs = parted old events answers new runs

-- Acts that go on.

acts_of_both : (site : ℕ) (first more : List Deed) → acts_at site (first ++ more) ≡ acts_at site first ++ acts_at site more
acts_of_both site [] more = refl
acts_of_both site (d ∷ ds) more = elim (cases_eq d.site site) as (λ _. acts_at site (d ∷ ds ++ more) ≡ acts_at site (d ∷ ds) ++ acts_at site more) [
  | inl e ↦
      subst (λ i. acts_at i (d ∷ ds ++ more) ≡ acts_at i (d ∷ ds) ++ acts_at i more) e
      (acts_first d (ds ++ more) ∙ ap (λ l. d.act ∷ l) (acts_of_both d.site ds more) ∙ ap (λ l. l ++ acts_at d.site more) (sym (acts_first d ds)))
  | inr ne ↦ acts_past d (ds ++ more) site ne ∙ acts_of_both site ds more ∙ ap (λ l. l ++ acts_at site more) (sym (acts_past d ds site ne))
]

all_there : {X : Type 0} (P : X → Type 0) (xs ys : List X) → AllByRecursion P xs → AllByRecursion P ys → AllByRecursion P (xs ++ ys)
all_there P [] ys h k = k
all_there P (x ∷ xs) ys h k = (h.0, all_there P xs ys h.1 k)

acts_go_on : (old mid new : List Standing) (first more : List Deed) → AreActs old first mid → AreActs mid more new → AreActs old (first ++ more) new
acts_go_on old mid new first more are then' = record {
  count = then'.count ∙ are.count;
  there = all_there (λ (d : Deed). d.site < length old) first more are.there (there_still (length mid) (length old) more (sym are.count) then'.there);
  each = λ site was now at end.
      let below = in_place old site was at in
      let half = at_place mid site (subst (λ n. site < n) (sym are.count) below) in
      subst (λ l. StandsAfter Acts was l now) (sym (acts_of_both site first more))
      (stands_append Acts (acts_at site first) (acts_at site more) was half.0 now (are.each site was half.0 at half.1) (then'.each site half.0 now half.1 end));
}

came_both : (sent : List Frame) (first more : List Deed) → CameAfter sent first → CameAfter (sent ++ given_by first) more → CameAfter sent (first ++ more)
came_both sent [] more h k = subst (λ (l : List Frame). CameAfter l more) (append-nil sent) k
came_both sent (d ∷ ds) more h k = (h.0, came_both (sent ++ gave d.act) ds more h.1 (subst (λ (l : List Frame). CameAfter l more) (sym (append_assoc sent (gave d.act) (given_by ds))) k))

pub parts_go_on : PartsGoOn
parts_go_on old mid new sent first more are came then' came_then = (acts_go_on old mid new first more are then', came_both sent first more came came_then)

-- More frames carry as well.
carried_more : (site : ℕ) (sent more : List Frame) (frame : Option Frame) → ((f : Frame) → Contains sent f → Contains more f) → IsCarried site sent frame → IsCarried site more frame
carried_more site sent more None among h = tt
carried_more site sent more (Some frame) among h = (h.0, among frame h.1)

pub came_more : (sent more : List Frame) (deeds : List Deed) → ((f : Frame) → Contains sent f → Contains more f) → CameAfter sent deeds → CameAfter more deeds
came_more sent more [] among h = tt
came_more sent more (d ∷ ds) among h = (
  carried_more d.site sent more (came d.act) among h.0,
  came_more (sent ++ gave d.act) (more ++ gave d.act) ds
      (λ f c. ⊎_elim (λ a. Contains-append_left more (gave d.act) f (among f a)) (λ b. Contains-append_right more (gave d.act) f b) (Contains-append_cases sent (gave d.act) f c)) h.1,
)
