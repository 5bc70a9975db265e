-- What the lines of a script do to their world is a run of events.
use Rattle.std.proofs.Common.{◌≡◌, inl, inr, ℕ, zero, suc, ◌+◌, ◌≤◌, ◌==◌, Bool, true, false, if◌then◌else◌, List, [], ◌∷◌, ◌++◌, length, map, refl, sym, ap, ◌∙◌, subst, arith, Option, Some, None, Result, Ok, Err, nat_le}
use Rattle.std.specs.Prelude.{⊤, slice_get, slice_set, option_and_then}
use Rattle.std.specs.List.{range_with_len}
use Rattle.std.specs.Str.Lines.{lines}
use Rattle.std.proofs.lemmas.Bool.{eq-eqb, leb-true}
use Rattle.std.proofs.lemmas.List.{set-get_or}
use Rattle.std.proofs.lemmas.Option.{get_or_from_slice_get}
use Rattle.epc_core.specs.declared.items.EpcFault.{EpcFault}
use Rattle.epc_core.specs.Reading.{reading}
use Rattle.event_json.specs.Sites.{Site, named, sites_fault}
use Rattle.event_json.specs.declared.site_lists.SitesFault.{SitesFault}
use Rattle.frame_core.specs.Numbers.{Recall}
use Rattle.frame_core.specs.declared.frames.Frame.{Frame}
use Rattle.frame_core.specs.declared.frames.Frame.TheVariants as frames
use Rattle.keeper_core.specs.declared.faults.Keep.{Keep}
use Rattle.keeper_core.specs.declared.faults.Keep.TheVariants.{Old, New}
use Rattle.keeper_core.specs.declared.faults.KeepFault.TheVariants as faults
use Rattle.site_core.specs.Naming.{frame_named}
use Rattle.site_core.specs.Records.{Record, fresh}
use Rattle.site_core.specs.declared.inputs.SiteInput.{SiteInput}
use Rattle.site_core.specs.declared.inputs.SiteInput.TheVariants as inputs
use Rattle.site_core.specs.declared.naming.FrameName.{FrameName}
use Rattle.site_core.specs.declared.naming.FrameName.TheVariants.{Message, Signal}
use Rattle.world_core.proofs.EndedRecalls.{runs_from_the_start_come_out}
use Rattle.world_core.proofs.Posted.{place_of_name}
use Rattle.world_core.specs.Faults.{AreFresh, AreOneWorld}
use Rattle.world_core.specs.Turns as world
use Rattle.world_core.specs.Turns.{addressee, input_at, input_of_frame}
use Rattle.world_core.specs.Worlds.{Standing, Up, Down, WorldState, records, record_of}
use Rattle.world_core.specs.declared.events.Answer.{Answer}
use Rattle.world_core.specs.declared.events.Answer.TheVariants.{Done, Fault, Sent, Stopped as WasStopped, Reopened}
use Rattle.world_core.specs.declared.events.WorldEvent.{WorldEvent}
use Rattle.world_core.specs.declared.events.WorldEvent.TheVariants.{Step, Send, Stop, Reopen}
use Rattle.world_core.specs.declared.events.WorldInput.{WorldInput}
use Rattle.world_core.specs.declared.events.WorldInput.TheVariants.{Capture, Start, Deliver}
use Rattle.recall_text.specs.Answer.{Said}
use Rattle.recall_text.specs.Requests.{Request, Task, capture, deliver, pump, quarantine, reach, recall, reopen, send, signal, stop}
use Rattle.recall_text.specs.Requests as requests
use Rattle.recall_text.specs.Gathering.{site_added}
use Rattle.recall_text.specs.State.{State, World, gathering, running}
use Rattle.recall_text.specs.Words.{message_text}
use Rattle.script_core.specs.Happening.{Happens, with_frame, with_sent, with_site}
use Rattle.script_core.specs.Pumping.{Arrives, Carries, Comes, Each, Exchanges, TakesPart, TakesRound, all_opened, answer_to, message_from, numbers_at, opened_at}
use Rattle.script_core.specs.Runs.{Runs}
use Rattle.script_core.specs.Script.{Passes, TakesRequest, site_outcome}
use Rattle.script_core.specs.State.{armed_at, begun, begun_world, empty, up_at}
use Rattle.script_core.specs.Tasks.{AtSite, Delivers, DoesTask, Hands, Lists, Opens, ReachRead, RecallRead, Sends, Tells, WhereAllUp, WhereUp, first_down, message_of}
use Rattle.script_core.specs.WorldRuns.{ScriptsRunAWorld}
use Rattle.script_core.specs.declared.worlds.Outcome.{Outcome}
use Rattle.script_core.specs.declared.worlds.Outcome.TheVariants.{Did, Refused, Stopped}
use Rattle.script_core.proofs.OpenLemmas.{opened_all, opened_next, opened_to}
use Rattle.script_core.proofs.UpLemmas.{stands_up}

-- ---- runs, one after another

abbrev Leads : WorldState → WorldState → Type 0
Leads old new = (events : List WorldEvent) × (answers : List Answer) × world.Runs old events answers new

by_none : (w : WorldState) → Leads w w
by_none w = ([], [], refl)

by_one : (old new : WorldState) (event : WorldEvent) (answer : Answer) → world.Turns old event answer new → Leads old new
by_one old new event answer turns = (event ∷ [], answer ∷ [], (new, turns, refl))

run_on : (old mid new : WorldState) (es fs : List WorldEvent) (told more : List Answer) → world.Runs old es told mid → world.Runs mid fs more new → world.Runs old (es ++ fs) (told ++ more) new
run_on old mid new [] fs [] more h t = subst (λ w. world.Runs w fs more new) h t
run_on old mid new (e ∷ es) fs (a ∷ told) more h t = (h.0, h.1, run_on h.0 mid new es fs told more h.2 t)
run_on old mid new [] fs (a ∷ told) more h t = absurd h
run_on old mid new (e ∷ es) fs [] more h t = absurd h

joined : (old mid new : WorldState) → Leads old mid → Leads mid new → Leads old new
joined old mid new p q = (p.0 ++ q.0, p.1 ++ q.1, run_on old mid new p.0 q.0 p.1 q.1 p.2 q.2)

-- ---- one event

-- an input that a site is given
happened : (w : WorldState) (n : ℕ) (old : Record) (armed : Option Keep) (input : WorldInput) (given : SiteInput) (outcome : Outcome) (standing : Standing)
    → slice_get w.sites n ≡ Some (Up old) → input_at w.sent n input ≡ Some given → Happens old armed given outcome standing → Leads w (with_site w n standing)
happened w n old None input given (Did effects) standing there is h =
    by_one w (with_site w n standing) (Step n input) (Done effects)
    (subst (λ o. world.TurnsFrom o w (Step n input) (Done effects) (with_site w n standing)) (sym there) (standing, (subst (λ i. world.Steps old i (Done effects) standing) (sym is) h, refl), refl))
happened w n old None input given (Refused why) standing there is h =
    by_one w (with_site w n standing) (Step n input) (Fault (faults.Refused why))
    (subst (λ o. world.TurnsFrom o w (Step n input) (Fault (faults.Refused why)) (with_site w n standing)) (sym there)
    (standing, (subst (λ i. world.Steps old i (Fault (faults.Refused why)) standing) (sym is) h, refl), refl))
happened w n old (Some Old) input given Stopped standing there is (r, leaves, down) =
    by_one w (with_site w n standing) (Stop n input Old) WasStopped
    (subst (λ o. world.TurnsFrom o w (Stop n input Old) WasStopped (with_site w n standing)) (sym there)
    (standing, (subst (λ i. world.Stops old i Old WasStopped standing) (sym is) (down ∙ ap Down leaves), refl), refl))
happened w n old (Some New) input given Stopped standing there is (r, leaves, down) =
    let goes : world.GoesDown old given standing = elim leaves [ inl after ↦ inr (r, after, down) | inr refused ↦ inl (down ∙ ap Down refused.1) ] in
    by_one w (with_site w n standing) (Stop n input New) WasStopped
    (subst (λ o. world.TurnsFrom o w (Stop n input New) WasStopped (with_site w n standing)) (sym there)
    (standing, (subst (λ i. world.Stops old i New WasStopped standing) (sym is) goes, refl), refl))
happened w n old None input given Stopped standing there is h = absurd h
happened w n old (Some Old) input given (Did effects) standing there is h = absurd h
happened w n old (Some Old) input given (Refused why) standing there is h = absurd h
happened w n old (Some New) input given (Did effects) standing there is h = absurd h
happened w n old (Some New) input given (Refused why) standing there is h = absurd h

same_site : (sites : List Standing) (n : ℕ) (s : Standing) → slice_get sites n ≡ Some s → slice_set sites n s ≡ sites
same_site sites n s at = ap (λ x. slice_set sites n x) (sym (get_or_from_slice_get sites n s s at)) ∙ set-get_or sites n s

-- a site that is up makes the frame emittable
abbrev IsNamed : World → Frame → Type 0
IsNamed w frame = (n : ℕ) × (old : Record) × (name : FrameName) × (slice_get w.world.sites n ≡ Some (Up old)) × (frame_named old.engagement name ≡ Some frame)

was_sent : (w : World) (frame : Frame) → IsNamed w frame → Leads w.world (with_sent w.world frame)
was_sent w frame (n, old, name, there, is) =
    let (place, at) = place_of_name old.engagement name in
    let new = with_sent w.world frame in
    let told = Sent (length new.sent) in
    by_one w.world new (Send n place) told
    (subst (λ o. world.TurnsFrom o w.world (Send n place) told new) (sym there)
    (Up old, (subst (λ f. world.Sends f w.world.sent told new.sent) (sym (at ∙ is)) (refl, refl), refl), sym (same_site w.world.sites n (Up old) there)))

abbrev with_sites : WorldState → List Standing → WorldState
with_sites w sites = record w { sites = sites }

was_opened : (w : WorldState) (n : ℕ) → Leads w (with_sites w (opened_at w.sites n (slice_get w.sites n)))
was_opened w n = by (slice_get w.sites n) refl
  where
    by : (o : Option Standing) → slice_get w.sites n ≡ o → Leads w (with_sites w (opened_at w.sites n o))
    by None is = by_none w
    by (Some (Up r)) is = subst (λ sites. Leads w (with_sites w sites)) (sym (same_site w.sites n (Up r) is)) (by_none w)
    by (Some (Down r)) is =
        by_one w (with_site w n (Up r)) (Reopen n) Reopened
        (subst (λ o. world.TurnsFrom o w (Reopen n) Reopened (with_site w n (Up r))) (sym is) (Up r, (refl, refl), refl))

were_opened : (w : WorldState) (n : ℕ) → n ≤ length w.sites → Leads w (with_sites w (opened_to w.sites n))
were_opened w zero within = by_none w
were_opened w (suc n) within =
    let mid = with_sites w (opened_to w.sites n) in
    joined w mid (with_sites w (opened_to w.sites (suc n))) (were_opened w n (omega (arith, within)))
    (subst (λ sites. Leads mid (with_sites w sites)) (opened_next w.sites n (suc n) (omega (arith, within)) (omega arith)) (was_opened mid n))

-- ---- what is done in a script's world

-- by events, and the sites are the same
abbrev GoesTo : World → World → Type 0
GoesTo old new = Leads old.world new.world × (new.sites ≡ old.sites)

stays : (w after : World) → after ≡ w → GoesTo w after
stays w after same = subst (GoesTo w) (sym same) (by_none w.world, refl)

goes_on : (old mid new : World) → GoesTo old mid → GoesTo mid new → GoesTo old new
goes_on old mid new p q = (joined old.world mid.world new.world p.0 q.0, q.1 ∙ p.1)

arrives : (w after : World) (frame : Frame) (old : Record) (place : ℕ) (text : List ℕ) → world.frame_at w.world.sent place ≡ Some frame → up_at w (addressee frame) ≡ Some old
    → Arrives frame old w text after → GoesTo w after
arrives w after frame old place text at up a =
    let n = addressee frame in
    subst (GoesTo w) (sym a.changed)
    (happened w.world n old (armed_at w n) (Deliver place) (inputs.Deliver frame) a.outcome a.standing (stands_up w.world.sites n old up) (ap (input_of_frame n) at ∙ to_itself n) a.happens, refl)
  where
    to_itself : (n : ℕ) → (if n == n then Some (inputs.Deliver frame) else None) ≡ Some (inputs.Deliver frame)
    to_itself n = ap (λ b. if b then Some (inputs.Deliver frame) else None) (eq-eqb n n refl)

last_sent : (sent : List Frame) (frame : Frame) → slice_get (sent ++ frame ∷ []) (length sent) ≡ Some frame
last_sent [] frame = refl
last_sent (f ∷ sent) frame = last_sent sent frame

carries : (w after : World) (frame : Option Frame) (text : List ℕ) → ((f : Frame) → frame ≡ Some f → IsNamed w f) → Carries frame w text after → GoesTo w after
carries w after None text is h = stays w after h.1
carries w after (Some frame) text is h =
    let mid = with_frame w frame in
    goes_on w mid after (was_sent w frame (is frame refl), refl) (by (up_at mid (addressee frame)) refl h)
  where
    mid : World
    mid = with_frame w frame

    by : (o : Option Record) → up_at mid (addressee frame) ≡ o → Comes frame o mid text after → GoesTo mid after
    by None down it = stays mid after it.1
    by (Some old) up it = arrives mid after frame old (suc (length w.world.sent)) text (last_sent w.world.sent frame) up it

named_by : (w : World) (n : ℕ) (name : FrameName) (frame : Frame) → option_and_then (λ (r : Record). frame_named r.engagement name) (up_at w n) ≡ Some frame → IsNamed w frame
named_by w n name frame is = by (up_at w n) refl is
  where
    by : (o : Option Record) → up_at w n ≡ o → option_and_then (λ (r : Record). frame_named r.engagement name) o ≡ Some frame → IsNamed w frame
    by None up e = cc
    by (Some old) up e = (n, old, name, stands_up w.world.sites n old up, e)

answer_named : (w : World) (front : Option Frame) (frame : Frame) → answer_to w front ≡ Some frame → IsNamed w frame
answer_named w None frame is = cc
answer_named w (Some (frames.Recall m dest r i)) frame is = named_by w dest (Signal m) frame is
answer_named w (Some (frames.Signal m by)) frame is = cc

exchanges : (site number : ℕ) (w after : World) (text : List ℕ) → Exchanges site number w text after → GoesTo w after
exchanges site number w after text e =
    goes_on w e.mid after (carries w e.mid (message_from w site number) e.front (λ f is. named_by w site (Message number) f is) e.goes)
    (carries e.mid after (answer_to e.mid (message_from w site number)) e.back (λ f is. answer_named e.mid (message_from w site number) f is) e.comes)

each : (Do : ℕ → World → List ℕ → World → Type 0) → ((x : ℕ) (w after : World) (text : List ℕ) → Do x w text after → GoesTo w after) → (xs : List ℕ) (w after : World) (text : List ℕ)
    → Each Do xs w text after → GoesTo w after
each Do one [] w after text h = stays w after h.1
each Do one (x ∷ xs) w after text (mid, front, back, does, more, is) = goes_on w mid after (one x w mid front does) (each Do one xs mid after back more)

part : (site : ℕ) (w after : World) (text : List ℕ) → TakesPart site w text after → GoesTo w after
part site w after text h = each (Exchanges site) (exchanges site) (numbers_at w site) w after text h

opens_all : (w : World) → GoesTo w (all_opened w)
opens_all w = (subst (λ sites. Leads w.world (with_sites w.world sites)) (opened_all w.world.sites (length w.world.sites) (omega arith)) (were_opened w.world (length w.world.sites) (omega arith)), refl)

round : (w after : World) (text : List ℕ) → TakesRound w text after → GoesTo w after
round w after text h = goes_on w (all_opened w) after (opens_all w) (each TakesPart part (range_with_len 0 (length w.sites)) (all_opened w) after text h)

-- ---- where a task is done

module _ (w after : World) (said : Said) where
  at_site : (name : List ℕ) (site : Option ℕ) (P : ℕ → Type 0) → ((n : ℕ) → P n → GoesTo w after) → AtSite w name site P said after → GoesTo w after
  at_site name None P does h = stays w after h.1
  at_site name (Some n) P does h = does n h

  where_up : (n : ℕ) (P : Record → Type 0) → ((old : Record) → up_at w n ≡ Some old → P old → GoesTo w after) → WhereUp w n (up_at w n) P said after → GoesTo w after
  where_up n P does h = by (up_at w n) refl h
    where
      by : (o : Option Record) → up_at w n ≡ o → WhereUp w n o P said after → GoesTo w after
      by None up it = stays w after it.1
      by (Some old) up it = does old up it

  where_all_up : (down : Option ℕ) (P : Type 0) → (P → GoesTo w after) → WhereAllUp w down P said after → GoesTo w after
  where_all_up None P does h = does h
  where_all_up (Some n) P does h = stays w after h.1

  -- ---- each kind of task

  hands : (n : ℕ) (input : WorldInput) (given : SiteInput) (about : List ℕ) → input_at w.world.sent n input ≡ Some given → Hands w n given about said after → GoesTo w after
  hands n input given about is h =
      where_up n (λ old. Tells w n given about old said after)
      (λ old up t. subst (GoesTo w) (sym t.changed) (happened w.world n old (armed_at w n) input given t.outcome t.standing (stands_up w.world.sites n old up) is t.happens, refl)) h

  recalls : (n : ℕ) (read : Result (List ℕ) EpcFault) → RecallRead w n read said after → GoesTo w after
  recalls n (Err fault) h = stays w after h.1
  recalls n (Ok root) h = hands n (Start root) (inputs.Start root) [] refl h

  delivers : (place : ℕ) (frame : Option Frame) → world.frame_at w.world.sent place ≡ frame → Delivers w frame said after → GoesTo w after
  delivers place None is h = stays w after h.1
  delivers place (Some frame) is h = hands (addressee frame) (Deliver place) (inputs.Deliver frame) (message_text w.sites (message_of frame)) (ap (input_of_frame (addressee frame)) is ∙ to_itself (addressee frame)) h
    where
      to_itself : (n : ℕ) → (if n == n then Some (inputs.Deliver frame) else None) ≡ Some (inputs.Deliver frame)
      to_itself n = ap (λ b. if b then Some (inputs.Deliver frame) else None) (eq-eqb n n refl)

  sends : (n : ℕ) (name : FrameName) → WhereUp w n (up_at w n) (λ old. Sends w (frame_named old.engagement name) said after) said after → GoesTo w after
  sends n name h = where_up n (λ old. Sends w (frame_named old.engagement name) said after) (λ old up it. by old (frame_named old.engagement name) up refl it) h
    where
      by : (old : Record) (frame : Option Frame) → up_at w n ≡ Some old → frame_named old.engagement name ≡ frame → Sends w frame said after → GoesTo w after
      by old None up is it = stays w after it.1
      by old (Some frame) up is it = subst (GoesTo w) (sym it.1) (was_sent w frame (n, old, name, stands_up w.world.sites n old up, is), refl)

  opens : (n : ℕ) (name : List ℕ) → Opens w n name (slice_get w.world.sites n) said after → GoesTo w after
  opens n name h = by (slice_get w.world.sites n) refl h
    where
      by : (o : Option Standing) → slice_get w.world.sites n ≡ o → Opens w n name o said after → GoesTo w after
      by None is it = stays w after it.1
      by (Some (Up r)) is it = stays w after it.1
      by (Some (Down r)) is it = subst (GoesTo w) (sym it.1) (subst (λ o. Leads w.world (with_sites w.world (opened_at w.world.sites n o))) is (was_opened w.world n), refl)

  reaches : (n : ℕ) (read : Result (List ℕ) EpcFault) → ReachRead w n read said after → GoesTo w after
  reaches n (Err fault) h = stays w after h.1
  reaches n (Ok item) h = where_all_up (first_down w) _ (λ it. stays w after it.1) h

  lists : (r : Recall) (ended : Option Bool) → Lists w r ended said after → GoesTo w after
  lists r None h = stays w after h.1
  lists r (Some ended) h = stays w after h.1

  does : (task : Task) → DoesTask w task said after → GoesTo w after
  does (capture name document) h = at_site name (named w.sites name) (λ n. Hands w n (inputs.Capture document) [] said after) (λ n it. hands n (Capture document) (inputs.Capture document) [] refl it) h
  does (reach name item) h = at_site name (named w.sites name) (λ n. ReachRead w n (reading item) said after) (λ n it. reaches n (reading item) it) h
  does (recall name item) h = at_site name (named w.sites name) (λ n. RecallRead w n (reading item) said after) (λ n it. recalls n (reading item) it) h
  does (send name number) h = at_site name (named w.sites name) _ (λ n it. sends n (Message number) it) h
  does (signal name sender number) h = at_site name (named w.sites name) _ (λ n it. at_site sender (named w.sites sender) _ (λ s more. sends n (Signal (record { site = s; number = number })) more) it) h
  does (deliver place) h = delivers place (world.frame_at w.world.sent place) refl h
  does (stop name keep) h = at_site name (named w.sites name) _ (λ n it. where_up n _ (λ old up arms. subst (GoesTo w) (sym arms.1) (by_none w.world, refl)) it) h
  does (reopen name) h = at_site name (named w.sites name) _ (λ n it. opens n name it) h
  does (pump rounds) h = each (λ k. TakesRound) (λ k. round) (range_with_len 0 rounds) w after h.text h.run
  does (quarantine name number) h = at_site name (named w.sites name) _ (λ n it. where_all_up (first_down w) _ (λ more. lists (record { site = n; number = number }) _ more) it) h

-- ---- lines

-- where there is a world, it came by events from its sites as they began, of which there are at least two
abbrev Came : State → Type 0
Came (gathering sites) = ⊤
Came (running w) = (2 ≤ length w.sites) × Leads (begun_world w.sites).world w.world

passes : (s t : State) (task : Task) (said : Said) → Came s → Passes s task said t → Came t
passes (gathering sites) t task said came h = subst Came (sym h.1) tt
passes (running w) (gathering sites) task said came h = absurd h
passes (running w) (running after) task said came h =
    let goes = does w after said task h in
    let names = goes.1 in (
      subst (λ (sites : List Site). 2 ≤ length sites) (sym names) came.0,
      subst (λ (sites : List Site). Leads (begun_world sites).world after.world) (sym names) (joined (begun_world w.sites).world w.world after.world came.1 goes.0),
    )

began : (s : State) → Came s → Came (begun s)
unfolding begun
began (running w) came = came
began (gathering sites) came = by (nat_le 2 (length sites)) refl
  where
    by : (b : Bool) → nat_le 2 (length sites) ≡ b → Came (if b then running (begun_world sites) else gathering sites)
    by true two = (leb-true 2 (length sites) two, by_none (begun_world sites).world)
    by false few = tt

added : (sites : List Site) (name : List ℕ) (addresses : List (List ℕ)) (fault : Option SitesFault) → Came (site_added sites name addresses fault).1
added sites name addresses None = tt
added sites name addresses (Some fault) = tt

site_line : (s : State) (name : List ℕ) (addresses : List (List ℕ)) → Came s → Came (site_outcome s name addresses).1
site_line (gathering sites) name addresses came = added sites name addresses (sites_fault sites name addresses)
site_line (running w) name addresses came = came

request : (s t : State) (asked : Option Request) (said : Said) → Came s → TakesRequest s asked said t → Came t
request s t None said came h = subst Came (sym h.1) came
request s t (Some requests.silent) said came h = subst Came (sym h.1) came
request s t (Some (requests.site name addresses)) said came h = subst Came (sym (ap (λ (p : Said × State). p.1) h)) (site_line s name addresses came)
request s t (Some (requests.task task)) said came h = passes (begun s) t task said (began s came) h

came_by : (s t : State) (script : List (List ℕ)) (said : List Said) → Came s → Runs s script said t → Came t
came_by s t [] said came h = subst Came (sym h.1) came
came_by s t (line ∷ rest) said came (a, more, next, is, takes, runs) = came_by next t rest more (request s next takes.0 a came takes.2) runs

-- ---- the sites as they begin

abbrev fresh_from : List Site → ℕ → ℕ → List Record
fresh_from sites a n = map record_of (map (λ k. Up (fresh sites k)) (range_with_len a n))

fresh_at : (sites : List Site) (a n k : ℕ) (r : Record) → slice_get (fresh_from sites a n) k ≡ Some r → r ≡ fresh sites (a + k)
fresh_at sites a zero k r h = cc
fresh_at sites a (suc n) zero r h = let same : fresh sites a ≡ r = cc in let none : a ≡ a + 0 = omega arith in sym same ∙ ap (fresh sites) none
fresh_at sites a (suc n) (suc k) r h = let same : (a + 1) + k ≡ a + suc k = omega arith in fresh_at sites (a + 1) n k r h ∙ ap (fresh sites) same

fresh_count : (sites : List Site) (a n : ℕ) → length (fresh_from sites a n) ≡ n
fresh_count sites a zero = refl
fresh_count sites a (suc n) = let rest = fresh_count sites (a + 1) n in omega (arith, rest)

first_fresh : (sites : List Site) (n : ℕ) → 2 ≤ n → slice_get (fresh_from sites 0 n) 0 ≡ Some (fresh sites 0)
first_fresh sites zero two = absurd (omega (arith, two))
first_fresh sites (suc n) two = refl

begins_whole : (sites : List Site) → 2 ≤ length sites → AreOneWorld (records (begun_world sites).world)
begins_whole sites two = (
  fresh sites 0,
  first_fresh sites (length sites) two,
  record {
    number = fresh_count sites 0 (length sites);
    each = λ place r at.
        let is = fresh_at sites 0 (length sites) place r at in
        let same : 0 + place ≡ place = omega arith in
        (ap (λ (q : Record). q.sites) is, ap (λ (q : Record). q.engagement.me) is ∙ same);
  },
)

begins_fresh : (sites : List Site) → AreFresh (records (begun_world sites).world)
begins_fresh sites place r at =
    let is = fresh_at sites 0 (length sites) place r at in
    is ∙ sym (ap (λ (q : Record). fresh q.sites q.engagement.me) is)

pub scripts_run_a_world : ScriptsRunAWorld
scripts_run_a_world script said w h =
    let (two, (events, answers, run)) = came_by empty (running w) (lines script) said tt h in
    record {
      events = events;
      answers = answers;
      run = run;
      out = runs_from_the_start_come_out (begun_world w.sites).world w.world events answers (begins_whole w.sites two) (begins_fresh w.sites) refl run;
    }
