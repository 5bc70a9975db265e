-- a line has one answer
use Rattle.std.proofs.Common.{◌≡◌, ℕ, Bool, List, [], ◌∷◌, ◌++◌, codes, refl, sym, ap, ◌∙◌, subst, Option, Some, None, Ok, Err}
use Rattle.std.specs.Prelude.{Result, slice_get, option_and_then}
use Rattle.epc_core.specs.declared.items.EpcFault.{EpcFault}
use Rattle.epc_core.specs.Reading.{reading}
use Rattle.event_json.specs.Sites.{Site, named}
use Rattle.frame_core.specs.Numbers.{Recall}
use Rattle.frame_core.specs.declared.frames.Frame.{Frame}
use Rattle.keeper_core.specs.declared.faults.Keep.{Keep}
use Rattle.site_core.specs.Records.{Record}
use Rattle.site_core.specs.declared.inputs.SiteInput.{SiteInput}
use Rattle.site_core.specs.declared.inputs.SiteInput.TheVariants.{Capture, Start, Deliver}
use Rattle.site_recovery.specs.Laws.{captured_of}
use Rattle.trace_core.proofs.PairOrder.{one_ascending}
use Rattle.trace_core.specs.Sites.{SiteEvents}
use Rattle.trace_core.specs.declared.pairs.Pair.{Pair}
use Rattle.world_core.specs.Recalls.{ended_in}
use Rattle.world_core.specs.Turns.{addressee, frame_at}
use Rattle.world_core.specs.Worlds.{Standing, Up, Down, records}
use Rattle.recall_text.specs.Answer.{Said, done}
use Rattle.recall_text.specs.Requests.{Task, capture, reach, recall, send, signal, deliver, stop, reopen, pump, quarantine, Request}
use Rattle.recall_text.specs.Requests as requests
use Rattle.recall_text.specs.State.{State, gathering, running, World}
use Rattle.recall_text.specs.Words.{pairs_text, message_text}
use Rattle.recall_text.proofs.FormLemmas.{asks_one, asks_some}
use Rattle.script_core.specs.Happening.{with_standing}
use Rattle.script_core.specs.Runs.{Runs}
use Rattle.script_core.specs.Script.{Passes, TakesRequest, Takes}
use Rattle.script_core.specs.Sending.{row_frame, owed_signal}
use Rattle.script_core.specs.State.{begun, up_at, armed_at}
use Rattle.script_core.specs.Tasks.{IsRefused, AtSite, WhereUp, WhereAllUp, closed_text, outcome_said, Tells, Hands, RecallRead, Delivers, Sends, Arms, Opens, IsReachText, ReachFrom, ReachRead, Lists, ListsAll, DoesTask, message_of, first_down}
use Rattle.script_core.proofs.OneHappening.{one_happening, some_happening}
use Rattle.script_core.proofs.OnePump.{One, Some_of, one_pump, some_pump}
use Rattle.script_core.proofs.ReachLists.{reach_list}

-- ---- where a task is done

one_refused : (w : World) (what : List ℕ) → One (IsRefused w what)
one_refused w what a b t u p q = (p.0 ∙ sym q.0, p.1 ∙ sym q.1)

module _ (w : World) where
  one_at : (name : List ℕ) (site : Option ℕ) (P : ℕ → Said → World → Type 0) → ((n : ℕ) → One (P n)) → One (λ said after. AtSite w name site (λ n. P n said after) said after)
  one_at name None P one a b t u p q = one_refused w (codes "NoSite " ++ name) a b t u p q
  one_at name (Some n) P one a b t u p q = one n a b t u p q

  some_at : (name : List ℕ) (site : Option ℕ) (P : ℕ → Said → World → Type 0) → ((n : ℕ) → Some_of (P n)) → Some_of (λ said after. AtSite w name site (λ n. P n said after) said after)
  some_at name None P some = (_, w, (refl, refl))
  some_at name (Some n) P some = some n

  one_up : (n : ℕ) (old : Option Record) (P : Record → Said → World → Type 0) → ((r : Record) → One (P r)) → One (λ said after. WhereUp w n old (λ r. P r said after) said after)
  one_up n None P one a b t u p q = one_refused w (closed_text w n) a b t u p q
  one_up n (Some r) P one a b t u p q = one r a b t u p q

  some_up : (n : ℕ) (old : Option Record) (P : Record → Said → World → Type 0) → ((r : Record) → Some_of (P r)) → Some_of (λ said after. WhereUp w n old (λ r. P r said after) said after)
  some_up n None P some = (_, w, (refl, refl))
  some_up n (Some r) P some = some r

  one_all_up : (down : Option ℕ) (P : Said → World → Type 0) → One P → One (λ said after. WhereAllUp w down (P said after) said after)
  one_all_up None P one a b t u p q = one a b t u p q
  one_all_up (Some n) P one a b t u p q = one_refused w (closed_text w n) a b t u p q

  some_all_up : (down : Option ℕ) (P : Said → World → Type 0) → Some_of P → Some_of (λ said after. WhereAllUp w down (P said after) said after)
  some_all_up None P some = some
  some_all_up (Some n) P some = (_, w, (refl, refl))

  -- ---- each kind of task

  one_told : (n : ℕ) (input : SiteInput) (about : List ℕ) (old : Record) → One (Tells w n input about old)
  one_told n input about old a b t u p q =
      let (same, stands) = one_happening old (armed_at w n) input p.outcome q.outcome p.standing q.standing p.happens q.happens in
      (p.text ∙ ap (outcome_said w.sites n about) same ∙ sym q.text, p.changed ∙ ap (with_standing w n) stands ∙ sym q.changed)

  some_told : (n : ℕ) (input : SiteInput) (about : List ℕ) (old : Record) → Some_of (Tells w n input about old)
  some_told n input about old =
      let (outcome, standing, happens) = some_happening old (armed_at w n) input in
      (_, _, record { outcome = outcome; standing = standing; happens = happens; text = refl; changed = refl })

  one_handed : (n : ℕ) (input : SiteInput) (about : List ℕ) → One (Hands w n input about)
  one_handed n input about = one_up n (up_at w n) (Tells w n input about) (one_told n input about)

  some_handed : (n : ℕ) (input : SiteInput) (about : List ℕ) → Some_of (Hands w n input about)
  some_handed n input about = some_up n (up_at w n) (Tells w n input about) (some_told n input about)

  one_recalled : (n : ℕ) (read : Result (List ℕ) EpcFault) → One (RecallRead w n read)
  one_recalled n (Err fault) = one_refused w (codes "BadEpc")
  one_recalled n (Ok root) = one_handed n (Start root) []

  some_recalled : (n : ℕ) (read : Result (List ℕ) EpcFault) → Some_of (RecallRead w n read)
  some_recalled n (Err fault) = (_, w, (refl, refl))
  some_recalled n (Ok root) = some_handed n (Start root) []

  one_delivered : (frame : Option Frame) → One (Delivers w frame)
  one_delivered None = one_refused w (codes "NoFrame")
  one_delivered (Some frame) = one_handed (addressee frame) (Deliver frame) (message_text w.sites (message_of frame))

  some_delivered : (frame : Option Frame) → Some_of (Delivers w frame)
  some_delivered None = (_, w, (refl, refl))
  some_delivered (Some frame) = some_handed (addressee frame) (Deliver frame) (message_text w.sites (message_of frame))

  one_sent : (frame : Option Frame) → One (Sends w frame)
  one_sent None a b t u p q = one_refused w (codes "NoFrame") a b t u p q
  one_sent (Some frame) a b t u p q = (p.0 ∙ sym q.0, p.1 ∙ sym q.1)

  some_sent : (frame : Option Frame) → Some_of (Sends w frame)
  some_sent None = (_, w, (refl, refl))
  some_sent (Some frame) = (_, _, (refl, refl))

  one_armed : (n : ℕ) (name : List ℕ) (keep : Keep) → One (Arms w n name keep)
  one_armed n name keep a b t u p q = (p.0 ∙ sym q.0, p.1 ∙ sym q.1)

  one_opened : (n : ℕ) (name : List ℕ) (standing : Option Standing) → One (Opens w n name standing)
  one_opened n name None a b t u p q = one_refused w (codes "NotClosed " ++ name) a b t u p q
  one_opened n name (Some (Up r)) a b t u p q = one_refused w (codes "NotClosed " ++ name) a b t u p q
  one_opened n name (Some (Down r)) a b t u p q = (p.0 ∙ sym q.0, p.1 ∙ sym q.1)

  some_opened : (n : ℕ) (name : List ℕ) (standing : Option Standing) → Some_of (Opens w n name standing)
  some_opened n name None = (_, w, (refl, refl))
  some_opened n name (Some (Up r)) = (_, w, (refl, refl))
  some_opened n name (Some (Down r)) = (_, _, (refl, refl))

one_reach_text : (sites : List Site) (captured : List SiteEvents) (root : Pair) (a b : Said) → IsReachText sites captured root a → IsReachText sites captured root b → a ≡ b
one_reach_text sites captured root a b x y =
    let same = one_ascending x.pairs y.pairs x.ascending y.ascending (λ p. (λ m. (y.reached p).1 ((x.reached p).0 m), λ m. (x.reached p).1 ((y.reached p).0 m))) in
    x.text ∙ ap (λ pairs. done (pairs_text sites pairs)) same ∙ sym y.text

some_reach_text : (sites : List Site) (captured : List SiteEvents) (root : Pair) → (a : Said) × IsReachText sites captured root a
some_reach_text sites captured root =
    let (pairs, ascending, reached) = reach_list captured root in (done (pairs_text sites pairs), record { pairs = pairs; ascending = ascending; reached = reached; text = refl })

module _ (w : World) where
  one_from : (root : Pair) → One (ReachFrom w root)
  one_from root = one_all_up w (first_down w) (λ said after. IsReachText w.sites (captured_of (records w.world)) root said × (after ≡ w))
      (λ a b t u p q. (one_reach_text w.sites (captured_of (records w.world)) root a b p.0 q.0, p.1 ∙ sym q.1))

  some_from : (root : Pair) → Some_of (ReachFrom w root)
  some_from root = some_all_up w (first_down w) (λ said after. IsReachText w.sites (captured_of (records w.world)) root said × (after ≡ w))
      (let (a, is) = some_reach_text w.sites (captured_of (records w.world)) root in (a, w, (is, refl)))

  one_reached : (n : ℕ) (read : Result (List ℕ) EpcFault) → One (ReachRead w n read)
  one_reached n (Err fault) = one_refused w (codes "BadEpc")
  one_reached n (Ok item) = one_from (record { site = n; item = item })

  some_reached : (n : ℕ) (read : Result (List ℕ) EpcFault) → Some_of (ReachRead w n read)
  some_reached n (Err fault) = (_, w, (refl, refl))
  some_reached n (Ok item) = some_from (record { site = n; item = item })

  one_listed : (r : Recall) (ended : Option Bool) → One (Lists w r ended)
  one_listed r None a b t u p q = one_refused w (codes "NoRecall") a b t u p q
  one_listed r (Some ended) a b t u p q = (p.0 ∙ sym q.0, p.1 ∙ sym q.1)

  some_listed : (r : Recall) (ended : Option Bool) → Some_of (Lists w r ended)
  some_listed r None = (_, w, (refl, refl))
  some_listed r (Some ended) = (_, w, (refl, refl))

  one_all_listed : (r : Recall) → One (ListsAll w r)
  one_all_listed r = one_all_up w (first_down w) (Lists w r (option_and_then (ended_in r) (up_at w r.site))) (one_listed r (option_and_then (ended_in r) (up_at w r.site)))

  some_all_listed : (r : Recall) → Some_of (ListsAll w r)
  some_all_listed r = some_all_up w (first_down w) (Lists w r (option_and_then (ended_in r) (up_at w r.site))) (some_listed r (option_and_then (ended_in r) (up_at w r.site)))

one_done : (w : World) (task : Task) → One (DoesTask w task)
one_done w (capture name document) = one_at w name (named w.sites name) (λ n. Hands w n (Capture document) []) (λ n. one_handed w n (Capture document) [])
one_done w (reach name item) = one_at w name (named w.sites name) (λ n. ReachRead w n (reading item)) (λ n. one_reached w n (reading item))
one_done w (recall name item) = one_at w name (named w.sites name) (λ n. RecallRead w n (reading item)) (λ n. one_recalled w n (reading item))
one_done w (send name number) =
    one_at w name (named w.sites name) (λ n said after. WhereUp w n (up_at w n) (λ old. Sends w (row_frame number old) said after) said after)
    (λ n. one_up w n (up_at w n) (λ old. Sends w (row_frame number old)) (λ old. one_sent w (row_frame number old)))
one_done w (signal name sender number) =
    one_at w name (named w.sites name)
    (λ n said after. AtSite w sender (named w.sites sender) (λ s. WhereUp w n (up_at w n) (λ old. Sends w (owed_signal (record { site = s; number = number }) old) said after) said after) said after)
    (λ n. one_at w sender (named w.sites sender) (λ s said after. WhereUp w n (up_at w n) (λ old. Sends w (owed_signal (record { site = s; number = number }) old) said after) said after)
    (λ s. one_up w n (up_at w n) (λ old. Sends w (owed_signal (record { site = s; number = number }) old)) (λ old. one_sent w (owed_signal (record { site = s; number = number }) old))))
one_done w (deliver place) = one_delivered w (frame_at w.world.sent place)
one_done w (stop name keep) =
    one_at w name (named w.sites name) (λ n said after. WhereUp w n (up_at w n) (λ old. Arms w n name keep said after) said after)
    (λ n. one_up w n (up_at w n) (λ old. Arms w n name keep) (λ old. one_armed w n name keep))
one_done w (reopen name) = one_at w name (named w.sites name) (λ n. Opens w n name (slice_get w.world.sites n)) (λ n. one_opened w n name (slice_get w.world.sites n))
one_done w (pump rounds) = one_pump rounds w
one_done w (quarantine name number) =
    one_at w name (named w.sites name) (λ n. ListsAll w (record { site = n; number = number })) (λ n. one_all_listed w (record { site = n; number = number }))

some_done : (w : World) (task : Task) → Some_of (DoesTask w task)
some_done w (capture name document) = some_at w name (named w.sites name) (λ n. Hands w n (Capture document) []) (λ n. some_handed w n (Capture document) [])
some_done w (reach name item) = some_at w name (named w.sites name) (λ n. ReachRead w n (reading item)) (λ n. some_reached w n (reading item))
some_done w (recall name item) = some_at w name (named w.sites name) (λ n. RecallRead w n (reading item)) (λ n. some_recalled w n (reading item))
some_done w (send name number) =
    some_at w name (named w.sites name) (λ n said after. WhereUp w n (up_at w n) (λ old. Sends w (row_frame number old) said after) said after)
    (λ n. some_up w n (up_at w n) (λ old. Sends w (row_frame number old)) (λ old. some_sent w (row_frame number old)))
some_done w (signal name sender number) =
    some_at w name (named w.sites name)
    (λ n said after. AtSite w sender (named w.sites sender) (λ s. WhereUp w n (up_at w n) (λ old. Sends w (owed_signal (record { site = s; number = number }) old) said after) said after) said after)
    (λ n. some_at w sender (named w.sites sender) (λ s said after. WhereUp w n (up_at w n) (λ old. Sends w (owed_signal (record { site = s; number = number }) old) said after) said after)
    (λ s. some_up w n (up_at w n) (λ old. Sends w (owed_signal (record { site = s; number = number }) old)) (λ old. some_sent w (owed_signal (record { site = s; number = number }) old))))
some_done w (deliver place) = some_delivered w (frame_at w.world.sent place)
some_done w (stop name keep) =
    some_at w name (named w.sites name) (λ n said after. WhereUp w n (up_at w n) (λ old. Arms w n name keep said after) said after)
    (λ n. some_up w n (up_at w n) (λ old. Arms w n name keep) (λ old. (_, _, (refl, refl))))
some_done w (reopen name) = some_at w name (named w.sites name) (λ n. Opens w n name (slice_get w.world.sites n)) (λ n. some_opened w n name (slice_get w.world.sites n))
some_done w (pump rounds) = some_pump rounds w
some_done w (quarantine name number) =
    some_at w name (named w.sites name) (λ n. ListsAll w (record { site = n; number = number })) (λ n. some_all_listed w (record { site = n; number = number }))

-- ---- a line

one_pass : (s : State) (task : Task) (a b : Said) (t u : State) → Passes s task a t → Passes s task b u → (a ≡ b) × (t ≡ u)
one_pass (gathering sites) task a b t u p q = (p.0 ∙ sym q.0, p.1 ∙ sym q.1)
one_pass (running w) task a b (gathering t) u p q = absurd p
one_pass (running w) task a b (running t) (gathering u) p q = absurd q
one_pass (running w) task a b (running t) (running u) p q = let (same, same_world) = one_done w task a b t u p q in (same, ap running same_world)

one_request : (s : State) (asked : Option Request) (a b : Said) (t u : State) → TakesRequest s asked a t → TakesRequest s asked b u → (a ≡ b) × (t ≡ u)
one_request s None a b t u p q = (p.0 ∙ sym q.0, p.1 ∙ sym q.1)
one_request s (Some requests.silent) a b t u p q = (p.0 ∙ sym q.0, p.1 ∙ sym q.1)
one_request s (Some (requests.site name addresses)) a b t u p q = let same : (a, t) ≡ (b, u) = p ∙ sym q in (ap (λ x. x.0) same, ap (λ x. x.1) same)
one_request s (Some (requests.task task)) a b t u p q = one_pass (begun s) task a b t u p q

pub one_answer : (s : State) (line : List ℕ) (a b : Said) (t u : State) → Takes s line a t → Takes s line b u → (a ≡ b) × (t ≡ u)
one_answer s line a b t u (asked, asks, takes) (other, asks_too, takes_too) =
    one_request s asked a b t u takes (subst (λ r. TakesRequest s r b u) (sym (asks_one line asked other asks asks_too)) takes_too)

pub one_run : (s : State) (ls : List (List ℕ)) (xs ys : List Said) (t u : State) → Runs s ls xs t → Runs s ls ys u → (xs ≡ ys) × (t ≡ u)
one_run s [] xs ys t u p q = (p.0 ∙ sym q.0, p.1 ∙ sym q.1)
one_run s (line ∷ rest) xs ys t u (a, more, next, is, takes, runs) (b, others, after, is_too, takes_too, runs_too) =
    let (same, same_next) = one_answer s line a b next after takes takes_too in
    let (same_more, same_end) = one_run next rest more others t u runs (subst (λ z. Runs z rest others u) (sym same_next) runs_too) in
    (is ∙ ap (λ x. x ∷ more) same ∙ ap (λ l. b ∷ l) same_more ∙ sym is_too, same_end)

-- ---- each line has an answer

some_pass : (s : State) (task : Task) → (a : Said) × (t : State) × Passes s task a t
some_pass (gathering sites) task = (_, _, (refl, refl))
some_pass (running w) task = let (a, t, does) = some_done w task in (a, running t, does)

some_request : (s : State) (asked : Option Request) → (a : Said) × (t : State) × TakesRequest s asked a t
some_request s None = (_, _, (refl, refl))
some_request s (Some requests.silent) = (_, _, (refl, refl))
some_request s (Some (requests.site name addresses)) = (_, _, refl)
some_request s (Some (requests.task task)) = some_pass (begun s) task

pub some_answer : (s : State) (line : List ℕ) → (a : Said) × (t : State) × Takes s line a t
some_answer s line = let (asked, asks) = asks_some line in let (a, t, takes) = some_request s asked in (a, t, (asked, asks, takes))

pub some_run : (s : State) (ls : List (List ℕ)) → (xs : List Said) × (t : State) × Runs s ls xs t
some_run s [] = ([], s, (refl, refl))
some_run s (line ∷ rest) =
    let (a, next, takes) = some_answer s line in
    let (more, t, runs) = some_run next rest in
    (a ∷ more, t, (a, more, next, refl, takes, runs))
