-- The records that the sites may stand in are consistent.
use Rattle.std.proofs.Common.{◌≡◌, ◌⊎◌, ⊎_elim, inl, inr, ℕ, zero, suc, ◌+◌, ◌<◌, ◌≤◌, Option, Some, None, List, [], ◌∷◌, ◌++◌, map, flat_map, drop, length, get_or, set, All, Contains, refl, sym, ap, ◌∙◌, subst, append_assoc, zero-add, arith}
use Rattle.std.proofs.lemmas.List.Elements.{All-head, All-tail}
use Rattle.std.proofs.lemmas.Option.{same_Some}
use Rattle.std.specs.List.{AllZip, range_with_len}
use mathlib.Core.Option.{some, some-injective, some-ne-none}
use lib.ListN.{get_elem?}
use Rattle.trace_core.proofs.Members.{contains_cases, contains_none}
use Rattle.frame_core.specs.declared.frames.Frame.{Frame}
use Rattle.keeper_core.specs.Keeping.{IsAfter}
use Rattle.site_core.specs.Records.{Record}
use Rattle.site_core.specs.declared.inputs.SiteInput.{SiteInput}
use Rattle.site_core.specs.declared.inputs.SiteInput.TheVariants.{Capture, Start, Deliver}
use Rattle.site_recovery.specs.Fit.{Fits}
use Rattle.site_recovery.specs.Laws.{AreInPlace}
use Rattle.site_recovery.specs.Looks.{world_of}
use Rattle.world_core.specs.Faults.{AreOneWorld, MakeAWorld}
use Rattle.world_core.specs.Keepers.{StandsAs}
use Rattle.world_core.specs.KeptSteps.{Handed, handed_to, StandsAfter}
use Rattle.world_core.specs.Parts.{IsCarried, came_in}
use Rattle.world_core.specs.Turns.{addressee}
use Rattle.world_core.specs.Recalls.{AreExactOnceEnded, quarantined}
use Rattle.world_core.specs.Worlds as world
use Rattle.world_core.specs.Worlds.{Down, Standing, Up, WorldState, WorldFits, record_of, records}
use Rattle.world_core.proofs.EndedRecalls.{ended_is_exact}
use Rattle.wire_core.specs.declared.views.Log.{Log}
use Rattle.wire_core.specs.Answers.{Holds}
use Rattle.wire_core.specs.Fitting.{RecordsFit}
use Rattle.wire_core.specs.Frames.{DeliversOneOf}
use Rattle.wire_core.specs.Rule.{AreAnswered, last_records, frames}
use Rattle.wire_core.specs.Seats.{Line, HoldsAll, AreAllLogs, Gathered}
use Rattle.wire_core.proofs.Fitting.{one_step, fewer_fit}
use Rattle.wire_core.proofs.Out.{runs_of_seats_come_out}
use Rattle.wire_core.proofs.Lists.{Contains_at}
use Rattle.wire_core.proofs.Running.{run_fits, run_has}
use Rattle.site_threads.proofs.Changing.{entered_alone}
use Rattle.site_threads.specs.declared.jobs.Entry.{Entry}
use Rattle.site_threads.specs.declared.lists.RunLog.{RunLog}
use Rattle.site_threads.specs.Gathering.{AreStepsOf, AreTheirSteps, EndedAreExact, AllStandThere, KeepersFit, Lead, RanFrom, StandsThere}
use Rattle.site_threads.specs.Keepers.{shown_if, may_if}
use Rattle.site_threads.specs.Parting.{HasKeeper, LeavesList}
use Rattle.site_threads.specs.Runs.{IsFresh}
use Rattle.site_threads.specs.Jobs.{EntersMarked, WithMarks, with_marks}
use Rattle.site_threads.specs.Running.{Holding}
use Rattle.site_threads.specs.Sites.{IsSite, Running, start_of}
use Rattle.site_threads.proofs.OneList.{IsSameSite, MayStandIn, holding_same, one_again}
use Rattle.site_threads.proofs.Zips.{zip_through}

-- the record last marked, or the one after a step that may be marked
IsLastOrNext : Log → Record → Type 0
IsLastOrNext log r = (r ≡ log.last) ⊎ ((input : SiteInput) × IsAfter log.last input r × DeliversOneOf log.noted input)

may_be : (shown : Option Record) (may : Record → Type 0) (start : WithMarks) (entries : List Entry) (log : Log) (r : Record) → Holding shown may start entries log → MayStandIn shown may r → IsLastOrNext log r
unfolding IsLastOrNext
may_be (Some x) may start entries log r h o = inl (o ∙ h.marked)
may_be None may start entries log r h o = ⊎_elim (λ (e : r ≡ log.last). inl e) (λ (a : IsAfter log.last h.last.input r). inr (h.last.input, a, h.noted)) (h.old_or_new r o)

-- the place after the records that were changed
there : (done rest : List Record) (x : Record) → get_elem? (done ++ x ∷ rest) (length done) ≡ some x
there [] rest x = refl
there (y ∷ ys) rest x = there ys rest x

put : (done rest : List Record) (x r : Record) → set (done ++ x ∷ rest) (length done) r ≡ done ++ r ∷ rest
put [] rest x r = refl
put (y ∷ ys) rest x r = ap (λ l. y ∷ l) (put ys rest x r)

one_more : (done rest : List Record) (sent : List Frame) (log : Log) (r : Record) → RecordsFit (done ++ log.last ∷ rest) sent → ((f : Frame) → Contains log.noted f → Contains sent f) → IsLastOrNext log r → RecordsFit (done ++ r ∷ rest) sent
unfolding IsLastOrNext
one_more done rest sent log r fit noted b = ⊎_elim (λ (e : r ≡ log.last). subst (λ x. RecordsFit (done ++ x ∷ rest) sent) (sym e) fit)
    (λ (s : (input : SiteInput) × IsAfter log.last input r × DeliversOneOf log.noted input). subst (λ l. RecordsFit l sent) (put done rest log.last r)
    (one_step (done ++ log.last ∷ rest) sent (length done) log.last s.0 r fit (there done rest log.last) s.1 (λ f is. noted f (s.2 f is)))) b

-- The logs of a seat that holds all sites, in order.

high : (a n : ℕ) (ls : List Log) (e : Log) → map (λ (x : Log). x.site) ls ≡ range_with_len a n → Contains ls e → a ≤ e.site
high a n [] e is c = absurd (contains_none e c)
high a zero (x ∷ xs) e is c = let l = ap length is in absurd (omega arith)
high a (suc n) (x ∷ xs) e is c =
    ⊎_elim
    (λ (same : x ≡ e). let s : x.site ≡ a = ap (λ (l : List ℕ). get_or l 0 0) is in let t = ap (λ (z : Log). z.site) same in omega (arith, s, t))
    (λ (d : Contains xs e). let h = high (a + 1) n xs e (ap (drop 1) is) d in omega (arith, h)) (contains_cases x e xs c)

same_from : (a n : ℕ) (all held : List Log) → map (λ (x : Log). x.site) all ≡ range_with_len a n → map (λ (x : Log). x.site) held ≡ range_with_len a n → ((e : Log) → Contains all e → Contains held e) → all ≡ held
same_from a n [] [] is at known = refl
same_from a zero [] (y ∷ ys) is at known = let l = ap length at in absurd (omega arith)
same_from a (suc n) [] (y ∷ ys) is at known = let l = ap length is in absurd (omega arith)
same_from a zero (x ∷ xs) held is at known = let l = ap length is in absurd (omega arith)
same_from a (suc n) (x ∷ xs) [] is at known = let l = ap length at in absurd (omega arith)
same_from a (suc n) (x ∷ xs) (y ∷ ys) is at known =
    let sx : x.site ≡ a = ap (λ (l : List ℕ). get_or l 0 0) is in
    let sy : y.site ≡ a = ap (λ (l : List ℕ). get_or l 0 0) at in
    let first : y ≡ x = ⊎_elim (λ (same : y ≡ x). same) (λ (d : Contains ys x). let h = high (a + 1) n ys x (ap (drop 1) at) d in absurd (omega (arith, h, sx))) (contains_cases y x ys (known x (0, omega arith, refl))) in
    let rest : xs ≡ ys = same_from (a + 1) n xs ys (ap (drop 1) is) (ap (drop 1) at)
    (λ e c.
    let h = high (a + 1) n xs e (ap (drop 1) is) c in
    ⊎_elim (λ (same : y ≡ e). let t = ap (λ (z : Log). z.site) same in absurd (omega (arith, h, sy, t))) (λ (d : Contains ys e). d) (contains_cases y e ys (known e (let i = c.1 in (suc c.0, omega arith, c.2))))) in
    λ i. sym first i ∷ rest i

all_held : (count : ℕ) (held all : List Log) → map (λ (x : Log). x.site) held ≡ range_with_len 0 count → AreAllLogs count held all → all ≡ held
all_held count held all at are = same_from 0 count all held are.sites at are.known

holds_from : (k a n : ℕ) (ls : List Log) → map (λ (x : Log). x.site) ls ≡ range_with_len a n → k < n → Holds (a + k) ls
holds_from k a zero ls is h = absurd (omega arith)
holds_from k a (suc n) [] is h = let l = ap length is in absurd (omega arith)
holds_from zero a (suc n) (x ∷ xs) is h = (x, (0, omega arith, refl), ap (λ (l : List ℕ). get_or l 0 0) is ∙ (let z : a ≡ a + 0 = omega arith in z))
holds_from (suc k) a (suc n) (x ∷ xs) is h =
    let more = holds_from k (a + 1) n xs (ap (drop 1) is) (omega arith) in
    let c = more.1 in
    let i = c.1 in
    (more.0, (suc c.0, omega arith, c.2), more.2 ∙ (let z : a + 1 + k ≡ a + suc k = omega arith in z))

holds_all : (count : ℕ) (ls : List Log) → map (λ (x : Log). x.site) ls ≡ range_with_len 0 count → HoldsAll count ls
holds_all count ls is site h = subst (λ k. Holds k ls) (zero-add site) (holds_from site 0 count ls is h)

-- a log in its place is that of the site of this number
site_there : (a n : ℕ) (ls : List Log) (i : ℕ) (e : Log) → map (λ (x : Log). x.site) ls ≡ range_with_len a n → get_elem? ls i ≡ some e → e.site ≡ a + i
site_there a n [] i e is at = absurd (some-ne-none e (sym at))
site_there a zero (x ∷ xs) i e is at = let l = ap length is in absurd (omega arith)
site_there a (suc n) (x ∷ xs) zero e is at =
    ap (λ (z : Log). z.site) (sym (some-injective x e at)) ∙ ap (λ (l : List ℕ). get_or l 0 0) is ∙ (let z : a ≡ a + 0 = omega arith in z)
site_there a (suc n) (x ∷ xs) (suc i) e is at = site_there (a + 1) n xs i e (ap (drop 1) is) at ∙ (let z : a + 1 + i ≡ a + suc i = omega arith in z)

-- what is quarantined under ended recalls, where the sites are consistent
same_records : (rs : List Record) → world.records (record { sites = map (λ r. Up r) rs; sent = [] }) ≡ rs
same_records [] = refl
same_records (r ∷ rs) = ap (λ l. r ∷ l) (same_records rs)

pub exact_when_fit : (rs : List Record) → RecordsFit rs [] → EndedAreExact rs
exact_when_fit rs fit recall =
    let w : WorldState = record { sites = map (λ r. Up r) rs; sent = [] } in
    let same : world.records w ≡ rs = same_records rs in
    let fits : WorldFits w = record { places = subst AreInPlace (sym same) fit.places; fits = subst (λ l. Fits (world_of l) []) (sym same) fit.fits } in
    subst (λ l. AreExactOnceEnded recall l (quarantined recall l)) same (ended_is_exact w recall fits)

-- as the keepers may stand in a world, they may stand in its records
one_stands : (o : Option Record) (may : Record → Type 0) (standing : Standing) → StandsAs o may standing → MayStandIn o may (record_of standing)
one_stands (Some x) may (Up r) s = sym (same_Some x r s)
one_stands None may (Up r) s = absurd (let e : None ≡ Some r = s in cc)
one_stands o may (Down r) s = subst (λ z. MayStandIn z may r) (sym s.0) s.1

module _ {K : Type 0} (shown : K → Option Record) (may : K → Record → Type 0) where
  all_stand : (keepers : List K) (sites : List Standing) → AllZip (λ k s. StandsAs (shown k) (may k) s) keepers sites → AllZip (λ k r. MayStandIn (shown k) (may k) r) keepers (map record_of sites)
  all_stand [] [] s = tt
  all_stand (k ∷ ks) (x ∷ xs) s = (one_stands (shown k) (may k) x s.0, all_stand ks xs s.1)
  all_stand [] (x ∷ xs) s = absurd s
  all_stand (k ∷ ks) [] s = absurd s

  -- where the records in which they may stand make a world, the keepers fit
  pub fit_so : (keepers : List K) → ((rs : List Record) → AllZip (λ k r. MayStandIn (shown k) (may k) r) keepers rs → MakeAWorld rs) → KeepersFit shown may keepers
  fit_so keepers make = record {
    again = λ v stand. make (records v) (all_stand keepers v.sites stand.0);
    exact = λ v stand. let w = make (records v) (all_stand keepers v.sites stand.0) in exact_when_fit (records v) record { places = w.places; fits = w.fit };
  }

-- what is known of a site at the end, beside its log
record IsEnd {K G : Type 0} (shown : K → Option Record) (may : K → Record → Type 0) (run : Running K G) (log : Log) : Type 0 where
  mine : log.site ≡ run.me
  holding : Holding (shown_if shown run.keeper) (may_if may run.keeper) (start_of run) run.entries log

RunStandsIn : {K G : Type 0} → (K → Option Record) → (K → Record → Type 0) → Running K G → Record → Type 0
RunStandsIn shown may run r = MayStandIn (shown_if shown run.keeper) (may_if may run.keeper) r

-- where the steps of a site lead, what was marked of it since the first turn are the inputs of those in which its record changed
led : (o : Option Record) (m : Record → Type 0) (start : WithMarks) (entries : List Entry) (log : Log) → Holding o m start entries log → (changes : List SiteInput) × (log.inputs ≡ start.marked ++ changes) × Lead o m start.stood entries changes log.last
led (Some r) m start entries log h =
    let alone = entered_alone start entries (with_marks r log.inputs) h.steps in
    (alone.0, alone.1, (h.marked, subst (λ (x : Record). StandsAfter EntersMarked (with_marks start.stood []) entries (with_marks x alone.0)) h.marked alone.2))
led None m start entries log h =
    let alone = entered_alone start h.earlier (with_marks log.last log.inputs) h.steps in
    (alone.0, alone.1, record { earlier = h.earlier; stop = h.last; all = h.all; reply = h.reply; steps = alone.2; old_or_new = h.old_or_new })

-- a step that may be marked delivers, if any, a frame that was sent to its site
carried : (sent : List Frame) (site : ℕ) (log : Log) (input : SiteInput) → ((f : Frame) → Contains log.noted f → (addressee f ≡ site) × Contains sent f) → DeliversOneOf log.noted input → IsCarried site sent (came_in input)
carried sent site log (Capture bytes) noted d = tt
carried sent site log (Start root) noted d = tt
carried sent site log (Deliver f) noted d = noted f (d f refl)

stands_one : (sent : List Frame) (site : ℕ) (o : Option Record) (m : Record → Type 0) (start : WithMarks) (entries : List Entry) (log : Log) (standing : Standing) → ((f : Frame) → Contains log.noted f → (addressee f ≡ site) × Contains sent f)
    → Holding o m start entries log → StandsAs o m standing → StandsThere sent site log.last standing
stands_one sent site (Some x) m start entries log (Up r) noted h s = inl (ap Up (sym (same_Some x r s) ∙ h.marked))
stands_one sent site (Some x) m start entries log (Down r) noted h s = absurd (let e : Some x ≡ None = s.0 in cc)
stands_one sent site None m start entries log (Up r) noted h s = absurd (let e : None ≡ Some r = s in cc)
stands_one sent site None m start entries log (Down r) noted h s =
    inr (
      h.last.input,
      carried sent site log h.last.input noted h.noted,
      ⊎_elim (λ (e : r ≡ log.last). inl (ap Down e)) (λ (a : IsAfter log.last h.last.input r). inr (r, a, refl)) (h.old_or_new r s.1),
    )

module _ {K G : Type 0} (shown : K → Option Record) (may : K → Record → Type 0) where
  any_fit : (sent : List Frame) (done : List Record) (runs : List (Running K G)) (ls : List Log) (rs : List Record) → RecordsFit (done ++ last_records ls) sent → ((e : Log) (f : Frame) → Contains ls e → Contains e.noted f → Contains sent f)
      → AllZip (IsEnd shown may) runs ls → AllZip (RunStandsIn shown may) runs rs → RecordsFit (done ++ rs) sent
  unfolding RunStandsIn
  any_fit sent done [] [] [] fit noted z s = fit
  any_fit sent done (e ∷ es) (log ∷ ls) (r ∷ rs) fit noted z s =
      let mine = may_be (shown_if shown e.keeper) (may_if may e.keeper) (start_of e) e.entries log r z.0.holding s.0 in
      let next = one_more done (last_records ls) sent log r fit (λ f c. noted log f (0, omega arith, refl) c) mine in
      let more = any_fit sent (done ++ r ∷ []) es ls rs (subst (λ l. RecordsFit l sent) (sym (append_assoc done (r ∷ []) (last_records ls))) next) (λ x f c d. noted x f (let h = c.1 in (suc c.0, omega arith, c.2)) d) z.1 s.1 in
      subst (λ l. RecordsFit l sent) (append_assoc done (r ∷ []) rs) more
  any_fit sent done [] (l ∷ ls) rs fit noted z s = absurd z
  any_fit sent done [] [] (r ∷ rs) fit noted z s = absurd s
  any_fit sent done (e ∷ es) [] rs fit noted z s = absurd z
  any_fit sent done (e ∷ es) (l ∷ ls) [] fit noted z s = absurd s

  -- a site that ends in a record is the one that began
  end_same : (run : Running K G) (r : Record) → IsSite shown may run → RunStandsIn shown may run r → IsSameSite run.start r
  unfolding RunStandsIn
  end_same run r is stands =
      let h = is.runs in
      holding_same (shown_if shown run.keeper) (may_if may run.keeper) (start_of run) run.entries h.log r h.holding stands

  all_same : (runs : List (Running K G)) (rs : List Record) → All (IsSite shown may) runs → AllZip (RunStandsIn shown may) runs rs → AllZip IsSameSite (map (λ (r : Running K G). r.start) runs) rs
  all_same [] [] all s = tt
  all_same (run ∷ runs) (r ∷ rs) all s =
      (end_same run r (All-head (IsSite shown may) run runs all) s.0, all_same runs rs (All-tail (IsSite shown may) run runs all) s.1)
  all_same [] (r ∷ rs) all s = absurd s
  all_same (run ∷ runs) [] all s = absurd s

  all_fit : (start : List Record) (runs : List (Running K G)) (ls : List Log) (rs : List Record) → Gathered start ls → AllZip (IsEnd shown may) runs ls → AllZip (RunStandsIn shown may) runs rs → RecordsFit rs []
  all_fit start runs ls rs all z s = fewer_fit rs (frames ls) [] (any_fit (frames ls) [] runs ls rs (run_fits start ls all.run) (λ e f c d. (all.noted e f c d).1) z s) (λ f c. let h = c.1 in absurd (omega arith))

  -- each site has one log
  ends_of : (runs : List (Running K G)) → All (IsSite shown may) runs → (ls : List Log) × (flat_map (λ (r : Running K G). r.seat.logs) runs ≡ ls) × AllZip (IsEnd shown may) runs ls
  ends_of [] all = ([], refl, tt)
  ends_of (r ∷ rs) all =
      let one = (All-head (IsSite shown may) r rs all).runs in
      let more = ends_of rs (All-tail (IsSite shown may) r rs all) in
      (one.log ∷ more.0, (λ i. one.alone i ++ more.1 i), (record { mine = one.own.site; holding = one.holding }, more.2))

  -- the joined seat holds the sites of the run, in order
  in_order : (runs : List (Running K G)) (ls : List Log) → AllZip (IsEnd shown may) runs ls → map (λ (e : Log). e.site) ls ≡ map (λ (r : Running K G). r.me) runs
  in_order [] [] z = refl
  in_order (r ∷ rs) (l ∷ ls) z = λ i. z.0.mine i ∷ in_order rs ls z.1 i
  in_order [] (l ∷ ls) z = absurd z
  in_order (r ∷ rs) [] z = absurd z

  -- as the keepers stand, so do their runs
  runs_stand : (runs : List (Running K G)) (keepers : List K) (rs : List Record) → AllZip HasKeeper runs keepers → AllZip (λ k r. MayStandIn (shown k) (may k) r) keepers rs → AllZip (RunStandsIn shown may) runs rs
  unfolding RunStandsIn
  runs_stand runs keepers rs = zip_through HasKeeper (λ k r. MayStandIn (shown k) (may k) r) (RunStandsIn shown may) runs keepers rs (λ run k r is o. subst (λ (x : Option K). MayStandIn (shown_if shown x) (may_if may x) r) (sym is) o)

  steps_one : (handed : List Handed) (run : Running K G) (log : Log) (k : K) (l : RunLog) → AreAnswered handed log.inputs → IsEnd shown may run log → HasKeeper run k → LeavesList run l → IsFresh run → AreStepsOf shown may handed k l log.last
  steps_one handed run log k l answered end is left fresh =
      let d = led (shown_if shown run.keeper) (may_if may run.keeper) (start_of run) run.entries log end.holding in
      let here = subst (λ (x : Option K). Lead (shown_if shown x) (may_if may x) run.start run.entries d.0 log.last) is d.2 in
      record {
        changes = d.0;
        lead = subst (λ (y : Record × List Entry). Lead (shown k) (may k) y.0 y.1 d.0 log.last) (λ i. (sym left.start i, sym left.entries i)) here;
        answered = subst (AreAnswered handed) (d.1 ∙ ap (λ m. m ++ d.0) fresh) answered;
      }

  steps_from : (handed : ℕ → List Handed) (a : ℕ) (runs : List (Running K G)) (ls : List Log) (ks : List K) (lists : List RunLog) → ((i : ℕ) (e : Log) → get_elem? ls i ≡ some e → AreAnswered (handed (a + i)) e.inputs) → AllZip (IsEnd shown may) runs ls → AllZip HasKeeper runs ks
      → AllZip LeavesList runs lists → All IsFresh runs → AreTheirSteps shown may handed a ks lists (last_records ls)
  steps_from handed a [] [] [] [] f z has left fresh = tt
  steps_from handed a (run ∷ runs) (log ∷ ls) (k ∷ ks) (l ∷ lists) f z has left fresh = (
    steps_one (handed a) run log k l (subst (λ n. AreAnswered (handed n) log.inputs) (let z : a + 0 ≡ a = omega arith in z) (f 0 log refl)) z.0 has.0 left.0 (All-head IsFresh run runs fresh),
    steps_from handed (a + 1) runs ls ks lists (λ i e at. subst (λ n. AreAnswered (handed n) e.inputs) (let z : a + suc i ≡ a + 1 + i = omega arith in z) (f (suc i) e at)) z.1 has.1 left.1 (All-tail IsFresh run runs fresh),
  )
  steps_from handed a [] (e ∷ ls) ks lists f z has left fresh = absurd z
  steps_from handed a (run ∷ runs) [] ks lists f z has left fresh = absurd z
  steps_from handed a [] [] (k ∷ ks) lists f z has left fresh = absurd has
  steps_from handed a (run ∷ runs) (log ∷ ls) [] lists f z has left fresh = absurd has
  steps_from handed a [] [] [] (l ∷ lists) f z has left fresh = absurd left
  steps_from handed a (run ∷ runs) (log ∷ ls) (k ∷ ks) [] f z has left fresh = absurd left

  stand_from : (sent : List Frame) (a : ℕ) (runs : List (Running K G)) (ls : List Log) (ks : List K) → ((i : ℕ) (e : Log) → get_elem? ls i ≡ some e → (f : Frame) → Contains e.noted f → (addressee f ≡ a + i) × Contains sent f)
      → AllZip (IsEnd shown may) runs ls → AllZip HasKeeper runs ks → AllStandThere shown may sent a ks (last_records ls)
  stand_from sent a [] [] [] noted z has = tt
  stand_from sent a (run ∷ runs) (log ∷ ls) (k ∷ ks) noted z has = (
    (λ standing stands.
        stands_one sent a (shown_if shown run.keeper) (may_if may run.keeper) (start_of run) run.entries log standing
        (subst (λ n. (f : Frame) → Contains log.noted f → (addressee f ≡ n) × Contains sent f) (let z : a + 0 ≡ a = omega arith in z) (noted 0 log refl)) z.0.holding
        (subst (λ (x : Option K). StandsAs (shown_if shown x) (may_if may x) standing) (sym has.0) stands)),
    stand_from sent (a + 1) runs ls ks (λ i e at. subst (λ n. (f : Frame) → Contains e.noted f → (addressee f ≡ n) × Contains sent f) (let z : a + suc i ≡ a + 1 + i = omega arith in z) (noted (suc i) e at)) z.1 has.1,
  )
  stand_from sent a [] (e ∷ ls) ks noted z has = absurd z
  stand_from sent a (run ∷ runs) [] ks noted z has = absurd z
  stand_from sent a [] [] (k ∷ ks) noted z has = absurd has
  stand_from sent a (run ∷ runs) (log ∷ ls) [] noted z has = absurd has

  module _ (wire : Line) (runs : List (Running K G)) (logs : List Log) (all : All (IsSite shown may) runs) (joined : logs ≡ flat_map (λ (r : Running K G). r.seat.logs) runs)
      (order : map (λ (r : Running K G). r.me) runs ≡ range_with_len 0 wire.sites) where
    sites_are : map (λ (e : Log). e.site) logs ≡ range_with_len 0 wire.sites
    sites_are = let e = ends_of runs all in ap (map (λ (x : Log). x.site)) (joined ∙ e.1) ∙ in_order runs e.0 e.2 ∙ order

    pub all_there : HoldsAll wire.sites logs
    all_there = holds_all wire.sites logs sites_are

    pub keepers_fit : (everyone : List Log) → AreAllLogs wire.sites logs everyone → Gathered wire.start everyone → AreOneWorld (map (λ (r : Running K G). r.start) runs) → (keepers : List K) → AllZip HasKeeper runs keepers → KeepersFit shown may keepers
    keepers_fit everyone are gathered one keepers have =
        let e = ends_of runs all in
        let same = all_held wire.sites logs everyone sites_are are ∙ joined ∙ e.1 in
        fit_so shown may keepers (λ rs stand.
        let stands = runs_stand runs keepers rs have stand in
        let fit = all_fit wire.start runs e.0 rs (subst (Gathered wire.start) same gathered) e.2 stands in
        let again = one_again (map (λ (r : Running K G). r.start) runs) rs (all_same runs rs all stands) one in
        record { one = again; places = fit.places; fit = fit.fits })

    pub keepers_ran : (everyone : List Log) → AreAllLogs wire.sites logs everyone → Gathered wire.start everyone → AreOneWorld wire.start → All IsFresh runs → (keepers : List K) (lists : List RunLog) → AllZip HasKeeper runs keepers → AllZip LeavesList runs lists → RanFrom shown may wire.start keepers lists
    keepers_ran everyone are gathered one fresh keepers lists have left =
        let e = ends_of runs all in
        let same = all_held wire.sites logs everyone sites_are are ∙ joined ∙ e.1 in
        let all_of = subst (Gathered wire.start) same gathered in
        let run = all_of.run in
        let sites = in_order runs e.0 e.2 ∙ order in
        record {
          after = last_records e.0;
          leads = record { events = run.events; answers = run.answers; sent = run.sent; happened = run.happened; out = runs_of_seats_come_out wire.start e.0 run one };
          steps = steps_from (λ site. handed_to site run.sent run.events run.answers) 0 runs e.0 keepers lists (λ i x at. subst (λ n. AreAnswered (handed_to n run.sent run.events run.answers) x.inputs) (let z : i ≡ 0 + i = omega arith in z) (run.handed i x at)) e.2 have left fresh;
          stand = stand_from run.sent 0 runs e.0 keepers
              (λ i x at f noted.
              let sent = all_of.noted x f (Contains_at e.0 i x at) noted in
              (sent.0 ∙ site_there 0 wire.sites e.0 i x sites at, run_has wire.start e.0 run f sent.1)) e.2 have;
        }
