-- What is known of each site after its run.
use Rattle.std.proofs.Common.{◌≡◌, inl, inr, ℕ, zero, suc, ◌+◌, ◌<◌, ◌≤◌, Option, Some, None, IsSome, IfSome, true≢false, List, [], ◌∷◌, ◌++◌, All, map, drop, length, slice_get, get_or, Result, refl, sym, ap, ◌∙◌, subst, arith}
use Rattle.std.proofs.lemmas.Option.{same_Some}
use Rattle.keeper_core.specs.declared.faults.Unopened.{Unopened}
use Rattle.std.proofs.lemmas.List.Elements.{All-nil, All-cons, All-head, All-tail}
use Rattle.std.specs.List.{AllZip, range_with_len}
use Rattle.std.specs.Option.{option_or}
use Rattle.site_core.specs.Records.{Record}
use Rattle.world_core.specs.Faults.{AreOneWorld, MakeAWorld}
use Rattle.world_core.specs.Keepers.{IsFirstClosed}
use Rattle.world_core.specs.KeptSteps.{StandsAfter}
use Rattle.wire_core.specs.Seats.{Line, SeatView}
use Rattle.site_threads.specs.declared.desks.DeskOut.{DeskOut}
use Rattle.site_threads.specs.declared.gather.GatherCause.{GatherCause}
use Rattle.site_threads.specs.declared.gather.GatherCause.TheVariants.{NotAWorld, NoMemory, SiteLost, GaveUp}
use Rattle.site_threads.specs.declared.lists.RunLog.{RunLog}
use Rattle.site_threads.specs.declared.jobs.Entry.{Entry}
use Rattle.site_threads.specs.declared.jobs.Job.{Job}
use Rattle.site_threads.specs.declared.turns.TurnCause.{TurnCause}
use Rattle.site_threads.specs.declared.turns.TurnCause.TheVariants as turns
use Rattle.site_threads.specs.Beginning.{BeganIn, TookEnd}
use Rattle.site_threads.specs.Ends.{takes, HasTold, IsOut, SameOut}
use Rattle.site_threads.specs.Gathering.{AreInOrder, KeepersFit, Began, FitsEnd, HasEnd, HasTurned, IsFirstCause, IsKept, IsLeft, AreOpenBefore, Explains, FitAfter, HindersRun, NoneEndedBefore, WasRefused}
use Rattle.site_threads.specs.Jobs.{Enters, jobs_in, option_items, receipts_in, with_marks}
use Rattle.site_threads.specs.Keepers.{shown_if, may_if}
use Rattle.site_threads.specs.Parting.{HasKeeper, LeavesList, cause_of, first_cause}
use Rattle.site_threads.specs.Running.{Holding, inputs_in}
use Rattle.site_threads.specs.Runs.{EndedBy, IsFresh, IsReady, Ran}
use Rattle.site_threads.specs.Sites.{IsSite, Running, start_of}
use Rattle.site_threads.proofs.Changing.{entered_so}
use Rattle.site_threads.proofs.Gathering.{fit_so}
use Rattle.site_threads.proofs.OneList.{MayStandIn}
use Rattle.site_threads.proofs.Continuing.{out_on}
use Rattle.site_threads.proofs.Zips.{all_carried, as_long, zip_through}

shown_record : (o : Option Record) → IsSome o → (r : Record) × (o ≡ Some r)
shown_record (Some r) h = (r, refl)
shown_record None h = absurd (true≢false (sym h))

neither : (a b : Option GatherCause) → option_or a b ≡ None → (a ≡ None) × (b ≡ None)
neither None b h = (refl, h)
neither (Some x) b h = let n : Some x ≡ None = h in cc

no_fault : (site : ℕ) (f : Option TurnCause) → cause_of site f ≡ None → f ≡ None
no_fault site None h = refl
no_fault site (Some turns.NoMemory) h = let n : Some NoMemory ≡ None = h in cc
no_fault site (Some turns.GaveUp) h = let n : Some (GaveUp site) ≡ None = h in cc
no_fault site (Some (turns.Lost f)) h = let n : Some (SiteLost site) ≡ None = h in cc

-- The least site that ended its run.

ended_so : (site : ℕ) (why : TurnCause) (rest : Option GatherCause) → option_or (cause_of site (Some why)) rest ≡ cause_of site (Some why)
ended_so site turns.NoMemory rest = refl
ended_so site turns.GaveUp rest = refl
ended_so site (turns.Lost fault) rest = refl

-- it is at the place p, from the site a on
record IsFirstFrom (a p : ℕ) (ls : List RunLog) (cause : GatherCause) : Type 0 where
  list : RunLog
  there : slice_get ls p ≡ Some list
  is : cause_of (a + p) list.fault ≡ Some cause
  least : NoneEndedBefore ls p

-- what the first has, and each of the others before a place, each has before the next place
each_before : {A : Type 0} (P : A → Type 0) (x : A) (xs : List A) (p : ℕ) → P x → ((s : ℕ) (y : A) → s < p → slice_get xs s ≡ Some y → P y) → (s : ℕ) (y : A) → s < suc p → slice_get (x ∷ xs) s ≡ Some y → P y
each_before P x xs p here more zero y h at = subst P (same_Some x y at) here
each_before P x xs p here more (suc s) y h at = more s y (omega arith) at

fine_before : (l : RunLog) (ls : List RunLog) (p : ℕ) → l.fault ≡ None → NoneEndedBefore ls p → NoneEndedBefore (l ∷ ls) (suc p)
fine_before l ls p here more = each_before (λ (y : RunLog). y.fault ≡ None) l ls p here more

first_later : (a : ℕ) (l : RunLog) (ls : List RunLog) (cause : GatherCause) → l.fault ≡ None → (p : ℕ) × IsFirstFrom (a + 1) p ls cause → (p : ℕ) × IsFirstFrom a p (l ∷ ls) cause
first_later a l ls cause fine more =
    let rest = more.1 in
    let later : a + suc more.0 ≡ a + 1 + more.0 = omega arith in
    (suc more.0, record { list = rest.list; there = rest.there; is = ap (λ k. cause_of k rest.list.fault) later ∙ rest.is; least = fine_before l ls more.0 fine rest.least })

first_here : (a site : ℕ) (l : RunLog) (ls : List RunLog) (why : TurnCause) (rest : Option GatherCause) (cause : GatherCause) → site ≡ a → l.fault ≡ Some why → option_or (cause_of site (Some why)) rest ≡ Some cause → (p : ℕ) × IsFirstFrom a p (l ∷ ls) cause
first_here a site l ls why rest cause me fault h =
    let here : a + 0 ≡ site = omega (arith, me) in
    (0, record { list = l; there = refl; is = ap (cause_of (a + 0)) fault ∙ ap (λ k. cause_of k (Some why)) here ∙ sym (ended_so site why rest) ∙ h; least = λ s m before at. absurd (omega arith) })

module _ {K G : Type 0} where
  first_from : (a : ℕ) (runs : List (Running K G)) (ls : List RunLog) (cause : GatherCause) → AllZip LeavesList runs ls → map (λ (r : Running K G). r.me) runs ≡ range_with_len a (length runs) → first_cause runs ≡ Some cause
      → (p : ℕ) × IsFirstFrom a p ls cause
  first_from a [] [] cause z order is = let n : None ≡ Some cause = is in cc
  first_from a (r ∷ rs) (l ∷ ls) cause z order is =
      let me : r.me ≡ a = ap (λ (l : List ℕ). get_or l 0 0) order in
      elim r.fault as (λ f. r.fault ≡ f → option_or (cause_of r.me f) (first_cause rs) ≡ Some cause → (p : ℕ) × IsFirstFrom a p (l ∷ ls) cause) [
        | None ↦ λ f h. first_later a l ls cause (z.0.fault ∙ f) (first_from (a + 1) rs ls cause z.1 (ap (drop 1) order) h)
        | Some why ↦ λ f h. first_here a r.me l ls why (first_cause rs) cause me (z.0.fault ∙ f) h
      ]
      refl is
  first_from a [] (l ∷ ls) cause z order is = absurd z
  first_from a (r ∷ rs) [] cause z order is = absurd z

  pub first_named : (runs : List (Running K G)) (ls : List RunLog) (cause : Option GatherCause) → AllZip LeavesList runs ls → map (λ (r : Running K G). r.me) runs ≡ range_with_len 0 (length runs) → cause ≡ first_cause runs → IfSome cause (IsFirstCause ls)
  first_named runs ls None z order is = tt
  first_named runs ls (Some cause) z order is =
      let first = first_from 0 runs ls cause z order (sym is) in
      let at = first.1 in
      record { site = first.0; list = at.list; there = at.there; is = ap (λ k. cause_of k at.list.fault) (let z : first.0 ≡ 0 + first.0 = omega arith in z) ∙ at.is; least = at.least }

  -- where there is none, no site has a fault
  pub none_named : (runs : List (Running K G)) (ls : List RunLog) → AllZip LeavesList runs ls → first_cause runs ≡ None → All (λ (l : RunLog). l.fault ≡ None) ls
  none_named [] [] z none = All-nil (λ (l : RunLog). l.fault ≡ None)
  none_named (r ∷ rs) (l ∷ ls) z none =
      let n = neither (cause_of r.me r.fault) (first_cause rs) none in
      All-cons (λ (l : RunLog). l.fault ≡ None) l ls (z.0.fault ∙ no_fault r.me r.fault n.0) (none_named rs ls z.1 n.1)
  none_named [] (l ∷ ls) z none = absurd z
  none_named (r ∷ rs) [] z none = absurd z

module _ {K : Type 0} (shown : K → Option Record) where
  -- the site that is named is at the place p, from the site a on, and the keepers before it are open
  Names : List K → ℕ → ℕ → GatherCause → Type 0
  Names ks a p (NotAWorld fault) = ⊥
  Names ks a p NoMemory = Unit {0}
  Names ks a p (SiteLost site) = (site ≡ a + p) × IsFirstClosed shown ks p
  Names ks a p (GaveUp site) = (site ≡ a + p) × AreOpenBefore shown ks p

  open_more : (k : K) (ks : List K) (p : ℕ) → ((r : Record) × (shown k ≡ Some r)) → AreOpenBefore shown ks p → AreOpenBefore shown (k ∷ ks) (suc p)
  open_more k ks p here more zero x h at = let e : Some k ≡ Some x = at in let same : k ≡ x = cc in subst (λ (y : K). (r : Record) × (shown y ≡ Some r)) same here
  open_more k ks p here more (suc s) x h at = more s x (omega arith) at

  named_more : (k : K) (ks : List K) (a p : ℕ) (cause : GatherCause) → ((r : Record) × (shown k ≡ Some r)) → Names ks (a + 1) p cause → Names (k ∷ ks) a (suc p) cause
  unfolding Names
  named_more k ks a p (NotAWorld fault) here n = absurd n
  named_more k ks a p NoMemory here n = tt
  named_more k ks a p (SiteLost site) here n = (n.0 ∙ (let z : a + 1 + p ≡ a + suc p = omega arith in z), (n.1.0, open_more k ks p here n.1.1))
  named_more k ks a p (GaveUp site) here n = (n.0 ∙ (let z : a + 1 + p ≡ a + suc p = omega arith in z), open_more k ks p here n.1)

  none_before : (ks : List K) → AreOpenBefore shown ks 0
  none_before ks s k h at = absurd (omega arith)

  named_hinders : (ks : List K) (p : ℕ) (cause : GatherCause) → Names ks 0 p cause → HindersRun shown ks cause
  unfolding Names
  named_hinders ks p (NotAWorld fault) n = absurd n
  named_hinders ks p NoMemory n = tt
  named_hinders ks p (SiteLost site) n = subst (IsFirstClosed shown ks) (let e : p ≡ 0 + p = omega arith in e ∙ sym n.0) n.1
  named_hinders ks p (GaveUp site) n = subst (AreOpenBefore shown ks) (let e : p ≡ 0 + p = omega arith in e ∙ sym n.0) n.1

  named_fits : (may : K → Record → Type 0) (olds ks : List K) (p : ℕ) (cause : GatherCause) → Names ks 0 p cause → KeepersFit shown may ks → FitAfter shown may olds cause ks
  unfolding Names
  named_fits may olds ks p (NotAWorld fault) n fit = absurd n
  named_fits may olds ks p NoMemory n fit = fit
  named_fits may olds ks p (SiteLost site) n fit = fit
  named_fits may olds ks p (GaveUp site) n fit = fit

module _ {K G : Type 0} (shown : K → Option Record) (reopens : K → Result K (Unopened K) → Type 0) (gives_up : G → ℕ → ℕ → Type 0) (stored : K → Type 0) (most : ℕ) where
  -- Where no site ended its run.

  opened : (old run : Running K G) (k : K) → Ran shown reopens gives_up stored most old run → HasKeeper run k → run.fault ≡ None → (r : Record) × (shown k ≡ Some r)
  opened old run k ran is fine = shown_record (shown k) (subst (λ (o : Option K). IsSome (shown_if shown o)) is (ran.over.is_open fine))

  jobs_one : (old run : Running K G) (l : RunLog) → IsReady old → Ran shown reopens gives_up stored most old run → IsOut run.out → LeavesList run l → FitsEnd l
  jobs_one old run l ready ran out left = record {
    out = subst IsOut (sym left.out) out;
    jobs = subst (λ (y : List Entry × (Option Job × List Job)). jobs_in y.0 ++ option_items y.1.0 ≡ y.1.1) (λ i. (sym left.entries i, (sym left.pending i, ap takes (sym left.out) i))) (ran.same.fits ready.fits).jobs;
    told = subst (λ (y : DeskOut × (ℕ × List Entry)). HasTold y.0 (receipts_in y.1.0 y.1.1)) (λ i. (sym left.out i, (sym left.site i, sym left.entries i))) (ran.same.fits ready.fits).told;
  }

  kept_one : (may : K → Record → Type 0) (old run : Running K G) (k : K) (l : RunLog) → IsReady old → Ran shown reopens gives_up stored most old run → IsSite shown may run → HasKeeper run k → LeavesList run l → run.fault ≡ None → IsKept shown k l
  kept_one may old run k l ready ran site is left fine =
      let o = opened old run k ran is fine in
      let h = subst (λ (x : Option Record). Holding x (may_if may run.keeper) (start_of run) run.entries site.runs.log) (ap (shown_if shown) is ∙ o.1) site.runs.holding in
      record {
        last = o.0;
        stands = o.1;
        steps = subst (λ (y : Record × List Entry). StandsAfter Enters y.0 y.1 o.0) (λ i. (sym left.start i, sym left.entries i)) (entered_so (start_of run) run.entries (with_marks o.0 site.runs.log.inputs) h.steps);
        jobs = jobs_one old run l ready ran site.out left;
      }

  pub kept_all : (may : K → Record → Type 0) (olds runs : List (Running K G)) (ks : List K) (ls : List RunLog) → All IsReady olds → AllZip (Ran shown reopens gives_up stored most) olds runs → All (IsSite shown may) runs → AllZip HasKeeper runs ks → AllZip LeavesList runs ls → first_cause runs ≡ None → AllZip (IsKept shown) ks ls
  kept_all may [] [] [] [] ready a sites b c none = tt
  kept_all may (o ∷ os) (r ∷ rs) (k ∷ ks) (l ∷ ls) ready a sites b c none =
      let n = neither (cause_of r.me r.fault) (first_cause rs) none in (
        kept_one may o r k l (All-head IsReady o os ready) a.0 (All-head (IsSite shown may) r rs sites) b.0 c.0 (no_fault r.me r.fault n.0),
        kept_all may os rs ks ls (All-tail IsReady o os ready) a.1 (All-tail (IsSite shown may) r rs sites) b.1 c.1 n.1,
      )
  kept_all may [] (r ∷ rs) ks ls ready a sites b c none = absurd a
  kept_all may (o ∷ os) [] ks ls ready a sites b c none = absurd a
  kept_all may [] [] (k ∷ ks) ls ready a sites b c none = absurd b
  kept_all may [] [] [] (l ∷ ls) ready a sites b c none = absurd c
  kept_all may (o ∷ os) (r ∷ rs) [] ls ready a sites b c none = absurd b
  kept_all may (o ∷ os) (r ∷ rs) (k ∷ ks) [] ready a sites b c none = absurd c

  turned_one : (old run : Running K G) (k : K) (l : RunLog) → Ran shown reopens gives_up stored most old run → HasKeeper run k → LeavesList run l → run.fault ≡ None → HasTurned shown most k l
  turned_one old run k l ran is left fine = record {
    asked = subst (λ (n : ℕ). n ≤ most) (sym left.turns) ran.over.asked;
    all = elim (ran.over.all fine) [
      | inl all ↦ inl (left.turns ∙ all)
      | inr done ↦ inr (record {
        gone = ap (λ (o : DeskOut). o.gone) left.out ∙ done.gone;
        none = left.pending ∙ done.none;
        record_is = done.record_is;
        stands = ap (shown_if shown) (sym is) ∙ done.stands;
        rests = done.rests;
      })
    ];
  }

  pub turned_all : (olds runs : List (Running K G)) (ks : List K) (ls : List RunLog) → AllZip (Ran shown reopens gives_up stored most) olds runs → AllZip HasKeeper runs ks → AllZip LeavesList runs ls → first_cause runs ≡ None → AllZip (HasTurned shown most) ks ls
  turned_all [] [] [] [] a b c none = tt
  turned_all (o ∷ os) (r ∷ rs) (k ∷ ks) (l ∷ ls) a b c none =
      let n = neither (cause_of r.me r.fault) (first_cause rs) none in (turned_one o r k l a.0 b.0 c.0 (no_fault r.me r.fault n.0), turned_all os rs ks ls a.1 b.1 c.1 n.1)
  turned_all [] (r ∷ rs) ks ls a b c none = absurd a
  turned_all (o ∷ os) [] ks ls a b c none = absurd a
  turned_all [] [] (k ∷ ks) ls a b c none = absurd b
  turned_all [] [] [] (l ∷ ls) a b c none = absurd c
  turned_all (o ∷ os) (r ∷ rs) [] ls a b c none = absurd b
  turned_all (o ∷ os) (r ∷ rs) (k ∷ ks) [] a b c none = absurd c

  -- Whether one did or not.

  left_one : (old run : Running K G) (l : RunLog) → IsReady old → Ran shown reopens gives_up stored most old run → IsOut run.out → LeavesList run l → IsLeft most l
  left_one old run l ready ran out left = record {
    jobs = jobs_one old run l ready ran out left;
    asked = subst (λ (n : ℕ). n ≤ most) (sym left.turns) ran.over.asked;
  }

  pub left_all : (may : K → Record → Type 0) (olds runs : List (Running K G)) (ls : List RunLog) → All IsReady olds → AllZip (Ran shown reopens gives_up stored most) olds runs → All (IsSite shown may) runs → AllZip LeavesList runs ls → All (IsLeft most) ls
  left_all may [] [] [] ready a sites c = All-nil (IsLeft most)
  left_all may (o ∷ os) (r ∷ rs) (l ∷ ls) ready a sites c =
      All-cons (IsLeft most) l ls (left_one o r l (All-head IsReady o os ready) a.0 (All-head (IsSite shown may) r rs sites).out c.0) (left_all may os rs ls (All-tail IsReady o os ready) a.1 (All-tail (IsSite shown may) r rs sites) c.1)
  left_all may [] (r ∷ rs) ls ready a sites c = absurd a
  left_all may (o ∷ os) [] ls ready a sites c = absurd a
  left_all may [] [] (l ∷ ls) ready a sites c = absurd c
  left_all may (o ∷ os) (r ∷ rs) [] ready a sites c = absurd c

  -- they are of the wire still
  pub wires_all : (wire : Line) (olds runs : List (Running K G)) → All (λ (r : Running K G). r.wire ≡ wire) olds → AllZip (Ran shown reopens gives_up stored most) olds runs → All (λ (r : Running K G). r.wire ≡ wire) runs
  wires_all wire olds runs =
      all_carried (Ran shown reopens gives_up stored most) (λ (r : Running K G). r.wire ≡ wire) (λ (r : Running K G). r.wire ≡ wire) olds runs (λ o r is z. z.same.wire ∙ is)

  -- no input was marked of them before
  pub fresh_all : (olds runs : List (Running K G)) → All IsReady olds → AllZip (Ran shown reopens gives_up stored most) olds runs → All IsFresh runs
  fresh_all olds runs ready ran =
      all_carried (Ran shown reopens gives_up stored most) IsReady IsFresh olds runs (λ o r is z. ap (λ (s : SeatView). inputs_in s.logs) z.same.first ∙ is.fresh) ready ran

  -- Where one did.

  first_hinders : (a : ℕ) (olds runs : List (Running K G)) (ks : List K) (cause : GatherCause) → AllZip (Ran shown reopens gives_up stored most) olds runs → AllZip HasKeeper runs ks → map (λ (r : Running K G). r.me) runs ≡ range_with_len a (length runs) → first_cause runs ≡ Some cause
      → (p : ℕ) × Names shown ks a p cause
  unfolding Names
  first_hinders a [] [] [] cause x y order is = let n : None ≡ Some cause = is in cc
  first_hinders a (o ∷ os) (r ∷ rs) (k ∷ ks) cause x y order is =
      let me : r.me ≡ a = ap (λ (l : List ℕ). get_or l 0 0) order in
      elim r.fault as (λ f. r.fault ≡ f → option_or (cause_of r.me f) (first_cause rs) ≡ Some cause → (p : ℕ) × Names shown (k ∷ ks) a p cause) [
        | None ↦ λ f h. let more = first_hinders (a + 1) os rs ks cause x.1 y.1 (ap (drop 1) order) h in (suc more.0, named_more shown k ks a more.0 cause (opened o r k x.0 y.0 f) more.1)
        | Some turns.NoMemory ↦ λ f h. (0, subst (Names shown (k ∷ ks) a 0) (let e : Some NoMemory ≡ Some cause = h in let q : NoMemory ≡ cause = cc in q) tt)
        | Some turns.GaveUp ↦ λ f h. (0, subst (Names shown (k ∷ ks) a 0) (let e : Some (GaveUp r.me) ≡ Some cause = h in let q : GaveUp r.me ≡ cause = cc in q) (me ∙ (let z : a ≡ a + 0 = omega arith in z), none_before shown (k ∷ ks)))
        | Some (turns.Lost why) ↦ λ f h.
            let lost : EndedBy shown reopens gives_up r (turns.Lost why) = subst (λ z. IfSome z (EndedBy shown reopens gives_up r)) f x.0.over.why in (
              0,
              subst (Names shown (k ∷ ks) a 0) (let e : Some (SiteLost r.me) ≡ Some cause = h in let q : SiteLost r.me ≡ cause = cc in q)
                  (me ∙ (let z : a ≡ a + 0 = omega arith in z), ((k, refl, ap (shown_if shown) (sym y.0) ∙ lost.hinders.refused.stays), none_before shown (k ∷ ks))),
            )
      ]
      refl is
  first_hinders a [] (r ∷ rs) ks cause x y order is = absurd x
  first_hinders a (o ∷ os) [] ks cause x y order is = absurd x
  first_hinders a [] [] (k ∷ ks) cause x y order is = absurd y
  first_hinders a (o ∷ os) (r ∷ rs) [] cause x y order is = absurd y

  -- what stands behind it, of the sites from a on
  ExplainsFrom : ℕ → List K → GatherCause → Type 0
  ExplainsFrom a ks (NotAWorld fault) = ⊥
  ExplainsFrom a ks NoMemory = Unit {0}
  ExplainsFrom a ks (SiteLost site) = (p : ℕ) × (site ≡ a + p) × (k : K) × (slice_get ks p ≡ Some k) × WasRefused shown reopens k
  ExplainsFrom a ks (GaveUp site) = (gate : G) × (turn : ℕ) × (turn ≤ most) × gives_up gate site turn

  explains_more : (a : ℕ) (k : K) (ks : List K) (cause : GatherCause) → ExplainsFrom (a + 1) ks cause → ExplainsFrom a (k ∷ ks) cause
  unfolding ExplainsFrom
  explains_more a k ks (NotAWorld fault) e = absurd e
  explains_more a k ks NoMemory e = tt
  explains_more a k ks (SiteLost site) e = (suc e.0, e.1 ∙ (let z : a + 1 + e.0 ≡ a + suc e.0 = omega arith in z), e.2, e.3, e.4)
  explains_more a k ks (GaveUp site) e = e

  explained : (a : ℕ) (olds runs : List (Running K G)) (ks : List K) (cause : GatherCause) → AllZip (Ran shown reopens gives_up stored most) olds runs → AllZip HasKeeper runs ks
      → map (λ (r : Running K G). r.me) runs ≡ range_with_len a (length runs) → first_cause runs ≡ Some cause → ExplainsFrom a ks cause
  unfolding ExplainsFrom
  explained a [] [] [] cause x y order is = let n : None ≡ Some cause = is in cc
  explained a (o ∷ os) (r ∷ rs) (k ∷ ks) cause x y order is =
      let asked = x.0.over.asked in
      let why = EndedBy shown reopens gives_up r in
      elim r.fault as (λ f. r.fault ≡ f → option_or (cause_of r.me f) (first_cause rs) ≡ Some cause → ExplainsFrom a (k ∷ ks) cause) [
        | None ↦ λ f h. explains_more a k ks cause (explained (a + 1) os rs ks cause x.1 y.1 (ap (drop 1) order) h)
        | Some turns.NoMemory ↦ λ f h. subst (ExplainsFrom a (k ∷ ks)) (let e : Some NoMemory ≡ Some cause = h in let q : NoMemory ≡ cause = cc in q) tt
        | Some turns.GaveUp ↦ λ f h.
            let e : why turns.GaveUp = subst (λ z. IfSome z why) f x.0.over.why in
            let few : e.turn ≤ most = let last = e.asked in omega (arith, asked, last) in
            subst (ExplainsFrom a (k ∷ ks)) (let n : Some (GaveUp r.me) ≡ Some cause = h in let q : GaveUp r.me ≡ cause = cc in q) (e.gate, e.turn, few, e.hinders)
        | Some (turns.Lost fault) ↦ λ f h.
            let e : why (turns.Lost fault) = subst (λ z. IfSome z why) f x.0.over.why in
            let no = e.hinders.refused in
            let me : r.me ≡ a = ap (λ (l : List ℕ). get_or l 0 0) order in
            subst (ExplainsFrom a (k ∷ ks)) (let n : Some (SiteLost r.me) ≡ Some cause = h in let q : SiteLost r.me ≡ cause = cc in q)
            (0, me ∙ (let z : a ≡ a + 0 = omega arith in z), k, refl, record { was = no.was; left = no.left; closed = no.closed; refused = no.refused; is = same_Some k no.left.keeper (sym y.0 ∙ no.new_is) })
      ]
      refl is
  explained a [] (r ∷ rs) ks cause x y order is = absurd x
  explained a (o ∷ os) [] ks cause x y order is = absurd x
  explained a [] [] (k ∷ ks) cause x y order is = absurd y
  explained a (o ∷ os) (r ∷ rs) [] cause x y order is = absurd y

  explains : (ks : List K) (cause : GatherCause) → ExplainsFrom 0 ks cause → Explains shown reopens gives_up most ks cause
  unfolding ExplainsFrom
  explains ks (NotAWorld fault) e = absurd e
  explains ks NoMemory e = tt
  explains ks (SiteLost site) e = (e.2, ap (slice_get ks) (e.1 ∙ (let z : 0 + e.0 ≡ e.0 = omega arith in z)) ∙ e.3, e.4)
  explains ks (GaveUp site) e = e

  pub explains_all : (olds runs : List (Running K G)) (ks : List K) (cause : Option GatherCause) → AllZip (Ran shown reopens gives_up stored most) olds runs → AllZip HasKeeper runs ks
      → map (λ (r : Running K G). r.me) runs ≡ range_with_len 0 (length runs) → cause ≡ first_cause runs → IfSome cause (Explains shown reopens gives_up most ks)
  explains_all olds runs ks None x y order is = tt
  explains_all olds runs ks (Some cause) x y order is = explains ks cause (explained 0 olds runs ks cause x y order (sym is))

  pub hinders_all : (may : K → Record → Type 0) (firsts : List K) (olds runs : List (Running K G)) (ks : List K) (cause : Option GatherCause) → AllZip (Ran shown reopens gives_up stored most) olds runs → AllZip HasKeeper runs ks → map (λ (r : Running K G). r.me) runs ≡ range_with_len 0 (length runs)
      → cause ≡ first_cause runs → KeepersFit shown may ks → IfSome cause (λ c. HindersRun shown ks c × FitAfter shown may firsts c ks)
  hinders_all may firsts olds runs ks None x y order is fit = tt
  hinders_all may firsts olds runs ks (Some cause) x y order is fit = let n = first_hinders 0 olds runs ks cause x y order (sym is) in (named_hinders shown ks n.0 cause n.1, named_fits shown may firsts ks n.0 cause n.1 fit)

module _ {K G : Type 0} (shown : K → Option Record) (reopens : K → Result K (Unopened K) → Type 0) (gives_up : G → ℕ → ℕ → Type 0) (stored : K → Type 0) (most : ℕ) (olds runs : List (Running K G)) (ls : List RunLog) (ran : AllZip (Ran shown reopens gives_up stored most) olds runs) (left : AllZip LeavesList runs ls) where
  -- each list is of the site that began so, and has its end of the desk

  StartedIn : K → Running K G → Type 0
  StartedIn k run = shown k ≡ Some run.start

  pub began_all : (ks : List K) → AllZip (BeganIn shown) ks olds → AllZip (Began shown) ks ls
  unfolding StartedIn
  began_all ks start =
      zip_through StartedIn LeavesList (Began shown) ks runs ls (λ k r l b z. b ∙ ap Some (sym z.start))
      (zip_through (BeganIn {G = G} shown) (Ran shown reopens gives_up stored most) StartedIn ks olds runs (λ k o r b z. b.start ∙ ap Some (sym z.same.start)) start ran) left

  sites_are : (rs : List (Running K G)) (more : List RunLog) → AllZip LeavesList rs more → map (λ (l : RunLog). l.site) more ≡ map (λ (r : Running K G). r.me) rs
  sites_are [] [] z = refl
  sites_are (r ∷ rs) (l ∷ more) z = λ i. z.0.site i ∷ sites_are rs more z.1 i
  sites_are [] (l ∷ more) z = absurd z
  sites_are (r ∷ rs) [] z = absurd z

  -- the lists are in the order of the sites
  pub ordered_all : map (λ (r : Running K G). r.me) runs ≡ range_with_len 0 (length runs) → AreInOrder ls
  ordered_all order = sites_are runs ls left ∙ order ∙ ap (range_with_len 0) (sym (as_long LeavesList runs ls left))

  pub ends_all : (ds : List DeskOut) → AllZip (TookEnd {K = K} {G = G}) ds olds → AllZip HasEnd ds ls
  ends_all ds took =
      zip_through (TookEnd {K = K} {G = G}) LeavesList HasEnd ds runs ls (λ d r l t z. subst (SameOut d) (sym z.out) t)
      (zip_through (TookEnd {K = K} {G = G}) (Ran shown reopens gives_up stored most) TookEnd ds olds runs (λ d o r t z. out_on d o.out r.out t z.same.desk) took ran) left

-- before the first turn, where all are open
only_shown : {K : Type 0} (shown : K → Option Record) (may : K → Record → Type 0) (ks : List K) (rs qs : List Record) → AllZip (λ k r. shown k ≡ Some r) ks rs → AllZip (λ k r. MayStandIn (shown k) (may k) r) ks qs → qs ≡ rs
only_shown shown may [] [] [] a b = refl
only_shown shown may (k ∷ ks) (r ∷ rs) (q ∷ qs) a b = λ i. (subst (λ o. MayStandIn o (may k) q) a.0 b.0) i ∷ only_shown shown may ks rs qs a.1 b.1 i
only_shown shown may [] (r ∷ rs) qs a b = absurd a
only_shown shown may (k ∷ ks) [] qs a b = absurd a
only_shown shown may [] [] (q ∷ qs) a b = absurd b
only_shown shown may (k ∷ ks) (r ∷ rs) [] a b = absurd b

pub fit_before : {K : Type 0} (shown : K → Option Record) (may : K → Record → Type 0) (ks : List K) (rs : List Record) → AllZip (λ k r. shown k ≡ Some r) ks rs → MakeAWorld rs → KeepersFit shown may ks
fit_before shown may ks rs a world = fit_so shown may ks (λ qs b. subst MakeAWorld (sym (only_shown shown may ks rs qs a b)) world)

-- What the keepers store.

module _ {K G : Type 0} (shown : K → Option Record) (reopens : K → Result K (Unopened K) → Type 0) (gives_up : G → ℕ → ℕ → Type 0) (stored : K → Type 0) (most : ℕ) where
  -- a site's keeper stores what it did as the site began, whose keeper it is still
  pub stored_all : (firsts : List K) (olds runs : List (Running K G)) (ks : List K) → AllZip (BeganIn shown) firsts olds → AllZip (Ran shown reopens gives_up stored most) olds runs → AllZip HasKeeper runs ks → All stored firsts → All stored ks
  stored_all firsts olds runs ks began ran has all =
      let begun = all_carried (BeganIn {G = G} shown) stored (λ (r : Running K G). IfSome r.keeper stored) firsts olds (λ k r s b. subst (λ (o : Option K). IfSome o stored) (sym b.keeper) s) all began in
      let ended = all_carried (Ran shown reopens gives_up stored most) (λ (r : Running K G). IfSome r.keeper stored) (λ (r : Running K G). IfSome r.keeper stored) olds runs (λ o r s z. z.same.keeps s) begun ran in
      all_carried (HasKeeper {K = K} {G = G}) (λ (r : Running K G). IfSome r.keeper stored) stored runs ks (λ r k s h. subst (λ (o : Option K). IfSome o stored) h s) ended has

  -- the records that the sites began with are those that the keepers showed
  starts_are : (ks : List K) (olds runs : List (Running K G)) (rs : List Record) → AllZip (BeganIn shown) ks olds → AllZip (Ran shown reopens gives_up stored most) olds runs → AllZip (λ k r. shown k ≡ Some r) ks rs → map (λ (r : Running K G). r.start) runs ≡ rs
  starts_are [] [] [] [] b z s = refl
  starts_are (k ∷ ks) (o ∷ os) (x ∷ xs) (r ∷ rs) b z s =
      let same : x.start ≡ r = z.0.same.start ∙ same_Some o.start r (sym b.0.start ∙ s.0) in
      λ i. same i ∷ starts_are ks os xs rs b.1 z.1 s.1 i
  starts_are [] (o ∷ os) runs rs b z s = absurd b
  starts_are (k ∷ ks) [] runs rs b z s = absurd b
  starts_are [] [] (x ∷ xs) rs b z s = absurd z
  starts_are [] [] [] (r ∷ rs) b z s = absurd s
  starts_are (k ∷ ks) (o ∷ os) [] rs b z s = absurd z
  starts_are (k ∷ ks) (o ∷ os) (x ∷ xs) [] b z s = absurd s

  pub starts_one : (ks : List K) (olds runs : List (Running K G)) (rs : List Record) → AllZip (BeganIn shown) ks olds → AllZip (Ran shown reopens gives_up stored most) olds runs → AllZip (λ k r. shown k ≡ Some r) ks rs → AreOneWorld rs → AreOneWorld (map (λ (r : Running K G). r.start) runs)
  starts_one ks olds runs rs b z s one = subst AreOneWorld (sym (starts_are ks olds runs rs b z s)) one
