-- What a run leaves, whether it has an answer or not.
use Rattle.std.proofs.Common.{◌≡◌, inr, ℕ, Option, Some, None, Result, Ok, Err, List, All, sym, subst}
use Rattle.std.specs.List.{AllZip}
use Rattle.std.specs.Prelude.{IfErr, IfOk, IfSome}
use Rattle.keeper_core.specs.declared.faults.Unopened.{Unopened}
use Rattle.site_core.specs.Records.{Record}
use Rattle.site_threads.specs.declared.desks.DeskOut.{DeskOut}
use Rattle.site_threads.specs.declared.gather.Ended.{Ended}
use Rattle.site_threads.specs.declared.gather.GatherCause.{GatherCause}
use Rattle.site_threads.specs.declared.gather.GatherCause.TheVariants.{NotAWorld, NoMemory, SiteLost, GaveUp}
use Rattle.site_threads.specs.declared.gathered.Gathered.{Gathered}
use Rattle.site_threads.specs.declared.gathered.GatherFault.{GatherFault}
use Rattle.site_threads.specs.declared.lists.RunLog.{RunLog}
use Rattle.site_threads.specs.declared.turns.TurnCause.{TurnCause}
use Rattle.site_threads.specs.declared.turns.TurnCause.TheVariants as turns
use Rattle.site_threads.specs.Gathering.{AreInOrder, Began, Explains, FitAfter, HasEnd, HasTurned, HaveRun, HindersRun, IsCauseOf, IsFirstCause, IsKept, IsLeft, KeepersFit, RanAsAWorld, WereHindered}
use Rattle.site_threads.specs.Parting.{cause_of}

-- no cause is there, and the keepers and the lists are given back
abbrev pub IsAnswer : {K : Type 0} → Ended K → Gathered K → Type 0
IsAnswer ended g = (ended.cause ≡ None) × (g.keepers ≡ ended.keepers) × (g.lists ≡ ended.lists)

-- the cause is given back, with the keepers and the lists
abbrev pub IsGiven : {K : Type 0} → Ended K → GatherFault K → Type 0
IsGiven ended e = (ended.cause ≡ Some e.cause) × (e.keepers ≡ ended.keepers) × (e.lists ≡ ended.lists)

-- no site ends its run since the keepers make no world
never_so : {A : Type 0} (site : ℕ) (why : Option TurnCause) (fault : _) → cause_of site why ≡ Some (NotAWorld fault) → A
never_so site None fault is = absurd (let e : None ≡ Some (NotAWorld fault) = is in cc)
never_so site (Some turns.NoMemory) fault is = absurd (let e : Some NoMemory ≡ Some (NotAWorld fault) = is in cc)
never_so site (Some turns.GaveUp) fault is = absurd (let e : Some (GaveUp site) ≡ Some (NotAWorld fault) = is in cc)
never_so site (Some (turns.Lost why)) fault is = absurd (let e : Some (SiteLost site) ≡ Some (NotAWorld fault) = is in cc)

named_as : (ls : List RunLog) (cause : GatherCause) → IsFirstCause ls cause → IsCauseOf ls cause
named_as ls (NotAWorld fault) f = never_so f.site f.list.fault fault f.is
named_as ls NoMemory f = inr f
named_as ls (SiteLost site) f = f
named_as ls (GaveUp site) f = f

-- what is said of keepers and lists is said of the same ones
carried : {K : Type 0} (P : List K → List RunLog → Type 0) (ks ks' : List K) (ls ls' : List RunLog) → ks' ≡ ks → ls' ≡ ls → P ks ls → P ks' ls'
carried {K} P ks ks' ls ls' same alike = subst (λ (y : List K × List RunLog). P y.0 y.1) (λ i. (sym same i, sym alike i))

module _ {K : Type 0} (shown : K → Option Record) (may : K → Record → Type 0) (most : ℕ) (keepers : List K) (desks : List DeskOut) (ended : Ended K) (began : AllZip (Began shown) keepers ended.lists.items) (ends : AllZip HasEnd desks ended.lists.items) (order : AreInOrder ended.lists.items)
    (run : RanAsAWorld shown may keepers ended.keepers.items ended.lists.items) where
  pub ran_if_ok : (r : Result (Gathered K) (GatherFault K)) → IfOk r (IsAnswer ended) → KeepersFit shown may ended.keepers.items → (ended.cause ≡ None → AllZip (IsKept shown) ended.keepers.items ended.lists.items) → (ended.cause ≡ None → AllZip (HasTurned shown most) ended.keepers.items ended.lists.items)
      → (ended.cause ≡ None → All (λ (l : RunLog). l.fault ≡ None) ended.lists.items) → IfOk r (HaveRun shown may most keepers desks)
  ran_if_ok (Err e) given fit kept turned none = tt
  ran_if_ok (Ok g) given fit kept turned none =
      let so = λ (P : List K → List RunLog → Type 0). carried P ended.keepers.items g.keepers.items ended.lists.items g.lists.items (λ i. (given.1 i).items) (λ i. (given.2 i).items) in
      record {
        kept = so (AllZip (IsKept shown)) (kept given.0);
        began = so (λ ks ls. AllZip (Began shown) keepers ls) began;
        ends = so (λ ks ls. AllZip HasEnd desks ls) ends;
        turns = so (AllZip (HasTurned shown most)) (turned given.0);
        order = so (λ ks ls. AreInOrder ls) order;
        fit = so (λ ks ls. KeepersFit shown may ks) fit;
        run = so (RanAsAWorld shown may keepers) run;
        none = so (λ ks ls. All (λ (l : RunLog). l.fault ≡ None) ls) (none given.0);
      }

  pub hindered_if_err : {G : Type 0} (reopens : K → Result K (Unopened K) → Type 0) (gives_up : G → ℕ → ℕ → Type 0) (r : Result (Gathered K) (GatherFault K)) → IfErr r (IsGiven ended) → All (IsLeft most) ended.lists.items
      → IfSome ended.cause (λ cause. HindersRun shown ended.keepers.items cause × FitAfter shown may keepers cause ended.keepers.items) → IfSome ended.cause (Explains shown reopens gives_up most ended.keepers.items) → IfSome ended.cause (IsFirstCause ended.lists.items)
      → IfErr r (WereHindered shown may reopens gives_up most keepers desks)
  hindered_if_err reopens gives_up (Ok g) given left hinders why first = tt
  hindered_if_err reopens gives_up (Err e) given left hinders why first =
      let so = λ (P : List K → List RunLog → Type 0). carried P ended.keepers.items e.keepers.items ended.lists.items e.lists.items (λ i. (given.1 i).items) (λ i. (given.2 i).items) in
      let is = λ (P : GatherCause → Type 0). subst (λ o. IfSome o P) given.0 in
      record {
        err = so (λ ks ls. HindersRun shown ks e.cause × FitAfter shown may keepers e.cause ks) (is (λ cause. HindersRun shown ended.keepers.items cause × FitAfter shown may keepers cause ended.keepers.items) hinders);
        why = so (λ ks ls. Explains shown reopens gives_up most ks e.cause) (is (Explains shown reopens gives_up most ended.keepers.items) why);
        named = named_as e.lists.items e.cause (so (λ ks ls. IsFirstCause ls e.cause) (is (IsFirstCause ended.lists.items) first));
        left = inr record {
          began = so (λ ks ls. AllZip (Began shown) keepers ls) began;
          ends = so (λ ks ls. AllZip HasEnd desks ls) ends;
          order = so (λ ks ls. AreInOrder ls) order;
          left = so (λ ks ls. All (IsLeft most) ls) left;
          run = so (RanAsAWorld shown may keepers) run;
        };
      }
