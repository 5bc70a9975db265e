-- Acts of the sites of a folder, built site by site.
use Rattle.std.proofs.Common.{◌≡◌, ℕ, suc, ◌+◌, Some, List, [], ◌∷◌, ◌++◌, length, map, refl, sym, ◌∙◌, ap, subst, inl, inr, append_assoc, append-nil, length-append, arith, slice_get, slice_set}
use Rattle.std.specs.List.{AllByRecursion}
use Rattle.frame_core.specs.declared.frames.Frame.{Frame}
use Rattle.keeper_core.specs.Keeping.{IsAfter}
use Rattle.keeper_core.specs.declared.faults.Keep.TheVariants.{New}
use Rattle.site_core.specs.Records.{Record}
use Rattle.site_core.specs.declared.inputs.SiteInput.{SiteInput}
use Rattle.world_core.specs.KeptSteps.{StandsAfter}
use Rattle.world_core.specs.Parts.{Act, Given, Halted, Opened, Acts, AreActs, CameAfter, Deed, IsCarried, came, came_in, gave, given_by}
use Rattle.world_core.specs.Turns.{GoesDown, Steps}
use Rattle.world_core.specs.Worlds.{Standing, Up, Down, record_of}
use Rattle.world_core.specs.declared.events.Answer.{Answer}
use Rattle.world_core.specs.declared.events.Answer.TheVariants.{Done, Reopened, Stopped}
use Rattle.world_core.proofs.KeptSteps.{stands_append}
use Rattle.world_core.proofs.RunParts.{no_acts, one_more_act, parts_go_on}
use Rattle.site_threads.specs.Gathering.{StandsThere}
use Rattle.command_line.specs.Lives.{IsOwn}

-- acts that give no frame lead a site from one standing to another
pub record ComesBy (sent : List Frame) (site : ℕ) (old new : Standing) : Type 0 where
  pub acts : List Act
  pub lead : StandsAfter Acts old acts new
  pub carried : AllByRecursion (λ act. IsCarried site sent (came act) × (gave act ≡ [])) acts

all_both : {X : Type 0} (P : X → Type 0) (xs ys : List X) → AllByRecursion P xs → AllByRecursion P ys → AllByRecursion P (xs ++ ys)
all_both P [] ys h k = k
all_both P (x ∷ xs) ys h k = (h.0, all_both P xs ys h.1 k)

module _ (sent : List Frame) (site : ℕ) where
  pub stays : (standing : Standing) → ComesBy sent site standing standing
  stays standing = record { acts = []; lead = refl; carried = tt }

  pub stays_as : (old new : Standing) → new ≡ old → ComesBy sent site old new
  stays_as old new same = subst (ComesBy sent site old) (sym same) (stays old)

  pub and_then : (old mid new : Standing) → ComesBy sent site old mid → ComesBy sent site mid new → ComesBy sent site old new
  and_then old mid new first more = record {
    acts = first.acts ++ more.acts;
    lead = stands_append Acts first.acts more.acts old mid new first.lead more.lead;
    carried = all_both (λ act. IsCarried site sent (came act) × (gave act ≡ [])) first.acts more.acts first.carried more.carried;
  }

  one_act : (act : Act) (old new : Standing) → Acts old act new → IsCarried site sent (came act) → gave act ≡ [] → ComesBy sent site old new
  one_act act old new acts carried gave' = record { acts = act ∷ []; lead = (new, acts, refl); carried = ((carried, gave'), tt) }

  -- a site is opened, where it is closed
  pub is_opened : (standing : Standing) → ComesBy sent site standing (Up (record_of standing))
  is_opened (Up r) = stays (Up r)
  is_opened (Down r) = one_act (Opened Reopened) (Down r) (Up r) refl tt refl

  pub is_given : (r : Record) (input : SiteInput) (answer : Answer) (new : Standing) → Steps r (Some input) answer new → IsCarried site sent (came_in input) → ComesBy sent site (Up r) new
  is_given r input answer new steps carried = one_act (Given input answer) (Up r) new steps carried refl

  pub goes_down : (r : Record) (input : SiteInput) (new : Standing) → GoesDown r input new → IsCarried site sent (came_in input) → ComesBy sent site (Up r) new
  goes_down r input new down carried = one_act (Halted input New Stopped) (Up r) new down carried refl

  pub own_carried : (input : SiteInput) → IsOwn input → IsCarried site sent (came_in input)
  own_carried input own = subst (IsCarried site sent) (sym own) tt

  pub takes_own : (old : Record) (taken : List SiteInput) (new : Record) → AllByRecursion IsOwn taken → StandsAfter IsAfter old taken new → ComesBy sent site (Up old) (Up new)
  takes_own old [] new own same = stays_as (Up old) (Up new) (ap Up same)
  takes_own old (input ∷ inputs) new own (mid, after, rest) =
      and_then (Up old) (Up mid) (Up new) (is_given old input (Done after.0) (Up mid) (mid, after.1, refl) (own_carried input own.0)) (takes_own mid inputs new own.1 rest)

  pub stands_there : (last : Record) (new : Standing) → StandsThere sent site last new → ComesBy sent site (Up last) new
  stands_there last new (inl same) = stays_as (Up last) new same
  stands_there last new (inr (input, carried, down)) = goes_down last input new down carried

-- ---- of one site among all

deed_at : ℕ → Act → Deed
deed_at site act = record { site = site; act = act }

get_there : {X : Type 0} (done rest : List X) (x : X) → slice_get (done ++ x ∷ rest) (length done) ≡ Some x
get_there [] rest x = refl
get_there (d ∷ done) rest x = get_there done rest x

set_there : {X : Type 0} (done rest : List X) (x y : X) → slice_set (done ++ x ∷ rest) (length done) y ≡ done ++ y ∷ rest
set_there [] rest x y = refl
set_there (d ∷ done) rest x y = ap (λ l. d ∷ l) (set_there done rest x y)

acts_alone : (sent : List Frame) (done rest : List Standing) (acts : List Act) (old new : Standing) → StandsAfter Acts old acts new → AreActs (done ++ old ∷ rest) (map (deed_at (length done)) acts) (done ++ new ∷ rest)
unfolding deed_at
acts_alone sent done rest [] old new same = subst (λ s. AreActs (done ++ old ∷ rest) [] (done ++ s ∷ rest)) (sym same) (no_acts (done ++ old ∷ rest))
acts_alone sent done rest (act ∷ acts) old new (mid, first, more) =
    one_more_act (done ++ old ∷ rest) (length done) old act mid (map (deed_at (length done)) acts) (done ++ new ∷ rest) (get_there done rest old) first
    (subst (λ l. AreActs l (map (deed_at (length done)) acts) (done ++ new ∷ rest)) (sym (set_there done rest old mid)) (acts_alone sent done rest acts mid new more))

came_alone : (sent : List Frame) (site : ℕ) (acts : List Act) → AllByRecursion (λ act. IsCarried site sent (came act) × (gave act ≡ [])) acts → CameAfter sent (map (deed_at site) acts)
unfolding deed_at
came_alone sent site [] carried = tt
came_alone sent site (act ∷ acts) carried =
    (carried.0.0, subst (λ (l : List Frame). CameAfter l (map (deed_at site) acts)) (sym (ap (λ l. sent ++ l) carried.0.1 ∙ append-nil sent)) (came_alone sent site acts carried.1))

none_given : (sent : List Frame) (site : ℕ) (acts : List Act) → AllByRecursion (λ act. IsCarried site sent (came act) × (gave act ≡ [])) acts → given_by (map (deed_at site) acts) ≡ []
unfolding deed_at
none_given sent site [] carried = refl
none_given sent site (act ∷ acts) carried = ap (λ l. l ++ given_by (map (deed_at site) acts)) carried.0.1 ∙ none_given sent site acts carried.1

-- ---- of all sites

-- what sites did, which gave no frame
pub record DoAlone (sent : List Frame) (old new : List Standing) : Type 0 where
  pub deeds : List Deed
  pub are : AreActs old deeds new
  pub came : CameAfter sent deeds
  pub none : given_by deeds ≡ []

given_both : (first more : List Deed) → given_by (first ++ more) ≡ given_by first ++ given_by more
given_both [] more = refl
given_both (d ∷ ds) more = ap (λ l. gave d.act ++ l) (given_both ds more) ∙ sym (append_assoc (gave d.act) (given_by ds) (given_by more))

both_alone : (sent : List Frame) (old mid new : List Standing) → DoAlone sent old mid → DoAlone sent mid new → DoAlone sent old new
both_alone sent old mid new first more =
    let all = parts_go_on old mid new sent first.deeds more.deeds first.are first.came more.are
    (subst (λ (l : List Frame). CameAfter l more.deeds) (sym (ap (λ l. sent ++ l) first.none ∙ append-nil sent)) more.came) in
    record {
      deeds = first.deeds ++ more.deeds;
      are = all.0;
      came = all.1;
      none = given_both first.deeds more.deeds ∙ ap (λ l. l ++ given_by more.deeds) first.none ∙ more.none;
    }

one_alone : (sent : List Frame) (done rest : List Standing) (old new : Standing) → ComesBy sent (length done) old new → DoAlone sent (done ++ old ∷ rest) (done ++ new ∷ rest)
one_alone sent done rest old new by = record {
  deeds = map (deed_at (length done)) by.acts;
  are = acts_alone sent done rest by.acts old new by.lead;
  came = came_alone sent (length done) by.acts by.carried;
  none = none_given sent (length done) by.acts by.carried;
}

from_alone : (sent : List Frame) (done olds news : List Standing) → length news ≡ length olds
    → ((i : ℕ) (o n : Standing) → slice_get olds i ≡ Some o → slice_get news i ≡ Some n → ComesBy sent (length done + i) o n) → DoAlone sent (done ++ olds) (done ++ news)
from_alone sent done [] [] many each = record { deeds = []; are = no_acts (done ++ []); came = tt; none = refl }
from_alone sent done (o ∷ olds) (n ∷ news) many each =
    let first = one_alone sent done olds o n (subst (λ i. ComesBy sent i o n) (let z : length done + 0 ≡ length done = omega arith in z) (each 0 o n refl refl)) in
    let long : length (done ++ n ∷ []) ≡ length done + 1 = length-append done (n ∷ []) in
    let rest = from_alone sent (done ++ n ∷ []) olds news (omega (arith, many))
    (λ i x y at to. subst (λ k. ComesBy sent k x y) (let z : length done + suc i ≡ length (done ++ n ∷ []) + i = omega (arith, long) in z) (each (suc i) x y at to)) in
    both_alone sent (done ++ o ∷ olds) (done ++ n ∷ olds) (done ++ n ∷ news) first
    (subst (λ l. DoAlone sent l (done ++ n ∷ news)) (append_assoc done (n ∷ []) olds) (subst (DoAlone sent ((done ++ n ∷ []) ++ olds)) (append_assoc done (n ∷ []) news) rest))
from_alone sent done [] (n ∷ news) many each = absurd (omega (arith, many))
from_alone sent done (o ∷ olds) [] many each = absurd (omega (arith, many))

-- each of them by itself
pub each_alone : (sent : List Frame) (old new : List Standing) → length new ≡ length old → ((i : ℕ) (o n : Standing) → slice_get old i ≡ Some o → slice_get new i ≡ Some n → ComesBy sent i o n) → DoAlone sent old new
each_alone sent old new many each =
    from_alone sent [] old new many (λ i o n at to. subst (λ k. ComesBy sent k o n) (let z : i ≡ length {A = Standing} [] + i = omega arith in z) (each i o n at to))
