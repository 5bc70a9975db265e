-- The first condition that fails.
use Rattle.std.proofs.Common.{◌≡◌, ◌↔◌, inl, inr, ℕ, Result, Ok, Err, ◌+◌, ◌<◌, ◌==◌, if◌then◌else◌, refl, sym, ap, ◌∙◌, subst, arith}
use Rattle.std.specs.Prelude.{IsErrAnd, IfErr}
use Rattle.site_recovery.specs.FittingAt.{Condition, Closed, Told, Justified, Waiting, ParentsStand, ParentsLeadHome, EndsAreQuiet, NumbersAreBelow, number_of, FitAt}
use Rattle.site_recovery.specs.Fit.{ShipmentsAreTold, MessagesAreTaken, RowsAreBelow, SeenAreBelow, OwnAreBelow, HeldAreBelow}
use Rattle.site_recovery.specs.Looks.{World}
use Rattle.site_recovery.specs.Misfits.{TellsMisfit, TellsUnmet}
use Rattle.site_recovery.specs.declared.checking.CheckFault.{CheckFault}
use Rattle.site_recovery.specs.declared.checking.CheckFault.TheVariants.{NoMemory, Misfit}
use Rattle.site_core.proofs.OneAfterAnother.{lower_or_last}

abbrev condition_of : ℕ → Condition
condition_of n =
    if n == 1 then Closed else
    if n == 2 then Told else
    if n == 3 then Justified else
    if n == 4 then Waiting else
    if n == 5 then ParentsStand else
    if n == 6 then ParentsLeadHome else
    if n == 9 then EndsAreQuiet else NumbersAreBelow

known_by_number : (c : Condition) → condition_of (number_of c) ≡ c
known_by_number Closed = refl
known_by_number Told = refl
known_by_number Justified = refl
known_by_number Waiting = refl
known_by_number ParentsStand = refl
known_by_number ParentsLeadHome = refl
known_by_number EndsAreQuiet = refl
known_by_number NumbersAreBelow = refl

one_number : (c d : Condition) → number_of c ≡ number_of d → c ≡ d
one_number c d same = sym (known_by_number c) ∙ ap condition_of same ∙ known_by_number d

module _ (n : ℕ) (W : World) where
  -- the conditions of lower numbers hold at all sites
  abbrev pub Before : ℕ → Type 0
  Before number = (c : Condition) (s : ℕ) → number_of c < number → s < n → FitAt W c s

  pub none_before : Before 1
  none_before Closed s low = absurd (omega (arith, low))
  none_before Told s low = absurd (omega (arith, low))
  none_before Justified s low = absurd (omega (arith, low))
  none_before Waiting s low = absurd (omega (arith, low))
  none_before ParentsStand s low = absurd (omega (arith, low))
  none_before ParentsLeadHome s low = absurd (omega (arith, low))
  none_before EndsAreQuiet s low = absurd (omega (arith, low))
  none_before NumbersAreBelow s low = absurd (omega (arith, low))

  pub one_more_holds : (d : Condition) → Before (number_of d) → ((s : ℕ) → s < n → FitAt W d s) → Before (number_of d + 1)
  one_more_holds d before holds c s low below = elim (lower_or_last (number_of c) (number_of d) low) as (λ _. FitAt W c s) [
    | inl lower ↦ before c s lower below
    | inr last ↦ subst (λ z. FitAt W z s) (one_number d c (sym last)) (holds s below)
  ]

  -- no condition of the records has the numbers 7 and 8
  pub past_the_frames : Before 7 → Before 9
  past_the_frames before Closed s low = before Closed s (omega arith)
  past_the_frames before Told s low = before Told s (omega arith)
  past_the_frames before Justified s low = before Justified s (omega arith)
  past_the_frames before Waiting s low = before Waiting s (omega arith)
  past_the_frames before ParentsStand s low = before ParentsStand s (omega arith)
  past_the_frames before ParentsLeadHome s low = before ParentsLeadHome s (omega arith)
  past_the_frames before EndsAreQuiet s low = absurd (omega (arith, low))
  past_the_frames before NumbersAreBelow s low = absurd (omega (arith, low))

  pub all_hold : Before 11 → (c : Condition) (s : ℕ) → s < n → FitAt W c s
  all_hold before Closed s = before Closed s (omega arith)
  all_hold before Told s = before Told s (omega arith)
  all_hold before Justified s = before Justified s (omega arith)
  all_hold before Waiting s = before Waiting s (omega arith)
  all_hold before ParentsStand s = before ParentsStand s (omega arith)
  all_hold before ParentsLeadHome s = before ParentsLeadHome s (omega arith)
  all_hold before EndsAreQuiet s = before EndsAreQuiet s (omega arith)
  all_hold before NumbersAreBelow s = before NumbersAreBelow s (omega arith)

  pub least_misfit : (c : Condition) (P : ℕ → Type 0) → ((s : ℕ) → P s ↔ FitAt W c s) → Before (number_of c) → (fault : CheckFault) → TellsUnmet (number_of c) n P fault → TellsMisfit n W fault
  least_misfit c P same before NoMemory told = told
  least_misfit c P same before (Misfit m) (is, (below, fails, least)) = record {
    condition = c;
    numbered = is;
    below = below;
    fails = λ holds. fails ((same m.site).1 holds);
    least_condition = λ d s low. before d s (subst (λ z. number_of d < z) is low);
    least_site = λ s low. (same s).0 (least s low);
  }

-- The conditions that are tested in parts.
module _ (W : World) where
  abbrev pub ToldParts : ℕ → Type 0
  ToldParts t = ShipmentsAreTold W t × MessagesAreTaken W t

  pub told_parts : (t : ℕ) → ToldParts t ↔ FitAt W Told t
  told_parts t = (λ b. record { told = b.0; taken = b.1 }, λ f. (f.told, f.taken))

  abbrev pub BelowParts : ℕ → Type 0
  BelowParts q = (RowsAreBelow W q × SeenAreBelow W q) × (OwnAreBelow W q × HeldAreBelow W q)

  pub below_parts : (q : ℕ) → BelowParts q ↔ FitAt W NumbersAreBelow q
  below_parts q = (λ b. record { rows = b.0.0; seen = b.0.1; own = b.1.0; held = b.1.1 }, λ f. ((f.rows, f.seen), (f.own, f.held)))

-- The conditions that were found to hold, one after another.
module _ (n : ℕ) (W : World) where
  abbrev pub Holds : (ℕ → Type 0) → Type 0
  Holds P = (s : ℕ) → s < n → P s

  pub before_2 : Holds (FitAt W Closed) → Before n W 2
  before_2 h1 = one_more_holds n W Closed (none_before n W) h1

  pub before_3 : Holds (FitAt W Closed) → Holds (ToldParts W) → Before n W 3
  before_3 h1 h2 = one_more_holds n W Told (before_2 h1) (λ s below. (told_parts W s).0 (h2 s below))

  pub before_4 : Holds (FitAt W Closed) → Holds (ToldParts W) → Holds (FitAt W Justified) → Before n W 4
  before_4 h1 h2 h3 = one_more_holds n W Justified (before_3 h1 h2) h3

  pub before_5 : Before n W 4 → Holds (FitAt W Waiting) → Before n W 5
  before_5 b h4 = one_more_holds n W Waiting b h4

  pub before_6 : Before n W 4 → Holds (FitAt W Waiting) → Holds (FitAt W ParentsStand) → Before n W 6
  before_6 b h4 h5 = one_more_holds n W ParentsStand (before_5 b h4) h5

  pub before_9 : Before n W 4 → Holds (FitAt W Waiting) → Holds (FitAt W ParentsStand) → Holds (FitAt W ParentsLeadHome) → Before n W 9
  before_9 b h4 h5 h6 = past_the_frames n W (one_more_holds n W ParentsLeadHome (before_6 b h4 h5) h6)

  pub before_10 : Before n W 9 → Holds (FitAt W EndsAreQuiet) → Before n W 10
  before_10 b h9 = one_more_holds n W EndsAreQuiet b h9

  pub before_11 : Before n W 10 → Holds (BelowParts W) → Before n W 11
  before_11 b h10 = one_more_holds n W NumbersAreBelow b (λ s below. (below_parts W s).0 (h10 s below))

-- What holds of each fault that is passed on.
pub handed_on : (r : Result (Unit {0}) CheckFault) (x : CheckFault) (Q : CheckFault → Type 0) → IsErrAnd r (λ e. e ≡ x) → Q x → IfErr r Q
handed_on (Ok u) x Q h q = tt
handed_on (Err e) x Q h q = subst Q (sym h) q
