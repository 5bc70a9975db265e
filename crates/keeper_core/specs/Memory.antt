-- A keeper in memory.
use Rattle.std.specs.Prelude.{◌≡◌, ℕ, ◌+◌, ◌==◌, ◌^◌, ◌⊎◌, Bool, true, false, Option, Some, None, Result, Ok, Err, if◌then◌else◌, refl}
use Rattle.std.specs.Coded.{Coded, code_by, coded×, coded_ℕ, coded_bool, coded_option}
use Rattle.site_core.specs.Codes.{coded_record}
use Rattle.site_core.specs.Records.{Record}
use Rattle.site_core.specs.Steps.{Does, TakesMemory}
use Rattle.site_core.specs.declared.inputs.SiteInput.{SiteInput}
use Rattle.site_core.specs.declared.outcomes.Effects.{Effects}
use Rattle.site_core.specs.declared.outcomes.Refusal.{Refusal}
use Rattle.keeper_core.specs.declared.faults.Keep.{Keep}
use Rattle.keeper_core.specs.declared.faults.Keep.TheVariants.{Old, New}
use Rattle.keeper_core.specs.declared.faults.KeepFault.{KeepFault}
use Rattle.keeper_core.specs.declared.faults.KeepFault.TheVariants.{NoMemory, Refused, Device, Closed}
use Rattle.keeper_core.specs.declared.faults.Unopened.{Unopened}
use Rattle.keeper_core.specs.Keeping.{IsAfter, IsRefusedFor}

pub record InMemory : Type 0 where
  pub state : Record
  pub is_open : Bool
  -- the next step is a stop
  pub armed : Option Keep
  pub failures : ℕ

abbrev pub shown_in : InMemory → Option Record
shown_in keeper = if keeper.is_open then Some keeper.state else None

abbrev pub MayIn : InMemory → Record → Type 0
MayIn keeper r = r ≡ keeper.state

pub may_be_opened_in : (keeper : InMemory) → shown_in keeper ≡ None → (r : Record) × MayIn keeper r
may_be_opened_in keeper closed = (keeper.state, refl)

-- the step of an open keeper that isn't armed
abbrev pub StepsIn : InMemory → SiteInput → Result Effects KeepFault → InMemory → Type 0
StepsIn old input (Ok effects) new = Does old.state input effects new.state × (new ≡ record old { state = new.state })
StepsIn old input (Err (Refused why)) new = IsRefusedFor old.state input why × (new ≡ old)
StepsIn old input (Err NoMemory) new = TakesMemory old.state input × (new ≡ old)
StepsIn old input answer new = ⊥

-- which record a stop leaves
abbrev pub Leaves : Record → SiteInput → Keep → Record → Type 0
Leaves old input Old new = new ≡ old
Leaves old input New new = IsAfter old input new ⊎ (((why : Refusal) × IsRefusedFor old input why) × (new ≡ old))

-- a stop of an open keeper, and whether there was memory: to keep the old record takes none
abbrev pub StopsIn : InMemory → SiteInput → Keep → Bool → InMemory → Type 0
StopsIn old input keep true new = Leaves old.state input keep new.state × (new ≡ record old { state = new.state; is_open = false })
StopsIn old input New false new = TakesMemory old.state input × (new ≡ old)
StopsIn old input keep done new = ⊥

abbrev pub one_more : ℕ → ℕ
one_more failures = if failures + 1 == 2 ^ 64 then failures else failures + 1

-- the step of an open keeper that is armed
abbrev pub FailsIn : InMemory → SiteInput → Keep → Result Effects KeepFault → InMemory → Type 0
FailsIn old input keep (Err Device) new =
    Leaves old.state input keep new.state × (new ≡ record { state = new.state; is_open = false; armed = None; failures = one_more old.failures })
FailsIn old input New (Err NoMemory) new = TakesMemory old.state input × (new ≡ old)
FailsIn old input keep answer new = ⊥

-- any step, where the keeper is open or not, and armed or not
abbrev pub AppliesIn : Bool → Option Keep → InMemory → SiteInput → Result Effects KeepFault → InMemory → Type 0
AppliesIn false armed old input answer new = (answer ≡ Err Closed) × (new ≡ old)
AppliesIn true None old input answer new = StepsIn old input answer new
AppliesIn true (Some keep) old input answer new = FailsIn old input keep answer new

-- any stop
abbrev pub StopsWhereOpen : Bool → InMemory → SiteInput → Keep → Bool → InMemory → Type 0
StopsWhereOpen true old input keep done new = StopsIn old input keep done new
StopsWhereOpen false old input keep done new = (done ≡ true) × (new ≡ old)

-- an opening, of an open keeper too: it stays armed
abbrev pub ReopensIn : InMemory → Result InMemory (Unopened InMemory) → Type 0
ReopensIn old result = result ≡ Ok (record old { is_open = true })

-- how it is stored
abbrev keep_of : Bool → Keep
keep_of true = New
keep_of false = Old

abbrev is_new : Keep → Bool
is_new New = true
is_new Old = false

pub keep_back : (k : Keep) → keep_of (is_new k) ≡ k
keep_back Old = refl
keep_back New = refl

abbrev coded_keep : Coded Keep
coded_keep = code_by Bool coded_bool is_new keep_of keep_back

abbrev pub coded_keeper : Coded InMemory
coded_keeper =
    code_by (Record × (Bool × (Option Keep × ℕ)))
    (coded× coded_record (coded× coded_bool (coded× (coded_option coded_keep) coded_ℕ)))
    (λ k. (k.state, (k.is_open, (k.armed, k.failures))))
    (λ p. record { state = p.0; is_open = p.1.0; armed = p.1.1.0; failures = p.1.1.1 })
    (λ _. refl)
