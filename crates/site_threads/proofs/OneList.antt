-- The sites that end a run are those that began it, so that they are all sites of one list still.
use Rattle.std.proofs.Common.{◌≡◌, ◌⊎◌, ⊎_elim, inl, inr, ℕ, zero, suc, Option, Some, None, List, [], ◌∷◌, length, slice_get, refl, sym, ap, ◌∙◌, subst}
use Rattle.std.specs.List.{AllZip}
use Rattle.keeper_core.specs.Keeping.{IsAfter}
use Rattle.site_core.specs.Records.{Record}
use Rattle.site_core.specs.declared.inputs.SiteInput.{SiteInput}
use Rattle.site_core.specs.declared.outcomes.Effects.TheVariants as effects
use Rattle.world_core.specs.Faults.{AreOneWorld}
use Rattle.world_core.proofs.Pins.{does_sites}
use Rattle.world_core.specs.KeptSteps.{StandsAfter}
use Rattle.wire_core.specs.declared.views.Log.{Log}
use Rattle.site_threads.specs.declared.jobs.Entry.{Entry}
use Rattle.site_threads.specs.declared.jobs.Reply.{Reply}
use Rattle.site_threads.specs.declared.jobs.Reply.TheVariants.{Captured, Started, Frame, Refused, Stopped}
use Rattle.site_threads.specs.Jobs.{Enters, Keeps, WithMarks, with_marks}
use Rattle.site_threads.specs.Running.{Holding}
use Rattle.site_threads.proofs.Changing.{entered_so}
use Rattle.site_threads.proofs.Stamping.{same_me}
use Rattle.site_threads.proofs.Zips.{as_long}

-- the site is open in this record, or closed and may be opened in it
abbrev pub MayStandIn : Option Record → (Record → Type 0) → Record → Type 0
MayStandIn (Some x) may r = r ≡ x
MayStandIn None may r = may r

-- the records are of one site
pub record IsSameSite (old new : Record) : Type 0 where
  pub sites : new.sites ≡ old.sites
  pub me : new.engagement.me ≡ old.engagement.me

equal : (old new : Record) → new ≡ old → IsSameSite old new
equal old new e = record { sites = ap (λ (r : Record). r.sites) e; me = ap (λ (r : Record). r.engagement.me) e }

after : (old new : Record) (input : SiteInput) → IsAfter old input new → IsSameSite old new
after old new input a = record { sites = does_sites old new input a.0 a.1; me = same_me old new input a }

either : (old new : Record) (input : SiteInput) → (new ≡ old) ⊎ IsAfter old input new → IsSameSite old new
either old new input e = ⊎_elim (λ (same : new ≡ old). equal old new same) (λ (a : IsAfter old input new). after old new input a) e

then : (one two three : Record) → IsSameSite one two → IsSameSite two three → IsSameSite one three
then one two three a b = record { sites = b.sites ∙ a.sites; me = b.me ∙ a.me }

keeps_same : (reply : Reply) (old : Record) (input : SiteInput) (new : Record) → Keeps reply old input new → IsSameSite old new
keeps_same (Captured fresh known skipped) old input new k = after old new input (effects.Captured fresh known skipped, k)
keeps_same (Started recall ended) old input new k = after old new input (effects.Started recall k.0 k.1 ended, k.2)
keeps_same Frame old input new k = elim k.1 [
  | inl a ↦ after old new input a
  | inr e ↦ equal old new e.1
]
keeps_same (Refused number) old input new k = equal old new k.2
keeps_same Stopped old input new k = either old new input k

kept_same : (old : Record) (entries : List Entry) (new : Record) → StandsAfter Enters old entries new → IsSameSite old new
kept_same old [] new k = equal old new k
kept_same old (x ∷ xs) new k = then old k.0 new (keeps_same x.reply old x.input k.0 k.1) (kept_same k.0 xs new k.2)

-- in whichever record a site stands, it is the one that began
pub holding_same : (shown : Option Record) (may : Record → Type 0) (start : WithMarks) (entries : List Entry) (log : Log) (r : Record) → Holding shown may start entries log → MayStandIn shown may r → IsSameSite start.stood r
holding_same (Some x) may start entries log r h o = then start.stood x r (kept_same start.stood entries x (entered_so start entries (with_marks x log.inputs) h.steps)) (equal x r o)
holding_same None may start entries log r h o = then start.stood log.last r (kept_same start.stood h.earlier log.last (entered_so start h.earlier (with_marks log.last log.inputs) h.steps)) (either log.last r h.last.input (h.old_or_new r o))

-- place by place

at_right : (xs ys : List Record) (place : ℕ) (x : Record) → AllZip IsSameSite xs ys → slice_get xs place ≡ Some x → (y : Record) × (slice_get ys place ≡ Some y) × IsSameSite x y
at_right [] [] place x z at = let n : None ≡ Some x = at in cc
at_right (a ∷ al) (b ∷ bs) zero x z at = (b, refl, let e : Some a ≡ Some x = at in let same : a ≡ x = cc in subst (λ r. IsSameSite r b) same z.0)
at_right (a ∷ al) (b ∷ bs) (suc p) x z at = at_right al bs p x z.1 at
at_right [] (b ∷ bs) place x z at = absurd z
at_right (a ∷ al) [] place x z at = absurd z

at_left : (xs ys : List Record) (place : ℕ) (y : Record) → AllZip IsSameSite xs ys → slice_get ys place ≡ Some y → (x : Record) × (slice_get xs place ≡ Some x) × IsSameSite x y
at_left [] [] place y z at = let n : None ≡ Some y = at in cc
at_left (a ∷ al) (b ∷ bs) zero y z at = (a, refl, let e : Some b ≡ Some y = at in let same : b ≡ y = cc in subst (λ r. IsSameSite a r) same z.0)
at_left (a ∷ al) (b ∷ bs) (suc p) y z at = at_left al bs p y z.1 at
at_left [] (b ∷ bs) place y z at = absurd z
at_left (a ∷ al) [] place y z at = absurd z

pub one_again : (old new : List Record) → AllZip IsSameSite old new → AreOneWorld old → AreOneWorld new
one_again old new same one =
    let first = at_right old new 0 one.0 same one.1 in
    let sites : first.0.sites ≡ one.0.sites = first.2.sites in (
      first.0,
      first.1,
      record {
        number = as_long IsSameSite old new same ∙ one.2.number ∙ ap length (sym sites);
        each = λ place r at.
            let was = at_left old new place r same at in
            let right = one.2.each place was.0 was.1 in
            (was.2.sites ∙ right.0 ∙ sym sites, was.2.me ∙ right.1);
      },
    )
