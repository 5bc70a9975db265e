-- Reach as it was found once for each recall, beside the other parts of what has its reason.
use Rattle.std.proofs.Common.{◌↔◌, ℕ, ◌<◌, Bool, false, Bor, List, length, get_or, arith}
use Rattle.std.specs.Prelude.{Result, Ok, Err, IfErr, IsTrue}
use Rattle.frame_core.specs.Numbers.{Recall}
use Rattle.site_core.specs.Records.{Record}
use Rattle.site_recovery.specs.Checking.{IsBegun, IsWithinAt, records_at, world_at}
use Rattle.site_recovery.specs.Fit.{IsJustifiedAt, RootsAreHeld, RowsAreJust}
use Rattle.site_recovery.specs.FittingAt.{AreAllSites}
use Rattle.site_recovery.specs.Looks.{Held}
use Rattle.site_recovery.specs.Misfits.{TellsUnmet}
use Rattle.site_recovery.specs.declared.checking.CheckFault.{CheckFault}
use Rattle.site_recovery.specs.declared.checking.CheckFault.TheVariants.{NoMemory, Misfit}
use Rattle.site_recovery.proofs.Exact.{reached_related}
use Rattle.site_recovery.proofs.ReachedItems.{reached_within}

pub unmet_alike : (number n : ℕ) (P Q : ℕ → Type 0) → ((s : ℕ) → s < n → P s ↔ Q s) → (fault : CheckFault) → TellsUnmet number n P fault → TellsUnmet number n Q fault
unmet_alike number n P Q same NoMemory told = told
unmet_alike number n P Q same (Misfit m) (is, (below, fails, least)) = (is, (below, λ h. fails ((same m.site below).1 h), λ t lower. (same t (omega (arith, lower, below))).0 (least t lower)))

pub errs_alike : (r : Result (Unit {0}) CheckFault) (P Q : CheckFault → Type 0) → ((e : CheckFault) → P e → Q e) → IfErr r P → IfErr r Q
errs_alike (Ok u) P Q f h = tt
errs_alike (Err e) P Q f h = f e h

module _ (refs : List (Bor Record)) (all : AreAllSites (records_at refs)) (within : List Bool)
    (exact : (s : ℕ) → s < length refs → IsTrue (get_or within s false) ↔ IsWithinAt refs s) where
  abbrev pub FoundParts : ℕ → Type 0
  FoundParts s =
      (((r : Recall) (i : List ℕ) → Held (world_at refs) s r i → IsBegun (world_at refs) r) × IsTrue (get_or within s false))
      × (RootsAreHeld (world_at refs) s × RowsAreJust (world_at refs) s)

  pub found_parts : (s : ℕ) → s < length refs → FoundParts s ↔ IsJustifiedAt (world_at refs) s
  found_parts s below =
      let both = reached_related (records_at refs) (λ t below. (all t below).place) in
      let whole = reached_within refs all s in (
        λ ((begun, left), (rooted, rows)). record {
          reached = λ r i is. let (o, is_own, reach) = whole.0 (begun, (exact s below).0 left) r i is in (o, is_own, (both r.site o.root (record { site = s; item = i })).1 reach);
          rooted = rooted;
          rows = rows;
        },
        λ f.
            let (begun, left) = whole.1 (λ r i is. let (o, is_own, reach) = f.reached r i is in (o, is_own, (both r.site o.root (record { site = s; item = i })).0 reach)) in
            ((begun, (exact s below).1 left), (f.rooted, f.rows)),
      )
