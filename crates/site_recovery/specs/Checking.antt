-- What the check of the records returns.
use Rattle.std.specs.Prelude.{◌≡◌, ◌≢◌, ◌⊎◌, ◌↔◌, ℕ, ◌<◌, Bool, false, IsTrue, List, [], length, map, get_or, Contains, Option, Some, None}
use Rattle.std.specs.FinMap.{empty, entries}
use Rattle.std.specs.Borrow.{Bor}
use Rattle.frame_core.specs.Numbers.{Recall}
use Rattle.scholten_core.specs.declared.own_recalls.Own.{Own}
use Rattle.trace_core.specs.Chains.{Related}
use Rattle.trace_core.specs.Relations.{Reaches}
use Rattle.trace_core.specs.Sites.{SiteEvents}
use Rattle.trace_core.specs.declared.pairs.Pair.{Pair}
use Rattle.site_core.specs.Quarantines.{Quarantine, held}
use Rattle.site_core.specs.Records.{Record, fresh}
use Rattle.site_recovery.specs.Laws.{captured_of}
use Rattle.site_recovery.specs.Looks.{World, world_of, Held, own}

-- the records that references point to
abbrev pub records_at : List (Bor Record) → List Record
records_at refs = map (λ r. r.now) refs

-- the world of these records
abbrev pub world_at : List (Bor Record) → World
world_at refs = world_of (records_at refs)

-- the least site below n at which something doesn't hold, if there is one
abbrev pub IsLeastUnmet : ℕ → (ℕ → Type 0) → Option ℕ → Type 0
IsLeastUnmet n P None = (s : ℕ) → s < n → P s
IsLeastUnmet n P (Some s) = (s < n) × (P s → ⊥) × ((t : ℕ) → t < s → P t)

-- the record of a site, where there is such a site; past the end one that keeps nothing
abbrev pub Finds : World → ℕ → Option (Bor Record) → Type 0
Finds W s None = W s ≡ fresh [] s
Finds W s (Some site) = site.now ≡ W s

-- the recall was begun, and a chain of related pairs leads from its root to the pair
abbrev pub IsReachedBy : List Record → Recall → Pair → Type 0
IsReachedBy records r p = (o : Own) × (own (world_of records) r.site r.number ≡ Some o) × Reaches (Related (captured_of records)) (record { site = r.site; item = o.root }) p

-- what is quarantined at several sites, each in its place, holds the pair under the recall
abbrev pub HeldIn : List Quarantine → Recall → Pair → Type 0
HeldIn quarantines r p = IsTrue (held (get_or quarantines p.site empty) r p.item)

-- of the pairs of these sites, these come under their recalls beside those that were there
pub record Adds (P : Recall → Pair → Type 0) (old new : List Quarantine) : Type 0 where
  pub count : length new ≡ length old
  pub exact : (r : Recall) (p : Pair) → HeldIn new r p ↔ ((P r p × (p.site < length old)) ⊎ HeldIn old r p)

-- the recall was begun
abbrev pub IsBegun : World → Recall → Type 0
IsBegun W r = (o : Own) × (own W r.site r.number ≡ Some o)

-- at each of the first sites that are left P holds, and it was left before
abbrev pub Narrows : ℕ → (ℕ → Type 0) → List Bool → List Bool → Type 0
Narrows n P old new = (s : ℕ) → s < n → IsTrue (get_or new s false) ↔ (IsTrue (get_or old s false) × P s)

-- so at one site, whatever is so at the others
pub record NarrowsAt (place : ℕ) (P : Type 0) (old new : List Bool) : Type 0 where
  pub here : IsTrue (get_or new place false) ↔ (IsTrue (get_or old place false) × P)
  pub others : (s : ℕ) → s ≢ place → get_or new s false ≡ get_or old s false

-- what the site holds under the recall is in reach of its root
abbrev pub IsHeldWithin : World → List SiteEvents → Recall → List ℕ → ℕ → Type 0
IsHeldWithin W captured r root s = (i : List ℕ) → Held W s r i → Reaches (Related captured) (record { site = r.site; item = root }) (record { site = s; item = i })

-- so under each of these recalls of a site
abbrev pub AreHeldWithin : World → List SiteEvents → ℕ → List (ℕ × Own) → ℕ → Type 0
AreHeldWithin W captured site recalls s = (e : ℕ × Own) → Contains recalls e → IsHeldWithin W captured (record { site = site; number = e.0 }) e.1.root s

-- so under each recall of each of the sites
abbrev pub IsWithinAt : List (Bor Record) → ℕ → Type 0
IsWithinAt refs s =
    (x : Bor Record) → Contains refs x → AreHeldWithin (world_at refs) (captured_of (records_at refs)) x.now.engagement.me (entries x.now.engagement.own) s
