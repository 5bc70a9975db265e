-- From the keeper of one site to the world of all.
use Rattle.std.proofs.Common.{◌≡◌, ℕ, zero, suc, ◌<◌, ◌≤◌, Option, Some, None, List, [], ◌∷◌, length, get_or, refl, sym, ◌∙◌, ap, subst, arith, ◌++◌, take, drop, slice_get, slice_set}
use Rattle.std.specs.List.{AllZip, insert, remove}
use Rattle.std.proofs.lemmas.List.{length-take-le, take_at, drop_at, set_split}
use Rattle.std.proofs.lemmas.Option.{same_Some, slice_get_read}
use Rattle.site_core.specs.Records.{Record}
use Rattle.frame_core.specs.declared.frames.Frame.{Frame}
use Rattle.world_core.specs.declared.events.WorldEvent.{WorldEvent}
use Rattle.world_core.specs.declared.events.Answer.{Answer}
use Rattle.world_core.specs.declared.events.Answer.TheVariants.{NoSite}
use Rattle.world_core.specs.Worlds.{Standing, WorldState}
use Rattle.world_core.specs.Turns.{Turns, TurnsFrom, TurnsAt, site_of}
use Rattle.world_core.specs.Keepers.{StandsAs, MayBe, ComesFrom, ChangesAt}
use Rattle.world_core.specs.Restarting.{AreStored}

-- the standing of one site, and what a list of standings is with another one there
record Site {K : Type 0} (R : K → Standing → Type 0) (keepers : List K) (site : ℕ) (was now : K) (new : List Standing) : Type 0 where
  standing : Standing
  stands : R now standing
  there : slice_get new site ≡ Some standing
  before : (old : Standing) → R was old → AllZip R keepers (slice_set new site old)
  old_there : (old : Standing) → slice_get (slice_set new site old) site ≡ Some old
  back : (old : Standing) → slice_set (slice_set new site old) site standing ≡ new

site_at : {K : Type 0} (R : K → Standing → Type 0) (keepers : List K) (site : ℕ) (was now : K) (new : List Standing) → slice_get keepers site ≡ Some was → AllZip R (slice_set keepers site now) new → Site R keepers site was now new
site_at R [] site was now new at h = cc
site_at R (k ∷ ks) zero was now [] at h = absurd h
site_at R (k ∷ ks) zero was now (st ∷ rest) at h =
    let same : k ≡ was = cc in
    record { standing = st; stands = h.0; there = refl; before = λ old r. (subst (λ x. R x old) (sym same) r, h.1); old_there = λ old. refl; back = λ old. refl }
site_at R (k ∷ ks) (suc site) was now [] at h = absurd h
site_at R (k ∷ ks) (suc site) was now (st ∷ rest) at h =
    let s = site_at R ks site was now rest at h.1 in
    record { standing = s.standing; stands = s.stands; there = s.there; before = λ old r. (h.0, s.before old r); old_there = s.old_there; back = λ old. ap (λ xs. st ∷ xs) (s.back old) }

none_at : {K : Type 0} (R : K → Standing → Type 0) (keepers : List K) (site : ℕ) (new : List Standing) → length keepers ≤ site → AllZip R keepers new → slice_get new site ≡ None
none_at R [] site [] le h = refl
none_at R [] site (st ∷ rest) le h = absurd h
none_at R (k ∷ ks) site [] le h = absurd h
none_at R (k ∷ ks) zero (st ∷ rest) le h = absurd (omega arith)
none_at R (k ∷ ks) (suc site) (st ∷ rest) le h = none_at R ks site rest (omega arith) h.1

module _ {K : Type 0} (shown : K → Option Record) (may : K → Record → Type 0) where
  -- what one keeper does is a turn of the world
  pub turn_lifted : (keepers changed : List K) (sent now_sent : List Frame) (event : WorldEvent) (answer : Answer)
      → ChangesAt keepers (site_of event) changed (λ was now. ComesFrom (StandsAs (shown was) (may was)) (StandsAs (shown now) (may now)) (λ old new. TurnsAt old sent event answer new now_sent))
      → ComesFrom (MayBe shown may (record { keepers = keepers; sent = sent })) (MayBe shown may (record { keepers = changed; sent = now_sent })) (λ old new. Turns old event answer new)
  turn_lifted keepers changed sent now_sent event answer (was, now, at, is, comes) new may_be =
      let site = site_of event in
      let s = site_at (λ k standing. StandsAs (shown k) (may k) standing) keepers site was now new.sites at (subst (λ ks. AllZip (λ k standing. StandsAs (shown k) (may k) standing) ks new.sites) is may_be.0) in
      let c = comes s.standing s.stands in
      let old : WorldState = record { sites = slice_set new.sites site c.0; sent = sent } in (
        old,
        (s.before c.0 c.1, refl),
        subst (λ o. TurnsFrom o old event answer new) (sym (s.old_there c.0)) (s.standing, subst (λ f. TurnsAt c.0 sent event answer s.standing f) (sym may_be.1) c.2, sym (s.back c.0)),
      )

  pub no_site : (keepers : List K) (sent : List Frame) (event : WorldEvent) → length keepers ≤ site_of event
      → ComesFrom (MayBe shown may (record { keepers = keepers; sent = sent })) (MayBe shown may (record { keepers = keepers; sent = sent })) (λ old new. Turns old event NoSite new)
  no_site keepers sent event le new may_be =
      (new, may_be, subst (λ o. TurnsFrom o new event NoSite new) (sym (none_at _ keepers (site_of event) new.sites le may_be.0)) (refl, refl))

  -- the same, where the event is known and the keeper was read from its place
  pub turn_at : (keepers changed : List K) (sent now_sent : List Frame) (event told : WorldEvent) (answer : Answer) (was now : K)
      → event ≡ told → slice_get keepers (site_of told) ≡ Some was → changed ≡ slice_set keepers (site_of told) now
      → ComesFrom (StandsAs (shown was) (may was)) (StandsAs (shown now) (may now)) (λ old new. TurnsAt old sent told answer new now_sent)
      → ComesFrom (MayBe shown may (record { keepers = keepers; sent = sent })) (MayBe shown may (record { keepers = changed; sent = now_sent })) (λ old new. Turns old event answer new)
  turn_at keepers changed sent now_sent event told answer was now is at set comes =
      subst (λ e. ComesFrom (MayBe shown may (record { keepers = keepers; sent = sent })) (MayBe shown may (record { keepers = changed; sent = now_sent })) (λ old new. Turns old e answer new)) (sym is)
      (turn_lifted keepers changed sent now_sent told answer (was, now, at, set, comes))

  -- the same, where the frames sent were borrowed and stay
  pub turn_lent : (keepers changed : List K) (sent lent : List Frame) (event told : WorldEvent) (answer : Answer) (was now : K)
      → event ≡ told → lent ≡ sent → slice_get keepers (site_of told) ≡ Some was → changed ≡ slice_set keepers (site_of told) now
      → ComesFrom (StandsAs (shown was) (may was)) (StandsAs (shown now) (may now)) (λ old new. TurnsAt old lent told answer new lent)
      → ComesFrom (MayBe shown may (record { keepers = keepers; sent = sent })) (MayBe shown may (record { keepers = changed; sent = sent })) (λ old new. Turns old event answer new)
  turn_lent keepers changed sent lent event told answer was now is same at set comes =
      turn_at keepers changed sent sent event told answer was now is at set
      (subst (λ f. ComesFrom (StandsAs (shown was) (may was)) (StandsAs (shown now) (may now)) (λ old new. TurnsAt old f told answer new f)) same comes)

-- ---- one place of a list

pub kept_at : {X : Type 0} (xs : List X) (i : ℕ) (x : X) → slice_get xs i ≡ Some x → xs ≡ slice_set xs i x
kept_at [] i x h = refl
kept_at (y ∷ ys) zero x h = let e : y ≡ x = cc in ap (λ z. z ∷ ys) e
kept_at (y ∷ ys) (suc i) x h = ap (λ zs. y ∷ zs) (kept_at ys i x h)

-- an element as it was read
pub read_at : {X : Type 0} (xs : List X) (i place n len : ℕ) (x : X) → place ≡ i → n ≡ length xs → len ≡ n → place < len → x ≡ get_or xs place x → slice_get xs i ≡ Some x
read_at xs i place n len x s e l below r = subst (λ p. slice_get xs p ≡ Some x) s (slice_get_read xs n place x e (omega arith) r)

-- what is taken out and put back
pub put_back : {X : Type 0} (xs : List X) (i : ℕ) (x : X) → i < length xs → insert (remove xs i) i x ≡ slice_set xs i x
put_back xs i x h =
    let n : length (take i xs) ≡ i = length-take-le i xs (omega arith) in
    ap (λ front. front ++ x ∷ drop i (remove xs i)) (take_at (take i xs) (drop (suc i) xs) i n)
    ∙ ap (λ rest. take i xs ++ x ∷ rest) (drop_at (take i xs) (drop (suc i) xs) i n)
    ∙ sym (set_split xs i x h)

-- ---- what is stored of each keeper

module _ {K : Type 0} (P : K → Type 0) where
  pub set_stored : (xs : List K) (i : ℕ) (x : K) → AreStored P xs → P x → AreStored P (slice_set xs i x)
  set_stored [] i x h p s k e = let n : None ≡ Some k = e in cc
  set_stored (y ∷ ys) zero x h p zero k e = subst P (same_Some x k e) p
  set_stored (y ∷ ys) zero x h p (suc s) k e = h (suc s) k e
  set_stored (y ∷ ys) (suc i) x h p zero k e = h 0 k e
  set_stored (y ∷ ys) (suc i) x h p (suc s) k e = set_stored ys i x (λ t q at. h (suc t) q at) p s k e

  -- one keeper keeps it, and the others stay as they are
  pub turn_stored : (keepers changed : List K) (site : ℕ) → ChangesAt keepers site changed (λ was now. P was → P now) → AreStored P keepers → AreStored P changed
  turn_stored keepers changed site (was, now, at, is, keeps) h = subst (AreStored P) (sym is) (set_stored keepers site now h (keeps (h site was at)))
