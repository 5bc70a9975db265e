-- Records that keepers show, one after another.
use Rattle.std.proofs.Common.{◌≡◌, ℕ, zero, suc, ◌+◌, ◌<◌, Option, Some, None, List, [], ◌∷◌, ◌++◌, length, get_or, map, take, refl, sym, ◌∙◌, ap, subst, arith, slice_get}
use Rattle.std.specs.List.{AllZip}
use Rattle.std.proofs.lemmas.List.{take_more}
use Rattle.std.proofs.lemmas.Option.{same_Some}
use Rattle.frame_core.specs.Numbers.{Recall}
use Rattle.frame_core.specs.declared.frames.Frame.{Frame}
use Rattle.site_core.specs.Records.{Record}
use Rattle.trace_core.specs.Pairs.{IsStrictlyAscending}
use Rattle.trace_core.specs.declared.pairs.Pair.{Pair}
use Rattle.site_recovery.specs.Fit.{Fits}
use Rattle.site_recovery.specs.Looks.{world_of}
use Rattle.world_core.specs.Faults.{HindersKeepers, MakeAWorld}
use Rattle.world_core.specs.declared.faults.WorldFault.{WorldFault}
use Rattle.world_core.specs.declared.faults.WorldFault.TheVariants as worlds
use Rattle.world_core.specs.Keepers.{AllShow, Sites, SitesFit, StandsAs}
use Rattle.world_core.specs.Restarting.{AreOfOneList}
use Rattle.world_core.specs.Recalls.{AreExactOnceEnded, quarantined}
use Rattle.world_core.specs.Worlds.{Standing, Up, Down, WorldState, record_of, records}
use Rattle.world_core.proofs.EndedRecalls.{ended_is_exact, quarantines_ascend}
use Rattle.world_core.proofs.FreshSites.{memory_alone}

module _ {A B : Type 0} (R : A → B → Type 0) where
  zip_push : (xs : List A) (ys : List B) (x : A) (y : B) → AllZip R xs ys → R x y → AllZip R (xs ++ x ∷ []) (ys ++ y ∷ [])
  zip_push [] [] x y h r = (r, tt)
  zip_push (a ∷ as') (b ∷ bs) x y h r = (h.0, zip_push as' bs x y h.1 r)
  zip_push [] (b ∷ bs) x y h r = absurd h
  zip_push (a ∷ as') [] x y h r = absurd h

  pub zip_more : (xs : List A) (i : ℕ) (ys : List B) (x : A) (y : B) → i < length xs → x ≡ get_or xs i x → AllZip R (take i xs) ys → R x y → AllZip R (take (i + 1) xs) (ys ++ y ∷ [])
  zip_more xs i ys x y in' is h r =
      let more : take (i + 1) xs ≡ take i xs ++ x ∷ [] = take_more xs i x in' ∙ ap (λ z. take i xs ++ z ∷ []) (sym is) in
      subst (λ zs. AllZip R zs (ys ++ y ∷ [])) (sym more) (zip_push (take i xs) ys x y h r)

  pub zip_before : (xs : List A) (i : ℕ) (ys : List B) (s : ℕ) (x : A) → AllZip R (take i xs) ys → s < i → slice_get xs s ≡ Some x → (y : B) × R x y
  zip_before [] i ys s x h below e = let n : None ≡ Some x = e in cc
  zip_before (a ∷ as') zero ys s x h below e = absurd (omega arith)
  zip_before (a ∷ as') (suc i) [] s x h below e = absurd h
  zip_before (a ∷ as') (suc i) (b ∷ bs) zero x h below e = let same : a ≡ x = cc in (b, subst (λ z. R z b) same h.0)
  zip_before (a ∷ as') (suc i) (b ∷ bs) (suc s) x h below e = zip_before as' i bs s x h.1 (omega arith) e

module _ {K : Type 0} (shown : K → Option Record) (may : K → Record → Type 0) where
  -- a keeper is up with the record that it shows, or down with one in which it may be opened
  pub each_stands : ((k : K) → shown k ≡ None → (r : Record) × may k r) → (keepers : List K) → (sites : List Standing) × AllZip (λ k standing. StandsAs (shown k) (may k) standing) keepers sites
  each_stands opened [] = ([], tt)
  each_stands opened (k ∷ ks) =
      let R : K → Standing → Type 0 = λ x standing. StandsAs (shown x) (may x) standing in
      let one : (standing : Standing) × R k standing =
      elim (shown k) as (λ o. shown k ≡ o → (standing : Standing) × R k standing) [ Some r ↦ λ e. (Up r, e) | None ↦ λ e. let m = opened k e in (Down m.0, (e, m.1)) ] refl in
      let rest = each_stands opened ks in
      (one.0 ∷ rest.0, (one.1, rest.1))

module _ {K : Type 0} (shown : K → Option Record) (may : K → Record → Type 0) where
  -- where all keepers are open, there is one list of records that they show
  pub shown_once : (keepers : List K) (rs ss : List Record) → AllShow shown keepers rs → AllShow shown keepers ss → rs ≡ ss
  shown_once [] [] [] a b = refl
  shown_once (k ∷ ks) (r ∷ rs) (s ∷ ss) a b =
      let o : Some r ≡ Some s = sym a.0 ∙ b.0 in
      let e : r ≡ s = cc in
      let t = shown_once ks rs ss a.1 b.1 in
      cc
  shown_once [] [] (s ∷ ss) a b = absurd b
  shown_once [] (r ∷ rs) ss a b = absurd a
  shown_once (k ∷ ks) [] ss a b = absurd a
  shown_once (k ∷ ks) (r ∷ rs) [] a b = absurd b

  shown_there : (keepers : List K) (rs : List Record) → AllShow shown keepers rs → (place : ℕ) (k : K) → slice_get keepers place ≡ Some k → (r : Record) × (shown k ≡ Some r)
  shown_there [] rs a place k e = let n : None ≡ Some k = e in cc
  shown_there (x ∷ xs) [] a place k e = absurd a
  shown_there (x ∷ xs) (r ∷ rs) a zero k e = let same : x ≡ k = same_Some x k e in (r, subst (λ z. shown z ≡ Some r) same a.0)
  shown_there (x ∷ xs) (r ∷ rs) a (suc place) k e = shown_there xs rs a.1 place k e

  -- and one world that they may be
  shown_records : (keepers : List K) (rs : List Record) (sites : List Standing) → AllShow shown keepers rs → AllZip (λ k standing. StandsAs (shown k) (may k) standing) keepers sites → map record_of sites ≡ rs
  shown_records [] [] [] a z = refl
  shown_records (k ∷ ks) (r ∷ rs) (Up q ∷ rest) a z =
      let o : Some q ≡ Some r = sym z.0 ∙ a.0 in
      let e : q ≡ r = cc in
      let t = shown_records ks rs rest a.1 z.1 in
      cc
  shown_records (k ∷ ks) (r ∷ rs) (Down q ∷ rest) a z = let o : None ≡ Some r = sym z.0.0 ∙ a.0 in cc
  shown_records [] [] (standing ∷ rest) a z = absurd z
  shown_records [] (r ∷ rs) sites a z = absurd a
  shown_records (k ∷ ks) [] sites a z = absurd a
  shown_records (k ∷ ks) (r ∷ rs) [] a z = absurd z

  all_up : (keepers : List K) (rs : List Record) → AllShow shown keepers rs → AllZip (λ k standing. StandsAs (shown k) (may k) standing) keepers (map (λ r. Up r) rs)
  all_up [] [] a = tt
  all_up (k ∷ ks) (r ∷ rs) a = (a.0, all_up ks rs a.1)
  all_up [] (r ∷ rs) a = absurd a
  all_up (k ∷ ks) [] a = absurd a

  same_records : (rs : List Record) → map record_of (map (λ r. Up r) rs) ≡ rs
  same_records [] = refl
  same_records (r ∷ rs) = ap (λ qs. r ∷ qs) (same_records rs)

  -- sites that show records which make a world
  pub fit_shown : (keepers : List K) (sent : List Frame) (rs : List Record) → AllShow shown keepers rs → MakeAWorld rs → sent ≡ [] → SitesFit shown may (record { keepers = keepers; sent = sent })
  fit_shown keepers sent rs a make none world z =
      let same = shown_records keepers rs world.sites a z.0 in
      let here : MakeAWorld (records world) = subst MakeAWorld (sym same) make in
      record { places = here.places; fits = subst (Fits (world_of (records world))) (sym (z.1 ∙ none)) here.fit }

  -- they are of one list of sites
  pub one_shown : (keepers : List K) (sent : List Frame) (rs : List Record) → AllShow shown keepers rs → MakeAWorld rs → AreOfOneList shown may (record { keepers = keepers; sent = sent })
  one_shown keepers sent rs a make world z =
      let here : MakeAWorld (records world) = subst MakeAWorld (sym (shown_records keepers rs world.sites a z.0)) make in
      here.one

  -- nothing but out of memory prevents them
  pub only_memory_hinders : (keepers : List K) (rs : List Record) → AllShow shown keepers rs → MakeAWorld rs → (fault : WorldFault) → HindersKeepers shown keepers fault → fault ≡ worlds.NoMemory
  only_memory_hinders keepers rs a make worlds.NoMemory h = refl
  only_memory_hinders keepers rs a make (worlds.Closed place) h =
      let shows = shown_there keepers rs a place h.0.0 h.0.1 in
      let o : None ≡ Some shows.0 = sym h.0.2 ∙ shows.1 in
      cc
  only_memory_hinders keepers rs a make (worlds.OtherSites place) (ss, b, hinders) = memory_alone ss (subst MakeAWorld (shown_once keepers rs ss a b) make) (worlds.OtherSites place) hinders
  only_memory_hinders keepers rs a make (worlds.Misfit misfit) (ss, b, hinders) = memory_alone ss (subst MakeAWorld (shown_once keepers rs ss a b) make) (worlds.Misfit misfit) hinders

  -- what is reported of the records that all sites show holds of all that they show
  pub shown_exact : (sites : Sites K) (recall : Recall) (rs : List Record) (pairs : List Pair) → SitesFit shown may sites → AllShow shown sites.keepers rs → pairs ≡ quarantined recall rs
      → IsStrictlyAscending pairs × ((ss : List Record) → AllShow shown sites.keepers ss → AreExactOnceEnded recall ss pairs)
  shown_exact sites recall rs pairs fit a are =
      let world : WorldState = record { sites = map (λ r. Up r) rs; sent = sites.sent } in
      let fits = fit world (all_up sites.keepers rs a, refl) in
      let same : map record_of (map (λ r. Up r) rs) ≡ rs = same_records rs in (
        subst IsStrictlyAscending (sym (are ∙ ap (quarantined recall) (sym same))) (quarantines_ascend world recall fits),
        λ ss b.
            let one : records world ≡ ss = same ∙ shown_once sites.keepers rs ss a b in
            subst (AreExactOnceEnded recall ss) (sym (are ∙ ap (quarantined recall) (shown_once sites.keepers rs ss a b)))
            (subst (λ qs. AreExactOnceEnded recall qs (quarantined recall qs)) one (ended_is_exact world recall fits)),
      )
