-- What a command did whose calls are known, of one site and of none.
use Rattle.std.proofs.Common.{◌≡◌, ◌⊎◌, ℕ, Option, Some, None, List, [], ◌∷◌, Contains, refl, sym, ◌∙◌, ap, subst, inl, inr, ⊎_elim, arith, slice_get}
use Rattle.std.proofs.lemmas.Bool.{cases_eq}
use Rattle.std.proofs.lemmas.List.Elements.{All-contains, Contains-append_right}
use Rattle.std.proofs.lemmas.Option.{same_Some}
use Rattle.trace_core.proofs.Members.{contains_cases, contains_none}
use Rattle.event_json.specs.Sites.{Site}
use Rattle.site_core.specs.Records.{Record}
use Rattle.world_core.specs.Keepers.{StandsAs}
use Rattle.world_core.specs.Worlds.{Standing, Up, Down, record_of}
use Rattle.site_folders.specs.Faults.{OnlyAsks, IsHarmless}
use Rattle.site_folders.specs.FileCalls.{FileCall, Blamed, ClosedSite, Failed, LookedFor, MadeSite, OpenedSite, ReadFile, ReadLine, WroteFile}
use Rattle.command_line.specs.Lives.{ActTogether, FilesAreContinued, FilesAreLeft, IsOfSite}
use Rattle.command_line.proofs.Acts.{ComesBy, and_then, each_alone, is_opened, stays_as}
use Rattle.command_line.proofs.LivedRuns.{acted_alone}

module _ {K : Type 0} where
  -- where one of more calls is a closing, and the first of them isn't, it is one of the others
  pub closes_later : (first : FileCall K) (rest : List (FileCall K)) (k : K) → (first ≡ ClosedSite k → ⊥) → Contains (first ∷ rest) (ClosedSite k) → Contains rest (ClosedSite k)
  closes_later first rest k not c = ⊎_elim (λ same. absurd (not same)) (λ more. more) (contains_cases first (ClosedSite k) rest c)

  pub opened_first : (call : FileCall K) (rest : List (FileCall K)) → Contains (call ∷ rest) call
  opened_first call rest = (0, omega arith, refl)

  pub closed_same : (one other : K) → ClosedSite one ≡ ClosedSite other → one ≡ other
  closed_same one other e = ap closed_of e
    where
      closed_of : FileCall K → K
      closed_of (ClosedSite k) = k
      closed_of call = one

module _ {K : Type 0} (shown : K → Option Record) (may : K → Record → Type 0) (opens : (k : K) → shown k ≡ None → (r : Record) × may k r) (folder : List ℕ) (sites : List Site)
    (old new : List Standing) (calls : List (FileCall K)) (continued : FilesAreContinued shown may sites old calls) (left : FilesAreLeft shown may old new calls) where
  -- ---- calls that change no site

  -- each keeper that was closed shows what stood at its site
  abbrev pub Unchanged : Type 0
  Unchanged = (k : K) (site : ℕ) (stood : Standing) → Contains calls (ClosedSite k) → IsOfSite shown may site k → slice_get old site ≡ Some stood → shown k ≡ Some (record_of stood)

  -- a keeper is of a site, or isn't, where it shows what stood at its site
  of_site : (k : K) (site : ℕ) (o : Option Record) → shown k ≡ o → (IsOfSite shown may site k → (r : Record) × (shown k ≡ Some r)) → IsOfSite shown may site k ⊎ (IsOfSite shown may site k → ⊥)
  of_site k site (Some r) at shows = elim (cases_eq r.engagement.me site) as (λ _. IsOfSite shown may site k ⊎ (IsOfSite shown may site k → ⊥)) [
    | inl e ↦ inl (Up r, at, e)
    | inr ne ↦ inr (λ of. other ne of)
  ]
    where
      other : (r.engagement.me ≡ site → ⊥) → IsOfSite shown may site k → ⊥
      other ne (Up x, stands, me) = ne (ap (λ (y : Record). y.engagement.me) (same_Some r x (sym at ∙ stands)) ∙ me)
      other ne (Down x, stands, me) = absurd (let z : Some r ≡ None = sym at ∙ stands.0 in cc)
  of_site k site None at shows = inr (λ of. let s = shows of in absurd (let z : None ≡ Some s.0 = sym at ∙ s.1 in cc))

  unchanged_at : Unchanged → (site : ℕ) (stood : Standing) → slice_get old site ≡ Some stood → (k : K) → Contains calls (ClosedSite k) → IsOfSite shown may site k ⊎ (IsOfSite shown may site k → ⊥)
  unchanged_at same site stood at k closed = of_site k site (shown k) refl (λ of. (record_of stood, same k site stood closed of at))

  -- of some calls one closed a keeper of the site, or none did
  some_closed : (site : ℕ) → ((k : K) → Contains calls (ClosedSite k) → IsOfSite shown may site k ⊎ (IsOfSite shown may site k → ⊥)) → (part : List (FileCall K)) → ((call : FileCall K) → Contains part call → Contains calls call)
      → ((k : K) × Contains part (ClosedSite k) × IsOfSite shown may site k) ⊎ ((k : K) → Contains part (ClosedSite k) → IsOfSite shown may site k → ⊥)
  some_closed site decide [] among = inr (λ k c of. contains_none (ClosedSite k) c)
  some_closed site decide (call ∷ part) among = ⊎_elim
      (λ (found : (k : K) × Contains part (ClosedSite k) × IsOfSite shown may site k). inl (found.0, later_call found.0 found.1, found.2))
      (λ none. this_one call refl none) (some_closed site decide part (λ x c. among x (more x c)))
    where
      more : (x : FileCall K) → Contains part x → Contains (call ∷ part) x
      more x c = Contains-append_right (call ∷ []) part x c

      later_call : (k : K) → Contains part (ClosedSite k) → Contains (call ∷ part) (ClosedSite k)
      later_call k c = more (ClosedSite k) c

      no_other : (x : FileCall K) → x ≡ call → ((k : K) → x ≡ ClosedSite k → ⊥) → ((k : K) → Contains part (ClosedSite k) → IsOfSite shown may site k → ⊥)
          → ((k : K) × Contains (call ∷ part) (ClosedSite k) × IsOfSite shown may site k) ⊎ ((k : K) → Contains (call ∷ part) (ClosedSite k) → IsOfSite shown may site k → ⊥)
      no_other x same not none = inr (λ k c of. ⊎_elim (λ (e : call ≡ ClosedSite k). not k (same ∙ e)) (λ d. none k d of) (contains_cases call (ClosedSite k) part c))

      this_one : (x : FileCall K) → x ≡ call → ((k : K) → Contains part (ClosedSite k) → IsOfSite shown may site k → ⊥)
          → ((k : K) × Contains (call ∷ part) (ClosedSite k) × IsOfSite shown may site k) ⊎ ((k : K) → Contains (call ∷ part) (ClosedSite k) → IsOfSite shown may site k → ⊥)
      this_one (ClosedSite one) same none =
          let here : Contains (call ∷ part) (ClosedSite one) = subst (Contains (call ∷ part)) (sym same) (opened_first call part) in
          ⊎_elim (λ (of : IsOfSite shown may site one). inl (one, here, of))
          (λ (not : IsOfSite shown may site one → ⊥).
          inr (λ k c of. ⊎_elim (λ (e : call ≡ ClosedSite k). not (subst (IsOfSite shown may site) (sym (closed_same one k (same ∙ e))) of)) (λ d. none k d of) (contains_cases call (ClosedSite k) part c)))
          (decide one (among (ClosedSite one) here))
      this_one (ReadFile path bytes) same none = no_other (ReadFile path bytes) same (λ k e. absurd (let z : ReadFile path bytes ≡ ClosedSite k = e in cc)) none
      this_one (ReadLine path line) same none = no_other (ReadLine path line) same (λ k e. absurd (let z : ReadLine path line ≡ ClosedSite k = e in cc)) none
      this_one (LookedFor path found) same none = no_other (LookedFor path found) same (λ k e. absurd (let z : LookedFor path found ≡ ClosedSite k = e in cc)) none
      this_one (MadeSite path r) same none = no_other (MadeSite path r) same (λ k e. absurd (let z : MadeSite path r ≡ ClosedSite k = e in cc)) none
      this_one (OpenedSite path name x) same none = no_other (OpenedSite path name x) same (λ k e. absurd (let z : OpenedSite path name x ≡ ClosedSite k = e in cc)) none
      this_one (WroteFile path bytes) same none = no_other (WroteFile path bytes) same (λ k e. absurd (let z : WroteFile path bytes ≡ ClosedSite k = e in cc)) none
      this_one (Failed path fault) same none = no_other (Failed path fault) same (λ k e. absurd (let z : Failed path fault ≡ ClosedSite k = e in cc)) none
      this_one (Blamed path) same none = no_other (Blamed path) same (λ k e. absurd (let z : Blamed path ≡ ClosedSite k = e in cc)) none

  -- where a file shows what stood, the site was opened, if anything
  as_stood : (site : ℕ) (k : K) (o n : Standing) → shown k ≡ Some (record_of o) → StandsAs (shown k) (may k) n → ComesBy [] site o n
  as_stood site k o (Up r) shows stands = subst (λ (x : Record). ComesBy [] site o (Up x)) (same_Some (record_of o) r (sym shows ∙ stands)) (is_opened [] site o)
  as_stood site k o (Down r) shows stands = absurd (let z : Some (record_of o) ≡ None = sym shows ∙ stands.0 in cc)

  pub unchanged_comes : Unchanged → (i : ℕ) (o n : Standing) → slice_get old i ≡ Some o → slice_get new i ≡ Some n → ComesBy [] i o n
  unchanged_comes same i o n at to = ⊎_elim
      (λ (found : (k : K) × Contains calls (ClosedSite k) × IsOfSite shown may i k). as_stood i found.0 o n (same found.0 i o found.1 found.2 at) (left.closed found.0 i n found.1 found.2 to))
      (λ none. stays_as [] i o n (same_Some n o (sym to ∙ left.others i none ∙ at)))
      (some_closed i (λ k closed. unchanged_at same i o at k closed) calls (λ call c. c))

  pub unchanged_acted : Unchanged → ActTogether old new
  unchanged_acted same = acted_alone old new (each_alone [] old new left.count (λ i o n at to. unchanged_comes same i o n at to))

  -- calls that change no site
  pub asks_unchanged : OnlyAsks calls → Unchanged
  asks_unchanged asks k site stood closed of at =
      let (path, name, opened) : IsHarmless calls (ClosedSite k) = All-contains (IsHarmless calls) calls (ClosedSite k) asks closed in
      continued.shows path name k site stood opened of at

  -- ---- a site that took steps

  -- the file of one site was opened, and closed after its steps, and no other was closed
  pub record StepsAlone (site : ℕ) (before : Record) (after : K) : Type 0 where
    pub keeper : K
    pub path : List ℕ
    pub name : List ℕ
    pub opened : Contains calls (OpenedSite path name keeper)
    pub shows : shown keeper ≡ Some before
    pub me : before.engagement.me ≡ site
    pub closed : Contains calls (ClosedSite after)
    pub only : (k : K) → Contains calls (ClosedSite k) → k ≡ after
    pub came : (stands : Standing) → StandsAs (shown after) (may after) stands → ComesBy [] site (Up before) stands × ((record_of stands).engagement.me ≡ site)

  stands_some : (k : K) (o : Option Record) → shown k ≡ o → (standing : Standing) × StandsAs (shown k) (may k) standing
  stands_some k (Some r) at = (Up r, at)
  stands_some k None at = let some = opens k at in (Down some.0, (at, some.1))

  steps_at : (site : ℕ) (before : Record) (after : K) → StepsAlone site before after → (o n : Standing) → slice_get old site ≡ Some o → slice_get new site ≡ Some n → ComesBy [] site o n
  steps_at site before after steps o n at to =
      let (standing, stands) = stands_some after (shown after) refl in
      let of : IsOfSite shown may site after = (standing, stands, (steps.came standing stands).1) in
      let same : Some before ≡ Some (record_of o) = sym steps.shows ∙ continued.shows steps.path steps.name steps.keeper site o steps.opened (Up before, steps.shows, steps.me) at in
      and_then [] site o (Up (record_of o)) n (is_opened [] site o)
      (subst (λ (r : Record). ComesBy [] site (Up r) n) (same_Some before (record_of o) same) (steps.came n (left.closed after site n steps.closed of to)).0)

  steps_comes : (site : ℕ) (before : Record) (after : K) → StepsAlone site before after → (i : ℕ) (o n : Standing) → slice_get old i ≡ Some o → slice_get new i ≡ Some n → ComesBy [] i o n
  steps_comes site before after steps i o n at to = elim (cases_eq i site) as (λ _. ComesBy [] i o n) [
    | inl e ↦ subst (λ j. ComesBy [] j o n) (sym e) (steps_at site before after steps o n (subst (λ j. slice_get old j ≡ Some o) e at) (subst (λ j. slice_get new j ≡ Some n) e to))
    | inr ne ↦ stays_as [] i o n (same_Some n o (sym to ∙ left.others i (λ k c of. ne (other k c of)) ∙ at))
  ]
    where
      other : (k : K) → Contains calls (ClosedSite k) → IsOfSite shown may i k → i ≡ site
      other k c (standing, stands, me) = sym me ∙ (steps.came standing (subst (λ (x : K). StandsAs (shown x) (may x) standing) (steps.only k c) stands)).1

  pub steps_acted : (site : ℕ) (before : Record) (after : K) → StepsAlone site before after → ActTogether old new
  steps_acted site before after steps = acted_alone old new (each_alone [] old new left.count (λ i o n at to. steps_comes site before after steps i o n at to))
