-- A walk from items down to what lies in them.
use Rattle.std.proofs.Common.{◌≡◌, ◌↔◌, ℕ, ◌+◌, ◌<◌, ◌≤◌, ◌∙◌, List, [], None, Some, length, take, get_or, slice_get, refl, sym, ap, subst, ⊎_elim, arith}
use Rattle.std.specs.List.{Contains}
use Rattle.std.proofs.lemmas.List.{take_all, take-append-le}
use Rattle.std.proofs.lemmas.Option.{slice_get-get_or, get_or_from_slice_get}
use Rattle.event_json.specs.Events.{Content}
use Rattle.trace_core.specs.Numbers.{numbered}
use Rattle.trace_core.specs.Pairs.{Carries}
use Rattle.trace_core.specs.Relations.{ReachedFrom}
use Rattle.trace_core.specs.Sites.{SiteEvents}
use Rattle.trace_core.proofs.ChainLaws.{reached_holds, reached_start, reached_step}
use Rattle.trace_core.proofs.NumberLists.{listed_number, number_stands, some_is}
use Rattle.trace_core.proofs.PackedSteps.{carried_known}
use Rattle.trace_core.proofs.SetMembers.{contains_more}
use Rattle.gap_core.specs.Adding.{ByOne, NotesThose}
use Rattle.gap_core.specs.Sources.{Index, IsPackedAt, IsPackedBySource, LiesIn, item_cmp, or_no_sources}
use Rattle.gap_core.specs.declared.sources.Source.{Source}
use Rattle.std.specs.BTreeMap.{get}
use Rattle.gap_core.proofs.EventsInTurn.{none_past}
use Rattle.gap_core.proofs.Notings.{notes_alike, notes_had, noted_members, still_there}

-- ---- what lies in one item

-- the item of a number is what stands there
pub number_noted : (names : List (List ℕ)) (n : ℕ) (i : List ℕ) (old new : List (List ℕ)) → slice_get names n ≡ Some i
    → NotesThose (λ c. i ≡ c) old new → NotesThose (λ c. slice_get names n ≡ Some c) old new
number_noted names n i old new so = notes_alike (λ c. i ≡ c) (λ c. slice_get names n ≡ Some c) old new
    (λ c. (λ same. so ∙ ap Some same, λ also. some_is i c (sym so ∙ also)))

pub no_number_noted : (names : List (List ℕ)) (n : ℕ) (old : List (List ℕ)) → slice_get names n ≡ None
    → NotesThose (λ c. slice_get names n ≡ Some c) old old
no_number_noted names n old none = notes_had old (λ c. slice_get names n ≡ Some c) (λ c so. absurd (clash c (sym none ∙ so)))
  where
    clash : (c : List ℕ) → None ≡ Some c → ⊥
    clash c h = cc

-- those of the numbers of what was put in are what was put in
pub children_noted : (events : List Content) (i : List ℕ) (ns : List ℕ)
    → ((n : ℕ) → Contains ns n ↔ ((c : List ℕ) × (slice_get (numbered events) n ≡ Some c) × Carries events i c)) → (old new : List (List ℕ))
    → NotesThose (ByOne ns (λ n c. slice_get (numbered events) n ≡ Some c)) old new → NotesThose (Carries events i) old new
children_noted events i ns are old new = notes_alike (ByOne ns (λ n c. slice_get (numbered events) n ≡ Some c)) (Carries events i) old new
    (λ c. (
      λ (n, there, so). let (d, also, carries) = (are n).0 there in subst (Carries events i) (some_is d c (sym also ∙ so)) carries,
      λ carries.
          let (n, number) = listed_number (numbered events) c (carried_known events i c carries) in
          let so = number_stands (numbered events) c n number in
          (n, (are n).1 (c, so, carries), so),
    ))

-- what the site of a place packed
pub packed_noted : (sites : List SiteEvents) (from : ℕ) (u : SiteEvents) (i : List ℕ) (old new : List (List ℕ)) → slice_get sites from ≡ Some u
    → NotesThose (Carries u.events i) old new → NotesThose (IsPackedAt sites from i) old new
packed_noted sites from u i old new so = notes_alike (Carries u.events i) (IsPackedAt sites from i) old new
    (λ c. (
      λ carries. (u, so, carries),
      λ (v, also, carries). subst (λ (z : SiteEvents). Carries z.events i c) (some_is v u (sym also ∙ so)) carries,
    ))

pub none_packed : (sites : List SiteEvents) (from : ℕ) (i : List ℕ) (old : List (List ℕ)) → length sites ≤ from → NotesThose (IsPackedAt sites from i) old old
none_packed sites from i old past = notes_had old (IsPackedAt sites from i) (λ c (u, so, carries). absurd (none_past sites from u past so))

-- what a source packed, where it is known at the place
pub source_noted : (sites : List SiteEvents) (at : ℕ) (i : List ℕ) (source : Source) (old new : List (List ℕ)) → source.at ≡ at
    → NotesThose (IsPackedAt sites source.from i) old new → NotesThose (IsPackedBySource sites at i source) old new
source_noted sites at i source old new here = notes_alike (IsPackedAt sites source.from i) (IsPackedBySource sites at i source) old new
    (λ c. (λ packed. (here, packed), λ (also, packed). packed))

pub no_source_noted : (sites : List SiteEvents) (at : ℕ) (i : List ℕ) (source : Source) (old : List (List ℕ)) → (source.at ≡ at → ⊥)
    → NotesThose (IsPackedBySource sites at i source) old old
no_source_noted sites at i source old other = notes_had old (IsPackedBySource sites at i source) (λ c (here, packed). absurd (other here))

-- what all sources packed lies in it
pub inside_noted : (sites : List SiteEvents) (index : Index) (at : ℕ) (i : List ℕ) (sources : List Source) → sources ≡ or_no_sources (get item_cmp index i) → (old new : List (List ℕ))
    → NotesThose (ByOne sources (IsPackedBySource sites at i)) old new → NotesThose (LiesIn sites index at i) old new
inside_noted sites index at i sources are old new = notes_alike (ByOne sources (IsPackedBySource sites at i)) (LiesIn sites index at i) old new
    (λ c. (
      λ (x, there, (here, packed)). (x.from, subst (λ xs. Contains xs (record { at = at; from = x.from })) are (subst (Contains sources) (known x here) there), packed),
      λ (from, keeps, packed). (record { at = at; from = from }, subst (λ xs. Contains xs (record { at = at; from = from })) (sym are) keeps, (refl, packed)),
    ))
  where
    known : (x : Source) → x.at ≡ at → x ≡ record { at = at; from = x.from }
    known x here = λ k. record { at = here k; from = x.from }

-- ---- the walk

module _ (R : List ℕ → List ℕ → Type 0) (starts : List (List ℕ)) where
  -- what lies in the items before a place is found
  pub record Walking (found : List (List ℕ)) (place : ℕ) : Type 0 where
    pub begun : (i : List ℕ) → Contains starts i → Contains found i
    pub sound : (i : List ℕ) → Contains found i → ReachedFrom R starts i
    pub closed : (i j : List ℕ) → Contains (take place found) i → R i j → Contains found j

  pub walk_begins : Walking starts 0
  walk_begins = record {
    begun = λ i h. h;
    sound = λ i h. reached_start R starts i h;
    closed = λ i j (k, below, at) r. absurd (none_below k below);
  }
    where
      none_below : (k : ℕ) → k < length (take 0 starts) → ⊥
      none_below k below = omega (arith, below)

  pub walk_goes_on : (found found' : List (List ℕ)) (place : ℕ) → place < length found → Walking found place
      → ((i : List ℕ) → slice_get found place ≡ Some i → NotesThose (R i) found found') → Walking found' (place + 1)
  walk_goes_on found found' place below so_far noted =
      let d = get_or found place [] in
      let so : slice_get found place ≡ Some d = slice_get-get_or found place [] below in
      let notes : NotesThose (R d) found found' = noted d so in
      let here : Contains found d = (place, below, at_itself d so) in
      record {
        begun = λ i h. still_there (R d) found found' notes i (so_far.begun i h);
        sound = λ i h. ⊎_elim
            (λ was. so_far.sound i was)
            (λ r. reached_step R starts d i (so_far.sound d here) r)
            ((noted_members (R d) found found' notes i).0 h);
        closed = λ i j h r.
            let front : take (place + 1) found' ≡ take (place + 1) found = ap (take (place + 1)) notes.appended ∙ take-append-le (place + 1) found notes.more (omega (arith, below)) in
            ⊎_elim
            (λ was. still_there (R d) found found' notes j (so_far.closed i j was r))
            (λ same. notes.all j (subst (λ z. R z j) (sym same) r))
            ((contains_more found place d below (sym (at_itself d so)) i).0 (subst (λ xs. Contains xs i) front h));
      }
    where
      at_itself : (x : List ℕ) → slice_get found place ≡ Some x → get_or found place x ≡ x
      at_itself x so = get_or_from_slice_get found place x x so

  pub walk_ends : (found : List (List ℕ)) (place : ℕ) → length found ≤ place → Walking found place → (i : List ℕ) → Contains found i ↔ ReachedFrom R starts i
  walk_ends found place past so_far i = (
    so_far.sound i,
    λ (x, there, reaches). reached_holds R (Contains found) (λ y z h r. so_far.closed y z (subst (λ xs. Contains xs y) (sym (take_all place found past)) h) r) x i reaches (so_far.begun x there),
  )
