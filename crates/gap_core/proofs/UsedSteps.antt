-- What lies in containers that were taken into transformations, and wasn't taken in with them.
use Rattle.std.proofs.Common.{◌≡◌, ◌↔◌, inl, inr, ℕ, ◌<◌, ◌≤◌, ◌∙◌, List, [], ◌∷◌, ◌++◌, Option, None, Some, length, slice_get, refl, sym, ap, subst, ⊎_elim, arith}
use Rattle.std.specs.List.{Contains}
use Rattle.std.specs.Option.{option_map}
use Rattle.std.proofs.lemmas.Option.{slice_get_within, slice_get-get_or, get_or_from_slice_get}
use Rattle.event_json.specs.Events.{Content}
use Rattle.event_json.specs.declared.bodies.Body.{Body}
use Rattle.event_json.specs.declared.bodies.Body.TheVariants.{Note, Ship, Make, Pack}
use Rattle.trace_core.specs.Gaps.{by_known}
use Rattle.trace_core.specs.Groups.{IsPartOf, first_of}
use Rattle.trace_core.specs.Pairs.{AreOneMake, TakesIn, make_id}
use Rattle.trace_core.specs.Places.{IsPartAt}
use Rattle.trace_core.specs.Relations.{ReachedFrom, Reaches}
use Rattle.trace_core.specs.Sites.{SiteEvents}
use Rattle.trace_core.proofs.ChainLaws.{reach_widens}
use Rattle.trace_core.proofs.LookSteps.{first_stands, first_alone, one_first}
use Rattle.trace_core.proofs.Members.{contains_none}
use Rattle.trace_core.proofs.NumberLists.{none_is, some_is}
use Rattle.trace_core.proofs.PairTestsDecide.{same_id_decides}
use Rattle.gap_core.specs.Adding.{AddsToList, ByOne, NotesThose}
use Rattle.gap_core.specs.Sources.{AreKnown, Index, LiesIn}
use Rattle.gap_core.specs.Used.{IsLeft, IsLeftOf, IsTakenAt, IsTakenOnce, IsTakenWith, IsUsedAt, IsUsedChild, IsUsedFirst, IsUsedWith, taken_in}
use Rattle.gap_core.specs.declared.gap_items.GapItem.{GapItem}
use Rattle.gap_core.proofs.Additions.{Before, adds_alike, adds_nothing, adds_one}
use Rattle.gap_core.proofs.KnownSteps.{lies_as_known}
use Rattle.gap_core.proofs.Notings.{notes_alike, notes_had, placed, stands_in}

-- ---- what goes into a transformation

takes_split : (item : List ℕ) (b : Body) → TakesIn item b ↔ Contains (taken_in b) item
takes_split item (Note items) = (λ h. absurd h, λ h. absurd (contains_none item h))
takes_split item (Ship items sites outside) = (λ h. absurd h, λ h. absurd (contains_none item h))
takes_split item (Make id ins outs) = (λ h. h, λ h. h)
takes_split item (Pack action parent children) = (λ h. absurd h, λ h. absurd (contains_none item h))

module _ (events : List Content) (place : ℕ) (e : Content) (so : slice_get events place ≡ Some e) where
  -- the event at a place
  pub once_noted : (items : List (List ℕ)) → items ≡ taken_in e.body → (old new : List (List ℕ)) → NotesThose (Contains items) old new → NotesThose (IsTakenOnce events place) old new
  once_noted items are old new = notes_alike (Contains items) (IsTakenOnce events place) old new
      (λ i. (
        λ h. (e, so, subst (λ xs. Contains xs i) are h),
        λ (f, also, h). subst (λ xs. Contains xs i) (sym are) (subst (λ (g : Content). Contains (taken_in g.body) i) (some_is f e (sym also ∙ so)) h),
      ))

  -- all parts of its id
  pub parts_noted : (id : List ℕ) (places : List ℕ) → make_id e.body ≡ Some id → ((k : ℕ) → Contains places k ↔ IsPartAt events id k)
      → (old new : List (List ℕ)) → NotesThose (ByOne places (IsTakenOnce events)) old new → NotesThose (IsTakenAt events place) old new
  parts_noted id places own exact old new = notes_alike (ByOne places (IsTakenOnce events)) (IsTakenAt events place) old new
      (λ i. (
        λ (k, there, (g, at, takes)).
            let (f, at', has) = (exact k).0 there in
            let part : make_id g.body ≡ Some id = ap (λ (c : Content). make_id c.body) (some_is g f (sym at ∙ at')) ∙ has in
            (e, so, (k, g, slice_get_within events k g at, get_or_from_slice_get events k g g at, ((takes_split i g.body).1 takes, inr (id, part, own)))),
        λ (f, also, (k, g, below, at, (takes, one))).
            let there : slice_get events k ≡ Some g = slice_get-get_or events k g below ∙ ap Some at in
            let part : make_id g.body ≡ Some id = has_id g (subst (AreOneMake g) (some_is f e (sym also ∙ so)) one) in
            (k, (exact k).1 (g, there, part), (g, there, (takes_split i g.body).0 takes)),
      ))
    where
      has_id : (g : Content) → AreOneMake g e → make_id g.body ≡ Some id
      has_id g one = ⊎_elim
          (λ same. ap (λ (c : Content). make_id c.body) same ∙ own)
          (λ (other, first, second). first ∙ sym second ∙ own)
          one

  -- it has no id, or isn't a transformation
  pub alone_noted : (items : List (List ℕ)) → items ≡ taken_in e.body → make_id e.body ≡ None → (old new : List (List ℕ)) → NotesThose (Contains items) old new → NotesThose (IsTakenAt events place) old new
  alone_noted items are none old new = notes_alike (Contains items) (IsTakenAt events place) old new
      (λ i. (
        λ h. (e, so, (place, e, slice_get_within events place e so, get_or_from_slice_get events place e e so, ((takes_split i e.body).1 (subst (λ xs. Contains xs i) are h), inl refl))),
        λ (f, also, (k, g, below, at, (takes, one))).
            let same : g ≡ e = itself g (subst (AreOneMake g) (some_is f e (sym also ∙ so)) one) in
            subst (λ xs. Contains xs i) (sym are) ((takes_split i e.body).0 (subst (λ (c : Content). TakesIn i c.body) same takes)),
      ))
    where
      itself : (g : Content) → AreOneMake g e → g ≡ e
      itself g one = ⊎_elim (λ same. same) (λ (id, first, second). none_is id (sym none ∙ second)) one

-- no event is there
pub none_once : (events : List Content) (place : ℕ) → slice_get events place ≡ None → (old : List (List ℕ)) → NotesThose (IsTakenOnce events place) old old
none_once events place none old = notes_had old (IsTakenOnce events place) (λ i (e, so, h). none_is e (sym none ∙ so))

pub none_taken : (events : List Content) (place : ℕ) → slice_get events place ≡ None → (old : List (List ℕ)) → NotesThose (IsTakenAt events place) old old
none_taken events place none old = notes_had old (IsTakenAt events place) (λ i (e, so, h). none_is e (sym none ∙ so))

-- two events of one id are parts of the same transformations
one_make_moves : (x e f : Content) (id : List ℕ) → make_id e.body ≡ Some id → make_id f.body ≡ Some id → AreOneMake x e → AreOneMake x f
one_make_moves x e f id own other one = ⊎_elim
    (λ same. inr (id, ap (λ (c : Content). make_id c.body) same ∙ own, other))
    (λ (same, first, second). inr (same, first, other ∙ sym own ∙ second))
    one

module _ (events : List Content) where
  taken_alike : (j k : ℕ) (e f : Content) (id : List ℕ) → slice_get events j ≡ Some e → slice_get events k ≡ Some f → make_id e.body ≡ Some id → make_id f.body ≡ Some id → (i : List ℕ) → IsTakenAt events j i → IsTakenAt events k i
  taken_alike j k e f id so so' own other i (g, at, (n, x, below, here, (takes, one))) =
      (f, so', (n, x, below, here, (takes, one_make_moves x e f id own other (subst (AreOneMake x) (some_is g e (sym at ∙ so)) one))))

  -- what goes into an event's transformation goes into that of its first part
  taken_first : (place first : ℕ) (e : Content) → slice_get events place ≡ Some e → first ≡ first_of events place e.body → (i : List ℕ) → IsTakenAt events place i ↔ IsTakenAt events first i
  taken_first place first e so is i =
      let (f, at, same) = first_stands events place e so in
      by_id (make_id e.body) refl f (ap (slice_get events) is ∙ at) same
    where
      by_id : (id : Option (List ℕ)) → make_id e.body ≡ id → (f : Content) → slice_get events first ≡ Some f → make_id f.body ≡ make_id e.body → IsTakenAt events place i ↔ IsTakenAt events first i
      by_id None none f at same =
          let alone : first ≡ place = is ∙ first_alone events place e.body none in
          (subst (λ n. IsTakenAt events n i) (sym alone), subst (λ n. IsTakenAt events n i) alone)
      by_id (Some id) some f at same = (taken_alike place first e f id so at some (same ∙ some) i, taken_alike first place f e id at so (same ∙ some) some i)

  -- the first part's first part is itself
  first_again : (place : ℕ) (e f : Content) → slice_get events place ≡ Some e → make_id f.body ≡ make_id e.body → first_of events (first_of events place e.body) f.body ≡ first_of events place e.body
  first_again place e f so same = by_id (make_id e.body) refl
    where
      by_id : (id : Option (List ℕ)) → make_id e.body ≡ id → first_of events (first_of events place e.body) f.body ≡ first_of events place e.body
      by_id None none = first_alone events (first_of events place e.body) f.body (same ∙ none)
      by_id (Some id) some = one_first events (first_of events place e.body) place f e so ((same_id_decides (make_id f.body) (make_id e.body)).1 (id, same ∙ some, some))

-- whether an event is its transformation's first part
pub part_is : (events : List Content) (place first : ℕ) → Some first ≡ option_map (λ (e : Content). first_of events place e.body) (slice_get events place) → IsPartOf events place place ↔ (first ≡ place)
part_is events place first some = elim (slice_get events place) as (λ o. slice_get events place ≡ o → Some first ≡ option_map (λ (e : Content). first_of events place e.body) o → IsPartOf events place place ↔ (first ≡ place)) [
  | None ↦ λ none is. absurd (none_is first (sym is))
  | Some e ↦ λ so is. (
    λ (f, also, at). some_is first (first_of events place e.body) is ∙ ap (λ (c : Content). first_of events place c.body) (some_is e f (sym so ∙ also)) ∙ at,
    λ same. (e, so, sym (some_is first (first_of events place e.body) is) ∙ same),
  )
] refl some

pub no_part : (events : List Content) (place : ℕ) → None ≡ option_map (λ (e : Content). first_of events place e.body) (slice_get events place) → IsPartOf events place place → ⊥
no_part events place none (e, so, at) = none_is (first_of events place e.body) (none ∙ ap (option_map (λ (e : Content). first_of events place e.body)) so)

-- ---- one item

module _ (site : ℕ) (container : List ℕ) (inputs : List (List ℕ)) where
  pub item_left : (item : List ℕ) (old new : List GapItem) → (Contains inputs item → ⊥) → new ≡ old ++ record { site = site; container = container; by = site; child = item } ∷ []
      → AddsToList old new (IsLeftOf site container inputs item)
  item_left item old new untaken pushed =
      let one : GapItem = record { site = site; container = container; by = site; child = item } in
      adds_alike (Contains old) (Contains new) (λ g. one ≡ g) (IsLeftOf site container inputs item) (λ g. (λ same. (untaken, same), λ (_, same). same)) (adds_one old new one pushed)

  pub item_taken : (item : List ℕ) (old : List GapItem) → Contains inputs item → AddsToList old old (IsLeftOf site container inputs item)
  item_taken item old taken = adds_nothing (Contains old) (IsLeftOf site container inputs item) (λ g (untaken, same). untaken taken)

-- ---- one container

module _ (sites : List SiteEvents) (known : Index) (are_known : AreKnown sites known) (at : ℕ) (s : SiteEvents) (so : slice_get sites at ≡ Some s) where
  pub container_left : (me : ℕ) (container : List ℕ) (inputs starts inside : List (List ℕ)) (old new : List GapItem) → me ≡ s.me → ((i : List ℕ) → Contains starts i ↔ (container ≡ i))
      → ((i : List ℕ) → Contains inside i ↔ ReachedFrom (LiesIn sites known at) starts i)
      → AddsToList old new (ByOne inside (IsLeftOf me container inputs)) → AddsToList old new (IsLeft sites at inputs container)
  container_left me container inputs starts inside old new is alone walked =
      adds_alike (Contains old) (Contains new) (ByOne inside (IsLeftOf me container inputs)) (IsLeft sites at inputs container)
      (λ g. (
        λ (item, there, (untaken, same)).
            let here : item ≡ g.child = ap (λ (x : GapItem). x.child) same in
            let (start, begins, chain) = (walked item).0 there in
            record {
              site = s;
              there = so;
              number = sym is ∙ ap (λ (x : GapItem). x.site) same;
              itself = sym (ap (λ (x : GapItem). x.by) same) ∙ ap (λ (x : GapItem). x.site) same;
              of = ap (λ (x : GapItem). x.container) same;
              inside = subst (Reaches (by_known sites s) container) here (reach_widens (LiesIn sites known at) (by_known sites s) (λ x y h. (lies_as_known sites known are_known at s so x y).0 h) container item
                  (subst (λ x. Reaches (LiesIn sites known at) x item) (sym ((alone start).0 begins)) chain));
              left = subst (λ x. Contains inputs x → ⊥) here untaken;
            },
        λ it.
            let one : it.site ≡ s = some_is it.site s (sym it.there ∙ so) in
            let chain : Reaches (by_known sites s) container g.child = subst (λ z. Reaches (by_known sites z) container g.child) one it.inside in (
              g.child,
              (walked g.child).1 (container, (alone container).1 refl, reach_widens (by_known sites s) (LiesIn sites known at) (λ x y h. (lies_as_known sites known are_known at s so x y).1 h) container g.child chain),
              (it.left, told g me container me (is ∙ sym (ap (λ (z : SiteEvents). z.me) one) ∙ it.number) it.of (is ∙ sym (ap (λ (z : SiteEvents). z.me) one) ∙ it.number ∙ sym it.itself)),
            ),
      ))
    where
      told : (g : GapItem) (n : ℕ) (c : List ℕ) (m : ℕ) → n ≡ g.site → c ≡ g.container → m ≡ g.by → (let x : GapItem = record { site = n; container = c; by = m; child = g.child } in x) ≡ g
      told g n c m one two three = λ k. record { site = one k; container = two k; by = three k; child = g.child }

  -- ---- one transformation

  pub group_used : (place : ℕ) (inputs : List (List ℕ)) (old new : List GapItem) → ((i : List ℕ) → Contains inputs i ↔ IsTakenAt s.events place i)
      → AddsToList old new (ByOne inputs (IsLeft sites at inputs)) → AddsToList old new (IsUsedWith sites at place)
  group_used place inputs old new taken = adds_alike (Contains old) (Contains new) (ByOne inputs (IsLeft sites at inputs)) (IsUsedWith sites at place)
      (λ g. (
        λ (container, there, it).
            let one : it.site ≡ s = some_is it.site s (sym it.there ∙ so) in
            record {
              site = s;
              there = so;
              number = sym (ap (λ (z : SiteEvents). z.me) one) ∙ it.number;
              itself = it.itself;
              taken = subst (IsTakenAt s.events place) it.of ((taken container).0 there);
              inside = subst (λ x. Reaches (by_known sites s) x g.child) it.of (subst (λ z. Reaches (by_known sites z) container g.child) one it.inside);
              left = λ h. it.left ((taken g.child).1 h);
            },
        λ it.
            let one : it.site ≡ s = some_is it.site s (sym it.there ∙ so) in (
              g.container,
              (taken g.container).1 (subst (λ (z : SiteEvents). IsTakenAt z.events place g.container) one it.taken),
              record {
                site = it.site;
                there = it.there;
                number = it.number;
                itself = it.itself;
                of = refl;
                inside = it.inside;
                left = λ h. it.left (subst (λ (z : SiteEvents). IsTakenAt z.events place g.child) (sym one) ((taken g.child).0 h));
              },
            ),
      ))

  pub first_used : (place : ℕ) (old new : List GapItem) → IsPartOf s.events place place → AddsToList old new (IsUsedWith sites at place) → AddsToList old new (IsUsedFirst sites at place)
  first_used place old new first = adds_alike (Contains old) (Contains new) (IsUsedWith sites at place) (IsUsedFirst sites at place) (λ g. (λ it. ((s, so, first), it), λ h. h.1))

  pub not_first : (place : ℕ) (old : List GapItem) → (IsPartOf s.events place place → ⊥) → AddsToList old old (IsUsedFirst sites at place)
  not_first place old other = adds_nothing (Contains old) (IsUsedFirst sites at place)
      (λ g ((t, also, first), it). other (subst (λ (z : SiteEvents). IsPartOf z.events place place) (some_is t s (sym also ∙ so)) first))

  -- ---- one site: each transformation is that of its first part

  pub site_used : (n : ℕ) (old new : List GapItem) → length s.events ≤ n → AddsToList old new (Before n (IsUsedFirst sites at)) → AddsToList old new (IsUsedAt sites at)
  site_used n old new past = adds_alike (Contains old) (Contains new) (Before n (IsUsedFirst sites at)) (IsUsedAt sites at)
      (λ g. (
        λ (k, below, (first, it)). (k, it),
        λ (k, it).
            let one : it.site ≡ s = some_is it.site s (sym it.there ∙ so) in
            let here : IsTakenAt s.events k g.container = subst (λ (z : SiteEvents). IsTakenAt z.events k g.container) one it.taken in
            let e = here.0 in
            let stands : slice_get s.events k ≡ Some e = here.1 in
            let first = first_of s.events k e.body in
            let (f, at', same) = first_stands s.events k e stands in (
              first,
              within first (slice_get_within s.events first f at'),
              (
                (s, so, (f, at', first_again s.events k e f stands same)),
                record {
                  site = s;
                  there = so;
                  number = sym (ap (λ (z : SiteEvents). z.me) one) ∙ it.number;
                  itself = it.itself;
                  taken = (taken_first s.events k first e stands refl g.container).0 here;
                  inside = subst (λ z. Reaches (by_known sites z) g.container g.child) one it.inside;
                  left = λ h. it.left (subst (λ (z : SiteEvents). IsTakenAt z.events k g.child) (sym one) ((taken_first s.events k first e stands refl g.child).1 h));
                },
              ),
            ),
      ))
    where
      within : (k : ℕ) → k < length s.events → k < n
      within k below = omega (arith, below, past)

-- ---- all sites

pub all_used : (sites : List SiteEvents) (n : ℕ) (used ordered : List GapItem) → length sites ≤ n → AddsToList [] used (Before n (IsUsedAt sites))
    → ((g : GapItem) → Contains ordered g ↔ Contains used g) → (g : GapItem) → Contains ordered g ↔ IsUsedChild sites g
all_used sites n used ordered past adds same g = (
  λ h. ⊎_elim
      (λ none. absurd (contains_none g none))
      (λ (at, below, (place, it)).
      let (f, so, taken) = it.taken in
      record {
        site = it.site;
        there = stands_in sites at it.site it.there;
        number = it.number;
        itself = it.itself;
        event = f;
        captured = stands_in it.site.events place f so;
        taken = taken;
        inside = it.inside;
        left = λ h. it.left (f, so, h);
      })
      ((adds g).0 ((same g).0 h)),
  λ it.
      let (k, so) = placed sites it.site it.there in
      let (place, stands) = placed it.site.events it.event it.captured in
      (same g).1 ((adds g).1 (inr (
        k,
        within k (slice_get_within sites k it.site so),
        (
          place,
          record {
            site = it.site;
            there = so;
            number = it.number;
            itself = it.itself;
            taken = (it.event, stands, it.taken);
            inside = it.inside;
            left = λ (f, also, h). it.left (subst (λ z. IsTakenWith it.site.events z g.child) (some_is f it.event (sym also ∙ stands)) h);
          },
        ),
      ))),
)
  where
    within : (k : ℕ) → k < length sites → k < n
    within k below = omega (arith, below, past)
