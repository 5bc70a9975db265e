-- The first parts of transformations, as they are noted.
use Rattle.std.proofs.Common.{◌≡◌, ◌↔◌, ℕ, List, [], true, slice_get, Some, None, sym, ap, ◌∙◌, subst}
use Rattle.std.specs.BTreeSet.{BTreeSet, Updates}
use Rattle.std.specs.Cmp.{nat_cmp_total}
use Rattle.std.specs.List.{Contains}
use Rattle.std.specs.Option.{option_map}
use Rattle.std.specs.Ordering.{nat_cmp}
use Rattle.std.proofs.lemmas.Map.Lookups.{exact_unsigned}
use Rattle.std.proofs.lemmas.Map.Views.{btree_set_contains_iff}
use Rattle.event_json.specs.Events.{Content}
use Rattle.trace_core.specs.Groups.{IsPartOf, first_of}
use Rattle.trace_core.specs.Searches.{IsFound}
use Rattle.trace_core.proofs.Members.{contains_none}
use Rattle.trace_core.proofs.NumberLists.{some_is}
use Rattle.trace_core.proofs.SetMembers.{found-insert}
use Rattle.report_core.specs.FirstPlaces.{IsGroupAt, IsOfOne}
use Rattle.report_core.specs.Sources.{AddsTo}
use Rattle.report_core.specs.declared.makers.EventPlace.{EventPlace}
use Rattle.report_core.proofs.Additions.{adds_alike, adds_nothing}
use Rattle.report_core.proofs.UnseenAdded.{mapped_from}

pub nothing_found : (firsts : BTreeSet ℕ) → firsts.keys ≡ [] → (n : ℕ) → IsFound nat_cmp firsts n → ⊥
nothing_found firsts none n found = contains_none n (subst (λ ks. Contains ks n) none ((btree_set_contains_iff nat_cmp_total exact_unsigned firsts n).0 found))

-- the first part of the event's transformation
part_at : (events : List Content) (place n first : ℕ) → Some first ≡ option_map (λ (e : Content). first_of events place e.body) (slice_get events place) → IsPartOf events place n ↔ (first ≡ n)
part_at events place n first some =
    let (e, stands, is) = mapped_from (λ (e : Content). first_of events place e.body) (slice_get events place) first some in (
      λ (f, stands', at). is ∙ ap (λ (c : Content). first_of events place c.body) (some_is e f (sym stands ∙ stands')) ∙ at,
      λ same. (e, stands, sym is ∙ same),
    )

no_part : (events : List Content) (place n : ℕ) → None ≡ option_map (λ (e : Content). first_of events place e.body) (slice_get events place) → IsPartOf events place n → ⊥
no_part events place n none (e, stands, at) = let clash : None ≡ Some (first_of events place e.body) = none ∙ ap (option_map (λ (e : Content). first_of events place e.body)) stands in cc

pub first_noted : (events : List Content) (number : ℕ) (place : EventPlace) (first : ℕ) (old new : BTreeSet ℕ) → number ≡ place.site → Some first ≡ option_map (λ (e : Content). first_of events place.event e.body) (slice_get events place.event)
    → Updates nat_cmp old new first true → AddsTo (IsFound nat_cmp old) (IsFound nat_cmp new) (IsGroupAt events number place)
first_noted events number place first old new here some upd =
    adds_alike (IsFound nat_cmp old) (IsFound nat_cmp new) (λ n. first ≡ n) (IsGroupAt events number place)
    (λ n. (λ same. (here, (part_at events place.event n first some).1 same), λ (_, part). (part_at events place.event n first some).0 part))
    (found-insert nat_cmp nat_cmp_total exact_unsigned old new first upd)

pub none_noted : (events : List Content) (number : ℕ) (place : EventPlace) (old : BTreeSet ℕ) → None ≡ option_map (λ (e : Content). first_of events place.event e.body) (slice_get events place.event)
    → AddsTo (IsFound nat_cmp old) (IsFound nat_cmp old) (IsGroupAt events number place)
none_noted events number place old none = adds_nothing (IsFound nat_cmp old) (IsGroupAt events number place) (λ n (_, part). no_part events place.event n none part)

pub elsewhere_noted : (events : List Content) (number : ℕ) (place : EventPlace) (old : BTreeSet ℕ) → (number ≡ place.site → ⊥) → AddsTo (IsFound nat_cmp old) (IsFound nat_cmp old) (IsGroupAt events number place)
elsewhere_noted events number place old other = adds_nothing (IsFound nat_cmp old) (IsGroupAt events number place) (λ n (here, _). other here)

pub of_one : (events : List Content) (firsts : BTreeSet ℕ) (place first : ℕ) → Some first ≡ option_map (λ (e : Content). first_of events place e.body) (slice_get events place) → IsFound nat_cmp firsts first ↔ IsOfOne events firsts place
of_one events firsts place first some = (
  λ found. (first, (part_at events place first first some).1 (λ i. first), found),
  λ (n, part, found). subst (IsFound nat_cmp firsts) (sym ((part_at events place n first some).0 part)) found,
)

pub of_none : (events : List Content) (firsts : BTreeSet ℕ) (place : ℕ) → None ≡ option_map (λ (e : Content). first_of events place e.body) (slice_get events place) → IsOfOne events firsts place → ⊥
of_none events firsts place none (n, part, found) = no_part events place n none part
