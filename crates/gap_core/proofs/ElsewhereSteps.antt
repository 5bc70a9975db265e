-- What a site sends to other places than itself.
use Rattle.std.proofs.Common.{◌≡◌, ◌↔◌, inl, inr, ℕ, ◌+◌, ◌<◌, ◌≤◌, ◌==◌, ◌∙◌, Bool, true, false, IsTrue, List, [], ◌∷◌, None, Some, length, take, get_or, slice_get, refl, sym, ap, subst, ⊎_elim, arith}
use mathlib.Core.Bool.{false≢true}
use Rattle.std.specs.List.{Contains}
use Rattle.std.proofs.lemmas.Bool.{eqb-true}
use Rattle.std.proofs.lemmas.List.{take_all}
use Rattle.std.proofs.lemmas.Option.{slice_get_within, slice_get-get_or, get_or_from_slice_get}
use Rattle.event_json.specs.Events.{Content}
use Rattle.event_json.specs.declared.bodies.Body.{Body}
use Rattle.event_json.specs.declared.bodies.Body.TheVariants.{Note, Ship, Make, Pack}
use Rattle.trace_core.specs.Gaps.{Place, IsElsewhere, IsSent, by_known}
use Rattle.trace_core.specs.Sites.{SiteEvents}
use Rattle.trace_core.proofs.ChainLaws.{reach_widens}
use Rattle.trace_core.proofs.Members.{contains_here, contains_none}
use Rattle.trace_core.proofs.NumberLists.{none_is, some_is}
use Rattle.trace_core.proofs.SetMembers.{contains_more}
use Rattle.gap_core.specs.Adding.{AddsToList}
use Rattle.gap_core.specs.Elsewhere.{ArePlacesElsewhere, GoesElsewhere, GoesOn, HasOther, IsPlaceElsewhere, IsSentElsewhere}
use Rattle.gap_core.specs.GapItems.{IsSentBy}
use Rattle.gap_core.specs.Shipments.{GoesTo, IsShippedAt}
use Rattle.gap_core.specs.Sources.{AreKnown, Index, LiesIn}
use Rattle.gap_core.proofs.Additions.{Before}
use Rattle.gap_core.proofs.KnownSteps.{lies_as_known}
use Rattle.gap_core.proofs.ShippedItems.{ships_split}

-- ---- other sites

abbrev pub AllOwn : ℕ → List ℕ → Type 0
AllOwn me sites = (site : ℕ) → Contains sites site → site ≡ me

pub none_own : (me : ℕ) (sites : List ℕ) → AllOwn me (take 0 sites)
none_own me sites site h = absurd (contains_none site h)

pub one_more_own : (me : ℕ) (sites : List ℕ) (i : ℕ) (one : ℕ) → i < length sites → one ≡ get_or sites i one → one ≡ me → AllOwn me (take i sites) → AllOwn me (take (i + 1) sites)
one_more_own me sites i one below at same all site h = ⊎_elim (λ was. all site was) (λ last. sym last ∙ same) ((contains_more sites i one below at site).0 h)

pub all_own_sites : (me : ℕ) (sites : List ℕ) (i : ℕ) → length sites ≤ i → AllOwn me (take i sites) → HasOther me sites → ⊥
all_own_sites me sites i past all (site, there, other) = other (subst (AllOwn me) (take_all i sites past) all site there)

pub one_other : (me : ℕ) (sites : List ℕ) (i : ℕ) (one : ℕ) → i < length sites → one ≡ get_or sites i one → (one ≡ me → ⊥) → HasOther me sites
one_other me sites i one below at other = (one, (i, below, sym at), other)

-- ---- a shipment elsewhere

some_text : (outside : List (List ℕ)) → (length outside == 0) ≡ false → (text : List ℕ) × Contains outside text
some_text [] some = absurd (false≢true (sym some))
some_text (text ∷ rest) some = (text, contains_here text rest)

no_text : (outside : List (List ℕ)) → (length outside == 0) ≡ true → (text : List ℕ) → Contains outside text → ⊥
no_text outside none text (k, below, at) = omega (arith, eqb-true (length outside) 0 none, below)

-- a place outside is named, or else another site decides
pub goes_outside : (me : ℕ) (b : Body) (items : List (List ℕ)) (sites : List ℕ) (outside : List (List ℕ)) (empty : Bool) → b ≡ Ship items sites outside → empty ≡ (length outside == 0) → empty ≡ false → GoesOn me b
goes_outside me b items sites outside empty is so some = subst (GoesOn me) (sym is) (inl (some_text outside (sym so ∙ some)))

pub goes_to_other : (me : ℕ) (b : Body) (items : List (List ℕ)) (sites : List ℕ) (outside : List (List ℕ)) (empty : Bool) (xs : List ℕ) (r : Bool) → b ≡ Ship items sites outside → empty ≡ (length outside == 0) → empty ≡ true
    → xs ≡ sites → IsTrue r ↔ HasOther me xs → IsTrue r ↔ GoesOn me b
goes_to_other me b items sites outside empty xs r is so none are other = (
  λ h. subst (GoesOn me) (sym is) (inr (subst (HasOther me) are (other.0 h))),
  λ h. ⊎_elim
      (λ (text, there). absurd (no_text outside (sym so ∙ none) text there))
      (λ some. other.1 (subst (HasOther me) (sym are) some))
      (subst (GoesOn me) is h),
)

goes_on : (s : SiteEvents) (b : Body) → GoesOn s.me b ↔ ((to : Place) × IsElsewhere s to × GoesTo to b)
goes_on s (Note items) = (λ h. absurd h, nowhere)
  where
    nowhere : ((to : Place) × IsElsewhere s to × GoesTo to (Note items)) → ⊥
    nowhere (inl site, other, h) = h
    nowhere (inr text, other, h) = h
goes_on s (Ship items sites outside) = (
  λ h. ⊎_elim (λ (text, there). (inr text, tt, there)) (λ (site, there, other). (inl site, other, there)) h,
  somewhere,
)
  where
    somewhere : ((to : Place) × IsElsewhere s to × GoesTo to (Ship items sites outside)) → GoesOn s.me (Ship items sites outside)
    somewhere (inl site, other, h) = inr (site, h, other)
    somewhere (inr text, other, h) = inl (text, h)
goes_on s (Make id ins outs) = (λ h. absurd h, nowhere)
  where
    nowhere : ((to : Place) × IsElsewhere s to × GoesTo to (Make id ins outs)) → ⊥
    nowhere (inl site, other, h) = h
    nowhere (inr text, other, h) = h
goes_on s (Pack action parent children) = (λ h. absurd h, nowhere)
  where
    nowhere : ((to : Place) × IsElsewhere s to × GoesTo to (Pack action parent children)) → ⊥
    nowhere (inl site, other, h) = h
    nowhere (inr text, other, h) = h

-- so of the event at a place
pub goes_elsewhere : (s : SiteEvents) (place : ℕ) (e : Content) (me : ℕ) (b : Body) → slice_get s.events place ≡ Some e → me ≡ s.me → b ≡ e.body → GoesOn me b ↔ GoesElsewhere s place
goes_elsewhere s place e me b so own is = (
  λ h. let (to, other, goes) = (goes_on s e.body).0 (subst (GoesOn s.me) is (subst (λ n. GoesOn n b) own h)) in (to, other, (e, so, goes)),
  λ (to, other, (f, also, goes)).
      subst (λ n. GoesOn n b) (sym own) (subst (GoesOn s.me) (sym is) ((goes_on s e.body).1 (to, other, subst (λ (g : Content). GoesTo to g.body) (some_is f e (sym also ∙ so)) goes))),
)

pub goes_nowhere : (s : SiteEvents) (place : ℕ) → slice_get s.events place ≡ None → GoesElsewhere s place → ⊥
goes_nowhere s place none (to, other, (e, so, goes)) = none_is e (sym none ∙ so)

pub all_elsewhere : (s : SiteEvents) (n : ℕ) (places : List ℕ) → length s.events ≤ n → AddsToList [] places (Before n (IsPlaceElsewhere s)) → ArePlacesElsewhere s places
all_elsewhere s n places past adds k = (
  λ h. ⊎_elim
      (λ none. absurd (contains_none k none))
      (λ (j, below, (same, goes)). subst (GoesElsewhere s) same goes)
      ((adds k).0 h),
  λ (to, other, (e, so, goes)). (adds k).1 (inr (k, within (slice_get_within s.events k e so), (refl, (to, other, (e, so, goes))))),
)
  where
    within : k < length s.events → k < n
    within below = omega (arith, below, past)

-- ---- what is sent elsewhere

module _ (sites : List SiteEvents) (known : Index) (are_known : AreKnown sites known) (at : ℕ) (s : SiteEvents) (so : slice_get sites at ≡ Some s) where
  pub sent_on : (places : List ℕ) → ArePlacesElsewhere s places → (i : List ℕ) → IsSentBy sites known at places i ↔ IsSentElsewhere sites at i
  sent_on places are i = (
    λ (t, also, carrier, shipped, chain).
        let (k, there, (e, stands, has)) = subst (λ (z : SiteEvents). IsShippedAt z.events places carrier) (some_is t s (sym also ∙ so)) shipped in
        let (to, other, (f, again, goes)) = (are k).0 there in (
          s,
          so,
          to,
          other,
          (
            carrier,
            (k, e, slice_get_within s.events k e stands, get_or_from_slice_get s.events k e e stands, (ships_split carrier to e.body).1 (has, subst (λ (g : Content). GoesTo to g.body) (some_is f e (sym again ∙ stands)) goes)),
            reach_widens (LiesIn sites known at) (by_known sites s) (λ x y h. (lies_as_known sites known are_known at s so x y).0 h) carrier i chain,
          ),
        ),
    λ (t, also, to, other, sent).
        let same = some_is t s (sym also ∙ so) in
        let (carrier, (k, e, below, is, ships), chain) = subst (λ z. IsSent (by_known sites) z i to) same sent in
        let stands : slice_get s.events k ≡ Some e = slice_get-get_or s.events k e below ∙ ap Some is in
        let (has, goes) = (ships_split carrier to e.body).0 ships in (
          s,
          so,
          carrier,
          (k, (are k).1 (to, subst (λ z. IsElsewhere z to) same other, (e, stands, goes)), (e, stands, has)),
          reach_widens (by_known sites s) (LiesIn sites known at) (λ x y h. (lies_as_known sites known are_known at s so x y).1 h) carrier i chain,
        ),
  )
