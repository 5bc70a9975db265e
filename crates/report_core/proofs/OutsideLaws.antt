-- What is told of shipments out of the traced sites.
use Rattle.std.proofs.Common.{◌≡◌, ℕ, suc, List, [], ◌∷◌, length, slice_get, Some, refl, sym, ap, ◌∙◌, subst, ⊎_elim, arith}
use Rattle.std.specs.List.{AllZip}
use Rattle.std.specs.Ordering.{ordering_reverse}
use Rattle.std.specs.declared.cmp.Ordering.TheVariants.{Less, Greater}
use Rattle.event_json.specs.Events.{Content}
use Rattle.trace_core.specs.Sites.{SiteEvents}
use Rattle.trace_core.proofs.NumberLists.{some_is}
use Rattle.site_core.specs.ItemSets.{item_cmp}
use Rattle.site_core.proofs.ItemOrder.{item_total}
use Rattle.report_core.specs.Laws.{IsShownBy, OneOutsideEvent, OutsideIsShown, shown_of}
use Rattle.report_core.specs.Outside.{ShipsOut}
use Rattle.report_core.specs.OutsideEvents.{IsCarrierAt, ShowsOut, TellsOutside}
use Rattle.report_core.specs.TrailEvents.{StandsAt}
use Rattle.report_core.specs.declared.outside.OutsideShipment.{OutsideShipment}
use Rattle.report_core.specs.declared.outside_events.OutsideEvent.{OutsideEvent}
use Rattle.report_core.proofs.Zips.{zip_beside}

-- as many are told
as_long : {A B : Type 0} (R : A → B → Type 0) (xs : List A) (ys : List B) → AllZip R xs ys → length ys ≡ length xs
as_long R [] [] zip = refl
as_long R [] (y ∷ ys) zip = absurd zip
as_long R (x ∷ xs) [] zip = absurd zip
as_long R (x ∷ xs) (y ∷ ys) zip = ap suc (as_long R xs ys zip.1)

-- an event that stands at a place ships what is told of it
at_event : (events : List Content) (item destination : List ℕ) (n : ℕ) (e : Content) → slice_get events n ≡ Some e → StandsAt events (ShipsOut item destination) n → ShipsOut item destination e.body
at_event events item destination n e at (f, at', out) = subst (λ (c : Content). ShipsOut item destination c.body) (some_is f e (sym at' ∙ at)) out

shown_by : (sites : List SiteEvents) (x : OutsideShipment) (told : OutsideEvent) → TellsOutside sites x told → IsShownBy sites x told
shown_by sites x told (s, listed, (n, (stands, least), (e, at, number, id, time), carrier)) = record {
  site = s;
  listed = listed;
  place = n;
  event = e;
  captured = at;
  number = number;
  id = id;
  shipped = at_event s.events told.carrier x.destination n e at carrier.shipped;
  carried = carrier.carried;
  itself = λ out. carrier.itself (e, at, out);
  first = λ k f c before at' out carried. omega (arith, before, least k (f, at', (c, out, carried)));
}

pub outside_is_shown : OutsideIsShown
outside_is_shown sites outside told are = (
  λ k x at. let (t, at', tells) = zip_beside (TellsOutside sites) outside told are k x at in (t, at', shown_by sites x t tells),
  as_long (TellsOutside sites) outside told are,
)

-- one carrier
one_carrier : (events : List Content) (item destination : List ℕ) (n : ℕ) (c d : List ℕ) → IsCarrierAt events item destination n c → IsCarrierAt events item destination n d → c ≡ d
one_carrier events item destination n c d is is' = ⊎_elim
    (λ own. own ∙ sym (is'.itself (subst (λ i. StandsAt events (ShipsOut i destination) n) own is.shipped)))
    (λ either. ⊎_elim
    (λ same. same)
    (λ low. ⊎_elim
    (λ own. is.itself (subst (λ i. StandsAt events (ShipsOut i destination) n) own is'.shipped) ∙ sym own)
    (λ either'. ⊎_elim
    (λ same. sym same)
    (λ low'.
    let turned : item_cmp c d ≡ Greater = item_total.antisymm c d ∙ ap ordering_reverse low' in
    let clash : Less ≡ Greater = sym low ∙ turned in
    cc)
    either')
    (is'.least c is.shipped is.carried))
    either)
    (is.least d is'.shipped is'.carried)

one_shown : (events : List Content) (item destination : List ℕ) (t u : OutsideEvent) → ShowsOut events item destination t → ShowsOut events item destination u → shown_of t ≡ shown_of u
one_shown events item destination t u (n, (stands, least), (e, at, number, id, time), carrier) (m, (stands', least'), (f, at', number', id', time'), carrier') =
    let one : m ≡ n = omega (arith, least m stands', least' n stands) in
    let event : e ≡ f = some_is e f (sym at ∙ ap (slice_get events) (sym one) ∙ at') in
    let numbers : t.event.number ≡ u.event.number = omega (arith, number, number', one) in
    let ids : t.event.id ≡ u.event.id = id ∙ ap (λ (c : Content). c.id) event ∙ sym id' in
    let carriers : t.carrier ≡ u.carrier = one_carrier events item destination n t.carrier u.carrier carrier (subst (λ k. IsCarrierAt events item destination k u.carrier) one carrier') in
    (λ i. (numbers i, (ids i, carriers i)))

one_told : (sites : List SiteEvents) (x : OutsideShipment) (t u : OutsideEvent) → TellsOutside sites x t → TellsOutside sites x u → shown_of t ≡ shown_of u
one_told sites x t u (s, listed, shows) (r, listed', shows') =
    let one : r ≡ s = some_is r s (sym listed' ∙ listed) in
    one_shown s.events x.item x.destination t u shows (subst (λ (z : SiteEvents). ShowsOut z.events x.item x.destination u) one shows')

pub one_outside_event : OneOutsideEvent
one_outside_event sites [] [] [] are are' = refl
one_outside_event sites [] (t ∷ ts) us are are' = absurd are
one_outside_event sites [] [] (u ∷ us) are are' = absurd are'
one_outside_event sites (x ∷ xs) [] us are are' = absurd are
one_outside_event sites (x ∷ xs) (t ∷ ts) [] are are' = absurd are'
one_outside_event sites (x ∷ xs) (t ∷ ts) (u ∷ us) are are' =
    let one = one_told sites x t u are.0 are'.0 in
    let rest = one_outside_event sites xs ts us are.1 are'.1 in
    (λ i. one i ∷ rest i)
