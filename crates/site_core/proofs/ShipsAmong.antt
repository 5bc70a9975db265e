-- The shipments of captured events go to sites of the list, and so do those of the events that a document adds.
use Rattle.std.proofs.Common.{inl, inr, ℕ, ◌+◌, ◌<◌, List, [], ◌∷◌, ◌++◌, map, take, filter, Ok, sym, subst, All}
use Rattle.std.specs.List.{Contains, enumerate_from}
use Rattle.std.proofs.lemmas.List.Elements.{All-nil, All-cons, All-head, All-tail, All-append, All-contains, All-filter, All-map}
use Rattle.event_json.specs.Events.{Content}
use Rattle.event_json.specs.Laws.{ShipsToSites}
use Rattle.event_json.specs.Sites.{Site, ShipsAmong}
use Rattle.event_json.specs.declared.bodies.Body.{Body}
use Rattle.event_json.specs.declared.bodies.Body.TheVariants.{Note, Ship, Make, Pack}
use Rattle.event_json.specs.declared.documents.Doc.{Doc}
use Rattle.event_json.proofs.Destinations.{text_ships}
use Rattle.trace_core.specs.Adding.{Addition, is_fresh, judged, standing_among}
use Rattle.trace_core.specs.Pairs.{Ships, IsShipped}
use Rattle.trace_core.specs.Sites.{SiteEvents}
use Rattle.trace_core.specs.declared.adding.Standing.{Standing}
use Rattle.site_core.specs.Capturing.{IsCaptured}
use Rattle.site_core.specs.Quarantines.{Quarantine}
use Rattle.site_core.specs.Shipments.{AreShipments}
use Rattle.site_core.specs.Steps.{IsReadAs}

abbrev pub AllShipAmong : ℕ → List Content → Type 0
AllShipAmong sites events = All (λ e. ShipsAmong sites e.body) events

-- a site that an event ships to
pub shipped_within : (sites : ℕ) (i : List ℕ) (to : ℕ) (body : Body) → ShipsAmong sites body → Ships i to body → to < sites
shipped_within sites i to (Note items) among ships = absurd ships
shipped_within sites i to (Pack action parent children) among ships = absurd ships
shipped_within sites i to (Ship items traced outside) among ships = All-contains (λ t. t < sites) traced to among ships.1
shipped_within sites i to (Make id ins outs) among ships = absurd ships

-- the shipments of items go to sites of the list
pub shipments_within : (sites : ℕ) (s : SiteEvents) (items : List (List ℕ)) (out : List (ℕ × List ℕ)) → AllShipAmong sites s.events → AreShipments s items out
    → (to : ℕ) (i : List ℕ) → Contains out (to, i) → to < sites
shipments_within sites s items out all are to i there =
    let shipped : IsShipped s i (record { site = to; item = i }) = ((are.exact to i).0 there).1 in
    let (carrier, (k, e, lt, at, ships), carried) = shipped.2 in
    shipped_within sites carrier to e.body (All-contains (λ (f : Content). ShipsAmong sites f.body) s.events e all (k, lt, at)) ships

-- events and how they stand
numbered_among : (sites n : ℕ) (given : List Content) → AllShipAmong sites given → All (λ (p : ℕ × Content). ShipsAmong sites p.1.body) (enumerate_from n given)
numbered_among sites n [] all = All-nil (λ (p : ℕ × Content). ShipsAmong sites p.1.body)
numbered_among sites n (e ∷ es) all =
    All-cons (λ (p : ℕ × Content). ShipsAmong sites p.1.body) (n, e) (enumerate_from (n + 1) es)
    (All-head (λ (f : Content). ShipsAmong sites f.body) e es all)
    (numbered_among sites (n + 1) es (All-tail (λ (f : Content). ShipsAmong sites f.body) e es all))

judged_among : (sites : ℕ) (before given : List Content) → AllShipAmong sites given → All (λ (g : Content × Standing). ShipsAmong sites g.0.body) (judged before given)
judged_among sites before given all =
    All-map (λ (g : Content × Standing). ShipsAmong sites g.0.body) (λ (p : ℕ × Content). (p.1, standing_among (before ++ take p.0 given) p.1)) (enumerate_from 0 given) (numbered_among sites 0 given all)

-- the events of a site once a document was captured
pub captured_among : (sites : ℕ) (s : SiteEvents) (q : Quarantine) (given : List Content) (a : Addition) → AllShipAmong sites s.events → AllShipAmong sites given → IsCaptured s q given a → AllShipAmong sites a.events
captured_among sites s q given a before new c =
    let fresh = filter is_fresh (judged s.events given) in
    subst (λ (x : Addition). AllShipAmong sites x.events) (sym c.kept)
    (All-append (λ (e : Content). ShipsAmong sites e.body) s.events (map (λ (g : Content × Standing). g.0) fresh) before
    (All-map (λ (e : Content). ShipsAmong sites e.body) (λ (g : Content × Standing). g.0) fresh
    (All-filter is_fresh (λ (g : Content × Standing). ShipsAmong sites g.0.body) (judged s.events given) (judged_among sites s.events given new))))

-- what bytes are read as
pub read_among : (sites : List Site) (bytes : List ℕ) (doc : Doc) → IsReadAs sites bytes (Ok doc) → ShipsToSites sites doc
read_among sites bytes doc (inl text) = text_ships sites bytes doc (sym text.1)
read_among sites bytes doc (inr none) = absurd (let no : ⊥ = let failed = none.1 in cc in no)
