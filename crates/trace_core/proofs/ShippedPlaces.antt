-- The sites that an item was sent to, as the pairs that it was shipped to.
use Rattle.std.proofs.Common.{◌≡◌, ◌≢◌, ◌||◌, ℕ, true, List, [], ◌↔◌, sym, ap, subst, ◌∙◌}
use Rattle.std.specs.Bool.{Decides}
use Rattle.std.specs.BTreeSet.{BTreeSet}
use Rattle.std.specs.List.{Contains}
use Rattle.std.proofs.lemmas.Bool.Decides.{Decides-like, Decides-not, Decides-and, Decides-eqb}
use Rattle.std.proofs.lemmas.Map.Views.{btree_set_contains_iff}
use Rattle.std.proofs.lemmas.Slice.Eq.{bytes_eq-Decides}
use Rattle.trace_core.specs.declared.pairs.Pair.{Pair}
use Rattle.trace_core.specs.Gathering.{is_in, sent_to}
use Rattle.trace_core.specs.Pairs.{IsShipped, IsSentTo}
use Rattle.trace_core.specs.SiteSets.{has_site, sites_in}
use Rattle.trace_core.specs.Sites.{SiteEvents}
use Rattle.trace_core.proofs.PairOrder.{pairs_total, pairs_exact}
use Rattle.trace_core.proofs.PairTestsDecide.{site_decides}
use Rattle.trace_core.proofs.SiteSetSteps.{in_set}

-- an item at the other ones of some sites
pub sent_decides : (me : ℕ) (item : List ℕ) (sites : List ℕ) (P : ℕ → Type 0) → ((t : ℕ) → Contains sites t ↔ P t) → (p : Pair) → Decides (sent_to me item sites p) ((p.site ≢ me) × (p.item ≡ item) × P p.site)
sent_decides me item sites P all p = Decides-like _
    (λ (other, (among, same)). (other, sym same, (all p.site).0 among))
    (λ (other, same, sent). (other, ((all p.site).1 sent, sym same)))
    (Decides-and _ _ (Decides-not _ (Decides-eqb p.site me)) (Decides-and _ _ (site_decides sites p.site) (bytes_eq-Decides item p.item)))

-- at those that it was sent to
pub shipped_decides : (s : SiteEvents) (item : List ℕ) (sites : List ℕ) → ((t : ℕ) → Contains sites t ↔ IsSentTo s.events item t) → (p : Pair) → Decides (sent_to s.me item sites p) (IsShipped s item p)
shipped_decides s item sites all p = sent_decides s.me item sites (IsSentTo s.events item) all p

-- the members of a set of sites
pub sent_in : (mask : ℕ) (P : ℕ → Type 0) → ((t : ℕ) → has_site mask t ≡ true ↔ P t) → (t : ℕ) → Contains (sites_in mask) t ↔ P t
sent_in mask P is t = (λ h. (is t).0 ((in_set mask t).0 h), λ sent. (in_set mask t).1 ((is t).1 sent))

-- a set to which these were added, that had nothing
pub shipped_set : (s : SiteEvents) (item : List ℕ) (mask : ℕ) → ((t : ℕ) → has_site mask t ≡ true ↔ IsSentTo s.events item t) → (none set : BTreeSet Pair) (pairs : List Pair) → none.keys ≡ [] → pairs ≡ set.keys
    → ((p : Pair) → is_in set p ≡ (is_in none p || sent_to s.me item (sites_in mask) p)) → (p : Pair) → Contains pairs p ↔ IsShipped s item p
shipped_set s item mask all none set pairs empty keys added p =
    let sites = sites_in mask in
    let is : is_in set p ≡ sent_to s.me item sites p = added p ∙ ap (λ (ks : List Pair). is_in (record { keys = ks }) p || sent_to s.me item sites p) empty in
    let both = btree_set_contains_iff pairs_total pairs_exact set p in
    let decides = shipped_decides s item sites (sent_in mask (IsSentTo s.events item) all) p in
    (λ h. decides.0 (sym is ∙ both.1 (subst (λ xs. Contains xs p) keys h)), λ h. subst (λ xs. Contains xs p) (sym keys) (both.0 (is ∙ decides.1 h)))
