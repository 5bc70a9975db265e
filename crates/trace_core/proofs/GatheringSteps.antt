-- What a site's events make of an item, event by event, and what one more pair adds.
use Rattle.std.proofs.Common.{◌≡◌, ◌==◌, ◌<◌, ◌+◌, ℕ, Bool, true, false, cond, not, ◌&&◌, ◌||◌, List, [], ◌∷◌, ◌++◌, length, take, get_or, Option, Some, None, is_some, option_map, refl, sym, ap, ◌∙◌, arith}
use Rattle.std.proofs.lemmas.Bool.{true≢false}
use Rattle.std.proofs.lemmas.Bool.Decides.{nat_tests}
use Rattle.std.proofs.lemmas.List.Folds.{list_any_more, list_any-append}
use Rattle.std.specs.Borrow.{Bor}
use Rattle.std.specs.BTreeSet.{BTreeSet, Updates}
use Rattle.std.specs.List.{list_any}
use Rattle.event_json.specs.Events.{Content}
use Rattle.event_json.specs.declared.bodies.Body.{Body}
use Rattle.trace_core.specs.declared.pairs.Pair.{Pair}
use Rattle.trace_core.specs.Gathering.{is_in, sent_to, joined_by, made_by}
use Rattle.trace_core.proofs.PairOrder.{pair_is_eq}
use Rattle.trace_core.specs.Pairs.{pair_cmp, make_id}
use Rattle.trace_core.specs.PairTests.{same_item, lists, takes_in, gives_out, same_id, inside_at}
use Rattle.trace_core.specs.SiteSets.{has_site, sites_below}
use Rattle.trace_core.specs.Sites.{SiteEvents}
use Rattle.trace_core.proofs.SiteSetSteps.{one_below, none_below}
use Rattle.trace_core.proofs.Booleans.{and_false, or_false, and_or, list_any-or, list_any-and_left, list_any-same, more_at_sites, more_inside}

cond_or : (a b : Bool) → cond a true b ≡ (b || a)
cond_or true true = refl
cond_or true false = refl
cond_or false true = refl
cond_or false false = refl

-- one more pair
pub is_in-insert : (old new : BTreeSet Pair) (k : Pair) → Updates pair_cmp old new k true → (p : Pair) → is_in new p ≡ (is_in old p || (p.site == k.site && same_item k.item p.item))
is_in-insert old new k h p = h.0 p ∙ cond_or _ (is_in old p) ∙ ap (λ b. is_in old p || b) (pair_is_eq k p)

-- what is made of an item is what the events make of it, one by one
pub is_made-by_events : (s : SiteEvents) (item : List ℕ) (p : Pair) → (p.site == s.me && inside_at s.events item p.item) ≡ list_any (λ e. made_by s.me s.events item e.body p) s.events
unfolding inside_at
is_made-by_events s item p =
    let own = p.site == s.me in
    let take : Content → Bool = λ e. takes_in item e.body in
    let give : Content → Bool = λ e. gives_out p.item e.body in
    let join : Content → Bool = λ e. joined_by s.events e.body p.item in
    sym (list_any-and_left own (λ e. take e && (give e || join e)) s.events
    ∙ ap (λ b. own && b) (list_any-same (λ e. take e && (give e || join e)) (λ e. (take e && give e) || (take e && join e)) (λ e. and_or (take e) (give e) (join e)) s.events
    ∙ list_any-or (λ e. take e && give e) (λ e. take e && join e) s.events))

-- a list's item is one more of the items at the site
pub one_more_item : (old cur new : BTreeSet Pair) (me : ℕ) (items : List (List ℕ)) (i : ℕ) (y : List ℕ) → i < length items → y ≡ get_or items i y
    → ((p : Pair) → is_in new p ≡ (is_in cur p || (p.site == me && same_item y p.item)))
    → ((p : Pair) → is_in cur p ≡ (is_in old p || (p.site == me && lists (take i items) p.item)))
    → (p : Pair) → is_in new p ≡ (is_in old p || (p.site == me && lists (take (i + 1) items) p.item))
one_more_item old cur new me items i y lt at added so_far p =
    let more : lists (take (i + 1) items) p.item ≡ (lists (take i items) p.item || same_item y p.item) =
    list_any_more (λ j. same_item j p.item) items i y lt ∙ ap (λ z. lists (take i items) p.item || same_item z p.item) (sym at) in
    added p
    ∙ ap (λ b. b || (p.site == me && same_item y p.item)) (so_far p)
    ∙ more_inside (is_in old p) (p.site == me) (lists (take i items) p.item) (same_item y p.item)
    ∙ ap (λ b. is_in old p || (p.site == me && b)) (sym more)

-- at another site
elsewhere : (s me q : ℕ) (b : Bool) → (s ≡ me → ⊥) → (q == s && b) ≡ (not (q == me) && ((s == q) && b))
elsewhere s me q b apart = grind (arith, nat_tests)

-- at the own site
not_here : (s me q : ℕ) (b : Bool) → s ≡ me → (not (q == me) && ((s == q) && b)) ≡ false
not_here s me q b same = grind (arith, nat_tests)

-- another site is added
pub added_elsewhere : (old new : BTreeSet Pair) (me s : ℕ) (item x : List ℕ) → x ≡ item → (s ≡ me → ⊥) → Updates pair_cmp old new (record { site = s; item = x }) true
    → (p : Pair) → is_in new p ≡ (is_in old p || sent_to me item (s ∷ []) p)
added_elsewhere old new me s item x copied apart upd p =
    let same = same_item item p.item in
    is_in-insert old new (record { site = s; item = x }) upd p
    ∙ ap (λ y. is_in old p || (p.site == s && same_item y p.item)) copied
    ∙ ap (λ b. is_in old p || b) (elsewhere s me p.site same apart)
    ∙ sym (ap (λ b. is_in old p || (not (p.site == me) && (b && same))) (or_false (s == p.site)))

-- the own site is passed over
pub own_site_passed : (old : BTreeSet Pair) (me s : ℕ) (item : List ℕ) → s ≡ me → (p : Pair) → is_in old p ≡ (is_in old p || sent_to me item (s ∷ []) p)
own_site_passed old me s item here p =
    let same = same_item item p.item in
    sym (ap (λ b. is_in old p || (not (p.site == me) && (b && same))) (or_false (s == p.site)) ∙ ap (λ b. is_in old p || b) (not_here s me p.site same here) ∙ or_false (is_in old p))

-- an item at the sites of a set, number by number
pub at_no_site : (old : BTreeSet Pair) (me : ℕ) (item : List ℕ) (mask : ℕ) → (p : Pair) → is_in old p ≡ (is_in old p || sent_to me item (sites_below 0 mask) p)
at_no_site old me item mask p =
    sym (ap (λ ts. is_in old p || sent_to me item ts p) (none_below mask) ∙ ap (λ b. is_in old p || b) (and_false (not (p.site == me))) ∙ or_false (is_in old p))

module _ (old cur : BTreeSet Pair) (me : ℕ) (item : List ℕ) (mask n : ℕ) where
  at_more : (is : Bool) → has_site mask n ≡ is → (p : Pair) → ((is_in old p || sent_to me item (sites_below n mask) p) || sent_to me item (cond is (n ∷ []) []) p) ≡ (is_in old p || sent_to me item (sites_below (n + 1) mask) p)
  at_more is has p =
      let among : List ℕ → Bool = λ ts. list_any (λ t. t == p.site) ts in
      more_at_sites (is_in old p) (among (sites_below n mask)) (among (cond is (n ∷ []) [])) (not (p.site == me)) (same_item item p.item)
      ∙ ap (λ b. is_in old p || (not (p.site == me) && (b && same_item item p.item)))
      (sym (ap among (one_below n mask ∙ ap (λ b. sites_below n mask ++ cond b (n ∷ []) []) has) ∙ list_any-append (λ t. t == p.site) (sites_below n mask) (cond is (n ∷ []) [])))

  pub at_one_more : (new : BTreeSet Pair) (t : ℕ) → has_site mask n ≡ true → t ≡ n → ((p : Pair) → is_in cur p ≡ (is_in old p || sent_to me item (sites_below n mask) p)) → ((p : Pair) → is_in new p ≡ (is_in cur p || sent_to me item (t ∷ []) p))
      → (p : Pair) → is_in new p ≡ (is_in old p || sent_to me item (sites_below (n + 1) mask) p)
  at_one_more new t has is so_far added p =
      added p ∙ ap (λ (k : ℕ). is_in cur p || sent_to me item (k ∷ []) p) is ∙ ap (λ b. b || sent_to me item (n ∷ []) p) (so_far p) ∙ at_more true has p

  pub at_none_more : has_site mask n ≡ false → ((p : Pair) → is_in cur p ≡ (is_in old p || sent_to me item (sites_below n mask) p))
      → (p : Pair) → is_in cur p ≡ (is_in old p || sent_to me item (sites_below (n + 1) mask) p)
  at_none_more has so_far p =
      so_far p ∙ sym (ap (λ b. (is_in old p || sent_to me item (sites_below n mask) p) || b) (and_false (not (p.site == me))) ∙ or_false (is_in old p || sent_to me item (sites_below n mask) p)) ∙ at_more false has p

nothing_more : (o own : Bool) → (o || (own && false)) ≡ o
nothing_more true true = refl
nothing_more true false = refl
nothing_more false true = refl
nothing_more false false = refl

-- a transformation without an id is joined to none
pub none_joined : (events : List Content) (body : Body) (o own : Bool) (j : List ℕ) → make_id body ≡ None → o ≡ (o || (own && joined_by events body j))
none_joined events body o own j h =
    let no : joined_by events body j ≡ false =
    ap (λ id. list_any (λ f. same_id id (make_id f.body) && gives_out j f.body) events) h ∙ list_any-and_left false (λ f. gives_out j f.body) events in
    sym (ap (λ b. o || (own && b)) no ∙ nothing_more o own)

pub no_id_there : (o : Option (Bor (List ℕ))) (b : Bool) (id : Option (List ℕ)) → is_some o ≡ not b → b ≡ true → option_map (λ t. t.now) o ≡ id → id ≡ None
no_id_there None b id some none is = sym is
no_id_there (Some t) b id some none is = absurd (true≢false (some ∙ ap not none))
