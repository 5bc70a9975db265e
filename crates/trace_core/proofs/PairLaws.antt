-- Which events relate what.
use Rattle.std.proofs.Common.{◌≡◌, ℕ, zero, suc, List, [], ◌∷◌, ◌++◌, Option, Some, None, get_or, refl, sym, ap, ◌∙◌, subst, inl, inr, ⊎_elim, arith}
use mathlib.Core.Logic.{◌⊎◌}
use Rattle.std.specs.List.{Any, Contains}
use Rattle.std.proofs.lemmas.Bool.{cases_order}
use Rattle.std.proofs.lemmas.List.{get_or_default}
use Rattle.std.proofs.lemmas.List.Elements.{Contains-push_cases}
use Rattle.event_json.specs.Events.{Content}
use Rattle.event_json.specs.declared.bodies.Action.{Action}
use Rattle.event_json.specs.declared.bodies.Action.TheVariants.{Add, Observe, Delete}
use Rattle.event_json.specs.declared.bodies.Body.{Body}
use Rattle.event_json.specs.declared.bodies.Body.TheVariants.{Note, Ship, Make, Pack}
use Rattle.trace_core.specs.declared.pairs.Pair.{Pair}
use Rattle.trace_core.specs.Laws.{ShipRelates, PackNames, PackRelates, PackedFollow, MakeRelates, JoinedMakesRelate, AddsNothing, OthersAddNothing, HaveOwnNumbers, RelatedPairsAreOfTheirSite}
use Rattle.trace_core.specs.Pairs.{Ships, Packs, TakesIn, GivesOut, make_id, AreOneMake, IsRelated}
use Rattle.trace_core.specs.Sites.{SiteEvents}
use Rattle.trace_core.specs.Spreads.{items_of}
use Rattle.trace_core.proofs.Carrying.{PutsNothing, earlier, carried_before, sent_on, sent_itself, same_parent, no_parent, observes, deletes}
use Rattle.trace_core.proofs.Members.{contains_here, contains_there, contains_cases, contains_none}

pub ship_relates : ShipRelates
ship_relates s e items sites outside item to (k, lt, at) is listed goes other =
    inl (other, refl, sent_itself s.events item to (k, e, lt, at, subst (Ships item to) (sym is) (listed, goes)))

pub pack_names : PackNames
pack_names e action parent children item is =
    (λ h. named parent (subst (λ b. Contains (items_of b) item) is h), λ h. subst (λ b. Contains (items_of b) item) (sym is) (names parent h))
  where
    named : (o : Option (List ℕ)) → Contains (items_of (Pack action o children)) item → (o ≡ Some item) ⊎ Contains children item
    named None h = inr h
    named (Some p) h = ⊎_elim (λ same. inl (ap Some same)) (λ child. inr child) (contains_cases p item children h)

    names : (o : Option (List ℕ)) → (o ≡ Some item) ⊎ Contains children item → Contains (items_of (Pack action o children)) item
    names None h = ⊎_elim (λ is. absurd (no_parent item is)) (λ child. child) h
    names (Some p) h = ⊎_elim
        (λ is. subst (Contains (p ∷ children)) (same_parent p item is) (contains_here p children))
        (λ child. contains_there p item children child)
        h

pub pack_relates : PackRelates
pack_relates s e f items sites outside parent child children to (k, lt, at) (l, lt', at') is is' listed put goes other =
    let sent = sent_itself s.events parent to (k, e, lt, at, subst (Ships parent to) (sym is) (listed, goes)) in
    inl (other, refl, sent_on s.events parent child to sent (l, f, lt', at', subst (Packs parent child) (sym is') (refl, refl, put)))

pub packed_follow : PackedFollow
packed_follow s e parent child children to (k, lt, at) is put other related = ⊎_elim
    (λ (elsewhere, same, sent). inl (other, refl, sent_on s.events parent child to sent (k, e, lt, at, subst (Packs parent child) (sym is) (refl, refl, put))))
    (λ (here, made). absurd (other here))
    related

pub make_relates : MakeRelates
make_relates s e id ins outs i j (k, lt, at) is takes gives =
    inr (refl, (k, e, lt, at, (subst (λ b. TakesIn i b) (sym is) takes, (k, e, lt, at, (inl refl, subst (λ b. GivesOut j b) (sym is) gives)))))

pub joined_makes_relate : JoinedMakesRelate
joined_makes_relate s e f id ins outs ins' outs' i j (k, lt, at) (l, lt', at') is is' takes gives =
    inr (
      refl,
      (
        k,
        e,
        lt,
        at,
        (
          subst (λ b. TakesIn i b) (sym is) takes,
          (l, f, lt', at', (inr (id, ap make_id is, ap make_id is'), subst (λ b. GivesOut j b) (sym is') gives)),
        ),
      ),
    )

-- a body that ships nothing elsewhere, puts nothing into anything, and takes in nothing or gives out nothing
pub record IsIdle (me : ℕ) (body : Body) : Type 0 where
  pub ships : (item : List ℕ) (site : ℕ) → Ships item site body → site ≡ me
  pub packs : PutsNothing body
  pub id : make_id body ≡ None
  pub makes : (i j : List ℕ) → TakesIn i body → GivesOut j body → ⊥

no_id : (id : Option (List ℕ)) (a : List ℕ) → id ≡ None → id ≡ Some a → ⊥
no_id id a h k = cc

module _ (me : ℕ) (events : List Content) (e : Content) (idle : IsIdle me e.body) where
  pub idle_adds_nothing : (item : List ℕ) (q : Pair) → IsRelated (record { me = me; events = events ++ e ∷ [] }) item q → IsRelated (record { me = me; events = events }) item q
  idle_adds_nothing item q h = ⊎_elim
      (λ (other, same, (carrier, any, carried)). ⊎_elim
      (λ before. inl (other, same, (carrier, before, carried_before events e idle.packs carrier item carried)))
      (λ ships. absurd (other (idle.ships carrier q.site ships)))
      (earlier events e (λ f. Ships carrier q.site f.body) any))
      (λ (here, (k, f, lt, at, (takes, gives))). ⊎_elim
      (λ given. ⊎_elim
      (λ (l, lt', at'). inr (here, (l, f, lt', at', (takes, given))))
      (λ last. absurd (alone f (sym last) takes given))
      (Contains-push_cases events e f (k, lt, at)))
      (λ (one, out). absurd (last_gives f takes one out))
      (earlier events e (λ g. AreOneMake f g × GivesOut q.item g.body) gives))
      h
    where
      -- the last event takes the item in: then it is of one make with itself alone
      alone : (f : Content) → f ≡ e → TakesIn item f.body → Any (λ g. AreOneMake f g × GivesOut q.item g.body) events → ⊥
      alone f last takes (l, g, lt, at, (one, out)) = ⊎_elim
          (λ same. idle.makes item q.item (subst (λ (x : Content). TakesIn item x.body) last takes) (subst (λ (x : Content). GivesOut q.item x.body) (sym same ∙ last) out))
          (λ (id, of_f, of_g). no_id (make_id e.body) id idle.id (subst (λ (x : Content). make_id x.body ≡ Some id) last of_f))
          one

      last_gives : (f : Content) → TakesIn item f.body → AreOneMake f e → GivesOut q.item e.body → ⊥
      last_gives f takes one out = ⊎_elim
          (λ same. idle.makes item q.item (subst (λ (x : Content). TakesIn item x.body) same takes) out)
          (λ (id, of_f, of_e). no_id (make_id e.body) id idle.id of_e)
          one

adds_nothing : (me : ℕ) (body : Body) → IsIdle me body → AddsNothing me body
adds_nothing me body idle events e is item q h = idle_adds_nothing me events e (subst (IsIdle me) (sym is) idle) item q h

only_member : (x y : ℕ) → Contains (x ∷ []) y → y ≡ x
only_member x y (zero, lt, at) = sym at
only_member x y (suc k, lt, at) = absurd (omega (arith, lt))

moves_nothing : (me : ℕ) (action : Action) (parent : Option (List ℕ)) (children : List (List ℕ)) → PutsNothing (Pack action parent children)
    → IsIdle me (Pack action parent children)
moves_nothing me action parent children none = record { ships = λ item site h. absurd h; packs = none; id = refl; makes = λ i j takes gives. takes }

pub others_add_nothing : OthersAddNothing
others_add_nothing = (
  λ me items. adds_nothing me (Note items) (record { ships = λ item site h. absurd h; packs = λ x y h. h; id = refl; makes = λ i j takes gives. takes }),
  λ me items outside. adds_nothing me (Ship items (me ∷ []) outside) (record { ships = λ item site h. only_member me site h.1; packs = λ x y h. h; id = refl; makes = λ i j takes gives. takes }),
  λ me items outside. adds_nothing me (Ship items [] outside) (record { ships = λ item site h. absurd (contains_none site h.1); packs = λ x y h. h; id = refl; makes = λ i j takes gives. takes }),
  λ me ins. adds_nothing me (Make None ins []) (record { ships = λ item site h. absurd h; packs = λ x y h. h; id = refl; makes = λ i j takes gives. contains_none j gives }),
  λ me outs. adds_nothing me (Make None [] outs) (record { ships = λ item site h. absurd h; packs = λ x y h. h; id = refl; makes = λ i j takes gives. contains_none i takes }),
  λ me parent children. adds_nothing me (Pack Observe parent children) (moves_nothing me Observe parent children (λ x y h. observes h.0)),
  λ me parent children. adds_nothing me (Pack Delete parent children) (moves_nothing me Delete parent children (λ x y h. deletes h.0)),
  λ me parent. adds_nothing me (Pack Add parent []) (moves_nothing me Add parent [] (λ x y h. contains_none y h.2)),
)

-- members of one number are one member
one_of_a_number : (sites : List SiteEvents) → HaveOwnNumbers sites → (s t : SiteEvents) → Contains sites s → Contains sites t → s.me ≡ t.me → s ≡ t
one_of_a_number sites own s t (i, lt, at) (j, lt', at') same = ⊎_elim
    (λ here. sym at ∙ ap (λ k. get_or sites k s) here ∙ get_or_default sites j s t lt' ∙ at')
    (λ apart. ⊎_elim
    (λ before. absurd (own i j s before lt' (ap (λ x. x.me) at ∙ same ∙ ap (λ x. x.me) (sym at' ∙ get_or_default sites j t s lt'))))
    (λ after. absurd (own j i s after lt (ap (λ x. x.me) (get_or_default sites j s t lt' ∙ at') ∙ sym same ∙ ap (λ x. x.me) (sym at))))
    apart)
    (cases_order i j)

pub related_at_its_site : RelatedPairsAreOfTheirSite
related_at_its_site sites own s there p q same = (
  λ (k, t, lt, at, (here, related)). subst (λ x. IsRelated x p.item q) (one_of_a_number sites own t s (k, lt, at) there (here ∙ sym same)) related,
  λ related. (there.0, s, there.1, there.2, (same, related)),
)
