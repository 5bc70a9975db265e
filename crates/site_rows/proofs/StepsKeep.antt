-- What a step that is no signal leaves of a record that a site may keep.
use Rattle.std.proofs.Common.{◌≡◌, inl, inr, ℕ, Bool, List, [], ◌∷◌, ◌++◌, map, filter, length, Option, Some, None, Result, Ok, Err, OnOk, All, Contains, refl, sym, ap, subst, ◌∙◌, ⊎_elim}
use Rattle.std.specs.Prelude.{Any, IfSome, IsTrue}
use Rattle.std.specs.FinMap.{get}
use Rattle.std.proofs.lemmas.List.Elements.{All-contains, Contains-append_cases, Contains-append_right}
use Rattle.event_json.specs.Events.{Content}
use Rattle.event_json.specs.Sites.{AreSites, Site}
use Rattle.event_json.specs.declared.bodies.Body.{Body}
use Rattle.event_json.specs.declared.bodies.Body.TheVariants.{Note, Ship, Make, Pack}
use Rattle.frame_core.specs.declared.frames.Frame.TheVariants as frames
use Rattle.frame_core.specs.Laws.{IsNewRow}
use Rattle.frame_core.specs.Numbers.{Recall, Message}
use Rattle.scholten_core.specs.Changes.{next_own, begun}
use Rattle.scholten_core.specs.Effects as effects_on
use Rattle.scholten_core.specs.Effects.{AddsRows}
use Rattle.scholten_core.specs.Engagement.{Engagement}
use Rattle.scholten_core.specs.declared.outcomes.Received.{Received}
use Rattle.scholten_core.proofs.Beginning.{begun_begins}
use Rattle.scholten_core.proofs.Taking.{unseen_is_taken}
use Rattle.trace_core.specs.Adding.{Addition, is_fresh, judged}
use Rattle.trace_core.specs.declared.adding.Standing.{Standing}
use Rattle.trace_core.specs.Pairs.{GivesOut}
use Rattle.trace_core.specs.Sites.{SiteEvents}
use Rattle.trace_core.specs.Spreads.{Inside, IsSpread, items_of, parents}
use Rattle.trace_core.proofs.ChainLaws.{reached_holds}
use Rattle.trace_core.proofs.Members.{contains_cases, contains_none}
use Rattle.site_core.specs.ItemSets as set
use Rattle.site_core.specs.Quarantines.{Quarantine, Items, held, or_none, with_items}
use Rattle.site_core.specs.Records.{Record}
use Rattle.site_core.specs.Shipments.{AreShipments}
use Rattle.site_core.specs.Spreading.{AreNewlyHeld, IsKnownItem}
use Rattle.site_core.specs.Steps.{Captures, Does, Starts, Takes}
use Rattle.site_core.specs.declared.inputs.SiteInput.{SiteInput}
use Rattle.site_core.specs.declared.inputs.SiteInput.TheVariants.{Capture, Start, Deliver}
use Rattle.site_core.specs.declared.outcomes.Effects.{Effects}
use Rattle.site_core.specs.declared.outcomes.Effects.TheVariants as effects
use Rattle.site_core.proofs.Held.{none_held}
use Rattle.site_core.proofs.HeldLaws.{held_several}
use Rattle.site_core.proofs.Places.{member_there}
use Rattle.site_core.proofs.Soundness.{does_sound}
use Rattle.site_rows.specs.BadParts.{AreMembers}
use Rattle.site_rows.specs.EventTexts.{EachFrom}
use Rattle.site_rows.specs.Laws.{AreOfItems, BeganWithItems, HoldsItems, HoldsKeys, IsEventAmong, IsKept}
use Rattle.site_rows.specs.Texts.{IsItemText}
use Rattle.site_rows.proofs.EachShown.{all_of_members}
use Rattle.site_rows.proofs.FromPlaces.{all_with_more}
use Rattle.site_rows.proofs.SameQuarantines.{listed, in_set}

-- ---- the items that events name

parent_is_item : (parent : Option (List ℕ)) (j : List ℕ) → IfSome parent IsItemText → Contains (parents parent) j → IsItemText j
parent_is_item None j is there = absurd (contains_none j there)
parent_is_item (Some p) j is there = ⊎_elim (λ same. subst IsItemText same is) (λ none. absurd (contains_none j none)) (contains_cases p j [] there)

member_is_item : (sites : ℕ) (body : Body) (j : List ℕ) → AreMembers sites body → Contains (items_of body) j → IsItemText j
member_is_item sites (Note items) j are there = All-contains IsItemText items j are there
member_is_item sites (Ship items to outside) j are there = All-contains IsItemText items j are.0 there
member_is_item sites (Make id ins outs) j are there = ⊎_elim (All-contains IsItemText ins j are.0) (All-contains IsItemText outs j are.1) (Contains-append_cases ins outs j there)
member_is_item sites (Pack action parent children) j are there =
    ⊎_elim (parent_is_item parent j are.0) (All-contains IsItemText children j are.1) (Contains-append_cases (parents parent) children j there)

given_out : (body : Body) (j : List ℕ) → GivesOut j body → Contains (items_of body) j
given_out (Note items) j gives = absurd gives
given_out (Ship items to outside) j gives = absurd gives
given_out (Make id ins outs) j gives = Contains-append_right ins outs j gives
given_out (Pack action parent children) j gives = absurd gives

module _ (sites : ℕ) (s : SiteEvents) (all : All (IsEventAmong sites) s.events) where
  named_is_item : (j : List ℕ) → Any (λ e. Contains (items_of e.body) j) s.events → IsItemText j
  named_is_item j (k, e, lt, at, there) = member_is_item sites e.body j (All-contains (IsEventAmong sites) s.events e all (k, lt, at)).members there

  inside_is_item : (i j : List ℕ) → Inside s i j → IsItemText j
  inside_is_item i j (inl shipped) = absurd (shipped.0 refl)
  inside_is_item i j (inr (own, (k, e, lt, at, (takes, (l, f, lt', at', (one, gives)))))) = named_is_item j (l, f, lt', at', given_out f.body j gives)

  -- the items of the spread of an item
  spread_is_item : (i j : List ℕ) → IsItemText i → IsSpread s (i ∷ []) j → IsItemText j
  spread_is_item i j is (x, at, reaches) =
      let first : IsItemText x = ⊎_elim (λ same. subst IsItemText same is) (λ none. absurd (contains_none x none)) (contains_cases i x [] at) in
      reached_holds (Inside s) IsItemText (λ y z _ step. inside_is_item y z step) x j reaches first

-- ---- what is quarantined

held_is_item : (q : Quarantine) (r : Recall) (j : List ℕ) → HoldsKeys q → IsTrue (held q r j) → IsItemText j
held_is_item q r j keys there = elim (get q r) as (λ found. get q r ≡ found → IsItemText j) [
  | None ↦ λ none. absurd (let e = sym there ∙ none_held q r j none in cc)
  | Some items ↦ λ has.
      All-contains IsItemText (set.items items) j (keys r items has) (listed items j (subst (λ (found : Option Items). IsTrue (set.contains (or_none found) j)) has there))
] refl

holds_keys : (q : Quarantine) → ((r : Recall) (j : List ℕ) → IsTrue (held q r j) → IsItemText j) → HoldsKeys q
holds_keys q each r items has =
    all_of_members IsItemText (set.items items) (λ j at. each r j (subst (λ (found : Option Items). IsTrue (set.contains (or_none found) j)) (sym has) (in_set items j at)))

with_more_keys : (q : Quarantine) (r : Recall) (new : List (List ℕ)) → HoldsKeys q → ((j : List ℕ) → Contains new j → IsItemText j) → HoldsKeys (with_items q r new)
with_more_keys q r new keys items = holds_keys (with_items q r new) (λ other j there. ⊎_elim (λ fresh. items j fresh.1) (held_is_item q other j keys) ((held_several q r new other j).0 there))

-- ---- messages

rows_of_items : (old new : Engagement) (r : Recall) (out : List (ℕ × List ℕ)) → AddsRows old new r out → AreOfItems old.outbox → ((to : ℕ) (i : List ℕ) → Contains out (to, i) → IsItemText i) → AreOfItems new.outbox
rows_of_items old new r out adds before items number row is = ⊎_elim
    (before number row)
    (λ (fresh : IsNewRow old.next_message r out number row). items row.dest row.item (member_there out fresh.place (row.dest, row.item) fresh.message))
    (adds.row_origin number row is)

-- ---- a start, and a message of a recall

module _ (s : Record) (it : HoldsItems s) where
  known_is_item : (i : List ℕ) → IsKnownItem s.captured s.quarantine i → IsItemText i
  known_is_item i (inl named) = named_is_item (length s.sites) s.captured it.events i named
  known_is_item i (inr (r, there)) = held_is_item s.quarantine r i it.quarantine there

  new_are_items : (r : Recall) (i : List ℕ) (new : List (List ℕ)) → IsItemText i → AreNewlyHeld s.captured s.quarantine r i new → (j : List ℕ) → Contains new j → IsItemText j
  new_are_items r i new is newly j there = spread_is_item (length s.sites) s.captured it.events i j is ((newly.exact j).0 there).0

  messages_of_items : (spread : List (List ℕ)) (out : List (ℕ × List ℕ)) → ((j : List ℕ) → Contains spread j → IsItemText j) → AreShipments s.captured spread out → (to : ℕ) (i : List ℕ) → Contains out (to, i) → IsItemText i
  messages_of_items spread out items shipped to i there = items i ((shipped.exact to i).0 there).0

  starts_items : (root : List ℕ) (recall : Recall) (quarantined numbered : ℕ) (ended : Bool) (t : Record) → Starts s root recall quarantined numbered ended t → HoldsItems t
  starts_items root recall quarantined numbered ended t c =
      let is = known_is_item root c.may.known in
      let spread : (j : List ℕ) → Contains c.spread j → IsItemText j = λ j there. spread_is_item (length s.sites) s.captured it.events root j is ((c.may.exact j).0 there) in
      let begins = begun_begins s.engagement root c.out in
      let own : BeganWithItems (begun s.engagement root c.out).own =
      (λ number o at. ⊎_elim (it.engagement.own number o) (λ now. subst IsItemText (sym now.1.begun_with) is) (begins.own_origin number o at)) in
      subst HoldsItems (sym c.after) (record {
        sites = it.sites;
        events = it.events;
        quarantine = with_more_keys s.quarantine recall c.new it.quarantine (new_are_items (next_own s.engagement) root c.new is c.may.newly);
        engagement = record {
          outbox = rows_of_items s.engagement (begun s.engagement root c.out) _ c.out begins.rows it.engagement.outbox (messages_of_items c.spread c.out spread c.may.shipped);
          own = own;
        };
      })

  takes_items : (m : Message) (dest : ℕ) (r : Recall) (i : List ℕ) (quarantined numbered : ℕ) (owed : Bool) (t : Record) → IsItemText i → Takes s m dest r i quarantined numbered owed t → HoldsItems t
  takes_items m dest r i quarantined numbered owed t is c =
      let taken : effects_on.Takes s.engagement t.engagement m r c.out =
      subst (λ (e : Engagement). effects_on.Takes s.engagement e m r c.out) (ap (λ (p : Engagement × Received). p.0) c.engaged) (unseen_is_taken s.engagement m r c.out c.may.unseen).0 in
      let new = new_are_items r i c.new is c.may.newly in
      subst HoldsItems (sym c.after) (record {
        sites = it.sites;
        events = it.events;
        quarantine = with_more_keys s.quarantine r c.new it.quarantine new;
        engagement = record {
          outbox = rows_of_items s.engagement t.engagement r c.out taken.rows it.engagement.outbox (messages_of_items c.new c.out new c.may.shipped);
          own = λ number o at. it.engagement.own number o (sym (taken.own number) ∙ at);
        };
      })

-- ---- the step

pub always_ok : {T E : Type 0} {P : Type 0} (r : Result T E) → P → OnOk r P
always_ok (Ok x) p = p
always_ok (Err e) p = tt

abbrev Keep : Record → Type 0
Keep t = IsKept t × HoldsItems t

-- a sound step that leaves the sites as they are
kept : (s t : Record) (input : SiteInput) (told : Effects) → IsKept s → Does s input told t → t.sites ≡ s.sites → IsKept t
kept s t input told was does same = record { sites = subst AreSites (sym same) was.sites; sound = does_sound s input told t was.sound does }

pub start_keeps : (s t : Record) (root : List ℕ) (told : Effects) → Does s (Start root) told t → IsKept s → HoldsItems s → Keep t
start_keeps s t root (effects.Started recall quarantined numbered ended) does was it =
    (kept s t (Start root) (effects.Started recall quarantined numbered ended) was does (ap (λ (x : Record). x.sites) does.after), starts_items s it root recall quarantined numbered ended t does)
start_keeps s t root other does was it = absurd does

pub take_keeps : (s t : Record) (m : Message) (dest : ℕ) (r : Recall) (i : List ℕ) (told : Effects) → IsItemText i → Does s (Deliver (frames.Recall m dest r i)) told t → IsKept s → HoldsItems s → Keep t
take_keeps s t m dest r i (effects.Received quarantined numbered owed) is does was it =
    (kept s t (Deliver (frames.Recall m dest r i)) (effects.Received quarantined numbered owed) was does (ap (λ (x : Record). x.sites) does.after), takes_items s it m dest r i quarantined numbered owed t is does)
take_keeps s t m dest r i effects.Repeat is does was it = (subst IsKept (sym does.1) was, subst HoldsItems (sym does.1) it)
take_keeps s t m dest r i other is does was it = absurd does

abbrev with_events : Record → List Content → Record
with_events s events = record s { captured = record s.captured { events = events } }

captures_items : (s t : Record) (bytes : List ℕ) (fresh known skipped : ℕ) → Captures s bytes fresh known skipped t → EachFrom (IsEventAmong (length s.sites)) (length s.captured.events) t.captured.events → HoldsItems s → HoldsItems t
captures_items s t bytes fresh known skipped c each it =
    let old = s.captured.events in
    let new = map (λ (g : Content × Standing). g.0) (filter is_fresh (judged old c.doc.events)) in
    let events : t.captured.events ≡ old ++ new = ap (λ (a : Addition). a.events) c.captured.kept in
    let all : All (IsEventAmong (length s.sites)) (old ++ new) = all_with_more (IsEventAmong (length s.sites)) old new it.events (subst (EachFrom (IsEventAmong (length s.sites)) (length old)) events each) in
    let with : HoldsItems (with_events s (old ++ new)) = record { sites = it.sites; events = all; quarantine = it.quarantine; engagement = it.engagement } in
    subst HoldsItems (sym (c.rest ∙ ap (with_events s) events)) with

pub capture_keeps : (s t : Record) (bytes : List ℕ) (told : Effects) → Does s (Capture bytes) told t → EachFrom (IsEventAmong (length t.sites)) (length s.captured.events) t.captured.events → IsKept s → HoldsItems s → Keep t
capture_keeps s t bytes (effects.Captured fresh known skipped) does each was it =
    let same : t.sites ≡ s.sites = ap (λ (x : Record). x.sites) does.rest in
    (kept s t (Capture bytes) (effects.Captured fresh known skipped) was does same, captures_items s t bytes fresh known skipped does (subst (λ (sites : List Site). EachFrom (IsEventAmong (length sites)) (length s.captured.events) t.captured.events) same each) it)
capture_keeps s t bytes other does each was it = absurd does
