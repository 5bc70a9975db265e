-- What events sent, with an event more and with one less.
use Rattle.std.proofs.Common.{◌≡◌, ◌<◌, ◌≤◌, ◌+◌, ◌-◌, ℕ, suc, true, false, List, [], ◌∷◌, ◌++◌, Option, Some, None, take, drop, length, get_or, slice_get, unwrap_or, ◌↔◌, sym, ap, ◌∙◌, subst, ⊎_elim, arith, length-append}
use mathlib.Core.Bool.{false≢true}
use Rattle.std.specs.List.{Contains}
use Rattle.std.proofs.lemmas.Bool.{cases_lt}
use Rattle.std.proofs.lemmas.List.{take_all, take_more, take-append-le, take-append-drop, take-take, length-take-le, get_or_append_left, get_or_default}
use Rattle.std.proofs.lemmas.List.Elements.{Contains-append_right, Contains-append_cases}
use Rattle.event_json.specs.Events.{Content}
use Rattle.event_json.specs.declared.bodies.Action.TheVariants.{Add, Observe, Delete}
use Rattle.event_json.specs.declared.bodies.Body.{Body}
use Rattle.event_json.specs.declared.bodies.Body.TheVariants.{Note, Ship, Make, Pack}
use Rattle.trace_core.specs.declared.sendings.Sending.{Sending}
use Rattle.trace_core.specs.Carried.{moved_items, GoTo}
use Rattle.trace_core.specs.Numbers.{number_in, numbered, numbers_of, moved_in}
use Rattle.trace_core.specs.Pairs.{Carries, IsSentTo}
use Rattle.trace_core.specs.PairTests.{lists}
use Rattle.trace_core.specs.Places.{names_item}
use Rattle.trace_core.specs.PutIn.{parent_number, HasPacked}
use Rattle.trace_core.specs.SiteSets.{has_site}
use Rattle.trace_core.specs.Sendings.{AreDistinct, Extends, WasSent, Goes, Holds, AreFollowed, SendsOn, AreSent, AreNewlySent, HasSent}
use Rattle.trace_core.specs.Spreads.{items_of, parents}
use Rattle.trace_core.proofs.Carrying.{sent_named, sent_stays, sent_on, sent_with, sends_sent, carries_still}
use Rattle.trace_core.proofs.ChainLaws.{reaches_itself, reached_holds}
use Rattle.trace_core.proofs.Members.{contains_none, contains-map, list_any_member}
use Rattle.trace_core.proofs.NumberLists.{some_is, listed_number, number_or, number_stands, unnumbered, numbered_named, numbered_apart}
use Rattle.trace_core.proofs.PackedSteps.{number_kept, all_known, carried_known, held_carried, carried_held, packed_then}
use Rattle.trace_core.proofs.PairTestsDecide.{lists_decides}
use Rattle.trace_core.proofs.SentSteps.{stays, get_or_pushed}
use Rattle.trace_core.proofs.SetMembers.{contains-from_map}

-- what was sent is named
sent_numbered : (events : List Content) (i : List ℕ) (t : ℕ) → IsSentTo events i t → lists (numbered events) i ≡ true
sent_numbered events i t sent =
    let (k, e, below, at, there) = sent_named events i t sent in
    numbered_named events i ∙ list_any_member (names_item i) events e (k, below, at) ((lists_decides (items_of e.body) i).1 there)

-- what an event moves is named by it, and goes where it goes
moved_named : (b : Body) (c : List ℕ) → Contains (moved_in b) c → Contains (items_of b) c
moved_named (Note items) c h = absurd (contains_none c h)
moved_named (Ship items sites outside) c h = h
moved_named (Make id ins outs) c h = Contains-append_right ins outs c h
moved_named (Pack action parent children) c h = Contains-append_right (parents parent) children c h

moved_is : (events : List Content) (b : Body) (t : ℕ) → GoTo events b t → (c : List ℕ)
    → Contains (moved_items b) c ↔ Contains (moved_in b) c
moved_is events (Note items) t goes c = absurd goes
moved_is events (Ship items sites outside) t goes c = (λ h. h, λ h. h)
moved_is events (Make id ins outs) t goes c = absurd goes
moved_is events (Pack action parent children) t goes c = (λ h. h, λ h. h)

module _ (events : List Content) (e : Content) where
  abbrev all : List Content
  all = events ++ e ∷ []

  abbrev names : List (List ℕ)
  names = numbered (events ++ e ∷ [])

  -- an item that was sent has its number already
  number_had : (n : ℕ) (i : List ℕ) (t : ℕ) → slice_get names n ≡ Some i → IsSentTo events i t
      → slice_get (numbered events) n ≡ Some i
  number_had n i t so sent =
      let (m, is) = listed_number (numbered events) i (sent_numbered events i t sent) in
      let stands = number_stands (numbered events) i m is in
      let same : m ≡ n = some_is m n (sym (numbered_apart all m i (number_kept events e m i stands)) ∙ numbered_apart all n i so) in
      subst (λ l. slice_get (numbered events) l ≡ Some i) same stands

  known : (i j : List ℕ) → Carries events i j → lists names j ≡ true
  known i j carries = carried_known all i j (carries_still events e i j carries)

  module _ (log : List Sending) (are : AreSent events log) (parent : Option ℕ) where
    -- where the parent went
    parent_went : (q : List ℕ) → parent ≡ number_in names q → (t : ℕ) → WasSent log parent t ↔ IsSentTo events q t
    parent_went q is t = (
      λ h. there parent is h,
      λ sent.
          let (m, number) = listed_number (numbered events) q (sent_numbered events q t sent) in
          let stands = number_stands (numbered events) q m number in
          subst (λ p. WasSent log p t) (sym (is ∙ numbered_apart all m q (number_kept events e m q stands))) ((are (record { item = m; site = t })).1 (q, stands, sent)),
    )
      where
        there : (p : Option ℕ) → p ≡ number_in names q → WasSent log p t → IsSentTo events q t
        there None is h = absurd h
        there (Some m) is h =
            let (i, so, sent) = (are (record { item = m; site = t })).0 h in
            subst (λ j. IsSentTo events j t) (some_is i q (sym (number_kept events e m i so) ∙ number_stands names q m (sym is))) sent

    none_went : parent ≡ None → (t : ℕ) → WasSent log parent t ↔ ⊥
    none_went is t = (λ h. subst (λ p. WasSent log p t) is h, λ h. absurd h)

    -- where an event's items go
    went : (b : Body) → parent ≡ parent_number names b → (t : ℕ) → Goes log b parent t ↔ GoTo events b t
    went (Note items) is t = none_went is t
    went (Ship items sites outside) is t = (λ h. h, λ h. h)
    went (Make id ins outs) is t = none_went is t
    went (Pack Add None children) is t = none_went is t
    went (Pack Add (Some q) children) is t = parent_went q is t
    went (Pack Observe own children) is t = none_went is t
    went (Pack Delete own children) is t = none_went is t

  module _ (log new : List Sending) (children : ℕ → List ℕ) (items : List ℕ) (parent : Option ℕ) (are : AreSent events log) (has : HasPacked children events)
      (of : parent ≡ parent_number names e.body) (moves : items ≡ numbers_of names (moved_in e.body)) (sends : SendsOn children items (Goes log e.body parent) log new) where
    abbrev mid : List Sending
    mid = sends.between

    -- the item of the number was sent
    abbrev IsSentAt : ℕ → ℕ → Type 0
    IsSentAt n t = (i : List ℕ) × (slice_get names n ≡ Some i) × IsSentTo (events ++ e ∷ []) i t

    mid_sent : (s : Sending) → Contains mid s → IsSentAt s.item s.site
    mid_sent s h = ⊎_elim
        (λ was. let (i, so, sent) = (are s).0 was in (i, number_kept events e s.item i so, sent_stays events e i s.site sent))
        (λ more.
        let (listed, goes) = sends.starts.only s more in
        let (c, moved, number) = contains-from_map (λ j. unwrap_or (number_in names j) 0) (moved_in e.body) s.item (subst (λ ns. Contains ns s.item) moves listed) in
        let to : GoTo events e.body s.site = (went log are parent e.body of s.site).0 goes in (
          c,
          subst (λ m. slice_get names m ≡ Some c) number (number_or names c (all_known events e c (moved_named e.body c moved))),
          sends_sent events e c s.site (to, (c, (moved_is events e.body s.site to c).1 moved, reaches_itself (Carries events) c)),
        ))
        (Contains-append_cases log sends.starts.more s (subst (λ xs. Contains xs s) sends.starts.appended h))

    -- what lies in it was sent, too
    held_sent : (t n c : ℕ) → IsSentAt n t → Holds children n c → IsSentAt c t
    held_sent t n c (i, so, sent) held =
        let (j, so', carries) = held_carried names events known (children n) i (packed_then children events e has n i so) c held in
        (j, so', sent_on all i j t sent (carries_still events e i j carries))

    -- what stood before is followed
    old_followed : AreFollowed children (take (length log) mid) mid
    old_followed s c h held =
        let front : take (length log) mid ≡ log = ap (take (length log)) sends.starts.appended ∙ take-append-le (length log) log sends.starts.more (omega arith) ∙ take_all (length log) log (omega arith) in
        let (i, so, sent) = (are s).0 (subst (λ xs. Contains xs s) front h) in
        let (j, so', carries) = held_carried names events known (children s.item) i (packed_then children events e has s.item i (number_kept events e s.item i so)) c held in
        let sent' = sent_on events i j s.site sent carries in
        stays log mid (sends.starts.more, sends.starts.appended) (record { item = c; site = s.site }) ((are (record { item = c; site = s.site })).1 (j, number_had c j s.site so' sent', sent'))

    -- the item is found there
    abbrev IsFoundAt : ℕ → List ℕ → Type 0
    IsFoundAt t j = (c : ℕ) × (number_in names j ≡ Some c) × Contains new (record { item = c; site = t })

    found_on : (t : ℕ) (j k : List ℕ) → IsFoundAt t j → Carries events j k → IsFoundAt t k
    found_on t j k (c, number, there) carries =
        let (m, number') = listed_number names k (known j k carries) in (
          m,
          number',
          sends.follows.closed old_followed (record { item = c; site = t }) m there
              (carried_held names events known (children c) j (packed_then children events e has c j (number_stands names j c number)) k m carries number'),
        )

    start_found : (t : ℕ) → GoTo events e.body t → (c : List ℕ) → Contains (moved_items e.body) c → IsFoundAt t c
    start_found t to c moved =
        let moved' = (moved_is events e.body t to c).0 moved in
        let (m, number) = listed_number names c (all_known events e c (moved_named e.body c moved')) in
        let listed : Contains items m =
        subst (λ ns. Contains ns m) (sym moves) (subst (Contains (numbers_of names (moved_in e.body))) (ap (λ o. unwrap_or o 0) number) (contains-map (λ j. unwrap_or (number_in names j) 0) (moved_in e.body) c moved')) in
        (m, number, stays mid new sends.follows.extends (record { item = m; site = t }) (sends.starts.all (record { item = m; site = t }) listed ((went log are parent e.body of t).1 to)))

    -- with what the event sends, and what lies in that, the log is what all events send
    pub all_sent : AreSent (events ++ e ∷ []) new
    all_sent s = (
      λ h.
          let (n, there, reached) = sends.follows.sound s h in
          reached_holds (Holds children) (λ c. IsSentAt c s.site) (held_sent s.site) n s.item reached (mid_sent (record { item = n; site = s.site }) there),
      λ (i, so, sent). ⊎_elim
          (λ was.
          stays mid new sends.follows.extends s (stays log mid (sends.starts.more, sends.starts.appended) s ((are s).1 (i, number_had s.item i s.site so was, was))))
          (λ (to, (c, moved, carried)).
          let (m, number, there) = reached_holds (Carries events) (IsFoundAt s.site) (found_on s.site) c i carried (start_found s.site to c moved) in
          subst (λ (n : ℕ). Contains new (record { item = n; site = s.site })) (some_is m s.item (sym number ∙ numbered_apart all s.item i so)) there)
          (sent_with events e i s.site sent),
    )

-- the beginning of a log that goes on
pub extends_front : (a b : List Sending) → Extends a b → (n : ℕ) → n ≤ length a → take n b ≡ take n a
extends_front a b (more, is) n below = ap (take n) is ∙ take-append-le n a more below

pub extends_back : (a b : List Sending) → Extends a b → take (length a) b ≡ a
extends_back a b extends = extends_front a b extends (length a) (omega arith) ∙ take_all (length a) a (omega arith)

extends_length : (a b : List Sending) → Extends a b → length a ≤ length b
extends_length a b (more, is) = omega (arith, ap length is, length-append a more)

-- nothing was sent before the first event
pub no_events : (log : List Sending) (counts : List ℕ) → log ≡ [] → counts ≡ [] → HasSent [] log counts
no_events log counts nothing uncounted = record {
  all = λ s. (
    λ h. absurd (contains_none s (subst (λ xs. Contains xs s) nothing h)),
    λ (i, so, (c, (k, e, below, at, ships), carried)). absurd (omega (arith, below)),
  );
  counted = ap length uncounted;
  before = λ k d below. absurd (omega (arith, below, ap length uncounted));
  within = λ k d below. absurd (omega (arith, below, ap length uncounted));
  rise = λ j k d lt below. absurd (omega (arith, below, ap length uncounted));
}

-- an event comes
pub event_more : (events : List Content) (log : List Sending) (counts : List ℕ) → HasSent events log counts
    → (e : Content) (log' : List Sending) → Extends log log' → AreSent (events ++ e ∷ []) log'
    → HasSent (events ++ e ∷ []) log' (counts ++ length log ∷ [])
event_more events log counts has e log' extends are = record {
  all = are;
  counted = omega (arith, has.counted, length-append counts (length log ∷ []), length-append events (e ∷ []));
  before = λ k d below. ⊎_elim
      (λ low. subst (λ es. AreSent es (take (at k d) log')) (sym (take-append-le k events (e ∷ []) (omega (arith, low, has.counted))))
      (subst (λ xs. AreSent (take k events) xs) (sym (ap (λ n. take n log') (low_at k d low) ∙ extends_front log log' extends (get_or counts k d) (has.within k d low))) (has.before k d low)))
      (λ past.
      let same : k ≡ length counts = last k below past in
      let count : at k d ≡ length log = ap (λ n. at n d) same ∙ get_or_pushed counts (length log) d in
      subst (λ es. AreSent es (take (at k d) log')) (sym (take-append-le k events (e ∷ []) (omega (arith, same, has.counted)) ∙ take_all k events (omega (arith, same, has.counted))))
      (subst (λ xs. AreSent events xs) (sym (ap (λ n. take n log') count ∙ extends_back log log' extends)) has.all))
      (cases_lt k (length counts));
  within = λ k d below. ⊎_elim
      (λ low. omega (arith, low_at k d low, has.within k d low, extends_length log log' extends))
      (λ past. omega (arith, ap (λ n. at n d) (last k below past) ∙ get_or_pushed counts (length log) d, extends_length log log' extends))
      (cases_lt k (length counts));
  rise = λ j k d lt below. ⊎_elim
      (λ low. omega (arith, low_at k d low, low_at j d (omega (arith, lt, low)), has.rise j k d lt low))
      (λ past. omega (arith, ap (λ n. at n d) (last k below past) ∙ get_or_pushed counts (length log) d, low_at j d (omega (arith, lt, last k below past)), has.within j d (omega (arith, lt, last k below past))))
      (cases_lt k (length counts));
}
  where
    at : ℕ → ℕ → ℕ
    at k d = get_or (counts ++ length log ∷ []) k d

    low_at : (k d : ℕ) → k < length counts → at k d ≡ get_or counts k d
    low_at k d low = get_or_append_left counts (length log ∷ []) d k low

    last : (k : ℕ) → k < length (counts ++ length log ∷ []) → length counts ≤ k → k ≡ length counts
    last k below past = omega (arith, below, past, length-append counts (length log ∷ []))

-- the last event goes
pub event_less : (events : List Content) (e : Content) (log : List Sending) (counts : List ℕ) (n : ℕ)
    → HasSent (events ++ e ∷ []) log (counts ++ n ∷ []) → HasSent events (take n log) counts
event_less events e log counts n has =
    let long : length (counts ++ n ∷ []) ≡ length counts + 1 = length-append counts (n ∷ []) in
    let same : length counts ≡ length events = omega (arith, long, length-append events (e ∷ []), has.counted) in
    let count : get_or (counts ++ n ∷ []) (length counts) 0 ≡ n = get_or_pushed counts n 0 in
    let at : (k d : ℕ) → k < length counts → get_or (counts ++ n ∷ []) k d ≡ get_or counts k d = λ k d below. get_or_append_left counts (n ∷ []) d k below in
    let most : (k d : ℕ) → k < length counts → get_or counts k d ≤ n = λ k d below.
    omega (arith, at k 0 below, get_or_default counts k d 0 below, has.rise k (length counts) 0 below (omega (arith, long)), count) in
    let front : (k : ℕ) → k ≤ length events → take k (events ++ e ∷ []) ≡ take k events = λ k below. take-append-le k events (e ∷ []) below in
    record {
      all = subst (λ es. AreSent es (take n log)) (front (length events) (omega arith) ∙ take_all (length events) events (omega arith))
          (subst (λ c. AreSent (take (length events) (events ++ e ∷ [])) (take c log)) (ap (λ k. get_or (counts ++ n ∷ []) k 0) (sym same) ∙ count) (has.before (length events) 0 (omega (arith, long, same))));
      counted = same;
      before = λ k d below. subst (λ es. AreSent es (take (get_or counts k d) (take n log))) (front k (omega (arith, below, same)))
          (subst (λ xs. AreSent (take k (events ++ e ∷ [])) xs) (ap (λ c. take c log) (at k d below) ∙ sym (take-take (get_or counts k d) n log (most k d below))) (has.before k d (omega (arith, below, long))));
      within = λ k d below. omega (arith, most k d below, length-take-le n log (subst (λ c. c ≤ length log) count (has.within (length counts) 0 (omega (arith, long)))));
      rise = λ j k d lt below. omega (arith, has.rise j k d lt (omega (arith, below, long)), at j d (omega (arith, lt, below)), at k d below);
    }

-- an event that was counted is there
pub none_counted : (events : List Content) (e : Content) (log : List Sending) (counts : List ℕ) → length counts ≡ 0
    → HasSent (events ++ e ∷ []) log counts → ⊥
none_counted events e log counts none has = omega (arith, none, has.counted, length-append events (e ∷ []))

-- the sites of an item's sendings are those that it was sent to
pub sites_told : (events : List Content) (log : List Sending) → AreSent events log → (n : ℕ) (i : List ℕ)
    → slice_get (numbered events) n ≡ Some i → (sites : ℕ)
    → ((t : ℕ) → has_site sites t ≡ true ↔ Contains log (record { item = n; site = t }))
    → (t : ℕ) → has_site sites t ≡ true ↔ IsSentTo events i t
sites_told events log are n i so sites is t = (
  λ h. let (j, so', sent) = (are (record { item = n; site = t })).0 ((is t).0 h) in subst (λ k. IsSentTo events k t) (some_is j i (sym so' ∙ so)) sent,
  λ sent. (is t).1 ((are (record { item = n; site = t })).1 (i, so, sent)),
)

-- an item that isn't known was sent nowhere
pub none_sent : (events : List Content) (i : List ℕ) → None ≡ number_in (numbered events) i → (sites : ℕ)
    → ((t : ℕ) → has_site sites t ≡ false) → (t : ℕ) → has_site sites t ≡ true ↔ IsSentTo events i t
none_sent events i unknown sites none t = (
  λ h. absurd (false≢true (sym (none t) ∙ h)),
  λ sent. absurd (false≢true (sym (unnumbered (numbered events) i (sym unknown)) ∙ sent_numbered events i t sent)),
)

-- ---- what the last event newly sent

behind : (xs ys : List Sending) (k : ℕ) (s : Sending) → get_or (xs ++ ys) (length xs + k) s ≡ get_or ys k s
behind [] ys k s = let n : length {A = Sending} [] + k ≡ k = omega arith in ap (λ n. get_or ys n s) n
behind (x ∷ xs) ys k s = let n : length (x ∷ xs) + k ≡ suc (length xs + k) = omega arith in ap (λ n. get_or (x ∷ (xs ++ ys)) n s) n ∙ behind xs ys k s

-- no member of the one list is one of the other
parts_apart : (xs ys : List Sending) → AreDistinct (xs ++ ys) → (s : Sending) → Contains xs s → Contains ys s → ⊥
parts_apart xs ys once s (j, lt, at) (k, lt', at') =
    once j (length xs + k) s (omega (arith, lt)) (omega (arith, lt', length-append xs ys))
    (get_or_append_left xs ys s j lt ∙ at ∙ sym (behind xs ys k s ∙ at'))

-- it stands behind what was sent before
newly_sent : (events : List Content) (e : Content) (log : List Sending) (counts : List ℕ) (n : ℕ)
    → HasSent (events ++ e ∷ []) log (counts ++ n ∷ []) → AreDistinct log
    → AreNewlySent (numbered (events ++ e ∷ [])) events e (drop n log)
newly_sent events e log counts n has once m t =
    let s : Sending = record { item = m; site = t } in
    let old : AreSent events (take n log) = (event_less events e log counts n has).all in
    let parts : take n log ++ drop n log ≡ log = take-append-drop n log in (
      λ h.
          let (i, so, sent) = (has.all s).0 (subst (λ xs. Contains xs s) parts (Contains-append_right (take n log) (drop n log) s h)) in
          (i, so, (sent, λ was. parts_apart (take n log) (drop n log) (subst AreDistinct (sym parts) once) s ((old s).1 (i, number_had events e m i t so was, was)) h)),
      λ (i, so, (sent, new)). ⊎_elim
          (λ was. let (j, so', before) = (old s).0 was in absurd (new (subst (λ k. IsSentTo events k t) (some_is j i (sym (number_kept events e m j so') ∙ so)) before)))
          (λ there. there)
          (Contains-append_cases (take n log) (drop n log) s (subst (λ xs. Contains xs s) (sym parts) ((has.all s).1 (i, so, sent)))),
    )

-- a list that isn't empty has a last element
with_last : (xs : List ℕ) (d : ℕ) → 0 < length xs → xs ≡ take (length xs - 1) xs ++ get_or xs (length xs - 1) d ∷ []
with_last xs d some =
    let n : length xs - 1 < length xs = omega (arith, some) in
    let all : length xs - 1 + 1 ≡ length xs = omega (arith, some) in
    sym (ap (λ k. take k xs) all ∙ take_all (length xs) xs (omega arith)) ∙ take_more xs (length xs - 1) d n

pub last_new : (events : List Content) (e : Content) (log : List Sending) (counts : List ℕ) (n : ℕ)
    → HasSent (events ++ e ∷ []) log counts → AreDistinct log → 0 < length counts
    → n ≡ get_or counts (length counts - 1) n
    → (sent : List Sending) → sent ≡ drop n log → AreNewlySent (numbered (events ++ e ∷ [])) events e sent
last_new events e log counts n has once some at sent is =
    let last : counts ≡ take (length counts - 1) counts ++ n ∷ [] = with_last counts n some ∙ ap (λ (k : ℕ). take (length counts - 1) counts ++ k ∷ []) (sym at) in
    subst (AreNewlySent (numbered (events ++ e ∷ [])) events e) (sym is) (newly_sent events e log (take (length counts - 1) counts) n (subst (λ ns. HasSent (events ++ e ∷ []) log ns) last has) once)
