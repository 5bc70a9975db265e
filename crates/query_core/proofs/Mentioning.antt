-- How the mentions of items grow.
use Rattle.std.proofs.Common.{◌≡◌, ℕ, ◌+◌, ◌<◌, Bool, true, false, cond, ◌||◌, List, [], ◌∷◌, ◌++◌, length, take, get_or, Option, Some, None, refl, sym, ap, ◌∙◌, subst, arith, eqb, eq-eqb, eqb-true}
use Rattle.std.specs.BTreeMap.{Updates}
use Rattle.std.specs.Cmp.Lexicographic.{bytes_decides, texts_ties}
use Rattle.std.proofs.lemmas.List.{take_more}
use Rattle.std.proofs.lemmas.List.Folds.{list_any-append}
use Rattle.std.proofs.lemmas.List.Sums.{sum_by_push}
use Rattle.event_json.specs.Events.{Content}
use Rattle.trace_core.specs.PairTests.{lists, same_item}
use Rattle.trace_core.specs.Spreads.{items_of}
use Rattle.trace_core.proofs.PlaceSteps.{lists_more}
use Rattle.site_core.specs.ItemSets.{item_cmp}
use Rattle.query_core.specs.KnownItems.{events_naming}
use Rattle.query_core.specs.Mentions.{Counts, kept, mentioned, Mention, IsCounted, AreCounted}
use Rattle.query_core.specs.declared.mentions.Mentions.{Mentions}

last_now : (place : ℕ) (m other : Mentions) → m.last ≡ place → cond (eqb m.last place) m other ≡ m
last_now place m other is = ap (λ b. cond b m other) (eq-eqb m.last place is)

-- a second mention by one event changes nothing
mentioned_twice : (place : ℕ) (x : Option Mentions) → mentioned place (Some (mentioned place x)) ≡ mentioned place x
mentioned_twice place None = last_now place (record { events = 1; last = place }) _ refl
mentioned_twice place (Some m) = elim (eqb m.last place) as (λ b. eqb m.last place ≡ b → mentioned place (Some (cond b m (record { events = m.events + 1; last = place }))) ≡ cond b m (record { events = m.events + 1; last = place })) [
  | true ↦ λ is. last_now place m _ (eqb-true m.last place is)
  | false ↦ λ _. last_now place (record { events = m.events + 1; last = place }) _ refl
] refl

-- one mention after another
mention_then : (place : ℕ) (b s : Bool) (x cur new : Option Mentions) → cur ≡ cond b (Some (mentioned place x)) x → new ≡ cond s (Some (mentioned place cur)) cur → new ≡ cond (b || s) (Some (mentioned place x)) x
mention_then place true true x cur new first then' = then' ∙ ap (λ c. Some (mentioned place c)) first ∙ ap Some (mentioned_twice place x)
mention_then place true false x cur new first then' = then' ∙ first
mention_then place false true x cur new first then' = then' ∙ ap (λ c. Some (mentioned place c)) first
mention_then place false false x cur new first then' = then' ∙ first

here_or_not : (place : ℕ) (item i : List ℕ) (counts : Counts) (b : Bool) → same_item item i ≡ b
    → cond b (Some (mentioned place (kept counts item))) (kept counts i) ≡ cond b (Some (mentioned place (kept counts i))) (kept counts i)
here_or_not place item i counts true same = ap (λ j. Some (mentioned place (kept counts j))) ((bytes_decides item i).0 same)
here_or_not place item i counts false other = refl

-- what one item's mention leaves
pub one_mentioned : (place : ℕ) (item : List ℕ) (old new : Counts) → Updates item_cmp old new item (Some (mentioned place (kept old item)))
    → (i : List ℕ) → kept new i ≡ cond (same_item item i) (Some (mentioned place (kept old i))) (kept old i)
one_mentioned place item old new updates i =
    updates.0 i ∙ ap (λ b. cond b (Some (mentioned place (kept old item))) (kept old i)) (sym (texts_ties item i))
    ∙ here_or_not place item i old (same_item item i) refl

pub none_mentioned : (place : ℕ) (counts : Counts) → Mention counts counts place []
none_mentioned place counts i = refl

pub one_more_mentioned : (place : ℕ) (items : List (List ℕ)) (n : ℕ) (item : List ℕ) (first old new : Counts) → n < length items → item ≡ get_or items n item
    → Mention first old place (take n items) → Updates item_cmp old new item (Some (mentioned place (kept old item))) → Mention first new place (take (n + 1) items)
one_more_mentioned place items n item first old new below at so_far updates i =
    mention_then place (lists (take n items) i) (same_item item i) (kept first i) (kept old i) (kept new i) (so_far i) (one_mentioned place item old new updates i)
    ∙ ap (λ b. cond b (Some (mentioned place (kept first i))) (kept first i)) (sym (lists_more items n item below at i))

-- some items and then others
pub both_mentioned : (place : ℕ) (items others : List (List ℕ)) (first old new : Counts) → Mention first old place items → Mention old new place others → Mention first new place (items ++ others)
both_mentioned place items others first old new so_far more i =
    mention_then place (lists items i) (lists others i) (kept first i) (kept old i) (kept new i) (so_far i) (more i)
    ∙ ap (λ b. cond b (Some (mentioned place (kept first i))) (kept first i)) (sym (list_any-append (λ j. same_item j i) items others))

or_none : (b : Bool) → (b || false) ≡ b
or_none true = refl
or_none false = refl

pub single_mentioned : (place : ℕ) (item : List ℕ) (old new : Counts) → Updates item_cmp old new item (Some (mentioned place (kept old item))) → Mention old new place (item ∷ [])
single_mentioned place item old new updates i = one_mentioned place item old new updates i ∙ ap (λ b. cond b (Some (mentioned place (kept old i))) (kept old i)) (sym (or_none (same_item item i)))

-- ---- events

counted_none : (n place : ℕ) (b : Bool) → n ≡ 0 → IsCounted (n + cond b 1 0) (place + 1) (cond b (Some (mentioned place None)) None)
counted_none n place true none = (omega (arith, none), omega arith, omega arith)
counted_none n place false none = omega (arith, none)

counted_again : (n place : ℕ) (m : Mentions) → m.events ≡ n → 0 < n → m.last < place → IsCounted (n + 1) (place + 1) (Some (cond (eqb m.last place) m (record { events = m.events + 1; last = place })))
counted_again n place m is some before = elim (eqb m.last place) as (λ b. eqb m.last place ≡ b → IsCounted (n + 1) (place + 1) (Some (cond b m (record { events = m.events + 1; last = place })))) [
  | true ↦ λ now. let same = eqb-true m.last place now in absurd (omega (arith, same, before))
  | false ↦ λ _. (omega (arith, is), omega arith, omega arith)
] refl

counted_some : (n place : ℕ) (b : Bool) (m : Mentions) → m.events ≡ n → 0 < n → m.last < place → IsCounted (n + cond b 1 0) (place + 1) (cond b (Some (mentioned place (Some m))) (Some m))
counted_some n place true m is some before = counted_again n place m is some before
counted_some n place false m is some before = (omega (arith, is), omega (arith, some), omega (arith, before))

counted_next : (n place : ℕ) (b : Bool) (old : Option Mentions) → IsCounted n place old → IsCounted (n + cond b 1 0) (place + 1) (cond b (Some (mentioned place old)) old)
counted_next n place b None none = counted_none n place b none
counted_next n place b (Some m) (is, some, before) = counted_some n place b m is some before

-- one event more is counted
pub one_more_counted : (events : List Content) (place : ℕ) (e : Content) (old new : Counts) → place < length events → e ≡ get_or events place e
    → AreCounted (take place events) place old → Mention old new place (items_of e.body) → AreCounted (take (place + 1) events) (place + 1) new
one_more_counted events place e old new below at so_far mentions i =
    let count : events_naming (take (place + 1) events) i ≡ events_naming (take place events) i + cond (lists (items_of e.body) i) 1 0 =
    ap (λ es. events_naming es i) (take_more events place e below ∙ ap (λ z. take place events ++ z ∷ []) (sym at)) ∙ sum_by_push (λ (d : Content). cond (lists (items_of d.body) i) 1 0) (take place events) e in
    subst (λ n. IsCounted n (place + 1) (kept new i)) (sym count)
    (subst (IsCounted (events_naming (take place events) i + cond (lists (items_of e.body) i) 1 0) (place + 1)) (sym (mentions i))
    (counted_next (events_naming (take place events) i) place (lists (items_of e.body) i) (kept old i) (so_far i)))

-- ---- a new item

pub newly_mentioned : (place : ℕ) (old mid new : Counts) (item k : List ℕ) → mid ≡ old → k ≡ item → None ≡ kept old item → Updates item_cmp mid new k (Some (record { events = 1; last = place }))
    → Updates item_cmp old new item (Some (mentioned place (kept old item)))
newly_mentioned place old mid new item k same copied absent updates =
    subst (λ x. Updates item_cmp old new item (Some (mentioned place x))) absent
    (subst (λ j. Updates item_cmp old new j (Some (record { events = 1; last = place }))) copied
    (subst (λ (m : Counts). Updates item_cmp m new k (Some (record { events = 1; last = place }))) same updates))
