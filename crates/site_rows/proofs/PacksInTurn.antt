-- The rows of packs, read in turn: they are the only ones that begin so.
use Rattle.std.proofs.Common.{◌≡◌, ◌⊎◌, inl, inr, ℕ, ◌+◌, ◌<◌, ◌≤◌, ℤ, pos, Bool, true, false, Option, Some, None, List, [], ◌∷◌, ◌++◌, length, map, take, refl, sym, ap, subst, ◌∙◌, arith}
use Rattle.std.specs.List.{All, enumerate_from, slice_get}
use Rattle.std.proofs.lemmas.List.{append-nil, map-id}
use Rattle.std.proofs.lemmas.List.Elements.{All-nil}
use Rattle.event_json.specs.Contents.{kind_of, number_of}
use Rattle.event_json.specs.declared.bodies.Action.{Action}
use Rattle.event_json.specs.declared.bodies.Action.TheVariants.{Add, Observe, Delete}
use Rattle.event_json.specs.declared.bodies.Body.{Body}
use Rattle.event_json.specs.declared.bodies.Body.TheVariants.{Note, Ship, Make, Pack}
use Rattle.site_core.proofs.Places.{stands_within, taken_more}
use Rattle.site_rows.specs.BadParts.{AreBodies, IsBodyOf, IsPackTable}
use Rattle.site_rows.specs.BadRows.{IsFirstBad}
use Rattle.site_rows.specs.PartsInTurn.{AreAllReadBy, ArePacksRead, IsHead, IsHeadOf, IsListBy, IsPastBy, IsReadBy, IsStuckBy, IsWantingBy, pack_event, packed_event}
use Rattle.site_rows.specs.RecordRows.{body_rows, pack_rows, packed_row, packed_rows}
use Rattle.site_rows.specs.Texts.{IsItemText}
use Rattle.site_rows.specs.declared.rows.EventRow.{EventRow}
use Rattle.site_rows.specs.declared.rows.PackRow.{PackRow}
use Rattle.site_rows.specs.declared.rows.PackedRow.{PackedRow}
use Rattle.site_rows.proofs.EventsInTurn.{AreRead, left_over, none_read, read_more, stuck_there}
use Rattle.site_rows.proofs.MembersInTurn.{IsOff, same_members}
use Rattle.site_rows.proofs.PartsInTurn.{unlike}
use Rattle.site_rows.proofs.SameRecalls.{same_number}

-- ---- rows of later events
pub past_pack : (event m : ℕ) (body : Body) (rows : List PackRow) → event < m → IsPastBy pack_event event rows → IsPastBy pack_event event (pack_rows m body ++ rows)
past_pack event m (Note items) rows low past = past
past_pack event m (Ship items to outside) rows low past = past
past_pack event m (Make id ins outs) rows low past = past
past_pack event m (Pack action parent children) rows low past = λ same. let one : m ≡ event = same_number m event same in omega arith

past_children : (event m n : ℕ) (texts : List (List ℕ)) (rows : List PackedRow) → event < m → IsPastBy packed_event event rows
    → IsPastBy packed_event event (map (packed_row m) (enumerate_from n texts) ++ rows)
past_children event m n [] rows low past = past
past_children event m n (t ∷ texts) rows low past = λ same. let one : m ≡ event = same_number m event same in omega arith

pub past_packed : (event m : ℕ) (body : Body) (rows : List PackedRow) → event < m → IsPastBy packed_event event rows → IsPastBy packed_event event (packed_rows m body ++ rows)
past_packed event m (Note items) rows low past = past
past_packed event m (Ship items to outside) rows low past = past
past_packed event m (Make id ins outs) rows low past = past
past_packed event m (Pack action parent children) rows low past = past_children event m 0 children rows low past

-- ---- an event that has no rows in a table
pub no_rows : {R : Type 0} (event_of : R → ℤ) (rows_by : ℕ → Body → List R) (sites event : ℕ) (kind : ℤ) (id : Option (List ℕ)) (rows : List R) (at : ℕ) (body : Body)
    → ((b : Body) → kind ≡ pos (kind_of b) → rows_by event b ≡ []) → at ≤ length rows → IsBodyOf sites kind id body → IsReadBy event_of rows_by sites event kind id rows at at body
no_rows event_of rows_by sites event kind id rows at body none within good =
    let here = none body good.of_kind in
    record {
      within = within;
      good = good;
      listed = sym (append-nil (take at rows)) ∙ ap (λ xs. take at rows ++ xs) (sym here);
      only = λ other on behind is first past e.
          sym (ap (λ xs. xs ++ on) here) ∙ e ∙ ap (λ xs. xs ++ behind) (none other is.of_kind);
    }

-- only packs have rows of `pack` and `packed`, and they have none of `part`
pub no_part : (kind : ℤ) → kind ≡ pos 3 → (sites : List _) (event : ℕ) (b : Body) → kind ≡ pos (kind_of b) → body_rows sites event b ≡ []
no_part kind is sites event (Note items) same = absurd (unlike 3 0 (λ e. omega arith) (sym is ∙ same))
no_part kind is sites event (Ship items to outside) same = absurd (unlike 3 1 (λ e. omega arith) (sym is ∙ same))
no_part kind is sites event (Make id ins outs) same = absurd (unlike 3 2 (λ e. omega arith) (sym is ∙ same))
no_part kind is sites event (Pack action parent children) same = refl

pub no_pack : (kind : ℤ) → (kind ≡ pos 3 → ⊥) → (event : ℕ) (b : Body) → kind ≡ pos (kind_of b) → pack_rows event b ≡ []
no_pack kind other event (Note items) same = refl
no_pack kind other event (Ship items to outside) same = refl
no_pack kind other event (Make id ins outs) same = refl
no_pack kind other event (Pack action parent children) same = absurd (other same)

pub no_child : (kind : ℤ) → (kind ≡ pos 3 → ⊥) → (event : ℕ) (b : Body) → kind ≡ pos (kind_of b) → packed_rows event b ≡ []
no_child kind other event (Note items) same = refl
no_child kind other event (Ship items to outside) same = refl
no_child kind other event (Make id ins outs) same = refl
no_child kind other event (Pack action parent children) same = absurd (other same)

-- so they stay where they are with another event
pub packs_stay : (sites event : ℕ) (kind : ℤ) (id : Option (List ℕ)) (rows : List PackRow) (at : ℕ) (bad : Bool) (body : Body)
    → (kind ≡ pos 3 → ⊥) → at ≤ length rows → IsBodyOf sites kind id body → ArePacksRead sites event kind id rows at at bad bad body
packs_stay sites event kind id rows at true body other within good = (refl, refl)
packs_stay sites event kind id rows at false body other within good = no_rows pack_event pack_rows sites event kind id rows at body (no_pack kind other event) within good

-- ---- the row of a pack
pub same_action : (a b : Action) → number_of a ≡ number_of b → a ≡ b
same_action Add Add e = refl
same_action Add Observe e = absurd (omega (arith, e))
same_action Add Delete e = absurd (omega (arith, e))
same_action Observe Add e = absurd (omega (arith, e))
same_action Observe Observe e = refl
same_action Observe Delete e = absurd (omega (arith, e))
same_action Delete Add e = absurd (omega (arith, e))
same_action Delete Observe e = absurd (omega (arith, e))
same_action Delete Delete e = refl

pub is_head : (event : ℕ) (row : PackRow) (next : Option PackRow) (action : Action) (parent : Option (List ℕ)) → next ≡ Some row → row.event ≡ pos event
    → row.action ≡ pos (number_of action) → (parent ≡ row.parent) × IsHead action parent → IsHeadOf event next action parent
is_head event row next action parent there number says head =
    let container = sym head.0 in
    let same : row ≡ record { event = pos event; action = pos (number_of action); parent = parent } = λ i. record { event = number i; action = says i; parent = container i } in
    record { there = there ∙ ap Some same; head = head.1 }

pub no_head : (event : ℕ) (row : PackRow) (next : Option PackRow) (action : Action) → next ≡ Some row → row.action ≡ pos (number_of action)
    → ((parent : Option (List ℕ)) → (parent ≡ row.parent) × IsHead action parent → ⊥) → (other : Action) (parent : Option (List ℕ)) → IsHeadOf event next other parent → ⊥
no_head event row next action there says none other parent is =
    let same : row ≡ record { event = pos event; action = pos (number_of other); parent = parent } = let e = sym there ∙ is.there in cc in
    let one : other ≡ action = same_action other action (same_number (number_of other) (number_of action) (sym (ap (λ (r : PackRow). r.action) same) ∙ says)) in
    none parent (sym (ap (λ (r : PackRow). r.parent) same), subst (λ a. IsHead a parent) one is.head)

pub pack_good : (sites : ℕ) (action : Action) (parent : Option (List ℕ)) (children : List (List ℕ)) → IsHead action parent → length children ≤ 1000 → All IsItemText children
    → IsBodyOf sites (pos 3) None (Pack action parent children)
pack_good sites action parent children head few all = record { of_kind = refl; of_id = refl; limits = (few, head.some); members = (head.key, all) }

head_only : (sites event : ℕ) (action : Action) (parent : Option (List ℕ)) (children : List (List ℕ)) (next : Option PackRow)
    → AreAllReadBy pack_event pack_rows sites event (pos 3) None (pack_rows event (Pack action parent children)) next
head_only sites event action parent children next (Note items) on behind good first past e = absurd (unlike 3 0 (λ is. omega arith) good.of_kind)
head_only sites event action parent children next (Ship items to outside) on behind good first past e = absurd (unlike 3 1 (λ is. omega arith) good.of_kind)
head_only sites event action parent children next (Make id ins outs) on behind good first past e = absurd (unlike 3 2 (λ is. omega arith) good.of_kind)
head_only sites event action parent children next (Pack other container others) on behind good first past e = cc

pub pack_read : (sites event : ℕ) (rows : List PackRow) (at : ℕ) (action : Action) (parent : Option (List ℕ)) (children : List (List ℕ))
    → IsHeadOf event (slice_get rows at) action parent → length children ≤ 1000 → All IsItemText children
    → IsReadBy pack_event pack_rows sites event (pos 3) None rows at (at + 1) (Pack action parent children)
pack_read sites event rows at action parent children is few all =
    let low = stands_within rows at _ is.there in
    record {
      within = omega (arith, low);
      good = pack_good sites action parent children is.head few all;
      listed = taken_more rows at _ is.there;
      only = head_only sites event action parent children (slice_get rows (at + 1));
    }

-- it is bad or wanting
head_wanting : (sites event : ℕ) (next : Option PackRow) → ((action : Action) (parent : Option (List ℕ)) → IsHeadOf event next action parent → ⊥)
    → IsWantingBy pack_event pack_rows sites event (pos 3) None [] next
head_wanting sites event next none (Note items) on behind good first past e = unlike 3 0 (λ is. omega arith) good.of_kind
head_wanting sites event next none (Ship items to outside) on behind good first past e = unlike 3 1 (λ is. omega arith) good.of_kind
head_wanting sites event next none (Make id ins outs) on behind good first past e = unlike 3 2 (λ is. omega arith) good.of_kind
head_wanting sites event next none (Pack action parent children) on behind good first past e =
    none action parent (record { there = sym first ∙ ap (λ xs. slice_get xs 0) e; head = record { some = good.limits.1; key = good.members.0 } })

pub pack_stuck : (sites event : ℕ) (rows : List PackRow) (at : ℕ) → at ≤ length rows → ((action : Action) (parent : Option (List ℕ)) → IsHeadOf event (slice_get rows at) action parent → ⊥)
    → IsStuckBy pack_event pack_rows sites event (pos 3) None rows at at
pack_stuck sites event rows at within none = record {
  within = within;
  read = [];
  listed = sym (append-nil (take at rows));
  body = Pack Observe None [];
  good = pack_good sites Observe None [] (record { some = λ add. cc; key = tt }) (omega arith) (All-nil IsItemText);
  more = pack_rows event (Pack Observe None []);
  begins = refl;
  wanting = head_wanting sites event (slice_get rows at) none;
}

-- what becomes of the table with it
pub head_read : (sites event : ℕ) (rows : List PackRow) (from to : ℕ) (bad : Bool) (body : Body) → bad ≡ false
    → IsReadBy pack_event pack_rows sites event (pos 3) None rows from to body → ArePacksRead sites event (pos 3) None rows from to bad bad body
head_read sites event rows from to true body good read = let wrong : true ≡ false = good in cc
head_read sites event rows from to false body good read = read

pub head_bad : (sites event : ℕ) (rows : List PackRow) (from to : ℕ) (bad : Bool) (body : Body) → bad ≡ false
    → IsStuckBy pack_event pack_rows sites event (pos 3) None rows from to → ArePacksRead sites event (pos 3) None rows from to bad true body
head_bad sites event rows from to true body good stuck = let wrong : true ≡ false = good in cc
head_bad sites event rows from to false body good stuck = stuck

-- ---- its children
off_children : (event : ℕ) (rows : List PackedRow) → IsPastBy packed_event event rows → IsOff (packed_row event) (λ (r : PackedRow). r.text) (λ p. refl) rows
off_children event [] past = λ p is. cc
off_children event (row ∷ rows) past = λ p is. let same : row ≡ packed_row event p = cc in past (ap (λ (r : PackedRow). r.event) same)

children_only : (sites event : ℕ) (rows : List PackedRow) (from to : ℕ) (action : Action) (parent : Option (List ℕ)) (children : List (List ℕ))
    → IsListBy (packed_row event) IsItemText (λ t. t) 1000 rows from to children
    → AreAllReadBy packed_event packed_rows sites event (pos 3) None (packed_rows event (Pack action parent children)) (slice_get rows to)
children_only sites event rows from to action parent children read (Note items) on behind good first past e = absurd (unlike 3 0 (λ is. omega arith) good.of_kind)
children_only sites event rows from to action parent children read (Ship items sent outside) on behind good first past e = absurd (unlike 3 1 (λ is. omega arith) good.of_kind)
children_only sites event rows from to action parent children read (Make id ins outs) on behind good first past e = absurd (unlike 3 2 (λ is. omega arith) good.of_kind)
children_only sites event rows from to action parent children read (Pack other container others) on behind good first past e =
    let made = λ (texts : List (List ℕ)). map (packed_row event) (enumerate_from 0 texts) in
    let there : made (map (λ t. t) children) ++ on ≡ made (map (λ t. t) others) ++ behind =
    ap (λ ts. made ts ++ on) (map-id children) ∙ e ∙ ap (λ ts. made ts ++ behind) (sym (map-id others)) in
    (same_members (packed_row event) (λ (r : PackedRow). r.text) (λ p. refl) IsItemText (λ t. t) 1000 rows from to children others on behind read good.members.1 good.limits.0 first (off_children event behind past) there).1

pub children_read : (sites event : ℕ) (rows : List PackedRow) (from to : ℕ) (action : Action) (parent : Option (List ℕ)) (children : List (List ℕ))
    → IsHead action parent → IsListBy (packed_row event) IsItemText (λ t. t) 1000 rows from to children
    → IsReadBy packed_event packed_rows sites event (pos 3) None rows from to (Pack action parent children)
children_read sites event rows from to action parent children head read = record {
  within = read.within;
  good = pack_good sites action parent children head read.few read.all;
  listed = read.listed ∙ ap (λ ts. take from rows ++ map (packed_row event) (enumerate_from 0 ts)) (map-id children);
  only = children_only sites event rows from to action parent children read;
}

-- ---- all packs
-- the rows of `pack` up to a place are those of the events so far, or the next one is the first bad one
abbrev pub ArePacksSoFar : ℕ → List EventRow → List PackRow → ℕ → ℕ → Bool → List Body → Type 0
ArePacksSoFar sites events rows place at true bodies = (at ≤ length rows) × IsFirstBad (IsPackTable sites events) rows (at + 1)
ArePacksSoFar sites events rows place at false bodies = AreRead pack_event pack_rows past_pack sites events rows place at bodies

pub no_pack_yet : (sites : ℕ) (events : List EventRow) (rows : List PackRow) → ArePacksSoFar sites events rows 0 0 false []
no_pack_yet sites events rows = record { within = omega arith; listed = refl; goes_on = none_read pack_event pack_rows past_pack sites events (slice_get rows 0) }

pub packs_within : (sites : ℕ) (events : List EventRow) (rows : List PackRow) (place at : ℕ) (bad : Bool) (bodies : List Body) → ArePacksSoFar sites events rows place at bad bodies → at ≤ length rows
packs_within sites events rows place at true bodies so_far = so_far.0
packs_within sites events rows place at false bodies so_far = so_far.within

-- those of one event more
pub packs_more : (sites : ℕ) (events : List EventRow) (rows : List PackRow) (place from to : ℕ) (was bad : Bool) (row : EventRow) (bodies all : List Body) (body : Body)
    → AreBodies sites events all → slice_get events place ≡ Some row → AreBodies sites (take place events) bodies → length bodies ≡ place
    → ArePacksRead sites (place + 1) row.kind row.make_id rows from to was bad body → ArePacksSoFar sites events rows place from was bodies
    → ArePacksSoFar sites events rows (place + 1) to bad (bodies ++ body ∷ [])
packs_more sites events rows place from to true true row bodies all body have there each counted read so_far =
    subst (λ n. (n ≤ length rows) × IsFirstBad (IsPackTable sites events) rows (n + 1)) (sym read.0) so_far
packs_more sites events rows place from to true false row bodies all body have there each counted read so_far = let wrong : false ≡ true = read.1 in cc
packs_more sites events rows place from to false true row bodies all body have there each counted read so_far =
    (read.within, stuck_there pack_event pack_rows past_pack sites events rows place from to row bodies all have there each counted so_far read)
packs_more sites events rows place from to false false row bodies all body have there each counted read so_far =
    read_more pack_event pack_rows past_pack sites events rows place from to row bodies body there counted read so_far

-- at their end
pub packs_bad : (sites : ℕ) (events : List EventRow) (rows : List PackRow) (place at : ℕ) (bad : Bool) (bodies : List Body) → length events ≤ place
    → AreBodies sites (take place events) bodies → (bad ≡ true) ⊎ (at < length rows) → ArePacksSoFar sites events rows place at bad bodies → IsFirstBad (IsPackTable sites events) rows (at + 1)
packs_bad sites events rows place at true bodies past each wrong so_far = so_far.1
packs_bad sites events rows place at false bodies past each wrong so_far = elim wrong [
  | inl bad ↦ let wrong_way : false ≡ true = bad in cc
  | inr low ↦ left_over pack_event pack_rows past_pack sites events rows place at bodies past low each so_far
]

pub packs_good : (sites : ℕ) (events : List EventRow) (rows : List PackRow) (place at : ℕ) (bad : Bool) (bodies : List Body) → bad ≡ false
    → ArePacksSoFar sites events rows place at bad bodies → AreRead pack_event pack_rows past_pack sites events rows place at bodies
packs_good sites events rows place at true bodies good so_far = let wrong_way : true ≡ false = good in cc
packs_good sites events rows place at false bodies good so_far = so_far
