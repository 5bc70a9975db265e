-- The rows of an event's lists, read in turn: they are the only ones that begin so.
use Rattle.std.proofs.Common.{◌≡◌, inl, inr, ℕ, ◌+◌, ◌-◌, ◌<◌, ◌≤◌, pos, Bool, true, false, Option, Some, None, List, [], ◌∷◌, ◌++◌, length, map, take, refl, sym, ap, subst, ◌∙◌, append_assoc, arith}
use Rattle.std.specs.Prelude.{⊤, ◌==◌, is_some, not}
use Rattle.std.specs.List.{All, enumerate_from, slice_get}
use Rattle.std.proofs.lemmas.Bool.Decides.{eqb_tells}
use Rattle.std.proofs.lemmas.List.{append-nil, length-map, map-id, nil_from_length}
use Rattle.std.proofs.lemmas.List.Elements.{All-nil, All-cons}
use Rattle.epc_core.specs.Items.{uri_key}
use Rattle.epc_core.specs.Spellings.{SpellsNumber}
use Rattle.event_json.specs.Events.{IsIdentifier}
use Rattle.event_json.specs.Sites.{Site}
use Rattle.event_json.specs.declared.bodies.Body.TheVariants.{Note, Ship, Make, Pack}
use Rattle.site_rows.specs.BadParts.{IsBodyOf}
use Rattle.site_rows.specs.PartsInTurn.{IsListRead, IsPast, AreAllRead, IsWanting, IsBodyRead, IsStuck}
use Rattle.site_rows.specs.Texts.{IsItemText, IsPlainText}
use Rattle.site_rows.specs.RecordRows.{body_rows, name_of, part_row, part_rows}
use Rattle.site_rows.specs.declared.rows.PartRow.{PartRow}
use Rattle.site_rows.proofs.EventsInTurn.{next_there}
use Rattle.site_rows.proofs.ListsInTurn.{two_lists}
use Rattle.site_rows.proofs.MembersInTurn.{IsOff, same_members as only_members}
use Rattle.site_rows.proofs.SameRecalls.{same_number}

-- the first row, where there is one and it is of the event, is of a higher role
abbrev Higher : ℕ → ℕ → List PartRow → Type 0
Higher event role [] = ⊤
Higher event role (row ∷ rows) = row.event ≡ pos event → (k : ℕ) → row.role ≡ pos k → role < k

past_higher : (event role : ℕ) (rows : List PartRow) → IsPast event rows → Higher event role rows
past_higher event role [] past = tt
past_higher event role (row ∷ rows) past = λ same. absurd (past same)

higher_yet : (event low high : ℕ) (rows : List PartRow) → low < high → Higher event high rows → Higher event low rows
higher_yet event low high [] less above = tt
higher_yet event low high (row ∷ rows) less above = λ same k is. let beyond : high < k = above same k is in omega arith

-- rows of the members of a list
abbrev listed : {M : Type 0} → (M → List ℕ) → ℕ → ℕ → ℕ → List M → List PartRow
listed text event role n ms = map (part_row event role) (enumerate_from n (map text ms))

higher_list : {M : Type 0} (text : M → List ℕ) (event low high n : ℕ) (ms : List M) (rows : List PartRow) → low < high → Higher event high rows → Higher event low (listed text event high n ms ++ rows)
higher_list text event low high n [] rows less above = higher_yet event low high rows less above
higher_list text event low high n (m ∷ ms) rows less above = λ same k is. let one : high ≡ k = same_number high k is in omega arith

-- so it is none of a lower list
off_list : (event role : ℕ) (rows : List PartRow) → Higher event role rows → IsOff (part_row event role) (λ (r : PartRow). r.text) (λ p. refl) rows
off_list event role [] above = λ p is. cc
off_list event role (row ∷ rows) above = λ p is.
    let same : row ≡ part_row event role p = cc in
    let wrong : role < role = subst (λ r. Higher event role (r ∷ rows)) same above refl role refl in
    omega (arith, wrong)

same_members : {M : Type 0} (Is : M → Type 0) (text : M → List ℕ) (event role most : ℕ) (rows : List PartRow) (from to : ℕ) (ms other : List M) (on behind : List PartRow)
    → IsListRead Is text event role most rows from to ms → All Is other → length other ≤ most → slice_get on 0 ≡ slice_get rows to → Higher event role behind
    → part_rows event role (map text ms) ++ on ≡ part_rows event role (map text other) ++ behind → (map text ms ≡ map text other) × (on ≡ behind)
same_members Is text event role most rows from to ms other on behind read all few first above e =
    only_members (part_row event role) (λ (r : PartRow). r.text) (λ p. refl) Is text most rows from to ms other on behind read all few first (off_list event role behind above) e

-- the same of members that are their texts
same_texts : (Is : List ℕ → Type 0) (event role most : ℕ) (rows : List PartRow) (from to : ℕ) (ms other : List (List ℕ)) (on behind : List PartRow)
    → IsListRead Is (λ t. t) event role most rows from to ms → All Is other → length other ≤ most → slice_get on 0 ≡ slice_get rows to → Higher event role behind
    → part_rows event role ms ++ on ≡ part_rows event role other ++ behind → (ms ≡ other) × (on ≡ behind)
same_texts Is event role most rows from to ms other on behind read all few first above e =
    let there : part_rows event role (map (λ t. t) ms) ++ on ≡ part_rows event role (map (λ t. t) other) ++ behind =
    ap (λ ts. part_rows event role ts ++ on) (map-id ms) ∙ e ∙ ap (λ ts. part_rows event role ts ++ behind) (sym (map-id other)) in
    let same = same_members Is (λ t. t) event role most rows from to ms other on behind read all few first above there in
    (sym (map-id ms) ∙ same.0 ∙ map-id other, same.1)

texts_listed : (Is : List ℕ → Type 0) (event role most : ℕ) (rows : List PartRow) (from to : ℕ) (ms : List (List ℕ)) → IsListRead Is (λ t. t) event role most rows from to ms
    → take to rows ≡ take from rows ++ part_rows event role ms
texts_listed Is event role most rows from to ms read = read.listed ∙ ap (λ ts. take from rows ++ part_rows event role ts) (map-id ms)

pub unlike : (a b : ℕ) → (a ≡ b → ⊥) → pos a ≡ pos b → ⊥
unlike a b other same = other (same_number a b same)

-- whether a list is empty, and whether there is an identifier
pub none_there : (n : ℕ) (b : Bool) → b ≡ (n == 0) → b ≡ true → n ≡ 0
none_there n b is empty = elim (eqb_tells n 0) [
  | inl tells ↦ tells.1
  | inr tells ↦ let wrong : true ≡ false = sym empty ∙ is ∙ tells.0 in cc
]

pub some_there : (n : ℕ) (b : Bool) → b ≡ (n == 0) → b ≡ false → 0 < n
some_there n b is full = elim (eqb_tells n 0) [
  | inl tells ↦ let wrong : false ≡ true = sym full ∙ is ∙ tells.0 in cc
  | inr tells ↦ omega (arith, tells.1)
]

pub no_id : (id : Option (List ℕ)) (b : Bool) → is_some id ≡ not b → b ≡ true → id ≡ None
no_id None b is none = refl
no_id (Some text) b is none = let wrong : true ≡ false = is ∙ ap not none in cc

pub some_id : (id : Option (List ℕ)) (b : Bool) → is_some id ≡ not b → b ≡ false → id ≡ None → ⊥
some_id id b is some none = let wrong : false ≡ true = ap is_some (sym none) ∙ is ∙ ap not some in cc

-- ---- what was seen
note_only : (sites : List Site) (event : ℕ) (rows : List PartRow) (from to : ℕ) (items : List (List ℕ)) → IsListRead IsItemText (λ t. t) event 0 1000 rows from to items
    → AreAllRead sites event (pos 0) None (body_rows sites event (Note items)) (slice_get rows to)
note_only sites event rows from to items read (Note others) on behind good first past e =
    (same_texts IsItemText event 0 1000 rows from to items others on behind read good.members good.limits first (past_higher event 0 behind past) e).1
note_only sites event rows from to items read (Ship others sent outside) on behind good first past e = absurd (unlike 0 1 (λ is. omega arith) good.of_kind)
note_only sites event rows from to items read (Make id ins outs) on behind good first past e = absurd (unlike 0 2 (λ is. omega arith) good.of_kind)
note_only sites event rows from to items read (Pack action parent children) on behind good first past e = absurd (unlike 0 3 (λ is. omega arith) good.of_kind)

pub note_read : (sites : List Site) (event : ℕ) (rows : List PartRow) (from to : ℕ) (items : List (List ℕ)) → IsListRead IsItemText (λ t. t) event 0 1000 rows from to items
    → IsBodyRead sites event (pos 0) None rows from to (Note items)
note_read sites event rows from to items read = record {
  within = read.within;
  good = record { of_kind = refl; of_id = refl; limits = read.few; members = read.all };
  listed = texts_listed IsItemText event 0 1000 rows from to items read;
  only = note_only sites event rows from to items read;
}

-- ---- what was shipped
pub record IsShipRead (sites : List Site) (event : ℕ) (rows : List PartRow) (from second third to : ℕ) (items : List (List ℕ)) (sent : List ℕ) (outside : List (List ℕ)) : Type 0 where
  pub seen : IsListRead IsItemText (λ t. t) event 0 1000 rows from second items
  pub shipped : IsListRead (λ (t : ℕ). t < length sites) (name_of sites) event 1 1000 rows second third sent
  pub left : IsListRead IsPlainText (λ t. t) event 2 (1000 - length sent) rows third to outside

-- three lists, one behind the other
in_turn : (a b c d : List PartRow) → ((a ++ b) ++ c) ++ d ≡ a ++ (b ++ (c ++ d))
in_turn a b c d = append_assoc (a ++ b) c d ∙ append_assoc a b (c ++ d)

record IsSameShipment (sites : List Site) (items others : List (List ℕ)) (sent to : List ℕ) (outside texts : List (List ℕ)) (on behind : List PartRow) : Type 0 where
  names : map (name_of sites) sent ≡ map (name_of sites) to
  away : outside ≡ texts
  same : on ≡ behind

same_shipment : (sites : List Site) (event : ℕ) (rows : List PartRow) (from second third end : ℕ) (items : List (List ℕ)) (sent : List ℕ) (outside : List (List ℕ))
    → IsShipRead sites event rows from second third end items sent outside → (others : List (List ℕ)) (to : List ℕ) (texts : List (List ℕ)) (on behind : List PartRow)
    → IsBodyOf (length sites) (pos 1) None (Ship others to texts) → slice_get on 0 ≡ slice_get rows end → IsPast event behind
    → body_rows sites event (Ship items sent outside) ++ on ≡ body_rows sites event (Ship others to texts) ++ behind → IsSameShipment sites items others sent to outside texts on behind
same_shipment sites event rows from second third end items sent outside read others to texts on behind good first past e =
    let names = map (name_of sites) sent in
    let a = part_rows event 0 items in
    let b = part_rows event 1 names in
    let c = part_rows event 2 outside in
    let b2 = part_rows event 1 (map (name_of sites) to) in
    let c2 = part_rows event 2 texts in
    let all : a ++ (b ++ (c ++ on)) ≡ part_rows event 0 others ++ (b2 ++ (c2 ++ behind)) = sym (in_turn a b c on) ∙ e ∙ in_turn (part_rows event 0 others) b2 c2 behind in
    let last : Higher event 1 (c2 ++ behind) =
    subst (λ ts. Higher event 1 (part_rows event 2 ts ++ behind)) (map-id texts) (higher_list (λ t. t) event 1 2 0 texts behind (omega arith) (past_higher event 2 behind past)) in
    let front : Higher event 0 (b2 ++ (c2 ++ behind)) = higher_list (name_of sites) event 0 1 0 to (c2 ++ behind) (omega arith) last in
    let at_third = next_there rows third end c on read.shipped.within read.left.within (texts_listed IsPlainText event 2 (1000 - length sent) rows third end outside read.left) first in
    let at_second = next_there rows second third b (c ++ on) read.seen.within read.shipped.within read.shipped.listed at_third in
    let one = same_texts IsItemText event 0 1000 rows from second items others (b ++ (c ++ on)) (b2 ++ (c2 ++ behind)) read.seen good.members.0 good.limits.0 at_second front all in
    let limits : length to + length texts ≤ 1000 = good.limits.2 in
    let two = same_members (λ (t : ℕ). t < length sites) (name_of sites) event 1 1000 rows second third sent to (c ++ on) (c2 ++ behind) read.shipped good.members.1 (omega (arith, limits)) at_third last one.1 in
    let size : length sent ≡ length to = sym (length-map sent (name_of sites)) ∙ ap length two.0 ∙ length-map to (name_of sites) in
    let three = same_texts IsPlainText event 2 (1000 - length sent) rows third end outside texts on behind read.left good.members.2 (omega (arith, limits, size)) first (past_higher event 2 behind past) two.1 in
    record { names = two.0; away = three.0; same = three.1 }

ship_listed : (sites : List Site) (event : ℕ) (rows : List PartRow) (from second third end : ℕ) (items : List (List ℕ)) (sent : List ℕ) (outside : List (List ℕ))
    → IsShipRead sites event rows from second third end items sent outside → take end rows ≡ take from rows ++ body_rows sites event (Ship items sent outside)
ship_listed sites event rows from second third end items sent outside read =
    let a = part_rows event 0 items in
    let b = part_rows event 1 (map (name_of sites) sent) in
    let c = part_rows event 2 outside in
    let one = texts_listed IsItemText event 0 1000 rows from second items read.seen in
    let two = two_lists (take from rows) a b (take second rows) (take third rows) one read.shipped.listed in
    two_lists (take from rows) (a ++ b) c (take third rows) (take end rows) two (texts_listed IsPlainText event 2 (1000 - length sent) rows third end outside read.left)

ship_only : (sites : List Site) (event : ℕ) (rows : List PartRow) (from second third end : ℕ) (items : List (List ℕ)) (sent : List ℕ) (outside : List (List ℕ))
    → IsShipRead sites event rows from second third end items sent outside → AreAllRead sites event (pos 1) None (body_rows sites event (Ship items sent outside)) (slice_get rows end)
ship_only sites event rows from second third end items sent outside read (Note others) on behind good first past e = absurd (unlike 1 0 (λ is. omega arith) good.of_kind)
ship_only sites event rows from second third end items sent outside read (Ship others to texts) on behind good first past e =
    (same_shipment sites event rows from second third end items sent outside read others to texts on behind good first past e).same
ship_only sites event rows from second third end items sent outside read (Make id ins outs) on behind good first past e = absurd (unlike 1 2 (λ is. omega arith) good.of_kind)
ship_only sites event rows from second third end items sent outside read (Pack action parent children) on behind good first past e = absurd (unlike 1 3 (λ is. omega arith) good.of_kind)

pub ship_read : (sites : List Site) (event : ℕ) (rows : List PartRow) (from second third end : ℕ) (items : List (List ℕ)) (sent : List ℕ) (outside : List (List ℕ))
    → IsShipRead sites event rows from second third end items sent outside → 0 < length sent + length outside → IsBodyRead sites event (pos 1) None rows from end (Ship items sent outside)
ship_read sites event rows from second third end items sent outside read some = record {
  within = read.left.within;
  good = record {
    of_kind = refl;
    of_id = refl;
    limits = (read.seen.few, some, omega (arith, read.shipped.few, read.left.few));
    members = (read.seen.all, read.shipped.all, read.left.all);
  };
  listed = ship_listed sites event rows from second third end items sent outside read;
  only = ship_only sites event rows from second third end items sent outside read;
}

-- a plain text
abbrev pub some_text : List ℕ
some_text = 120 ∷ []

pub some_plain : IsPlainText some_text
unfolding lib.Utf8.encode
some_plain = (record { some = omega arith; few = omega arith; allowed = refl }, (some_text, (refl, refl)))

ship_wanting : (sites : List Site) (event : ℕ) (rows : List PartRow) (from second third end : ℕ) (items : List (List ℕ)) (sent : List ℕ) (outside : List (List ℕ))
    → IsShipRead sites event rows from second third end items sent outside → length sent ≡ 0 → length outside ≡ 0
    → IsWanting sites event (pos 1) None (body_rows sites event (Ship items sent outside)) (slice_get rows end)
ship_wanting sites event rows from second third end items sent outside read no_site none (Note others) on behind good first past e = unlike 1 0 (λ is. omega arith) good.of_kind
ship_wanting sites event rows from second third end items sent outside read no_site none (Ship others to texts) on behind good first past e =
    let same = same_shipment sites event rows from second third end items sent outside read others to texts on behind good first past e in
    let size : length sent ≡ length to = sym (length-map sent (name_of sites)) ∙ ap length same.names ∙ length-map to (name_of sites) in
    let away : length outside ≡ length texts = ap length same.away in
    let some : 0 < length to + length texts = good.limits.1 in
    omega (arith, size, away, no_site, none, some)
ship_wanting sites event rows from second third end items sent outside read no_site none (Make id ins outs) on behind good first past e = unlike 1 2 (λ is. omega arith) good.of_kind
ship_wanting sites event rows from second third end items sent outside read no_site none (Pack action parent children) on behind good first past e = unlike 1 3 (λ is. omega arith) good.of_kind

pub ship_stuck : (sites : List Site) (event : ℕ) (rows : List PartRow) (from second third end : ℕ) (items : List (List ℕ)) (sent : List ℕ) (outside : List (List ℕ))
    → IsShipRead sites event rows from second third end items sent outside → length sent ≡ 0 → length outside ≡ 0 → IsStuck sites event (pos 1) None rows from end
ship_stuck sites event rows from second third end items sent outside read no_site none =
    let a = part_rows event 0 items in
    let b = part_rows event 1 (map (name_of sites) sent) in
    let last = part_rows event 2 (some_text ∷ []) in
    record {
      within = read.left.within;
      read = body_rows sites event (Ship items sent outside);
      listed = ship_listed sites event rows from second third end items sent outside read;
      body = Ship items sent (some_text ∷ []);
      good = record {
        of_kind = refl;
        of_id = refl;
        limits = (read.seen.few, omega arith, omega (arith, no_site));
        members = (read.seen.all, read.shipped.all, All-cons IsPlainText some_text [] some_plain (All-nil IsPlainText));
      };
      more = last;
      begins = ap (λ xs. xs ++ last) (sym (append-nil (a ++ b))) ∙ ap (λ ts. ((a ++ b) ++ part_rows event 2 ts) ++ last) (sym (nil_from_length outside none));
      wanting = ship_wanting sites event rows from second third end items sent outside read no_site none;
    }

-- ---- what was made
record IsMakeRead (event : ℕ) (rows : List PartRow) (from second to : ℕ) (ins outs : List (List ℕ)) : Type 0 where
  pub inputs : IsListRead IsItemText (λ t. t) event 3 1000 rows from second ins
  pub outputs : IsListRead IsItemText (λ t. t) event 4 1000 rows second to outs

record IsSameMake (ins ins2 outs outs2 : List (List ℕ)) (on behind : List PartRow) : Type 0 where
  inputs : ins ≡ ins2
  outputs : outs ≡ outs2
  same : on ≡ behind

higher_texts : (event low high : ℕ) (texts : List (List ℕ)) (rows : List PartRow) → low < high → Higher event high rows → Higher event low (part_rows event high texts ++ rows)
higher_texts event low high texts rows less above =
    subst (λ ts. Higher event low (part_rows event high ts ++ rows)) (map-id texts) (higher_list (λ t. t) event low high 0 texts rows less above)

same_make : (sites : List Site) (event : ℕ) (rows : List PartRow) (from second end : ℕ) (id : Option (List ℕ)) (ins outs : List (List ℕ)) → IsMakeRead event rows from second end ins outs
    → (id2 : Option (List ℕ)) (ins2 outs2 : List (List ℕ)) (on behind : List PartRow) → IsBodyOf (length sites) (pos 2) id (Make id2 ins2 outs2) → slice_get on 0 ≡ slice_get rows end → IsPast event behind
    → body_rows sites event (Make id ins outs) ++ on ≡ body_rows sites event (Make id2 ins2 outs2) ++ behind → IsSameMake ins ins2 outs outs2 on behind
same_make sites event rows from second end id ins outs read id2 ins2 outs2 on behind good first past e =
    let a = part_rows event 3 ins in
    let b = part_rows event 4 outs in
    let b2 = part_rows event 4 outs2 in
    let all : a ++ (b ++ on) ≡ part_rows event 3 ins2 ++ (b2 ++ behind) = sym (append_assoc a b on) ∙ e ∙ append_assoc (part_rows event 3 ins2) b2 behind in
    let last = past_higher event 4 behind past in
    let at_second = next_there rows second end b on read.inputs.within read.outputs.within (texts_listed IsItemText event 4 1000 rows second end outs read.outputs) first in
    let one = same_texts IsItemText event 3 1000 rows from second ins ins2 (b ++ on) (b2 ++ behind) read.inputs good.members.0 good.limits.1 at_second (higher_texts event 3 4 outs2 behind (omega arith) last) all in
    let two = same_texts IsItemText event 4 1000 rows second end outs outs2 on behind read.outputs good.members.1 good.limits.2 first last one.1 in
    record { inputs = one.0; outputs = two.0; same = two.1 }

make_listed : (sites : List Site) (event : ℕ) (rows : List PartRow) (from second end : ℕ) (id : Option (List ℕ)) (ins outs : List (List ℕ)) → IsMakeRead event rows from second end ins outs
    → take end rows ≡ take from rows ++ body_rows sites event (Make id ins outs)
make_listed sites event rows from second end id ins outs read =
    two_lists (take from rows) (part_rows event 3 ins) (part_rows event 4 outs) (take second rows) (take end rows)
    (texts_listed IsItemText event 3 1000 rows from second ins read.inputs) (texts_listed IsItemText event 4 1000 rows second end outs read.outputs)

make_only : (sites : List Site) (event : ℕ) (rows : List PartRow) (from second end : ℕ) (id : Option (List ℕ)) (ins outs : List (List ℕ)) → IsMakeRead event rows from second end ins outs
    → AreAllRead sites event (pos 2) id (body_rows sites event (Make id ins outs)) (slice_get rows end)
make_only sites event rows from second end id ins outs read (Note others) on behind good first past e = absurd (unlike 2 0 (λ is. omega arith) good.of_kind)
make_only sites event rows from second end id ins outs read (Ship others to texts) on behind good first past e = absurd (unlike 2 1 (λ is. omega arith) good.of_kind)
make_only sites event rows from second end id ins outs read (Make id2 ins2 outs2) on behind good first past e =
    (same_make sites event rows from second end id ins outs read id2 ins2 outs2 on behind good first past e).same
make_only sites event rows from second end id ins outs read (Pack action parent children) on behind good first past e = absurd (unlike 2 3 (λ is. omega arith) good.of_kind)

pub make_read : (sites : List Site) (event : ℕ) (rows : List PartRow) (from second end : ℕ) (id : Option (List ℕ)) (ins outs : List (List ℕ))
    → IsListRead IsItemText (λ t. t) event 3 1000 rows from second ins → IsListRead IsItemText (λ t. t) event 4 1000 rows second end outs
    → IsIdentifier id → (id ≡ None → (0 < length ins) × (0 < length outs)) → IsBodyRead sites event (pos 2) id rows from end (Make id ins outs)
make_read sites event rows from second end id ins outs inputs outputs plain some =
    let read : IsMakeRead event rows from second end ins outs = record { inputs = inputs; outputs = outputs } in
    record {
      within = outputs.within;
      good = record { of_kind = refl; of_id = refl; limits = (plain, inputs.few, outputs.few, some); members = (inputs.all, outputs.all) };
      listed = make_listed sites event rows from second end id ins outs read;
      only = make_only sites event rows from second end id ins outs read;
    }

-- the key of an item
some_key : IsItemText (uri_key some_text)
unfolding lib.Utf8.encode
some_key =
    let other : (k : List ℕ) → SpellsNumber some_text k → ⊥ = λ k spells. elim spells [
      | inl sgtin ↦ elim sgtin [
        | inl uri ↦ let is = uri.is in cc
        | inr link ↦ let is = link.is in cc
      ]
      | inr sscc ↦ elim sscc [
        | inl uri ↦ let is = uri.is in cc
        | inr link ↦ let is = link.is in cc
      ]
    ] in
    ((some_text, record { plain = some_plain.0; item = inr (record { other = other; names = refl }) }), (uri_key some_text, (refl, refl)))

pub some_keys : All IsItemText (uri_key some_text ∷ [])
some_keys = All-cons IsItemText (uri_key some_text) [] some_key (All-nil IsItemText)

-- an input is missing
no_inputs : (sites : List Site) (event : ℕ) (rows : List PartRow) (from second : ℕ) (id : Option (List ℕ)) (ins : List (List ℕ)) → IsListRead IsItemText (λ t. t) event 3 1000 rows from second ins
    → id ≡ None → length ins ≡ 0 → IsWanting sites event (pos 2) id (part_rows event 3 ins) (slice_get rows second)
no_inputs sites event rows from second id ins read no_id none (Note others) on behind good first past e = unlike 2 0 (λ is. omega arith) good.of_kind
no_inputs sites event rows from second id ins read no_id none (Ship others to texts) on behind good first past e = unlike 2 1 (λ is. omega arith) good.of_kind
no_inputs sites event rows from second id ins read no_id none (Make id2 ins2 outs2) on behind good first past e =
    let b2 = part_rows event 4 outs2 in
    let all : part_rows event 3 ins ++ on ≡ part_rows event 3 ins2 ++ (b2 ++ behind) = e ∙ append_assoc (part_rows event 3 ins2) b2 behind in
    let one = same_texts IsItemText event 3 1000 rows from second ins ins2 on (b2 ++ behind) read good.members.0 good.limits.1 first (higher_texts event 3 4 outs2 behind (omega arith) (past_higher event 4 behind past)) all in
    let some : 0 < length ins2 = (good.limits.3 (sym good.of_id ∙ no_id)).0 in
    omega (arith, none, some, ap length one.0)
no_inputs sites event rows from second id ins read no_id none (Pack action parent children) on behind good first past e = unlike 2 3 (λ is. omega arith) good.of_kind

pub make_without_input : (sites : List Site) (event : ℕ) (rows : List PartRow) (from second : ℕ) (id : Option (List ℕ)) (ins : List (List ℕ)) → IsListRead IsItemText (λ t. t) event 3 1000 rows from second ins
    → IsIdentifier id → id ≡ None → length ins ≡ 0 → IsStuck sites event (pos 2) id rows from second
make_without_input sites event rows from second id ins read plain no_id none =
    let keys = uri_key some_text ∷ [] in
    record {
      within = read.within;
      read = part_rows event 3 ins;
      listed = texts_listed IsItemText event 3 1000 rows from second ins read;
      body = Make id keys keys;
      good = record { of_kind = refl; of_id = refl; limits = (plain, omega arith, omega arith, λ _. (omega arith, omega arith)); members = (some_keys, some_keys) };
      more = part_rows event 3 keys ++ part_rows event 4 keys;
      begins = ap (λ ts. part_rows event 3 ts ++ (part_rows event 3 keys ++ part_rows event 4 keys)) (sym (nil_from_length ins none));
      wanting = no_inputs sites event rows from second id ins read no_id none;
    }

-- an output is missing
no_outputs : (sites : List Site) (event : ℕ) (rows : List PartRow) (from second end : ℕ) (id : Option (List ℕ)) (ins outs : List (List ℕ)) → IsMakeRead event rows from second end ins outs
    → id ≡ None → length outs ≡ 0 → IsWanting sites event (pos 2) id (body_rows sites event (Make id ins outs)) (slice_get rows end)
no_outputs sites event rows from second end id ins outs read no_id none (Note others) on behind good first past e = unlike 2 0 (λ is. omega arith) good.of_kind
no_outputs sites event rows from second end id ins outs read no_id none (Ship others to texts) on behind good first past e = unlike 2 1 (λ is. omega arith) good.of_kind
no_outputs sites event rows from second end id ins outs read no_id none (Make id2 ins2 outs2) on behind good first past e =
    let same = same_make sites event rows from second end id ins outs read id2 ins2 outs2 on behind good first past e in
    let some : 0 < length outs2 = (good.limits.3 (sym good.of_id ∙ no_id)).1 in
    omega (arith, none, some, ap length same.outputs)
no_outputs sites event rows from second end id ins outs read no_id none (Pack action parent children) on behind good first past e = unlike 2 3 (λ is. omega arith) good.of_kind

pub make_without_output : (sites : List Site) (event : ℕ) (rows : List PartRow) (from second end : ℕ) (id : Option (List ℕ)) (ins outs : List (List ℕ))
    → IsListRead IsItemText (λ t. t) event 3 1000 rows from second ins → IsListRead IsItemText (λ t. t) event 4 1000 rows second end outs
    → IsIdentifier id → id ≡ None → 0 < length ins → length outs ≡ 0 → IsStuck sites event (pos 2) id rows from end
make_without_output sites event rows from second end id ins outs inputs outputs plain no_id some none =
    let keys = uri_key some_text ∷ [] in
    let read : IsMakeRead event rows from second end ins outs = record { inputs = inputs; outputs = outputs } in
    let a = part_rows event 3 ins in
    let last = part_rows event 4 keys in
    record {
      within = outputs.within;
      read = body_rows sites event (Make id ins outs);
      listed = make_listed sites event rows from second end id ins outs read;
      body = Make id ins keys;
      good = record { of_kind = refl; of_id = refl; limits = (plain, inputs.few, omega arith, λ _. (some, omega arith)); members = (inputs.all, some_keys) };
      more = last;
      begins = ap (λ xs. xs ++ last) (sym (append-nil a)) ∙ ap (λ ts. (a ++ part_rows event 4 ts) ++ last) (sym (nil_from_length outs none));
      wanting = no_outputs sites event rows from second end id ins outs read no_id none;
    }
