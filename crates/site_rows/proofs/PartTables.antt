-- Events that have bodies, and which rows of lists come after those of an event.
use Rattle.std.proofs.Common.{◌≡◌, ◌⊎◌, inl, inr, ℕ, zero, suc, ◌+◌, ◌<◌, ◌≤◌, ℤ, pos, Option, Some, None, List, [], ◌∷◌, ◌++◌, map, refl, sym, ap, subst, ◌∙◌, append_assoc, arith}
use Rattle.std.specs.List.{All, enumerate_from, slice_get}
use Rattle.std.proofs.lemmas.List.Elements.{All-nil, All-cons, All-head, All-tail}
use Rattle.epc_core.specs.Items.{uri_key}
use Rattle.site_rows.specs.Texts.{IsItemText, IsPlainText, IsTextOrNone}
use Rattle.event_json.specs.Events.{Content}
use Rattle.event_json.specs.Sites.{Site, ShipsAmong}
use Rattle.event_json.specs.declared.bodies.Action.TheVariants.{Observe}
use Rattle.event_json.specs.declared.bodies.Body.{Body}
use Rattle.event_json.specs.declared.bodies.Body.TheVariants.{Note, Ship, Make, Pack}
use Rattle.site_rows.specs.BadEvents.{IsEvent, IsEventTable}
use Rattle.site_rows.specs.BadParts.{AreBodies, AreMembers, IsBodyOf}
use Rattle.site_rows.specs.Laws.{IsEventAmong}
use Rattle.site_rows.specs.PartsInTurn.{IsPast}
use Rattle.site_rows.specs.RecordRows.{body_rows, event_row, name_of, part_row, part_rows}
use Rattle.site_rows.specs.declared.rows.EventRow.{EventRow}
use Rattle.site_rows.specs.declared.rows.PartRow.{PartRow}
use Rattle.site_rows.proofs.PartsInTurn.{some_keys, some_plain, some_text, unlike}
use Rattle.site_rows.proofs.SameRecalls.{same_number}

-- they ship to sites of the list
ships_among : (sites : ℕ) (body : Body) → AreMembers sites body → ShipsAmong sites body
ships_among sites (Note items) members = tt
ships_among sites (Ship items to outside) members = members.1
ships_among sites (Make id ins outs) members = tt
ships_among sites (Pack action parent children) members = tt

pub all_ship_among : (sites : ℕ) (es : List Content) → All (IsEventAmong sites) es → All (λ (e : Content). ShipsAmong sites e.body) es
all_ship_among sites [] all = All-nil (λ (e : Content). ShipsAmong sites e.body)
all_ship_among sites (e ∷ es) all =
    All-cons (λ (x : Content). ShipsAmong sites x.body) e es (ships_among sites e.body (All-head (IsEventAmong sites) e es all).members) (all_ship_among sites es (All-tail (IsEventAmong sites) e es all))

-- they are events, where their rows have plain identifiers and transformationIDs
pub all_among : (sites n : ℕ) (rows : List EventRow) (es : List Content) → AreBodies sites rows (map (λ (e : Content). e.body) es) → rows ≡ map event_row (enumerate_from n es)
    → ((k : ℕ) (row : EventRow) → slice_get rows k ≡ Some row → IsTextOrNone row.id × IsTextOrNone row.make_id) → All (IsEventAmong sites) es
all_among sites n rows [] h is plain = All-nil (IsEventAmong sites)
all_among sites n [] (e ∷ es) h is plain = absurd h
all_among sites n (r ∷ rows) (e ∷ es) h is plain =
    let head : r ≡ event_row (n, e) = cc in
    let tail : rows ≡ map event_row (enumerate_from (n + 1) es) = cc in
    let id = subst IsTextOrNone (ap (λ (x : EventRow). x.id) head) (plain 0 r refl).0 in
    let make_id = subst IsTextOrNone (ap (λ (x : EventRow). x.make_id) head) (plain 0 r refl).1 in
    All-cons (IsEventAmong sites) e es (record { identifier = id; make_id = make_id; limits = h.0.limits; members = h.0.members }) (all_among sites (n + 1) rows es h.1 tail (λ k row there. plain (suc k) row there))

-- an event of each kind, with few items
least_of : (sites m : ℕ) (kind : ℤ) (id : Option (List ℕ)) → kind ≡ pos m → m < 4 → IsTextOrNone id → (kind ≡ pos 2) ⊎ (id ≡ None) → (body : Body) × IsBodyOf sites kind id body
least_of sites zero kind id is low plain make =
    let none : id ≡ None = elim make [ inl two ↦ absurd (unlike 0 2 (λ same. omega arith) (sym is ∙ two)) | inr none ↦ none ] in
    (Note [], record { of_kind = is; of_id = none; limits = omega arith; members = All-nil IsItemText })
least_of sites (suc zero) kind id is low plain make =
    let none : id ≡ None = elim make [ inl two ↦ absurd (unlike 1 2 (λ same. omega arith) (sym is ∙ two)) | inr none ↦ none ] in (
      Ship [] [] (some_text ∷ []),
      record {
        of_kind = is;
        of_id = none;
        limits = (omega arith, omega arith, omega arith);
        members = (All-nil IsItemText, All-nil (λ (t : ℕ). t < sites), All-cons IsPlainText some_text [] some_plain (All-nil IsPlainText));
      },
    )
least_of sites (suc (suc zero)) kind None is low plain make =
    let keys = uri_key some_text ∷ [] in
    (Make None keys keys, record { of_kind = is; of_id = refl; limits = (plain, omega arith, omega arith, λ _. (omega arith, omega arith)); members = (some_keys, some_keys) })
least_of sites (suc (suc zero)) kind (Some text) is low plain make =
    (Make (Some text) [] [], record { of_kind = is; of_id = refl; limits = (plain.0, omega arith, omega arith, λ none. cc); members = (All-nil IsItemText, All-nil IsItemText) })
least_of sites (suc (suc (suc zero))) kind id is low plain make =
    let none : id ≡ None = elim make [ inl two ↦ absurd (unlike 3 2 (λ same. omega arith) (sym is ∙ two)) | inr none ↦ none ] in
    (Pack Observe None [], record { of_kind = is; of_id = none; limits = (omega arith, λ add. cc); members = (tt, All-nil IsItemText) })
least_of sites (suc (suc (suc (suc m)))) kind id is low plain make = absurd (omega (arith, low))

least : (sites kinds : ℕ) (rows : List EventRow) → kinds ≤ 4 → ((k : ℕ) (row : EventRow) → slice_get rows k ≡ Some row → (j : ℕ) × IsEvent kinds j row)
    → (bodies : List Body) × AreBodies sites rows bodies
least sites kinds [] few events = ([], tt)
least sites kinds (r ∷ rows) few events =
    let row = (events 0 r refl).1 in
    let one = least_of sites row.kind.0 r.kind r.make_id row.kind.1.number (omega (arith, few, row.kind.1.below)) row.make_id row.of_make in
    let rest = least sites kinds rows few (λ k q there. events (suc k) q there) in
    (one.0 ∷ rest.0, (one.1, rest.1))

-- the events of a table have bodies
pub some_bodies : (sites kinds : ℕ) (events : List EventRow) → kinds ≤ 4 → IsEventTable kinds events → (bodies : List Body) × AreBodies sites events bodies
some_bodies sites kinds events few table = least sites kinds events few (λ k r is. (k, table k r is))

-- ---- rows of later events
past_list : (event m role n : ℕ) (texts : List (List ℕ)) (rows : List PartRow) → event < m → IsPast event rows → IsPast event (map (part_row m role) (enumerate_from n texts) ++ rows)
past_list event m role n [] rows low past = past
past_list event m role n (t ∷ texts) rows low past = λ same. let one : m ≡ event = same_number m event same in omega arith

pub past_body : (sites : List Site) (event m : ℕ) (body : Body) (rows : List PartRow) → event < m → IsPast event rows → IsPast event (body_rows sites m body ++ rows)
past_body sites event m (Note items) rows low past = past_list event m 0 0 items rows low past
past_body sites event m (Ship items to outside) rows low past =
    let a = part_rows m 0 items in
    let b = part_rows m 1 (map (name_of sites) to) in
    let c = part_rows m 2 outside in
    let behind = past_list event m 0 0 items (b ++ (c ++ rows)) low (past_list event m 1 0 (map (name_of sites) to) (c ++ rows) low (past_list event m 2 0 outside rows low past)) in
    subst (IsPast event) (sym (append_assoc (a ++ b) c rows ∙ append_assoc a b (c ++ rows))) behind
past_body sites event m (Make id ins outs) rows low past =
    let a = part_rows m 3 ins in
    let b = part_rows m 4 outs in
    subst (IsPast event) (sym (append_assoc a b rows)) (past_list event m 3 0 ins (b ++ rows) low (past_list event m 4 0 outs rows low past))
past_body sites event m (Pack action parent children) rows low past = past
