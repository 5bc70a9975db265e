-- The rows of events and of their lists determine the events.
use Rattle.std.proofs.Common.{◌≡◌, ℕ, ◌+◌, ◌*◌, ◌/◌, ◌%◌, ◌-◌, ◌<◌, ℤ, pos, suc, Bool, true, false, All, List, [], ◌∷◌, ◌++◌, length, map, refl, sym, ap, ◌∙◌, arith}
use lib.IntN.{negsuc}
use Rattle.std.specs.Prelude.{nat_lt, ◌==◌}
use Rattle.std.specs.Int.{int_div_euclid, int_rem_euclid}
use Rattle.std.proofs.Math.IntN.{nat_abs}
use Rattle.std.specs.List.{enumerate_from, flat_map}
use Rattle.std.proofs.Math.Nat.{div-add-mod, mod-lt}
use Rattle.std.proofs.lemmas.Bool.{eq-eqb}
use Rattle.std.proofs.lemmas.List.Elements.{All-head, All-tail}
use Rattle.event_json.specs.Contents.{kind_of, id_of}
use Rattle.event_json.specs.Events.{Content}
use Rattle.event_json.specs.Sites.{Site, ShipsAmong}
use Rattle.event_json.specs.declared.bodies.Body.{Body}
use Rattle.event_json.specs.declared.bodies.Body.TheVariants.{Note, Ship, Make, Pack}
use Rattle.site_rows.specs.declared.rows.EventRow.{EventRow}
use Rattle.site_rows.specs.declared.rows.PartRow.{PartRow}
use Rattle.site_rows.specs.RecordRows.{SECOND, children_of, event_row, pack_rows, packed_rows, packs_of, part_row, part_rows, name_of, body_rows, parts_of}
use Rattle.site_rows.proofs.SameLists.{same_numbered, AllAnswer, all_answer, same_parts}
use Rattle.site_rows.proofs.SamePacks.{apart, children_apart, packs_apart, same_children, same_head_rows}
use Rattle.site_rows.proofs.SameRecalls.{same_number}

-- whether the row is of the event, and whether it has a lower role
abbrev is_of : ℕ → PartRow → Bool
is_of n row = nat_abs row.event == n

abbrev is_below : ℕ → PartRow → Bool
is_below role row = nat_lt (nat_abs row.role) role

-- what the rows of a list answer alike
listed : (p : PartRow → Bool) (b : Bool) (event role n : ℕ) (texts : List (List ℕ)) → ((k : ℕ) (t : List ℕ) → p (part_row event role (k, t)) ≡ b)
    → AllAnswer p b (map (part_row event role) (enumerate_from n texts))
listed p b event role n [] alike = tt
listed p b event role n (t ∷ texts) alike = (alike n t, listed p b event role (n + 1) texts alike)

of_body : (p : PartRow → Bool) (b : Bool) (sites : List Site) (event : ℕ) (body : Body) → ((role k : ℕ) (t : List ℕ) → p (part_row event role (k, t)) ≡ b)
    → AllAnswer p b (body_rows sites event body)
of_body p b sites event (Note items) alike = listed p b event 0 0 items (alike 0)
of_body p b sites event (Ship items to outside) alike =
    all_answer p b _ _ (all_answer p b _ _ (listed p b event 0 0 items (alike 0)) (listed p b event 1 0 (map (name_of sites) to) (alike 1))) (listed p b event 2 0 outside (alike 2))
of_body p b sites event (Make id ins outs) alike = all_answer p b _ _ (listed p b event 3 0 ins (alike 3)) (listed p b event 4 0 outs (alike 4))
of_body p b sites event (Pack action parent children) alike = tt

of_later : (sites : List Site) (n m : ℕ) (events : List Content) → n < m → AllAnswer (is_of n) false (flat_map (parts_of sites) (enumerate_from m events))
of_later sites n m [] later = tt
of_later sites n m (e ∷ events) later =
    all_answer (is_of n) false _ _ (of_body (is_of n) false sites m e.body (λ _ _ _. apart m n later)) (of_later sites n (m + 1) events (omega arith))

-- the lists of one event
same_texts : (event role : ℕ) (xs ys : List (List ℕ)) → part_rows event role xs ≡ part_rows event role ys → xs ≡ ys
same_texts event role xs ys e = same_numbered (part_row event role) (λ _ _ _ is. ap (λ (r : PartRow). r.text) is) 0 xs ys e

-- sites that no event ships to twice under different names
abbrev pub NamesTell : List Site → Type 0
NamesTell sites = (t u : ℕ) → t < length sites → u < length sites → name_of sites t ≡ name_of sites u → t ≡ u

same_sites : (sites : List Site) → NamesTell sites → (xs ys : List ℕ) → All (λ t. t < length sites) xs → All (λ t. t < length sites) ys
    → map (name_of sites) xs ≡ map (name_of sites) ys → xs ≡ ys
same_sites sites tell [] [] hx hy e = refl
same_sites sites tell [] (y ∷ ys) hx hy e = cc
same_sites sites tell (x ∷ xs) [] hx hy e = cc
same_sites sites tell (x ∷ xs) (y ∷ ys) hx hy e =
    let head : name_of sites x ≡ name_of sites y = cc in
    let tail : map (name_of sites) xs ≡ map (name_of sites) ys = cc in
    let one = tell x y (All-head (λ t. t < length sites) x xs hx) (All-head (λ t. t < length sites) y ys hy) head in
    let rest = same_sites sites tell xs ys (All-tail (λ t. t < length sites) x xs hx) (All-tail (λ t. t < length sites) y ys hy) tail in
    λ i. one i ∷ rest i

unlike : (a b : ℕ) → nat_lt a b ≡ true → pos a ≡ pos b → ⊥
unlike a b low e = let same = same_number a b e in absurd (grind (arith, low, same))

same_body : (sites : List Site) → NamesTell sites → (event : ℕ) (b c : Body) → ShipsAmong (length sites) b → ShipsAmong (length sites) c
    → pos (kind_of b) ≡ pos (kind_of c) → id_of b ≡ id_of c → body_rows sites event b ≡ body_rows sites event c → pack_rows event b ≡ pack_rows event c
    → packed_rows event b ≡ packed_rows event c → b ≡ c
same_body sites tell event (Note xs) (Note ys) hb hc kind id e packs children = ap Note (same_texts event 0 xs ys e)
same_body sites tell event (Note xs) (Ship ys to outside) hb hc kind id e packs children = absurd (unlike 0 1 refl kind)
same_body sites tell event (Note xs) (Make m ins outs) hb hc kind id e packs children = absurd (unlike 0 2 refl kind)
same_body sites tell event (Note xs) (Pack action parent items) hb hc kind id e packs children = absurd (unlike 0 3 refl kind)
same_body sites tell event (Ship xs to outside) (Note ys) hb hc kind id e packs children = absurd (unlike 0 1 refl (sym kind))
same_body sites tell event (Ship xs to outside) (Ship ys to2 outside2) hb hc kind id e packs children =
    let names = map (name_of sites) to in
    let names2 = map (name_of sites) to2 in
    let front = λ (items : List (List ℕ)) (ns : List (List ℕ)). all_answer (is_below 2) true _ _ (listed (is_below 2) true event 0 0 items (λ _ _. refl)) (listed (is_below 2) true event 1 0 ns (λ _ _. refl)) in
    let back = λ (texts : List (List ℕ)). listed (is_below 2) false event 2 0 texts (λ _ _. refl) in
    let two = same_parts (is_below 2) (part_rows event 0 xs ++ part_rows event 1 names) (part_rows event 0 ys ++ part_rows event 1 names2) (part_rows event 2 outside) (part_rows event 2 outside2)
    (front xs names) (front ys names2) (back outside) (back outside2) e in
    let item = λ (texts : List (List ℕ)). listed (is_below 1) true event 0 0 texts (λ _ _. refl) in
    let site = λ (texts : List (List ℕ)). listed (is_below 1) false event 1 0 texts (λ _ _. refl) in
    let one = same_parts (is_below 1) (part_rows event 0 xs) (part_rows event 0 ys) (part_rows event 1 names) (part_rows event 1 names2) (item xs) (item ys) (site names) (site names2) two.0 in
    let items = same_texts event 0 xs ys one.0 in
    let sites = same_sites sites tell to to2 hb hc (same_texts event 1 names names2 one.1) in
    let outs = same_texts event 2 outside outside2 two.1 in
    λ i. Ship (items i) (sites i) (outs i)
same_body sites tell event (Ship xs to outside) (Make m ins outs) hb hc kind id e packs children = absurd (unlike 1 2 refl kind)
same_body sites tell event (Ship xs to outside) (Pack action parent items) hb hc kind id e packs children = absurd (unlike 1 3 refl kind)
same_body sites tell event (Make m ins outs) (Note ys) hb hc kind id e packs children = absurd (unlike 0 2 refl (sym kind))
same_body sites tell event (Make m ins outs) (Ship ys to outside) hb hc kind id e packs children = absurd (unlike 1 2 refl (sym kind))
same_body sites tell event (Make m ins outs) (Make m2 ins2 outs2) hb hc kind id e packs children =
    let input = λ (texts : List (List ℕ)). listed (is_below 4) true event 3 0 texts (λ _ _. refl) in
    let output = λ (texts : List (List ℕ)). listed (is_below 4) false event 4 0 texts (λ _ _. refl) in
    let parts = same_parts (is_below 4) (part_rows event 3 ins) (part_rows event 3 ins2) (part_rows event 4 outs) (part_rows event 4 outs2) (input ins) (input ins2) (output outs) (output outs2) e in
    let from = same_texts event 3 ins ins2 parts.0 in
    let to = same_texts event 4 outs outs2 parts.1 in
    λ i. Make (id i) (from i) (to i)
same_body sites tell event (Make m ins outs) (Pack action parent items) hb hc kind id e packs children = absurd (unlike 2 3 refl kind)
same_body sites tell event (Pack action parent items) (Note ys) hb hc kind id e packs children = absurd (unlike 0 3 refl (sym kind))
same_body sites tell event (Pack action parent items) (Ship ys to outside) hb hc kind id e packs children = absurd (unlike 1 3 refl (sym kind))
same_body sites tell event (Pack action parent items) (Make m ins outs) hb hc kind id e packs children = absurd (unlike 2 3 refl (sym kind))
same_body sites tell event (Pack action parent items) (Pack other container others) hb hc kind id e packs children =
    let head = same_head_rows event action other parent container packs in
    let all = same_children event items others children in
    λ i. Pack (head.0 i) (head.1 i) (all i)

-- the seconds and the nanoseconds determine the instant
same_quotient : (a b d : ℕ) → a / suc d ≡ b / suc d → a % suc d ≡ b % suc d → a ≡ b
same_quotient a b d q r =
    let one = div-add-mod a (suc d) in
    let two = div-add-mod b (suc d) in
    sym one ∙ (λ i. suc d * q i + r i) ∙ two

same_rest : (a b : ℕ) → 1_000_000_000 - 1 - a % 1_000_000_000 ≡ 1_000_000_000 - 1 - b % 1_000_000_000 → a % 1_000_000_000 ≡ b % 1_000_000_000
same_rest a b e =
    let positive : 0 < 1_000_000_000 = omega arith in
    let one : a % 1_000_000_000 < 1_000_000_000 = mod-lt a positive in
    let two : b % 1_000_000_000 < 1_000_000_000 = mod-lt b positive in
    omega (arith, e, one, two)

same_below : (a b : ℕ) → negsuc a ≡ negsuc b → a ≡ b
same_below a b e = cc

same_instant : (a b : ℤ) → int_div_euclid a SECOND ≡ int_div_euclid b SECOND → int_rem_euclid a SECOND ≡ int_rem_euclid b SECOND → a ≡ b
same_instant (pos a) (pos b) q r = ap pos (same_quotient a b 999_999_999 (same_number (a / 1_000_000_000) (b / 1_000_000_000) q) (same_number (a % 1_000_000_000) (b % 1_000_000_000) r))
same_instant (pos a) (negsuc b) q r = cc
same_instant (negsuc a) (pos b) q r = cc
same_instant (negsuc a) (negsuc b) q r = ap negsuc (same_quotient a b 999_999_999 (same_below (a / 1_000_000_000) (b / 1_000_000_000) q) (same_rest a b (same_number _ _ r)))

same_head : (sites : List Site) → NamesTell sites → (n : ℕ) (e d : Content) → ShipsAmong (length sites) e.body → ShipsAmong (length sites) d.body
    → event_row (n, e) ≡ event_row (n, d) → body_rows sites n e.body ≡ body_rows sites n d.body → pack_rows n e.body ≡ pack_rows n d.body
    → packed_rows n e.body ≡ packed_rows n d.body → e ≡ d
same_head sites tell n e d he hd row parts packs children =
    let id = ap (λ (r : EventRow). r.id) row in
    let instant = same_instant e.instant d.instant (ap (λ (r : EventRow). r.seconds) row) (ap (λ (r : EventRow). r.nanos) row) in
    let body = same_body sites tell n e.body d.body he hd (ap (λ (r : EventRow). r.kind) row) (ap (λ (r : EventRow). r.make_id) row) parts packs children in
    λ i. record { id = id i; instant = instant i; body = body i }

pub same_events : (sites : List Site) → NamesTell sites → (n : ℕ) (es ds : List Content) → All (λ e. ShipsAmong (length sites) e.body) es → All (λ e. ShipsAmong (length sites) e.body) ds
    → map event_row (enumerate_from n es) ≡ map event_row (enumerate_from n ds) → flat_map (parts_of sites) (enumerate_from n es) ≡ flat_map (parts_of sites) (enumerate_from n ds)
    → flat_map packs_of (enumerate_from n es) ≡ flat_map packs_of (enumerate_from n ds) → flat_map children_of (enumerate_from n es) ≡ flat_map children_of (enumerate_from n ds) → es ≡ ds
same_events sites tell n [] [] he hd rows parts packs children = refl
same_events sites tell n [] (d ∷ ds) he hd rows parts packs children = cc
same_events sites tell n (e ∷ es) [] he hd rows parts packs children = cc
same_events sites tell n (e ∷ es) (d ∷ ds) he hd rows parts packs children =
    let ships = λ (x : Content). ShipsAmong (length sites) x.body in
    let head : event_row (n, e) ≡ event_row (n, d) = cc in
    let tail : map event_row (enumerate_from (n + 1) es) ≡ map event_row (enumerate_from (n + 1) ds) = cc in
    let here = λ (x : Content). of_body (is_of n) true sites n x.body (λ _ _ _. eq-eqb n n refl) in
    let later = λ (xs : List Content). of_later sites n (n + 1) xs (omega arith) in
    let split = same_parts (is_of n) (body_rows sites n e.body) (body_rows sites n d.body) (flat_map (parts_of sites) (enumerate_from (n + 1) es)) (flat_map (parts_of sites) (enumerate_from (n + 1) ds))
    (here e) (here d) (later es) (later ds) parts in
    let kind : pos (kind_of e.body) ≡ pos (kind_of d.body) = ap (λ (r : EventRow). r.kind) head in
    let pack = packs_apart n e.body d.body _ _ kind packs in
    let child = children_apart n e.body d.body es ds children in
    let one = same_head sites tell n e d (All-head ships e es he) (All-head ships d ds hd) head split.0 pack.0 child.0 in
    let rest = same_events sites tell (n + 1) es ds (All-tail ships e es he) (All-tail ships d ds hd) tail split.1 pack.1 child.1 in
    λ i. one i ∷ rest i
