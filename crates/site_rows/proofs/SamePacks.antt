-- The rows of packs determine what they say.
use Rattle.std.proofs.Common.{◌≡◌, inl, inr, ℕ, ◌+◌, ◌<◌, pos, Bool, true, false, Option, List, [], ◌∷◌, ◌++◌, map, refl, sym, ap, ◌∙◌, arith}
use Rattle.std.specs.Prelude.{◌==◌}
use Rattle.std.proofs.Math.IntN.{nat_abs}
use Rattle.std.specs.List.{enumerate_from, flat_map}
use Rattle.std.proofs.lemmas.Bool.{eq-eqb}
use Rattle.std.proofs.lemmas.Bool.Decides.{eqb_tells}
use Rattle.event_json.specs.Contents.{kind_of, number_of}
use Rattle.event_json.specs.Events.{Content}
use Rattle.event_json.specs.declared.bodies.Action.{Action}
use Rattle.event_json.specs.declared.bodies.Body.{Body}
use Rattle.event_json.specs.declared.bodies.Body.TheVariants.{Note, Ship, Make, Pack}
use Rattle.site_rows.specs.RecordRows.{children_of, pack_rows, packed_row, packed_rows}
use Rattle.site_rows.specs.declared.rows.PackRow.{PackRow}
use Rattle.site_rows.specs.declared.rows.PackedRow.{PackedRow}
use Rattle.site_rows.proofs.PacksInTurn.{no_pack, same_action}
use Rattle.site_rows.proofs.PartsInTurn.{unlike}
use Rattle.site_rows.proofs.SameLists.{AllAnswer, all_answer, same_numbered, same_parts}
use Rattle.site_rows.proofs.SameRecalls.{same_number}

pub apart : (m n : ℕ) → n < m → (m == n) ≡ false
apart m n later = elim (eqb_tells m n) [
  | inl is ↦ let same = is.1 in absurd (omega arith)
  | inr is ↦ is.0
]

-- ---- actions and parents
pub same_head_rows : (event : ℕ) (a b : Action) (parent container : Option (List ℕ)) → pack_rows event (Pack a parent []) ≡ pack_rows event (Pack b container []) → (a ≡ b) × (parent ≡ container)
same_head_rows event a b parent container e =
    let one : ◌≡◌ {A = PackRow} (record { event = pos event; action = pos (number_of a); parent = parent }) (record { event = pos event; action = pos (number_of b); parent = container }) = cc in
    (same_action a b (same_number (number_of a) (number_of b) (ap (λ (r : PackRow). r.action) one)), ap (λ (r : PackRow). r.parent) one)

-- events of one kind have as many
pub packs_apart : (n : ℕ) (b c : Body) (on behind : List PackRow) → pos (kind_of b) ≡ pos (kind_of c) → pack_rows n b ++ on ≡ pack_rows n c ++ behind → (pack_rows n b ≡ pack_rows n c) × (on ≡ behind)
packs_apart n (Note items) c on behind kind e =
    let none = no_pack (pos 0) (unlike 0 3 (λ is. omega arith)) n c kind in
    (sym none, e ∙ ap (λ xs. xs ++ behind) none)
packs_apart n (Ship items to outside) c on behind kind e =
    let none = no_pack (pos 1) (unlike 1 3 (λ is. omega arith)) n c kind in
    (sym none, e ∙ ap (λ xs. xs ++ behind) none)
packs_apart n (Make id ins outs) c on behind kind e =
    let none = no_pack (pos 2) (unlike 2 3 (λ is. omega arith)) n c kind in
    (sym none, e ∙ ap (λ xs. xs ++ behind) none)
packs_apart n (Pack action parent items) (Note others) on behind kind e = absurd (unlike 3 0 (λ is. omega arith) kind)
packs_apart n (Pack action parent items) (Ship others to outside) on behind kind e = absurd (unlike 3 1 (λ is. omega arith) kind)
packs_apart n (Pack action parent items) (Make id ins outs) on behind kind e = absurd (unlike 3 2 (λ is. omega arith) kind)
packs_apart n (Pack action parent items) (Pack other container others) on behind kind e = (cc, cc)

-- ---- children
pub same_children : (event : ℕ) (xs ys : List (List ℕ)) → map (packed_row event) (enumerate_from 0 xs) ≡ map (packed_row event) (enumerate_from 0 ys) → xs ≡ ys
same_children event xs ys e = same_numbered (packed_row event) (λ _ _ _ is. ap (λ (r : PackedRow). r.text) is) 0 xs ys e

abbrev is_of : ℕ → PackedRow → Bool
is_of n row = nat_abs row.event == n

children_answer : (b : Bool) (n event k : ℕ) (texts : List (List ℕ)) → (event == n) ≡ b → AllAnswer (is_of n) b (map (packed_row event) (enumerate_from k texts))
children_answer b n event k [] alike = tt
children_answer b n event k (t ∷ texts) alike = (alike, children_answer b n event (k + 1) texts alike)

body_answers : (b : Bool) (n event : ℕ) (body : Body) → (event == n) ≡ b → AllAnswer (is_of n) b (packed_rows event body)
body_answers b n event (Note items) alike = tt
body_answers b n event (Ship items to outside) alike = tt
body_answers b n event (Make id ins outs) alike = tt
body_answers b n event (Pack action parent children) alike = children_answer b n event 0 children alike

later_answer : (n m : ℕ) (events : List Content) → n < m → AllAnswer (is_of n) false (flat_map children_of (enumerate_from m events))
later_answer n m [] later = tt
later_answer n m (e ∷ events) later =
    all_answer (is_of n) false _ _ (body_answers false n m e.body (apart m n later)) (later_answer n (m + 1) events (omega arith))

pub children_apart : (n : ℕ) (b c : Body) (es ds : List Content) → packed_rows n b ++ flat_map children_of (enumerate_from (n + 1) es) ≡ packed_rows n c ++ flat_map children_of (enumerate_from (n + 1) ds)
    → (packed_rows n b ≡ packed_rows n c) × (flat_map children_of (enumerate_from (n + 1) es) ≡ flat_map children_of (enumerate_from (n + 1) ds))
children_apart n b c es ds e =
    let here = λ (body : Body). body_answers true n n body (eq-eqb n n refl) in
    let later = λ (xs : List Content). later_answer n (n + 1) xs (omega arith) in
    same_parts (is_of n) (packed_rows n b) (packed_rows n c) _ _ (here b) (here c) (later es) (later ds) e
