-- The rule at the start.
use Rattle.std.proofs.Common.{◌≡◌, ℕ, zero, suc, ◌+◌, ◌*◌, ◌<◌, ◌≤◌, List, [], ◌∷◌, map, replicate, length, Contains, Option as Maybe, None, sym, refl, ap, ◌∙◌, subst, arith, zero-add}
use mathlib.Core.Option.{some, some-injective, some-ne-none}
use lib.ListN.{get_elem?}
use Rattle.atomic_table.specs.Table.{opening}
use Rattle.atomic_table.proofs.Lists.{at_map}
use Rattle.std.proofs.lemmas.List.{length-map}
use Rattle.event_json.specs.declared.limits.TheConstants.{MAX_SITES}
use Rattle.site_core.specs.Records.{Record}
use Rattle.frame_core.specs.declared.frames.Frame.{Frame}
use Rattle.wire_core.specs.declared.views.Log.{Log}
use Rattle.wire_core.specs.declared.views.View.{View}
use Rattle.wire_core.specs.Fitting.{RecordsFit}
use Rattle.wire_core.specs.Mailboxes.{empty, Mailbox, word_of, slot_of}
use Rattle.wire_core.specs.Rule.{AreAnswered, Ruled, Knows, last_records, opening_log, logs_from, first_view, world_up}
use Rattle.wire_core.proofs.Lists.{within, at_Contains, Contains_at}

module _ {A : Type 0} where
  replicate_at : (n i : ℕ) (a : A) → i < n → get_elem? (replicate n a) i ≡ some a
  replicate_at zero i a h = absurd (omega arith)
  replicate_at (suc n) zero a h = refl
  replicate_at (suc n) (suc i) a h = replicate_at n i a (omega arith)

fresh : (rs : List Record) (site i : ℕ) (e : Log) → get_elem? (logs_from site rs) i ≡ some e → (r : Record) × (e ≡ opening_log (site + i) r)
fresh [] site i e at = absurd (some-ne-none e (sym at))
fresh (r ∷ rs) site zero e at = (r, sym (some-injective _ e at) ∙ ap (λ k. opening_log k r) (let x : site ≡ site + 0 = omega arith in x))
fresh (r ∷ rs) site (suc i) e at = let o = fresh rs (site + 1) i e at in (o.0, o.1 ∙ ap (λ k. opening_log k o.0) (let x : site + 1 + i ≡ site + suc i = omega arith in x))

all_records : (rs : List Record) (site : ℕ) → last_records (logs_from site rs) ≡ rs
all_records [] site = refl
all_records (r ∷ rs) site = ap (λ (l : List Record). r ∷ l) (all_records rs (site + 1))

all_openings : (rs : List Record) (site : ℕ) → map (λ (e : Log). e.opening) (logs_from site rs) ≡ rs
all_openings [] site = refl
all_openings (r ∷ rs) site = ap (λ (l : List Record). r ∷ l) (all_openings rs (site + 1))

count : (rs : List Record) (site : ℕ) → length (logs_from site rs) ≡ length rs
count [] site = refl
count (r ∷ rs) site = ap suc (count rs (site + 1))

abbrev pub vacant : ℕ → List (Maybe Frame)
vacant slots = replicate slots None

module _ (rs : List Record) (few : length rs ≤ MAX_SITES) (fit : RecordsFit rs []) where
  abbrev logs : List Log
  logs = logs_from 0 rs

  own : (i : ℕ) (e : Log) → get_elem? logs i ≡ some e → e.site ≡ i
  own i e at = let o = fresh rs 0 i e at in ap (λ (x : Log). x.site) o.1 ∙ zero-add i

  known : (id : ℕ) (v : View) → get_elem? (first_view rs ∷ []) id ≡ some v → Knows (λ _. 0) logs id v
  known zero v at = subst (Knows (λ _. 0) logs 0) (some-injective _ v at) (λ e. ((λ c. let p = at_Contains logs e c in (refl, ap (get_elem? logs) (own p.0 e p.1) ∙ p.1)), (λ _ there. Contains_at logs e.site e there)))
  known (suc id) v at = absurd (some-ne-none v (sym at))

  module _ (words : List ℕ) (slots : ℕ) (zeros : words ≡ replicate (16 + 16 * length rs) 0) (all : slots ≡ 16 * length rs) where
    word_at : (i : ℕ) → i < 16 + 16 * length rs → get_elem? words i ≡ some 0
    word_at i h = ap (λ ws. get_elem? ws i) zeros ∙ replicate_at (16 + 16 * length rs) i 0 h

    slot_at : (i : ℕ) → i < 16 * length rs → get_elem? (map some (vacant slots)) i ≡ some (some None)
    slot_at i h = at_map some (vacant slots) i None (replicate_at slots i None (omega arith))

    place : (i : ℕ) (e : Log) → get_elem? logs i ≡ some e → i < length rs
    place i e at = let h = within logs i e at in let c = count rs 0 in omega arith

    pub begins : Ruled rs (opening words (vacant slots) (first_view rs))
    begins = (
      logs,
      (λ _. 0),
      count rs 0,
      subst (λ k. k ≤ MAX_SITES) (sym (count rs 0)) few,
      record { own = own; seated = λ i h. let z : 0 < 1 = omega arith in z; known = known },
      record {
        progress = λ i e at. let h = place i e at in let o = fresh rs 0 i e at in word_at i (omega arith) ∙ ap (λ (x : Log). some (length x.inputs)) (sym o.1);
        noted = λ i e f at c. let o = fresh rs 0 i e at in let z = (subst (λ (x : Log). Contains x.noted f) o.1 c).1 in absurd (omega arith);
        mailbox = λ i j a b ai bj ne.
            let hi = place i a ai in
            let hj = place j b bj in
            let oa = fresh rs 0 i a ai in
            let ob = fresh rs 0 j b bj in
            subst (λ (z : Log × Log). Mailbox words (map some (vacant slots)) i j z.0 z.1) (λ q. (sym oa.1 q, sym ob.1 q))
            record { phase = empty; word_is = word_at (word_of i j) (omega arith); slot_is = slot_at (slot_of i j) (omega arith); frames = refl; written_is = refl; read_is = refl };
        run = record {
          begun = fit;
          openings = all_openings rs 0;
          events = [];
          answers = [];
          sent = [];
          happened = tt;
          runs = ap (λ (l : List Record). world_up l []) (all_records rs 0);
          handed = λ i e at. subst (λ (x : Log). AreAnswered [] x.inputs) (sym (fresh rs 0 i e at).1) tt;
          from = λ i e at. sym (ap (λ (x : Log). x.sent) (fresh rs 0 i e at).1);
          senders = λ f c. let z = c.1 in absurd (omega arith);
        };
      },
    )

-- the key keeps the opening records as snapshots
pub begins_as : {S R : Type 0} (value : S → Record) (key : List S) (given : List R) (now : R → Record) (words : List ℕ) → map value key ≡ map now given → length given ≤ MAX_SITES → RecordsFit (map now given) [] → words ≡ replicate (16 + 16 * length given) 0
    → Ruled (map value key) (opening words (vacant (16 * length given)) (first_view (map value key)))
begins_as value key given now words is few fit zeros =
    let n = length-map given now in
    subst (λ (k : List Record). Ruled k (opening words (vacant (16 * length given)) (first_view k))) (sym is)
    (begins (map now given) (omega arith) fit words (16 * length given) (zeros ∙ ap (λ k. replicate (16 + 16 * k) 0) (sym n)) (ap (λ k. 16 * k) (sym n)))
