-- What values tell of the outcomes that they are of.
use Rattle.std.proofs.Common.{◌≡◌, ◌<◌, ◌^◌, ◌+◌, ◌*◌, ℕ, zero, suc, Bool, true, false, List, [], ◌∷◌, ◌++◌, All, Option, Some, None, length, map, fold, refl, sym, ap, ap₂, ◌∙◌, subst, arith}
use mathlib.Core.Bool.{false≢true, true≢false}
use Rattle.std.specs.Prelude.{⊤, if◌then◌else◌, ◌==◌, ◌&&◌, ◌||◌, bytes_eq, codes, nat_le, slice_get}
use Rattle.std.specs.Fmt.{decimal}
use Rattle.std.specs.List.{AllZip, list_all, list_any, slice_split}
use Rattle.std.proofs.lemmas.Bool.{and_parts, ne_eqb}
use Rattle.std.proofs.lemmas.Fmt.{decimal_injective}
use Rattle.std.proofs.lemmas.List.{append_cancel_left}
use Rattle.std.proofs.lemmas.List.Elements.{All-cons, All-head, All-nil, All-tail, All-weaker}
use Rattle.std.proofs.lemmas.List.Splits.{slice_split_at}
use Rattle.std.proofs.lemmas.List.Sums.{AllPass-from_list_all}
use Rattle.std.proofs.lemmas.Slice.Eq.{bytes_eq-Decides}
use Rattle.epc_core.specs.Items.{is_plain}
use Rattle.event_json.proofs.Apart.{neither}
use Rattle.event_json.specs.Names.{field_name, kind_name, sites_fault_name}
use Rattle.event_json.specs.Sites.{AreSites, Site, is_name_byte, is_site, is_site_name, repeats}
use Rattle.event_json.specs.declared.doc_faults.DocFault.{DocFault}
use Rattle.event_json.specs.declared.doc_faults.DocFaultKind.{DocFaultKind}
use Rattle.event_json.specs.declared.doc_faults.DocFaultKind.TheVariants as kinds
use Rattle.event_json.specs.declared.doc_faults.DocField.{DocField}
use Rattle.event_json.specs.declared.doc_faults.DocField.TheVariants as fields
use Rattle.event_json.specs.declared.site_lists.SitesFault.{SitesFault}
use Rattle.event_json.specs.declared.site_lists.SitesFault.TheVariants as faults
use Rattle.frame_core.specs.Numbers.{Message, Recall}
use Rattle.gap_core.specs.declared.lines.GapLine.{GapLine}
use Rattle.gap_core.specs.declared.unseen.UnseenItem.{UnseenItem}
use Rattle.gap_core.specs.declared.untold.UntoldShipment.{UntoldShipment}
use Rattle.item_spellings.specs.Names.{scan_fault_name}
use Rattle.item_spellings.specs.declared.faults.ScanFault.{ScanFault}
use Rattle.item_spellings.specs.declared.faults.ScanFault.TheVariants as scans
use Rattle.query_core.specs.declared.known_items.KnownItem.{KnownItem}
use Rattle.query_core.specs.declared.recalls.RecallDetail.{RecallDetail}
use Rattle.query_core.specs.declared.recalls.RecallStatus.{RecallStatus}
use Rattle.query_core.specs.declared.recalls.SiteStanding.{SiteStanding}
use Rattle.query_core.specs.declared.recalls.WaitingMessage.{WaitingMessage}
use Rattle.recall_text.specs.Words.{message_text, name_at, recall_text}
use Rattle.recall_text.specs.declared.site_lists.LineRefusal.{LineRefusal}
use Rattle.recall_text.specs.declared.site_lists.LineRefusal.TheVariants.{BadLine, BadSite}
use Rattle.report_core.specs.declared.audits.Verdict.{Verdict}
use Rattle.report_core.specs.declared.audits.Verdict.TheVariants.{Equal, Differs}
use Rattle.report_core.specs.declared.outside.OutsideShipment.{OutsideShipment}
use Rattle.report_core.specs.declared.outside_events.OutsideEvent.{OutsideEvent}
use Rattle.report_core.specs.declared.packing_events.PackingEvent.{PackingEvent}
use Rattle.report_core.specs.declared.trail_events.CapturedEvent.{CapturedEvent}
use Rattle.report_core.specs.declared.trail_events.StepEvents.{StepEvents}
use Rattle.report_core.specs.declared.trail_events.StepEvents.TheVariants as made
use Rattle.serde_json.specs.Data.{Data, unsigned, null, boolean, number, string, array, object, Items, no_items, item, Members, member, no_members}
use Rattle.serde_json.specs.View.{items_of}
use Rattle.site_core.specs.declared.outcomes.Effects.{Effects}
use Rattle.site_core.specs.declared.outcomes.Effects.TheVariants as effects
use Rattle.site_core.specs.declared.outcomes.Refusal.{Refusal}
use Rattle.site_core.specs.declared.outcomes.Refusal.TheVariants as steps
use Rattle.site_recovery.specs.declared.checking.Misfit.{Misfit}
use Rattle.trace_core.specs.declared.pairs.Pair.{Pair}
use Rattle.outcome_forms.specs.Json.{Shown, whole, before, behind, account_json, audited_json, beside_json, covered_json, detail_json, effects_json, engaged_json, event_json, gap_line_json, gaps_json, held_json, known_json, left_json, line_members, list_of, misfit_json, missed_json, missed_pair_json, outcome_json, outside_json, packed_json, packing_json, pair_json, part_json, ran_json, shown_members, shown_outside, shown_way, standing_json, status_json, step_json, step_members, text_or_null, titled_json, trail_json, unlinked_json, unlinked_of, unseen_json, used_json, verdict_json, waiting_json, why_json, with_events}
use Rattle.outcome_forms.specs.Telling.{AccountIsOf, AreSameGaps, AreSameMissed, AuditedIsOf, DetailIsOf, EffectsAreOf, EndsSo, GapIsOf, GapsAreOf, LeftIsOf, MessageIsOf, MissedIsOf, MissedPairIsOf, OutsideIsOf, PackedIsOf, PairIsOf, PartIsOf, RecallIsOf, SomeIsOf, StandingIsOf, StepIsOf, TellsAccount, TellsWhy, TitleIsOf, UnseenIsOf, UsedIsOf, ValuesTellKinds, ValuesTellOutcomes, VerdictIsOf, WaitingIsOf, WhyIsOf, kind_of, shown_part}
use Rattle.trace_core.specs.Trails.{before_last}
use Rattle.report_forms.specs.Accounts.{Account, OutsidePart, Part, way_pairs}
use Rattle.report_forms.specs.declared.accounts.Title.{Title}
use Rattle.report_forms.specs.declared.accounts.Title.TheVariants as titles
use Rattle.report_forms.specs.declared.accounts.Way.{Way}
use Rattle.report_forms.specs.declared.accounts.Way.TheVariants.{Unknown, From, To}
use Rattle.recall_outcomes.specs.declared.outcomes.AuditedRecall.{AuditedRecall}
use Rattle.recall_outcomes.specs.declared.outcomes.CommandRefusal.{CommandRefusal}
use Rattle.recall_outcomes.specs.declared.outcomes.CommandRefusal.TheVariants as refusals
use Rattle.recall_outcomes.specs.declared.outcomes.FoundGaps.{FoundGaps}
use Rattle.recall_outcomes.specs.declared.outcomes.MissedPair.{MissedPair}
use Rattle.recall_outcomes.specs.declared.outcomes.MissedReach.{MissedReach}
use Rattle.recall_outcomes.specs.declared.outcomes.Outcome.{Outcome}
use Rattle.recall_outcomes.specs.declared.outcomes.Outcome.TheVariants as outcomes
use Rattle.recall_outcomes.specs.declared.outcomes.PackedGap.{PackedGap}
use Rattle.recall_outcomes.specs.declared.outcomes.SiteCoverage.{SiteCoverage}
use Rattle.recall_outcomes.specs.declared.outcomes.StartedRecall.{StartedRecall}
use Rattle.recall_outcomes.specs.declared.outcomes.Ways.{Ways}
use Rattle.recall_outcomes.specs.declared.outcomes.Ways.TheVariants.{Trails, Steps}

-- ---- parts of a value

abbrev members_in : Data → Members
members_in (object ms) = ms
members_in other = no_members

-- the value of the member of this place
abbrev among : ℕ → Members → Data
among n no_members = null
among zero (member name d ms) = d
among (suc n) (member name d ms) = among n ms

abbrev at : ℕ → Data → Data
at n d = among n (members_in d)

abbrev text_in : Data → List ℕ
text_in (string s) = s
text_in other = []

abbrev count_in : Data → ℕ
count_in (number (unsigned n)) = n
count_in other = 0

abbrev flag_in : Data → Bool
flag_in (boolean b) = b
flag_in other = false

abbrev listed : Items → List Data
listed no_items = []
listed (item d ds) = d ∷ listed ds

abbrev values_in : Data → List Data
values_in (array ds) = listed ds
values_in other = []

abbrev text_at : ℕ → Data → List ℕ
text_at n d = text_in (at n d)

abbrev count_at : ℕ → Data → ℕ
count_at n d = count_in (at n d)

abbrev flag_at : ℕ → Data → Bool
flag_at n d = flag_in (at n d)

-- a number of the names of its members and of the words that tell what it is
abbrev code : List ℕ → ℕ
code bytes = fold (λ n b. n * 256 + b) 1 bytes

abbrev word_of : List ℕ → Data → List ℕ
word_of name d = if_word (bytes_eq name (codes "refused") || (bytes_eq name (codes "effect") || (bytes_eq name (codes "audit") || bytes_eq name (codes "trace")))) where
  if_word : Bool → List ℕ
  if_word true = text_in d
  if_word false = []

abbrev words_of : Members → List ℕ
words_of no_members = []
words_of (member name d ms) = name ++ (word_of name d ++ words_of ms)

abbrev tag : Data → ℕ
tag d = code (words_of (members_in d))

listed_again : (ds : List Data) → listed (items_of ds) ≡ ds
listed_again [] = refl
listed_again (d ∷ ds) = ap (λ xs. d ∷ xs) (listed_again ds)

-- ---- lists

mapped_tell : {X : Type 0} (IsOf : X → Type 0) (of : X → Data) → ((x y : X) → IsOf x → IsOf y → of x ≡ of y → x ≡ y)
    → (xs ys : List X) → All IsOf xs → All IsOf ys → map of xs ≡ map of ys → xs ≡ ys
mapped_tell IsOf of tells [] [] hx hy e = refl
mapped_tell IsOf of tells (x ∷ xs) (y ∷ ys) hx hy e =
    let first : of x ≡ of y = cc in
    let rest : map of xs ≡ map of ys = cc in
    ap₂ (λ v vs. v ∷ vs) (tells x y (All-head IsOf x xs hx) (All-head IsOf y ys hy) first) (mapped_tell IsOf of tells xs ys (All-tail IsOf x xs hx) (All-tail IsOf y ys hy) rest)
mapped_tell IsOf of tells xs ys hx hy e = cc

lists_tell : {X Y : Type 0} (of : X → Data) (like : Y → Data) (xs : List X) (ys : List Y) → list_of of xs ≡ list_of like ys → map of xs ≡ map like ys
lists_tell of like xs ys e = sym (listed_again (map of xs)) ∙ ap values_in e ∙ listed_again (map like ys)

listed_tell : {X : Type 0} (IsOf : X → Type 0) (of : X → Data) → ((x y : X) → IsOf x → IsOf y → of x ≡ of y → x ≡ y)
    → (xs ys : List X) → All IsOf xs → All IsOf ys → list_of of xs ≡ list_of of ys → xs ≡ ys
listed_tell IsOf of tells xs ys hx hy e = mapped_tell IsOf of tells xs ys hx hy (lists_tell of of xs ys e)

-- ---- names

no_such_name : (sites : List Site) (name : List ℕ) → list_any (λ t. bytes_eq t name) (map (λ (s : Site). s.name) sites) ≡ false → (n : ℕ) → n < length sites → name_at sites n ≡ name → ⊥
no_such_name [] name none n low e = omega (arith, low)
no_such_name (s ∷ ss) name none zero low e =
    let parts = neither (bytes_eq s.name name) (list_any (λ t. bytes_eq t name) (map (λ (x : Site). x.name) ss)) none in
    true≢false (sym ((bytes_eq-Decides s.name name).1 e) ∙ parts.0)
no_such_name (s ∷ ss) name none (suc n) low e =
    let parts = neither (bytes_eq s.name name) (list_any (λ t. bytes_eq t name) (map (λ (x : Site). x.name) ss)) none in
    no_such_name ss name parts.1 n (omega (arith, low)) e

names_differ : (sites : List Site) → repeats (map (λ (s : Site). s.name) sites) ≡ false → (m n : ℕ) → m < length sites → n < length sites
    → name_at sites m ≡ name_at sites n → m ≡ n
names_differ [] once m n hm hn e = absurd (let no : ⊥ = omega (arith, hm) in no)
names_differ (s ∷ ss) once zero zero hm hn e = refl
names_differ (s ∷ ss) once zero (suc n) hm hn e =
    absurd (no_such_name ss s.name (neither (list_any (λ t. bytes_eq t s.name) (map (λ (x : Site). x.name) ss)) (repeats (map (λ (x : Site). x.name) ss)) once).0 n (omega (arith, hn)) (sym e))
names_differ (s ∷ ss) once (suc m) zero hm hn e =
    absurd (no_such_name ss s.name (neither (list_any (λ t. bytes_eq t s.name) (map (λ (x : Site). x.name) ss)) (repeats (map (λ (x : Site). x.name) ss)) once).0 m (omega (arith, hm)) e)
names_differ (s ∷ ss) once (suc m) (suc n) hm hn e =
    ap suc (names_differ ss (neither (list_any (λ t. bytes_eq t s.name) (map (λ (x : Site). x.name) ss)) (repeats (map (λ (x : Site). x.name) ss)) once).1 m n (omega (arith, hm)) (omega (arith, hn)) e)

site_tells : (sites : List Site) → AreSites sites → (m n : ℕ) → m < length sites → n < length sites → name_at sites m ≡ name_at sites n → m ≡ n
site_tells sites are m n hm hn e = names_differ sites are.names_differ m n hm hn e

name_bytes : (sites : List Site) → list_all is_site sites ≡ true → (n : ℕ) → n < length sites → list_all is_name_byte (name_at sites n) ≡ true
name_bytes [] good n low = absurd (let no : ⊥ = omega (arith, low) in no)
name_bytes (s ∷ ss) good zero low =
    let whole = (and_parts (is_site s) (list_all is_site ss) good).0 in
    let named = (and_parts (is_site_name s.name && nat_le (length s.addresses) 16) (list_all is_plain s.addresses) whole).0 in
    let name = (and_parts (is_site_name s.name) (nat_le (length s.addresses) 16) named).0 in
    (and_parts (nat_le 1 (length s.name) && nat_le (length s.name) 16) (list_all is_name_byte s.name) name).1
name_bytes (s ∷ ss) good (suc n) low = name_bytes ss (and_parts (is_site s) (list_all is_site ss) good).1 n (omega (arith, low))

-- no byte of a name is this one
no_mark : (c : ℕ) → is_name_byte c ≡ false → (name : List ℕ) → list_all is_name_byte name ≡ true → All (λ b. (b == c) ≡ false) name
no_mark c none name good =
    All-weaker (λ b. is_name_byte b ≡ true) (λ b. (b == c) ≡ false) (λ b h. ne_eqb b c (λ e. true≢false (sym h ∙ ap is_name_byte e ∙ none))) name (AllPass-from_list_all is_name_byte name good)

joined_tells : (c : ℕ) (xs ys ds es : List ℕ) → (c == c) ≡ true → All (λ b. (b == c) ≡ false) xs → All (λ b. (b == c) ≡ false) ys
    → xs ++ c ∷ ds ≡ ys ++ c ∷ es → (xs ≡ ys) × (ds ≡ es)
joined_tells c xs ys ds es here hx hy e =
    let split : xs ∷ slice_split (λ b. b == c) ds ≡ ys ∷ slice_split (λ b. b == c) es =
    sym (slice_split_at (λ b. b == c) xs c ds hx here) ∙ ap (slice_split (λ b. b == c)) e ∙ slice_split_at (λ b. b == c) ys c es hy here in
    let first : xs ≡ ys = cc in
    let rest : c ∷ ds ≡ c ∷ es = append_cancel_left ys (c ∷ ds) (c ∷ es) (ap (λ l. l ++ c ∷ ds) (sym first) ∙ e) in
    let last : ds ≡ es = cc in
    (first, last)

numbered_tells : (sites : List Site) → AreSites sites → (c : ℕ) → is_name_byte c ≡ false → (c == c) ≡ true → (m n : ℕ) (k l : ℕ)
    → m < length sites → n < length sites → k < 2 ^ 64 → l < 2 ^ 64
    → name_at sites m ++ c ∷ decimal k ≡ name_at sites n ++ c ∷ decimal l → (m ≡ n) × (k ≡ l)
numbered_tells sites are c none here m n k l hm hn hk hl e =
    let parts = joined_tells c (name_at sites m) (name_at sites n) (decimal k) (decimal l) here
    (no_mark c none (name_at sites m) (name_bytes sites are.good m hm)) (no_mark c none (name_at sites n) (name_bytes sites are.good n hn)) e in
    (site_tells sites are m n hm hn parts.0, decimal_injective k l hk hl parts.1)

recall_tells : (sites : List Site) → AreSites sites → (r s : Recall) → RecallIsOf sites r → RecallIsOf sites s → recall_text sites r ≡ recall_text sites s → r ≡ s
recall_tells sites are r s hr hs e =
    let parts = numbered_tells sites are 35 refl refl r.site s.site r.number s.number hr.0 hs.0 hr.1 hs.1 e in
    let of : ℕ → ℕ → Recall = λ a b. record { site = a; number = b } in
    ap₂ of parts.0 parts.1

message_tells : (sites : List Site) → AreSites sites → (m n : Message) → MessageIsOf sites m → MessageIsOf sites n → message_text sites m ≡ message_text sites n → m ≡ n
message_tells sites are m n hm hn e =
    let parts = numbered_tells sites are 46 refl refl m.site n.site m.number n.number hm.0 hn.0 hm.1 hn.1 e in
    let of : ℕ → ℕ → Message = λ a b. record { site = a; number = b } in
    ap₂ of parts.0 parts.1

-- ---- pairs and trails

pair_by : ℕ → List ℕ → Pair
pair_by site key = record { site = site; item = key }

pair_tells : (sites : List Site) → AreSites sites → (p q : Pair) → PairIsOf sites p → PairIsOf sites q → pair_json sites p ≡ pair_json sites q → p ≡ q
unfolding pair_by
pair_tells sites are p q hp hq e = ap₂ pair_by (site_tells sites are p.site q.site hp hq (ap (text_at 1) e)) (ap (text_at 0) e)

pairs_tell : (sites : List Site) → AreSites sites → (ps qs : List Pair) → All (PairIsOf sites) ps → All (PairIsOf sites) qs
    → list_of (pair_json sites) ps ≡ list_of (pair_json sites) qs → ps ≡ qs
pairs_tell sites are = listed_tell (PairIsOf sites) (pair_json sites) (pair_tells sites are)

trail_tells : (sites : List Site) → AreSites sites → (t u : Option (List Pair)) → SomeIsOf (All (PairIsOf sites)) t → SomeIsOf (All (PairIsOf sites)) u
    → trail_json sites t ≡ trail_json sites u → t ≡ u
trail_tells sites are None None ht hu e = refl
trail_tells sites are (Some t) (Some u) ht hu e = ap Some (pairs_tell sites are t u ht hu e)
trail_tells sites are t u ht hu e = cc

beside_tells : (sites : List Site) → AreSites sites → (p q : Option Pair) → SomeIsOf (PairIsOf sites) p → SomeIsOf (PairIsOf sites) q
    → beside_json sites p ≡ beside_json sites q → p ≡ q
beside_tells sites are None None hp hq e = refl
beside_tells sites are (Some p) (Some q) hp hq e = ap Some (pair_tells sites are p q hp hq e)
beside_tells sites are p q hp hq e = cc

-- of a list whose members are all so, each place is, where there is one
place_is : (sites : List Site) (trail : List Pair) → All (PairIsOf sites) trail → (n : ℕ) → SomeIsOf (PairIsOf sites) (slice_get trail n)
place_is sites [] all n = tt
place_is sites (p ∷ ps) all zero = All-head (PairIsOf sites) p ps all
place_is sites (p ∷ ps) all (suc n) = place_is sites ps (All-tail (PairIsOf sites) p ps all) n

before_is : (sites : List Site) (trail : List Pair) → All (PairIsOf sites) trail → SomeIsOf (PairIsOf sites) (before_last trail)
before_is sites [] all = tt
before_is sites (p ∷ []) all = tt
before_is sites (p ∷ q ∷ ps) all = place_is sites (p ∷ q ∷ ps) all (length ps)

-- what is shown is of the sites
abbrev ShownIsOf : List Site → Shown → Type 0
ShownIsOf sites (whole trail) = SomeIsOf (All (PairIsOf sites)) trail
ShownIsOf sites (before p) = SomeIsOf (PairIsOf sites) p
ShownIsOf sites (behind p) = SomeIsOf (PairIsOf sites) p

shown_is : (sites : List Site) (ways : Ways) (way : Way) → SomeIsOf (All (PairIsOf sites)) (way_pairs way) → ShownIsOf sites (shown_way ways way)
shown_is sites Trails way all = all
shown_is sites Steps Unknown all = tt
shown_is sites Steps (From trail) all = before_is sites trail all
shown_is sites Steps (To trail) all = place_is sites trail all 1

shown_tells : (sites : List Site) → AreSites sites → (p q : Pair) (s t : Shown) → PairIsOf sites p → PairIsOf sites q → ShownIsOf sites s → ShownIsOf sites t
    → object (shown_members sites p s) ≡ object (shown_members sites q t) → (p ≡ q) × (s ≡ t)
unfolding pair_by
shown_tells sites are p q (whole t) (whole u) hp hq ht hu e =
    (ap₂ pair_by (site_tells sites are p.site q.site hp hq (ap (text_at 1) e)) (ap (text_at 0) e), ap whole (trail_tells sites are t u ht hu (ap (at 2) e)))
shown_tells sites are p q (before t) (before u) hp hq ht hu e =
    (ap₂ pair_by (site_tells sites are p.site q.site hp hq (ap (text_at 2) e)) (ap (text_at 1) e), ap before (beside_tells sites are t u ht hu (ap (at 0) e)))
shown_tells sites are p q (behind t) (behind u) hp hq ht hu e =
    (ap₂ pair_by (site_tells sites are p.site q.site hp hq (ap (text_at 1) e)) (ap (text_at 0) e), ap behind (beside_tells sites are t u ht hu (ap (at 2) e)))
shown_tells sites are p q s t hp hq ht hu e = absurd (let no : ⊥ = omega (arith, ap tag e) in no)

-- ---- the events behind the steps

text_tells : (t u : Option (List ℕ)) → text_or_null t ≡ text_or_null u → t ≡ u
text_tells None None e = refl
text_tells (Some t) (Some u) e = ap Some (ap text_in e)
text_tells t u e = cc

event_tells : (e f : CapturedEvent) → event_json e ≡ event_json f → e ≡ f
event_tells e f same =
    let of : ℕ → Option (List ℕ) × Option (List ℕ) → CapturedEvent = λ n x. record { number = n; id = x.0; time = x.1 } in
    ap₂ of (ap (count_at 1) same) (ap₂ (λ i t. (i, t)) (text_tells e.id f.id (ap (at 0) same)) (text_tells e.time f.time (ap (at 2) same)))

-- all are something
all_any : {X : Type 0} (xs : List X) → All (λ (x : X). ⊤) xs
all_any [] = All-nil (λ x. ⊤)
all_any (x ∷ xs) = All-cons (λ y. ⊤) x xs tt (all_any xs)

packing_tells : (x y : PackingEvent) → packing_json x ≡ packing_json y → x ≡ y
packing_tells x y same =
    let of : List ℕ → CapturedEvent → PackingEvent = λ into event. record { into = into; event = event } in
    ap₂ of (ap (text_at 1) same) (event_tells x.event y.event (ap (at 0) same))

packings_tell : (xs ys : List PackingEvent) → list_of packing_json xs ≡ list_of packing_json ys → xs ≡ ys
packings_tell xs ys e = listed_tell (λ x. ⊤) packing_json (λ x y hx hy same. packing_tells x y same) xs ys (all_any xs) (all_any ys) e

by_tells : (s t : StepEvents) → step_json s ≡ step_json t → s ≡ t
by_tells (made.Shipped e xs) (made.Shipped f ys) same = ap₂ made.Shipped (event_tells e f (ap (at 0) same)) (packings_tell xs ys (ap (at 2) same))
by_tells (made.Made a b) (made.Made c d) same = ap₂ made.Made (event_tells a c (ap (at 0) same)) (event_tells b d (ap (at 2) same))
by_tells s t same = absurd (let no : ⊥ = omega (arith, ap tag same) in no)

all_by_tell : (ss ts : List StepEvents) → list_of step_json ss ≡ list_of step_json ts → ss ≡ ts
all_by_tell ss ts e = listed_tell (λ s. ⊤) step_json (λ s t hs ht same. by_tells s t same) ss ts (all_any ss) (all_any ts) e

-- the members with the events before all others
abbrev headed : Option (List StepEvents) → Members → Members
headed None members = members
headed (Some steps) members = member (codes "events") (list_of step_json steps) members

abbrev begins_with : List ℕ → Members → Bool
begins_with first no_members = false
begins_with first (member name d ms) = bytes_eq name first

abbrev begins_with_events : Members → Bool
begins_with_events ms = begins_with (codes "events") ms

abbrev others_of : Members → Members
others_of no_members = no_members
others_of (member name d ms) = ms

headed_tell : (o u : Option (List StepEvents)) (ms ns : Members) → begins_with_events ms ≡ false → begins_with_events ns ≡ false → headed o ms ≡ headed u ns → (o ≡ u) × (ms ≡ ns)
headed_tell None None ms ns hm hn e = (refl, e)
headed_tell (Some s) (Some t) ms ns hm hn e = (ap Some (all_by_tell s t (ap (among 0) e)), ap others_of e)
headed_tell None (Some t) ms ns hm hn e = absurd (false≢true (sym hm ∙ ap begins_with_events e))
headed_tell (Some s) None ms ns hm hn e = absurd (false≢true (sym hn ∙ ap begins_with_events (sym e)))

-- ---- parts

shown_without : (sites : List Site) (p : Pair) (shown : Shown) → begins_with_events (shown_members sites p shown) ≡ false
shown_without sites p (whole t) = refl
shown_without sites p (before q) = refl
shown_without sites p (behind q) = refl

shown_headed : (sites : List Site) (p : Pair) (shown : Shown) (events : Option (List StepEvents))
    → object (with_events events (shown_members sites p shown)) ≡ object (headed events (shown_members sites p shown))
shown_headed sites p shown None = refl
shown_headed sites p (whole t) (Some steps) = refl
shown_headed sites p (before q) (Some steps) = refl
shown_headed sites p (behind q) (Some steps) = refl

part_tells : (sites : List Site) → AreSites sites → (ways other : Ways) (a b : Part) → PartIsOf sites a → PartIsOf sites b → part_json sites ways a ≡ part_json sites other b
    → shown_part ways a ≡ shown_part other b
part_tells sites are ways other a b ha hb e =
    let told = headed_tell a.events b.events (shown_members sites a.pair (shown_way ways a.way)) (shown_members sites b.pair (shown_way other b.way))
    (shown_without sites a.pair (shown_way ways a.way)) (shown_without sites b.pair (shown_way other b.way))
    (ap members_in (sym (shown_headed sites a.pair (shown_way ways a.way) a.events) ∙ e ∙ shown_headed sites b.pair (shown_way other b.way) b.events)) in
    let pair = shown_tells sites are a.pair b.pair (shown_way ways a.way) (shown_way other b.way) ha.0 hb.0 (shown_is sites ways a.way ha.1) (shown_is sites other b.way hb.1) (ap object told.1) in
    let of : Pair → Shown × Option (List StepEvents) → Pair × (Shown × Option (List StepEvents)) = λ p x. (p, x) in
    ap₂ of pair.0 (ap₂ (λ (s : Shown) (o : Option (List StepEvents)). (s, o)) pair.1 told.0)

parts_tell : (sites : List Site) → AreSites sites → (ways other : Ways) (ps qs : List Part) → All (PartIsOf sites) ps → All (PartIsOf sites) qs
    → map (part_json sites ways) ps ≡ map (part_json sites other) qs → map (shown_part ways) ps ≡ map (shown_part other) qs
parts_tell sites are ways other [] [] hp hq e = refl
parts_tell sites are ways other (p ∷ ps) (q ∷ qs) hp hq e =
    let first : part_json sites ways p ≡ part_json sites other q = cc in
    let rest : map (part_json sites ways) ps ≡ map (part_json sites other) qs = cc in
    ap₂ (λ v vs. v ∷ vs) (part_tells sites are ways other p q (All-head (PartIsOf sites) p ps hp) (All-head (PartIsOf sites) q qs hq) first)
    (parts_tell sites are ways other ps qs (All-tail (PartIsOf sites) p ps hp) (All-tail (PartIsOf sites) q qs hq) rest)
parts_tell sites are ways other ps qs hp hq e = cc

-- ---- what left the traced sites

abbrev begins_with_carrier : Data → Bool
begins_with_carrier d = begins_with (codes "carrier") (members_in d)

shown_out_tells : (sites : List Site) → AreSites sites → (x y : OutsideShipment) (t u : Option OutsideEvent) → x.site < length sites → y.site < length sites
    → shown_outside sites x t ≡ shown_outside sites y u → (x ≡ y) × (t ≡ u)
shown_out_tells sites are x y None None hx hy e =
    let of : ℕ → List ℕ → List ℕ → OutsideShipment = λ a b c. record { site = a; item = b; destination = c } in
    (ap₂ (λ (a : ℕ) (bc : List ℕ × List ℕ). of a bc.0 bc.1) (site_tells sites are x.site y.site hx hy (ap (text_at 2) e)) (ap (λ d. (text_at 1 d, text_at 0 d)) e), refl)
shown_out_tells sites are x y (Some t) (Some u) hx hy e =
    let of : ℕ → List ℕ → List ℕ → OutsideShipment = λ a b c. record { site = a; item = b; destination = c } in
    let told : CapturedEvent → List ℕ → OutsideEvent = λ event carrier. record { event = event; carrier = carrier } in (
      ap₂ (λ (a : ℕ) (bc : List ℕ × List ℕ). of a bc.0 bc.1) (site_tells sites are x.site y.site hx hy (ap (text_at 4) e)) (ap (λ d. (text_at 3 d, text_at 1 d)) e),
      ap Some (ap₂ told (event_tells t.event u.event (ap (at 2) e)) (ap (text_at 0) e)),
    )
shown_out_tells sites are x y None (Some u) hx hy e = absurd (false≢true (ap begins_with_carrier e))
shown_out_tells sites are x y (Some t) None hx hy e = absurd (false≢true (sym (ap begins_with_carrier e)))

outside_tells : (sites : List Site) → AreSites sites → (x y : OutsidePart) → OutsideIsOf sites x → OutsideIsOf sites y → outside_json sites x ≡ outside_json sites y → x ≡ y
outside_tells sites are x y hx hy e =
    let same = shown_out_tells sites are x.shipment y.shipment x.event y.event hx hy e in
    let of : OutsideShipment → Option OutsideEvent → OutsidePart = λ a b. record { shipment = a; event = b } in
    ap₂ of same.0 same.1

outsides_tell : (sites : List Site) → AreSites sites → (xs ys : List OutsidePart) → All (OutsideIsOf sites) xs → All (OutsideIsOf sites) ys
    → list_of (outside_json sites) xs ≡ list_of (outside_json sites) ys → xs ≡ ys
outsides_tell sites are = listed_tell (OutsideIsOf sites) (outside_json sites) (outside_tells sites are)

-- ---- reports and traces

-- the title, the root, and what stands beside the pairs
abbrev Around : Type 0
Around = Title × (Pair × (List OutsidePart × List Pair))

abbrev around : Title → Pair → List OutsidePart → List Pair → Around
around title root outside origins = (title, (root, (outside, origins)))

titled_tell : (sites : List Site) → AreSites sites → (t u : Title) (p q : Pair) (xs ys : List OutsidePart) (os qs : List Pair) (ds es : Data)
    → TitleIsOf sites t → TitleIsOf sites u → PairIsOf sites p → PairIsOf sites q → EndsSo t xs os → EndsSo u ys qs
    → All (OutsideIsOf sites) xs → All (OutsideIsOf sites) ys → All (PairIsOf sites) os → All (PairIsOf sites) qs
    → titled_json sites t p xs os ds ≡ titled_json sites u q ys qs es → (around t p xs os ≡ around u q ys qs) × (ds ≡ es)
titled_tell sites are (titles.Recall r ended) (titles.Recall s other) p q xs ys os qs ds es ht hu hp hq none empty hx hy ho hs e =
    let title : titles.Recall r ended ≡ titles.Recall s other = ap₂ (λ (x : Recall) (b : Bool). titles.Recall x b) (recall_tells sites are r s ht hu (ap (text_at 3) e)) (ap (flag_at 0) e) in (
      ap₂ (λ (x : Title) (y : Pair × (List OutsidePart × List Pair)). (x, y)) title
          (ap₂ (λ (x : Pair) (y : List OutsidePart × List Pair). (x, y)) (pair_tells sites are p q hp hq (ap (at 4) e))
          (ap₂ (λ (x : List OutsidePart) (y : List Pair). (x, y)) (outsides_tell sites are xs ys hx hy (ap (at 1) e)) (none ∙ sym empty))),
      ap (at 2) e,
    )
titled_tell sites are titles.Forward titles.Forward p q xs ys os qs ds es ht hu hp hq none empty hx hy ho hs e = (
  ap (λ (y : Pair × (List OutsidePart × List Pair)). (titles.Forward, y))
      (ap₂ (λ (x : Pair) (y : List OutsidePart × List Pair). (x, y)) (pair_tells sites are p q hp hq (ap (at 2) e))
      (ap₂ (λ (x : List OutsidePart) (y : List Pair). (x, y)) (outsides_tell sites are xs ys hx hy (ap (at 0) e)) (none ∙ sym empty))),
  ap (at 1) e,
)
titled_tell sites are titles.Back titles.Back p q xs ys os qs ds es ht hu hp hq none empty hx hy ho hs e = (
  ap (λ (y : Pair × (List OutsidePart × List Pair)). (titles.Back, y))
      (ap₂ (λ (x : Pair) (y : List OutsidePart × List Pair). (x, y)) (pair_tells sites are p q hp hq (ap (at 2) e))
      (ap₂ (λ (x : List OutsidePart) (y : List Pair). (x, y)) (none ∙ sym empty) (pairs_tell sites are os qs ho hs (ap (at 0) e)))),
  ap (at 1) e,
)
titled_tell sites are t u p q xs ys os qs ds es ht hu hp hq none empty hx hy ho hs e = absurd (let no : ⊥ = omega (arith, ap tag e) in no)

account_tells : (sites : List Site) → AreSites sites → (a b : Account) (ways other : Ways) → AccountIsOf sites a → AccountIsOf sites b
    → account_json sites ways a ≡ account_json sites other b → TellsAccount ways other a b
unfolding account_json
account_tells sites are a b ways other ha hb e =
    let told = titled_tell sites are a.title b.title a.root b.root a.outside b.outside a.origins b.origins (list_of (part_json sites ways) a.parts) (list_of (part_json sites other) b.parts)
    ha.title hb.title ha.root hb.root ha.ends hb.ends ha.outside hb.outside ha.origins hb.origins e in
    record {
      title = ap (λ (x : Around). x.0) told.0;
      root = ap (λ (x : Around). x.1.0) told.0;
      parts = parts_tell sites are ways other a.parts b.parts ha.parts hb.parts (lists_tell (part_json sites ways) (part_json sites other) a.parts b.parts told.1);
      outside = ap (λ (x : Around). x.1.1.0) told.0;
      origins = ap (λ (x : Around). x.1.1.1) told.0;
    }

some_same : {X : Type 0} (x y : X) → Some x ≡ Some y → x ≡ y
some_same x y e = cc

-- ---- recalls

run_tells : (sites : List Site) → AreSites sites → (b c : StartedRecall) → RecallIsOf sites b.recall → RecallIsOf sites c.recall → ran_json sites b ≡ ran_json sites c → b ≡ c
run_tells sites are b c hb hc e =
    let of : Recall → Bool → StartedRecall = λ r ended. record { recall = r; ended = ended } in
    ap₂ of (recall_tells sites are b.recall c.recall hb hc (ap (text_at 1) e)) (ap (flag_at 0) e)

-- what is told of a recall beside its name
record Standing : Type 0 where
  pub root : List ℕ
  pub ended : Bool
  pub quarantined : ℕ
  pub waiting : ℕ

abbrev status_by : Recall → Standing → RecallStatus
status_by r s = record { recall = r; root = s.root; ended = s.ended; quarantined = s.quarantined; waiting = s.waiting }

status_tells : (sites : List Site) → AreSites sites → (b c : RecallStatus) → RecallIsOf sites b.recall → RecallIsOf sites c.recall → status_json sites b ≡ status_json sites c → b ≡ c
unfolding status_json
status_tells sites are b c hb hc e =
    ap₂ status_by (recall_tells sites are b.recall c.recall hb hc (ap (text_at 2) e))
    (ap (λ d. record { root = text_at 0 (at 3 d); ended = flag_at 0 d; quarantined = count_at 1 d; waiting = count_at 4 d }) e)

engaged_tells : (sites : List Site) → AreSites sites → (m n : Option Message) → SomeIsOf (MessageIsOf sites) m → SomeIsOf (MessageIsOf sites) n
    → engaged_json sites m ≡ engaged_json sites n → m ≡ n
engaged_tells sites are None None hm hn e = refl
engaged_tells sites are (Some m) (Some n) hm hn e = ap Some (message_tells sites are m n hm hn (ap text_in e))
engaged_tells sites are m n hm hn e = cc

standing_tells : (sites : List Site) → AreSites sites → (a b : SiteStanding) → StandingIsOf sites a → StandingIsOf sites b → standing_json sites a ≡ standing_json sites b → a ≡ b
standing_tells sites are a b ha hb e =
    let of : ℕ × ℕ → ℕ × Option Message → SiteStanding = λ x y. record { site = y.0; quarantined = x.0; waiting = x.1; engaged_by = y.1 } in
    ap₂ of (ap (λ d. (count_at 1 d, count_at 3 d)) e)
    (ap₂ (λ s m. (s, m)) (site_tells sites are a.site b.site ha.0 hb.0 (ap (text_at 2) e)) (engaged_tells sites are a.engaged_by b.engaged_by ha.1 hb.1 (ap (at 0) e)))

wait_tells : (sites : List Site) → AreSites sites → (a b : WaitingMessage) → WaitingIsOf sites a → WaitingIsOf sites b → waiting_json sites a ≡ waiting_json sites b → a ≡ b
wait_tells sites are a b ha hb e =
    let of : Message × ℕ → List ℕ × Bool → WaitingMessage = λ m x. record { message = m.0; to = m.1; item = x.0; told = x.1 } in
    ap₂ of
    (ap₂ (λ m to. (m, to)) (message_tells sites are a.message b.message ha.0 hb.0 (ap (text_at 1) e)) (site_tells sites are a.to b.to ha.1 hb.1 (ap (text_at 2) e)))
    (ap (λ d. (text_at 0 d, flag_at 3 d)) e)

detail_tells : (sites : List Site) → AreSites sites → (a b : RecallDetail) → DetailIsOf sites a → DetailIsOf sites b → detail_json sites a ≡ detail_json sites b → a ≡ b
unfolding detail_json
detail_tells sites are a b ha hb e =
    let detail_by : RecallStatus → List SiteStanding × List WaitingMessage → RecallDetail = λ s x. record { status = s; sites = x.0; waiting = x.1 } in
    let status : a.status ≡ b.status =
    ap₂ status_by (recall_tells sites are a.status.recall b.status.recall ha.recall hb.recall (ap (text_at 3) e))
    (ap (λ d. record { root = text_at 0 (at 4 d); ended = flag_at 0 d; quarantined = count_at 2 d; waiting = count_at 6 d }) e) in
    ap₂ detail_by status
    (ap₂ (λ xs ys. (xs, ys)) (listed_tell (StandingIsOf sites) (standing_json sites) (standing_tells sites are) a.sites b.sites ha.sites_told hb.sites_told (ap (at 5) e))
    (listed_tell (WaitingIsOf sites) (waiting_json sites) (wait_tells sites are) a.waiting b.waiting ha.waiting hb.waiting (ap (at 1) e)))

-- ---- items, dry starts, coverage, misfits

covered_tells : (sites : List Site) → AreSites sites → (a b : SiteCoverage) → a.site < length sites → b.site < length sites → covered_json sites a ≡ covered_json sites b → a ≡ b
covered_tells sites are a b ha hb e =
    let of : ℕ × ℕ × ℕ → Option (List ℕ) × Option (List ℕ) → SiteCoverage = λ x y. record { site = x.0; events = x.1; items = x.2; first = y.0; last = y.1 } in
    ap₂ of (ap₂ (λ (s : ℕ) (n : ℕ × ℕ). (s, n.0, n.1)) (site_tells sites are a.site b.site ha hb (ap (text_at 4) e)) (ap (λ d. (count_at 0 d, count_at 2 d)) e))
    (ap₂ (λ x y. (x, y)) (text_tells a.first b.first (ap (at 1) e)) (text_tells a.last b.last (ap (at 3) e)))

items_tell : (sites : List Site) → AreSites sites → (m n : ℕ) (r s : List KnownItem) → m < length sites → n < length sites → map (known_json sites m) r ≡ map (known_json sites n) s
    → (r ≡ s) × (0 < length r → m ≡ n)
items_tell sites are m n [] [] hm hn e = (refl, λ some. absurd (let no : ⊥ = omega (arith, some) in no))
items_tell sites are m n (k ∷ ks) (l ∷ ls) hm hn e =
    let first : known_json sites m k ≡ known_json sites n l = cc in
    let rest : map (known_json sites m) ks ≡ map (known_json sites n) ls = cc in
    let of : ℕ × List ℕ → KnownItem = λ x. record { events = x.0; item = x.1 } in
    let heads : k ≡ l = ap (λ d. of (count_at 0 d, text_at 1 d)) first in
    (ap₂ (λ x xs. x ∷ xs) heads (items_tell sites are m n ks ls hm hn rest).0, λ some. site_tells sites are m n hm hn (ap (text_at 2) first))
items_tell sites are m n r s hm hn e = absurd (let no : ⊥ = cc in no)

misfit_tells : (sites : List Site) → AreSites sites → (a b : Misfit) → a.site < length sites → b.site < length sites → misfit_json sites a ≡ misfit_json sites b → a ≡ b
misfit_tells sites are a b ha hb e =
    let of : ℕ → ℕ → Misfit = λ condition site. record { condition = condition; site = site } in
    ap₂ of (ap (count_at 0) e) (site_tells sites are a.site b.site ha hb (ap (text_at 1) e))

-- ---- steps

effects_tell : (sites : List Site) → AreSites sites → (e f : Effects) → EffectsAreOf sites e → EffectsAreOf sites f → effects_json sites e ≡ effects_json sites f → e ≡ f
effects_tell sites are (effects.Captured a b c) (effects.Captured x y z) he hf same =
    ap (λ (n : ℕ × ℕ × ℕ). effects.Captured n.0 n.1 n.2) (ap (λ d. (count_at 0 d, count_at 1 d, count_at 2 d)) same)
effects_tell sites are (effects.Started r new numbered ended) (effects.Started s now others over) he hf same =
    ap₂ (λ (v : Recall) (n : ℕ × ℕ × Bool). effects.Started v n.0 n.1 n.2) (recall_tells sites are r s he hf (ap (text_at 3) same))
    (ap (λ d. (count_at 2 d, count_at 1 d, flag_at 0 d)) same)
effects_tell sites are (effects.Received new numbered owed) (effects.Received now others due) he hf same =
    ap (λ (n : ℕ × ℕ × Bool). effects.Received n.0 n.1 n.2) (ap (λ d. (count_at 1 d, count_at 0 d, flag_at 2 d)) same)
effects_tell sites are effects.Repeat effects.Repeat he hf same = refl
effects_tell sites are effects.Stale effects.Stale he hf same = refl
effects_tell sites are effects.Cleared effects.Cleared he hf same = refl
effects_tell sites are (effects.ParentDue m) (effects.ParentDue n) he hf same = ap effects.ParentDue (message_tells sites are m n he hf (ap (text_at 0) same))
effects_tell sites are (effects.Ended r) (effects.Ended s) he hf same = ap effects.Ended (recall_tells sites are r s he hf (ap (text_at 1) same))
effects_tell sites are e f he hf same = absurd (let no : ⊥ = omega (arith, ap tag same) in no)

-- ---- audits

verdict_tells : (sites : List Site) → AreSites sites → (r s : Recall) (v w : Option Verdict) → SomeIsOf (VerdictIsOf sites) v → SomeIsOf (VerdictIsOf sites) w
    → verdict_json sites r v ≡ verdict_json sites s w → (recall_text sites r ≡ recall_text sites s) × (v ≡ w)
unfolding pair_by
verdict_tells sites are r s None None hv hw e = (ap (text_at 1) e, refl)
verdict_tells sites are r s (Some (Equal m)) (Some (Equal n)) hv hw e = (ap (text_at 2) e, ap (λ d. Some (Equal (count_at 1 d))) e)
verdict_tells sites are r s (Some (Differs p missing)) (Some (Differs q lacking)) hv hw e = (
  ap (text_at 3) e,
  ap₂ (λ (x : Pair) (b : Bool). Some (Differs x b)) (ap₂ pair_by (site_tells sites are p.site q.site hv hw (ap (text_at 4) e)) (ap (text_at 1) e)) (ap (flag_at 2) e),
)
verdict_tells sites are r s None (Some (Equal n)) hv hw e = absurd (let no : ⊥ = omega (arith, ap tag e) in no)
verdict_tells sites are r s v w hv hw e = absurd (let no : ⊥ = omega (arith, ap tag e) in no)

audit_tells : (sites : List Site) → AreSites sites → (a b : AuditedRecall) → AuditedIsOf sites a → AuditedIsOf sites b → audited_json sites a ≡ audited_json sites b → a ≡ b
audit_tells sites are a b ha hb e =
    let told = verdict_tells sites are a.recall b.recall a.verdict b.verdict ha.1 hb.1 e in
    let of : Recall → Option Verdict → AuditedRecall = λ r v. record { recall = r; verdict = v } in
    ap₂ of (recall_tells sites are a.recall b.recall ha.0 hb.0 told.0) told.1

-- ---- gaps

line_of : ℕ × ℕ → List ℕ × ℕ → GapLine
line_of x y = record { site = x.0; container = y.0; by = x.1; items = y.1 }

line_tells : (sites : List Site) → AreSites sites → (a b : GapLine) → GapIsOf sites a → GapIsOf sites b → gap_line_json sites a ≡ gap_line_json sites b → a ≡ b
unfolding line_of
line_tells sites are a b ha hb e =
    ap₂ line_of (ap₂ (λ x y. (x, y)) (site_tells sites are a.site b.site ha.0 hb.0 (ap (text_at 3) e)) (site_tells sites are a.by b.by ha.1 hb.1 (ap (text_at 0) e)))
    (ap (λ d. (text_at 1 d, count_at 2 d)) e)

packed_tells : (sites : List Site) → AreSites sites → (a b : PackedGap) → PackedIsOf sites a → PackedIsOf sites b → packed_json sites a ≡ packed_json sites b → a ≡ b
unfolding line_of
packed_tells sites are a b ha hb e =
    let of : GapLine → Option (List ℕ) × Option (List ℕ) → PackedGap = λ l x. record { line = l; packed_at = x.0; shipped_at = x.1 } in
    ap₂ of
    (ap₂ line_of (ap₂ (λ x y. (x, y)) (site_tells sites are a.line.site b.line.site ha.0 hb.0 (ap (text_at 5) e)) (site_tells sites are a.line.by b.line.by ha.1 hb.1 (ap (text_at 0) e)))
    (ap (λ d. (text_at 1 d, count_at 2 d)) e))
    (ap₂ (λ x y. (x, y)) (text_tells a.packed_at b.packed_at (ap (at 3) e)) (text_tells a.shipped_at b.shipped_at (ap (at 4) e)))

unlinked_tells : (sites : List Site) → AreSites sites → (a b : Option (List GapLine)) → SomeIsOf (All (GapIsOf sites)) a → SomeIsOf (All (GapIsOf sites)) b
    → unlinked_json sites a ≡ unlinked_json sites b → a ≡ b
unlinked_tells sites are None None ha hb e = refl
unlinked_tells sites are (Some a) (Some b) ha hb e = ap Some (listed_tell (GapIsOf sites) (gap_line_json sites) (line_tells sites are) a b ha hb e)
unlinked_tells sites are a b ha hb e = cc

used_tells : (sites : List Site) → AreSites sites → (a b : GapLine) → UsedIsOf sites a → UsedIsOf sites b → used_json sites a ≡ used_json sites b → a ≡ b
unfolding line_of
used_tells sites are a b ha hb e =
    let site : a.site ≡ b.site = site_tells sites are a.site b.site ha.0 hb.0 (ap (text_at 2) e) in
    ap₂ line_of (ap₂ (λ x y. (x, y)) site (ha.1 ∙ site ∙ sym hb.1)) (ap (λ d. (text_at 0 d, count_at 1 d)) e)

unseen_tells : (sites : List Site) → AreSites sites → (a b : UnseenItem) → UnseenIsOf sites a → UnseenIsOf sites b → unseen_json sites a ≡ unseen_json sites b → a ≡ b
unseen_tells sites are a b ha hb e =
    let of : ℕ × ℕ → List ℕ → UnseenItem = λ x y. record { site = x.0; item = y; from = x.1 } in
    ap₂ of (ap₂ (λ x y. (x, y)) (site_tells sites are a.site b.site ha.0 hb.0 (ap (text_at 2) e)) (site_tells sites are a.from b.from ha.1 hb.1 (ap (text_at 0) e)))
    (ap (text_at 1) e)

gaps_tell : (sites : List Site) → AreSites sites → (a b : FoundGaps) → GapsAreOf sites a → GapsAreOf sites b → gaps_json sites a ≡ gaps_json sites b → AreSameGaps a b
unfolding gaps_json
gaps_tell sites are a b ha hb e = record {
  packed = listed_tell (PackedIsOf sites) (packed_json sites) (packed_tells sites are) a.packed.items b.packed.items ha.packed hb.packed (ap (at 2) e);
  items = ap (count_at 0) e;
  used = listed_tell (UsedIsOf sites) (used_json sites) (used_tells sites are) a.used.items b.used.items ha.used hb.used (ap (at 5) e);
  unseen = listed_tell (UnseenIsOf sites) (unseen_json sites) (unseen_tells sites are) a.unseen.items b.unseen.items ha.unseen hb.unseen (ap (at 4) e);
  lots = pairs_tell sites are a.lots.items b.lots.items ha.lots hb.lots (ap (at 1) e);
  unlinked = unlinked_tells sites are (unlinked_of a) (unlinked_of b) ha.unlinked hb.unlinked (ap (at 3) e);
}

-- ---- what a recall misses

held_tells : (sites : List Site) → AreSites sites → (r s : Option Recall) → SomeIsOf (RecallIsOf sites) r → SomeIsOf (RecallIsOf sites) s → held_json sites r ≡ held_json sites s → r ≡ s
held_tells sites are None None hr hs e = refl
held_tells sites are (Some r) (Some s) hr hs e = ap Some (recall_tells sites are r s hr hs (ap text_in e))
held_tells sites are r s hr hs e = cc

missed_pair_tells : (sites : List Site) → AreSites sites → (a b : MissedPair) → MissedPairIsOf sites a → MissedPairIsOf sites b → missed_pair_json sites a ≡ missed_pair_json sites b → a ≡ b
unfolding pair_by
missed_pair_tells sites are a b ha hb e =
    let of : Pair → Option Recall → MissedPair = λ p r. record { pair = p; held = r } in
    ap₂ of (ap₂ pair_by (site_tells sites are a.pair.site b.pair.site ha.0 hb.0 (ap (text_at 2) e)) (ap (text_at 1) e)) (held_tells sites are a.held b.held ha.1 hb.1 (ap (at 0) e))

left_tells : (sites : List Site) → AreSites sites → (a b : UntoldShipment) → LeftIsOf sites a → LeftIsOf sites b → left_json sites a ≡ left_json sites b → a ≡ b
left_tells sites are a b ha hb e =
    let of : ℕ → List ℕ × List ℕ → UntoldShipment = λ s x. record { site = s; item = x.0; destination = x.1 } in
    ap₂ of (site_tells sites are a.site b.site ha hb (ap (text_at 2) e)) (ap (λ d. (text_at 1 d, text_at 0 d)) e)

missed_tell : (sites : List Site) → AreSites sites → (r s : Recall) (a b : MissedReach) → RecallIsOf sites r → RecallIsOf sites s → MissedIsOf sites a → MissedIsOf sites b
    → missed_json sites r a ≡ missed_json sites s b → (r ≡ s) × AreSameMissed a b
unfolding missed_json
missed_tell sites are r s a b hr hs ha hb e =
    let same : AreSameMissed a b = record {
      pairs = listed_tell (MissedPairIsOf sites) (missed_pair_json sites) (missed_pair_tells sites are) a.pairs.items b.pairs.items ha.pairs hb.pairs (ap (at 1) e);
      outside = listed_tell (LeftIsOf sites) (left_json sites) (left_tells sites are) a.outside.items b.outside.items ha.outside hb.outside (ap (at 0) e);
    } in
    (recall_tells sites are r s hr hs (ap (text_at 2) e), same)

-- ---- refusals

kind_tells : (k l : DocFaultKind) → kind_name k ≡ kind_name l → k ≡ l
kind_tells kinds.Syntax kinds.Syntax e = refl
kind_tells kinds.NotDocument kinds.NotDocument e = refl
kind_tells kinds.TooManyEvents kinds.TooManyEvents e = refl
kind_tells kinds.NoType kinds.NoType e = refl
kind_tells kinds.Missing kinds.Missing e = refl
kind_tells kinds.WrongShape kinds.WrongShape e = refl
kind_tells kinds.Time kinds.Time e = refl
kind_tells kinds.Offset kinds.Offset e = refl
kind_tells kinds.Action kinds.Action e = refl
kind_tells kinds.BadEpc kinds.BadEpc e = refl
kind_tells kinds.TooManyEpcs kinds.TooManyEpcs e = refl
kind_tells kinds.Quantities kinds.Quantities e = refl
kind_tells kinds.ErrorDeclared kinds.ErrorDeclared e = refl
kind_tells kinds.HalfTransformation kinds.HalfTransformation e = refl
kind_tells k l e = absurd (let no : ⊥ = omega (arith, ap code e) in no)

field_tells : (k l : DocField) → field_name k ≡ field_name l → k ≡ l
field_tells fields.Document fields.Document e = refl
field_tells fields.EventList fields.EventList e = refl
field_tells fields.Event fields.Event e = refl
field_tells fields.Type fields.Type e = refl
field_tells fields.ErrorDeclaration fields.ErrorDeclaration e = refl
field_tells fields.QuantityList fields.QuantityList e = refl
field_tells fields.InputQuantityList fields.InputQuantityList e = refl
field_tells fields.OutputQuantityList fields.OutputQuantityList e = refl
field_tells fields.EventId fields.EventId e = refl
field_tells fields.EventTime fields.EventTime e = refl
field_tells fields.EventTimeZoneOffset fields.EventTimeZoneOffset e = refl
field_tells fields.Action fields.Action e = refl
field_tells fields.EpcList fields.EpcList e = refl
field_tells fields.DestinationList fields.DestinationList e = refl
field_tells fields.InputEpcList fields.InputEpcList e = refl
field_tells fields.OutputEpcList fields.OutputEpcList e = refl
field_tells fields.TransformationId fields.TransformationId e = refl
field_tells fields.ParentId fields.ParentId e = refl
field_tells fields.ChildEpcs fields.ChildEpcs e = refl
field_tells fields.ChildQuantityList fields.ChildQuantityList e = refl
field_tells k l e = absurd (let no : ⊥ = omega (arith, ap code e) in no)

site_fault_tells : (k l : SitesFault) → sites_fault_name k ≡ sites_fault_name l → k ≡ l
site_fault_tells faults.NoMemory faults.NoMemory e = refl
site_fault_tells faults.BadName faults.BadName e = refl
site_fault_tells faults.NameTaken faults.NameTaken e = refl
site_fault_tells faults.TooMany faults.TooMany e = refl
site_fault_tells faults.BadAddress faults.BadAddress e = refl
site_fault_tells faults.AddressTaken faults.AddressTaken e = refl
site_fault_tells k l e = absurd (let no : ⊥ = omega (arith, ap code e) in no)

scan_fault_tells : (k l : ScanFault) → scan_fault_name k ≡ scan_fault_name l → k ≡ l
scan_fault_tells scans.NoElements scans.NoElements e = refl
scan_fault_tells scans.Differing scans.Differing e = refl
scan_fault_tells scans.TwoItems scans.TwoItems e = refl
scan_fault_tells scans.NoItem scans.NoItem e = refl
scan_fault_tells scans.NoSerial scans.NoSerial e = refl
scan_fault_tells scans.CheckDigit scans.CheckDigit e = refl
scan_fault_tells scans.BadSerial scans.BadSerial e = refl
scan_fault_tells scans.BadLot scans.BadLot e = refl
scan_fault_tells k l e = absurd (let no : ⊥ = omega (arith, ap code e) in no)

doc_tells : (a b : DocFault) → a.event ≡ b.event → field_name a.field ≡ field_name b.field → kind_name a.kind ≡ kind_name b.kind → a ≡ b
doc_tells a b event field kind =
    let of : ℕ → DocField × DocFaultKind → DocFault = λ n x. record { event = n; field = x.0; kind = x.1 } in
    ap₂ of event (ap₂ (λ f k. (f, k)) (field_tells a.field b.field field) (kind_tells a.kind b.kind kind))

line_by : ℕ → LineRefusal → CommandRefusal
line_by line why = refusals.Line (record { line = line; why = why })

lines_same : (m n : ℕ) (v w : LineRefusal) → object (line_members m v) ≡ object (line_members n w) → (m ≡ n) × (v ≡ w)
lines_same m n BadLine BadLine e = (ap (count_at 0) e, refl)
lines_same m n (BadSite k) (BadSite l) e = (ap (count_at 1) e, ap BadSite (site_fault_tells k l (ap (text_at 0) e)))
lines_same m n v w e = absurd (let no : ⊥ = omega (arith, ap tag e) in no)

steps_tell : (sites : List Site) → AreSites sites → (x y : Refusal) → StepIsOf sites x → StepIsOf sites y → object (step_members sites x) ≡ object (step_members sites y) → x ≡ y
steps_tell sites are (steps.Blocked r key event) (steps.Blocked s other place) hx hy e =
    ap₂ (λ (v : Recall) (n : List ℕ × ℕ). steps.Blocked v n.0 n.1) (recall_tells sites are r s hx hy (ap (text_at 2) e)) (ap (λ d. (text_at 1 d, count_at 0 d)) e)
steps_tell sites are (steps.IdTaken event) (steps.IdTaken other) hx hy e = ap (λ d. steps.IdTaken (count_at 0 d)) e
steps_tell sites are steps.UnknownItem steps.UnknownItem hx hy e = refl
steps_tell sites are steps.NotMine steps.NotMine hx hy e = refl
steps_tell sites are steps.NumbersSpent steps.NumbersSpent hx hy e = refl
steps_tell sites are (steps.Doc a) (steps.Doc b) hx hy e = ap steps.Doc (doc_tells a b (ap (count_at 0) e) (ap (text_at 1) e) (ap (text_at 2) e))
steps_tell sites are steps.NoMemory steps.NoMemory hx hy e = refl
steps_tell sites are x y hx hy e = absurd (let no : ⊥ = omega (arith, ap tag e) in no)

-- which of the kinds of refusals it is, and how a value tells it
abbrev family_of : CommandRefusal → ℕ
family_of (refusals.Line refused) = 1
family_of refusals.NoWorld = 2
family_of (refusals.Exists name) = 3
family_of (refusals.NoSite name) = 4
family_of refusals.BadEpc = 5
family_of refusals.BadRecall = 6
family_of refusals.UnknownRecall = 7
family_of (refusals.Step why) = 8
family_of refusals.BadKey = 9
family_of (refusals.BadScan fault) = 10

abbrev names_line : Members → Bool
names_line no_members = false
names_line (member name d ms) = bytes_eq name (codes "line") || names_line ms

abbrev family_named : List ℕ → ℕ
family_named word =
    if bytes_eq word (codes "NoWorld") then 2 else
    if bytes_eq word (codes "Exists") then 3 else
    if bytes_eq word (codes "NoSite") then 4 else
    if bytes_eq word (codes "BadEpc") then 5 else
    if bytes_eq word (codes "BadLine") then 6 else
    if bytes_eq word (codes "UnknownRecall") then 7 else
    if bytes_eq word (codes "BadKey") then 9 else
    if bytes_eq word (codes "BadScan") then 10 else 8

-- the word of the refusal
abbrev refused_word : Members → List ℕ
refused_word no_members = []
refused_word (member name d ms) = if bytes_eq name (codes "refused") then text_in d else refused_word ms

abbrev family_in : Data → ℕ
family_in d = if names_line (members_in d) then 1 else family_named (refused_word (members_in d))

line_family : (n : ℕ) (why : LineRefusal) → family_in (object (line_members n why)) ≡ 1
line_family n BadLine = refl
line_family n (BadSite fault) = refl

step_family : (sites : List Site) (why : Refusal) → family_in (object (step_members sites why)) ≡ 8
step_family sites (steps.Blocked r key event) = refl
step_family sites (steps.IdTaken event) = refl
step_family sites steps.UnknownItem = refl
step_family sites steps.NotMine = refl
step_family sites steps.NumbersSpent = refl
step_family sites (steps.Doc fault) = refl
step_family sites steps.NoMemory = refl

family_is : (sites : List Site) (why : CommandRefusal) → family_in (why_json sites why) ≡ family_of why
family_is sites (refusals.Line refused) = line_family refused.line refused.why
family_is sites refusals.NoWorld = refl
family_is sites (refusals.Exists name) = refl
family_is sites (refusals.NoSite name) = refl
family_is sites refusals.BadEpc = refl
family_is sites refusals.BadKey = refl
family_is sites (refusals.BadScan fault) = refl
family_is sites refusals.BadRecall = refl
family_is sites refusals.UnknownRecall = refl
family_is sites (refusals.Step why) = step_family sites why

whys_of : (sites : List Site) → AreSites sites → (a b : CommandRefusal) → family_of a ≡ family_of b → WhyIsOf sites a → WhyIsOf sites b → why_json sites a ≡ why_json sites b → TellsWhy a b
unfolding line_by
whys_of sites are (refusals.Line a) (refusals.Line b) same ha hb e = let told = lines_same a.line b.line a.why b.why e in ap₂ line_by told.0 told.1
whys_of sites are refusals.NoWorld refusals.NoWorld same ha hb e = refl
whys_of sites are (refusals.Exists name) (refusals.Exists other) same ha hb e = ap (text_at 0) e
whys_of sites are (refusals.NoSite name) (refusals.NoSite other) same ha hb e = ap (text_at 1) e
whys_of sites are refusals.BadEpc refusals.BadEpc same ha hb e = refl
whys_of sites are refusals.BadKey refusals.BadKey same ha hb e = refl
whys_of sites are (refusals.BadScan x) (refusals.BadScan y) same ha hb e = ap refusals.BadScan (scan_fault_tells x y (ap (text_at 0) e))
whys_of sites are refusals.BadRecall refusals.BadRecall same ha hb e = refl
whys_of sites are refusals.UnknownRecall refusals.UnknownRecall same ha hb e = refl
whys_of sites are (refusals.Step x) (refusals.Step y) same ha hb e = ap refusals.Step (steps_tell sites are x y ha hb e)
whys_of sites are a b same ha hb e = absurd (let no : ⊥ = omega (arith, same) in no)

why_tells : (sites : List Site) → AreSites sites → (a b : CommandRefusal) → WhyIsOf sites a → WhyIsOf sites b → why_json sites a ≡ why_json sites b → TellsWhy a b
why_tells sites are a b ha hb e = whys_of sites are a b (sym (family_is sites a) ∙ ap family_in e ∙ family_is sites b) ha hb e

whys_tell : (sites : List Site) → AreSites sites → (a b : List CommandRefusal) → All (WhyIsOf sites) a → All (WhyIsOf sites) b → map (why_json sites) a ≡ map (why_json sites) b → AllZip TellsWhy a b
whys_tell sites are [] [] ha hb e = tt
whys_tell sites are (a ∷ more) (b ∷ others) ha hb e =
    let first : why_json sites a ≡ why_json sites b = cc in
    let rest : map (why_json sites) more ≡ map (why_json sites) others = cc in
    (why_tells sites are a b (All-head (WhyIsOf sites) a more ha) (All-head (WhyIsOf sites) b others hb) first, whys_tell sites are more others (All-tail (WhyIsOf sites) a more ha) (All-tail (WhyIsOf sites) b others hb) rest)
whys_tell sites are a b ha hb e = absurd (let no : ⊥ = cc in no)

pub values_tell : ValuesTellOutcomes
values_tell sites are = record {
  steps = effects_tell sites are;
  runs = λ r s hr hs e. mapped_tell (λ (b : StartedRecall). RecallIsOf sites b.recall) (ran_json sites) (run_tells sites are) r s hr hs e;
  accounts = account_tells sites are;
  standings = λ r s hr hs e. mapped_tell (λ (b : RecallStatus). RecallIsOf sites b.recall) (status_json sites) (status_tells sites are) r s hr hs e;
  waits = λ a b ha hb e. detail_tells sites are a b ha hb e;
  items = λ m n r s hm hn e. items_tell sites are m n r s hm hn e;
  dry_starts = λ q m r n e. (ap (count_at 1) e, ap (count_at 0) e);
  audits = λ r s hr hs e. mapped_tell (AuditedIsOf sites) (audited_json sites) (audit_tells sites are) r s hr hs e;
  misfits = λ a b ha hb e. misfit_tells sites are a b ha hb e;
  gaps = λ a b ha hb e. gaps_tell sites are a b ha hb e;
  missed = λ r s a b hr hs ha hb e. missed_tell sites are r s a b hr hs ha hb e;
  coverages = λ a b ha hb e. mapped_tell (λ (c : SiteCoverage). c.site < length sites) (covered_json sites) (covered_tells sites are) a b ha hb e;
  refusals = λ a b ha hb e. whys_tell sites are a b ha hb e;
}

-- ---- which outcome it is

abbrev names_it : List ℕ → Members → Bool
names_it name no_members = false
names_it name (member other d ms) = bytes_eq other name || names_it name ms

abbrev has : List ℕ → Data → Bool
has name d = names_it name (members_in d)

abbrev kind_in : Data → ℕ
kind_in d =
    if has (codes "created") d then 0 else
    if has (codes "withheld") d then 14 else
    if has (codes "last") d then 15 else
    if has (codes "refused") d then 12 else
    if has (codes "audit") d then 10 else
    if has (codes "misfit") d then 11 else
    if has (codes "unseen") d then 13 else
    if has (codes "missed") d then 16 else
    if has (codes "would") d then 9 else
    if has (codes "events") d then 8 else
    if has (codes "origins") d then 5 else
    if has (codes "trace") d then 4 else
    if has (codes "sites") d then 7 else
    if has (codes "quarantined") d then 6 else
    if has (codes "outside") d then 3 else
    if has (codes "new") d || (has (codes "effect") d || has (codes "captured") d) then 1 else 2

abbrev first_kind : List Data → Option ℕ
first_kind [] = None
first_kind (d ∷ ds) = Some (kind_in d)

listed_kind : {X : Type 0} (of : X → Data) (n : ℕ) → ((x : X) → kind_in (of x) ≡ n) → (xs : List X) → 0 < length (map of xs) → first_kind (map of xs) ≡ Some n
listed_kind of n each [] some = absurd (let no : ⊥ = omega (arith, some) in no)
listed_kind of n each (x ∷ xs) some = ap Some (each x)

effects_kind : (sites : List Site) (done : Effects) → kind_in (effects_json sites done) ≡ 1
effects_kind sites (effects.Captured fresh known skipped) = refl
effects_kind sites (effects.Started r new numbered ended) = refl
effects_kind sites (effects.Received new numbered owed) = refl
effects_kind sites effects.Repeat = refl
effects_kind sites effects.Stale = refl
effects_kind sites effects.Cleared = refl
effects_kind sites (effects.ParentDue m) = refl
effects_kind sites (effects.Ended r) = refl

verdict_kind : (sites : List Site) (r : Recall) (v : Option Verdict) → kind_in (verdict_json sites r v) ≡ 10
verdict_kind sites r None = refl
verdict_kind sites r (Some (Equal count)) = refl
verdict_kind sites r (Some (Differs p missing)) = refl

line_kind : (n : ℕ) (why : LineRefusal) → kind_in (object (line_members n why)) ≡ 12
line_kind n BadLine = refl
line_kind n (BadSite fault) = refl

step_kind : (sites : List Site) (why : Refusal) → kind_in (object (step_members sites why)) ≡ 12
step_kind sites (steps.Blocked r key event) = refl
step_kind sites (steps.IdTaken event) = refl
step_kind sites steps.UnknownItem = refl
step_kind sites steps.NotMine = refl
step_kind sites steps.NumbersSpent = refl
step_kind sites (steps.Doc fault) = refl
step_kind sites steps.NoMemory = refl

why_kind : (sites : List Site) (why : CommandRefusal) → kind_in (why_json sites why) ≡ 12
why_kind sites (refusals.Line refused) = line_kind refused.line refused.why
why_kind sites refusals.NoWorld = refl
why_kind sites (refusals.Exists name) = refl
why_kind sites (refusals.NoSite name) = refl
why_kind sites refusals.BadEpc = refl
why_kind sites refusals.BadKey = refl
why_kind sites (refusals.BadScan fault) = refl
why_kind sites refusals.BadRecall = refl
why_kind sites refusals.UnknownRecall = refl
why_kind sites (refusals.Step why) = step_kind sites why

kind_told : (sites : List Site) (o : Outcome) → 0 < length (outcome_json sites o) → first_kind (outcome_json sites o) ≡ Some (kind_of o)
unfolding account_json status_json detail_json gaps_json missed_json
kind_told sites outcomes.Created some = refl
kind_told sites (outcomes.Stepped done) some = ap Some (effects_kind sites done)
kind_told sites (outcomes.Ran recalls coded) some = listed_kind (ran_json sites) 2 (λ b. refl) recalls.items some
kind_told sites (outcomes.Reported r report ways events) some = refl
kind_told sites (outcomes.Traced trace ways events) some = refl
kind_told sites (outcomes.TracedBack trace ways events) some = refl
kind_told sites (outcomes.Standing recalls coded) some = listed_kind (status_json sites) 6 (λ b. refl) recalls.items some
kind_told sites (outcomes.Waiting detail coded) some = refl
kind_told sites (outcomes.Known site known) some = listed_kind (known_json sites site) 8 (λ k. refl) known.items some
kind_told sites (outcomes.WouldStart quarantined messages) some = refl
kind_told sites outcomes.Withheld some = refl
kind_told sites (outcomes.Covered found) some = listed_kind (covered_json sites) 15 (λ c. refl) found.items some
kind_told sites (outcomes.Audited recalls ended coded) some = listed_kind (audited_json sites) 10 (λ b. verdict_kind sites b.recall b.verdict) recalls.items some
kind_told sites (outcomes.Inconsistent misfit) some = refl
kind_told sites (outcomes.Gaps gaps coded) some = refl
kind_told sites (outcomes.Missed r missed coded) some = refl
kind_told sites (outcomes.Refused whys) some = listed_kind (why_json sites) 12 (why_kind sites) whys.items some

pub values_tell_kinds : ValuesTellKinds
values_tell_kinds sites o p e some =
    some_same (kind_of o) (kind_of p)
    (sym (kind_told sites o some) ∙ ap first_kind e ∙ kind_told sites p (subst (λ ds. 0 < length ds) e some))
