-- The records have one answer, and its parts agree.
use Rattle.std.proofs.Common.{◌≡◌, ◌++◌, inl, inr, ℕ, ◌+◌, ◌<◌, Bool, true, false, cond, List, [], ◌∷◌, length, Some, refl, sym, ap, ◌∙◌, subst, arith}
use Rattle.std.specs.FinMap.{entries}
use Rattle.std.specs.List.{flat_map, sum_by}
use Rattle.std.specs.Prelude.{filter}
use Rattle.std.proofs.lemmas.List.{append-nil, append_assoc, length-map}
use Rattle.std.proofs.lemmas.List.Concat.{length-flat_map}
use Rattle.frame_core.specs.Identifiers.{same_recall}
use Rattle.frame_core.specs.Numbers.{Recall}
use Rattle.frame_core.specs.declared.rows.Row.{Row}
use Rattle.frame_core.proofs.Deficits.{passing, passing_more}
use Rattle.scholten_core.specs.declared.own_recalls.Own.{Own}
use Rattle.site_core.specs.Records.{Record}
use Rattle.site_core.specs.Spreading.{IsKnownItem}
use Rattle.site_recovery.specs.Looks.{World, world_of, own}
use Rattle.query_core.specs.KnownItems.{events_naming, IsInside}
use Rattle.query_core.specs.Laws.{DetailsAreListed, OneDetail, OneListOfRecalls, ShorterTextsTellMore, SitesAddUp, WholeKeysAreTold}
use Rattle.query_core.specs.BySite.{is_concerned, standing_of, standings_at, waiting_as, waiting_from}
use Rattle.query_core.specs.Recalls.{quarantined_count, waiting_count, IsStatus, IsStanding, IsWaiting, standing_cmp, status_cmp, waiting_cmp}
use Rattle.query_core.specs.declared.recalls.RecallStatus.{RecallStatus}
use Rattle.query_core.specs.declared.recalls.SiteStanding.{SiteStanding}
use Rattle.query_core.proofs.Listed.{same_all}
use Rattle.query_core.proofs.RecordSums.{sum_of_sums}
use Rattle.query_core.proofs.SiteLists.{all_standings, all_waiting, is_concerned_from, standing_total, status_total, waiting_total}

pub one_list_of_recalls : OneListOfRecalls
one_list_of_recalls records a b are are' = same_all status_cmp status_total (IsStatus records) a b are are'

one_status : (records : List Record) (x y : RecallStatus) → IsStatus records x → IsStatus records y → x.recall ≡ y.recall → x ≡ y
one_status records x y a b same =
    let entry : a.entry ≡ b.entry = let one : Some a.entry ≡ Some b.entry = sym a.begun ∙ ap (λ (r : Recall). own (world_of records) r.site r.number) same ∙ b.begun in cc in
    let root : x.root ≡ y.root = a.root ∙ ap (λ (o : Own). o.root) entry ∙ sym b.root in
    let ended : x.ended ≡ y.ended = a.ended ∙ ap (λ (o : Own). o.ended) entry ∙ sym b.ended in
    let quarantined : x.quarantined ≡ y.quarantined = a.quarantined ∙ ap (λ (r : Recall). sum_by (quarantined_count r) records) same ∙ sym b.quarantined in
    let waiting : x.waiting ≡ y.waiting = a.waiting ∙ ap (λ (r : Recall). sum_by (waiting_count r) records) same ∙ sym b.waiting in
    λ i. record { recall = same i; root = root i; ended = ended i; quarantined = quarantined i; waiting = waiting i }

pub one_detail : OneDetail
one_detail records recall a b are are' =
    let W = world_of records in
    let status : a.status ≡ b.status = one_status records a.status b.status are.status are'.status (are.of_recall ∙ sym are'.of_recall) in
    let sites : a.sites ≡ b.sites = same_all standing_cmp standing_total (IsStanding W recall) a.sites b.sites are.sites are'.sites in
    let waiting : a.waiting ≡ b.waiting = same_all waiting_cmp waiting_total (IsWaiting W recall) a.waiting b.waiting are.waiting are'.waiting in
    λ i. record { status = status i; sites = sites i; waiting = waiting i }

pub details_are_listed : DetailsAreListed
details_are_listed records recall detail statuses are all = (all.exact detail.status).1 are.status

-- ---- sums

-- a site that isn't concerned adds nothing
sum_at_most_one : (f : SiteStanding → ℕ) (x : SiteStanding) (b : Bool) → (b ≡ false → f x ≡ 0) → sum_by f (cond b (x ∷ []) []) ≡ f x
sum_at_most_one f x true none = omega arith
sum_at_most_one f x false none = sym (none refl)

zero_or_more : (n : ℕ) → (0 < n → ⊥) → n ≡ 0
zero_or_more n none = grind (arith, none)

quiet : (x : SiteStanding) → is_concerned x ≡ false → (x.quarantined ≡ 0) × (x.waiting ≡ 0)
quiet x is = (
  zero_or_more x.quarantined (λ some. let wrong : true ≡ false = sym (is_concerned_from x (inl some)) ∙ is in cc),
  zero_or_more x.waiting (λ some. let wrong : true ≡ false = sym (is_concerned_from x (inr (inl some))) ∙ is in cc),
)

quarantined_adds : (recall : Recall) (r : Record) → sum_by (λ s. s.quarantined) (standings_at recall r) ≡ quarantined_count recall r
quarantined_adds recall r = sum_at_most_one (λ s. s.quarantined) (standing_of recall r) (is_concerned (standing_of recall r)) (λ is. (quiet (standing_of recall r) is).0)

waiting_adds : (recall : Recall) (r : Record) → sum_by (λ s. s.waiting) (standings_at recall r) ≡ waiting_count recall r
waiting_adds recall r = sum_at_most_one (λ s. s.waiting) (standing_of recall r) (is_concerned (standing_of recall r)) (λ is. (quiet (standing_of recall r) is).1)

-- as many rows pass a test as the test leaves
length_kept : {X : Type 0} (x : X) (xs : List X) (n : ℕ) (b : Bool) → length xs ≡ n → length (cond b (x ∷ xs) xs) ≡ cond b 1 0 + n
length_kept x xs n true is = omega (arith, is)
length_kept x xs n false is = omega (arith, is)

length_passing : (p : Row → Bool) (es : List (ℕ × Row)) → length (filter (λ (e : ℕ × Row). p e.1) es) ≡ passing p es
length_passing p [] = refl
length_passing p (e ∷ es) = length_kept e (filter (λ (d : ℕ × Row). p d.1) es) (passing p es) (p e.1) (length_passing p es) ∙ sym (passing_more p e es)

waiting_length : (W : World) (recall : Recall) (r : Record) → length (waiting_from W recall r) ≡ waiting_count recall r
waiting_length W recall r =
    length-map (filter (λ (e : ℕ × Row). same_recall e.1.recall recall) (entries r.engagement.outbox)) (waiting_as W r.engagement.me)
    ∙ length_passing (λ row. same_recall row.recall recall) (entries r.engagement.outbox)

pub sites_add_up : SitesAddUp
sites_add_up records recall detail places is =
    let W = world_of records in
    let sites : detail.sites ≡ flat_map (standings_at recall) records = same_all standing_cmp standing_total (IsStanding W recall) detail.sites _ is.sites (all_standings recall records places) in
    let messages : detail.waiting ≡ flat_map (waiting_from W recall) records = same_all waiting_cmp waiting_total (IsWaiting W recall) detail.waiting _ is.waiting (all_waiting records recall places) in
    let quarantined : sum_by (quarantined_count recall) records ≡ detail.status.quarantined = ap (λ (r : Recall). sum_by (quarantined_count r) records) (sym is.of_recall) ∙ sym is.status.quarantined in
    let waiting : sum_by (waiting_count recall) records ≡ detail.status.waiting = ap (λ (r : Recall). sum_by (waiting_count r) records) (sym is.of_recall) ∙ sym is.status.waiting in (
      ap (sum_by (λ s. s.quarantined)) sites ∙ sum_of_sums (standings_at recall) (λ s. s.quarantined) (quarantined_count recall) (quarantined_adds recall) records ∙ quarantined,
      ap (sum_by (λ s. s.waiting)) sites ∙ sum_of_sums (standings_at recall) (λ s. s.waiting) (waiting_count recall) (waiting_adds recall) records ∙ waiting,
      ap length messages ∙ length-flat_map (waiting_from W recall) records ∙ ap (λ (f : Record → ℕ). sum_by f records) (λ i r. waiting_length W recall r i) ∙ waiting,
    )

-- ---- items

pub whole_keys_are_told : WholeKeysAreTold
whole_keys_are_told r item items are = (
  λ known. (
    record { item = item; events = events_naming r.captured.events item },
    (are.exact _).1 (record { known = known; inside = ([], [], sym (append-nil item)); events = refl }),
    refl,
  ),
  λ (k, among, same). subst (IsKnownItem r.captured r.quarantine) same ((are.exact k).0 among).known,
)

inside_inside : (text longer item : List ℕ) → IsInside text longer → IsInside longer item → IsInside text item
inside_inside text longer item (front, behind, is) (front', behind', is') = (
  front' ++ front,
  behind ++ behind',
  is' ∙ ap (λ z. front' ++ z ++ behind') is
      ∙ ap (λ z. z ++ behind') (sym (append_assoc front' (front ++ text) behind) ∙ ap (λ z. z ++ behind) (sym (append_assoc front' front text)))
      ∙ append_assoc (front' ++ front ++ text) behind behind',
)

pub shorter_texts_tell_more : ShorterTextsTellMore
shorter_texts_tell_more r text longer items fewer are are' inside known among =
    let is = (are'.exact known).0 among in
    (are.exact known).1 (record { known = is.known; inside = inside_inside text longer known.item inside is.inside; events = is.events })
