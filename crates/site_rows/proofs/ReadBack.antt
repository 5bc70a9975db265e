-- What is read from the rows of all tables is a record that a site may keep, and from those of a record that record.
use Rattle.std.proofs.Common.{◌≡◌, ℕ, ◌<◌, pos, List, length, map, Option, Some, None, Result, Ok, Err, IfOk, refl, sym, ap, subst, ◌∙◌, arith}
use mathlib.Core.Bool.{false≢true}
use Rattle.std.specs.Prelude.{Any, IfErr, IsSome, MatchResult}
use Rattle.std.specs.FinMap.{get}
use Rattle.std.specs.List.{All, enumerate_from}
use Rattle.std.proofs.lemmas.Option.{slice_get-get_or}
use Rattle.event_json.specs.Events.{Content}
use Rattle.event_json.specs.Sites.{Site, ShipsAmong}
use Rattle.frame_core.specs.Numbers.{Recall}
use Rattle.frame_core.specs.Unsignalled.{IsNextNumber}
use Rattle.scholten_core.specs.Engagement.{Engagement}
use Rattle.site_core.proofs.Places.{stands_within}
use Rattle.site_core.specs.Quarantines.{HasNoEmptySet, Quarantine}
use Rattle.site_core.specs.Records.{IsEngagementAmong, IsRecallAmong, IsSound, Record}
use Rattle.trace_core.specs.Sites.{SiteEvents}
use Rattle.site_rows.specs.BadRows.{IsStore}
use Rattle.site_rows.specs.Laws.{HoldsItems, IsKept}
use Rattle.site_rows.specs.ReadRows.{IsBadRow, IsStateFault}
use Rattle.site_rows.specs.RecordRows.{HasTables, rows_under, site_row}
use Rattle.site_rows.specs.declared.reading.StateFault.{StateFault}
use Rattle.site_rows.specs.declared.reading.StateFault.TheVariants.{NoMemory, BadRow}
use Rattle.site_rows.specs.declared.reading_sites.StoreNumbers.{StoreNumbers}
use Rattle.site_rows.specs.declared.rows.Rows.{Rows}
use Rattle.site_rows.specs.declared.tables.Version.{Version}
use Rattle.site_rows.specs.declared.rows.SiteRow.{SiteRow}
use Rattle.site_rows.specs.declared.rows.StoreRow.{StoreRow}
use Rattle.site_rows.proofs.GoodAddresses.{mapped_at, numbered_there}
use Rattle.site_rows.proofs.GoodRows.{rows_are_good}
use Rattle.site_rows.proofs.SameRecalls.{same_number}
use Rattle.site_rows.proofs.SameRecords.{same_record}

pub some_value : {V : Type 0} (o : Option V) → IsSome o → (v : V) × (o ≡ Some v)
some_value None some = absurd (false≢true some)
some_value (Some v) some = (v, refl)

-- a number of a row of a site is that of a site
listed_site : (sites : List Site) (me : ℕ) → Any (λ (r : SiteRow). r.no ≡ pos me) (map site_row (enumerate_from 0 sites)) → me < length sites
listed_site sites me listed =
    let rows = map site_row (enumerate_from 0 sites) in
    let k = listed.0 in
    let p = mapped_at site_row (enumerate_from 0 sites) k listed.1 (slice_get-get_or rows k listed.1 listed.2 ∙ ap Some listed.3) in
    let at = numbered_there 0 sites k p.0 p.1 in
    let low = stands_within sites k p.0.1 at.1 in
    let number : p.0.0 ≡ me = same_number p.0.0 me (ap (λ (r : SiteRow). r.no) p.2 ∙ listed.4) in
    omega (arith, low, at.0, number)

pub sound_parts : {v : Version} (sites : List Site) (captured : SiteEvents) (q : Quarantine) (d : Engagement) (table : List SiteRow) (stores : List StoreRow) (numbers : StoreNumbers) (m n : ℕ)
    → m ≡ length sites → n ≡ length sites → table ≡ map site_row (enumerate_from 0 sites) → IsStore v table stores numbers → captured.me ≡ numbers.me
    → (d.me ≡ numbers.me) × (d.next_message ≡ numbers.next_message) × (d.next_recall ≡ numbers.next_recall) → All (λ (e : Content). ShipsAmong (length sites) e.body) captured.events
    → ((r : Recall) → IsSome (get q r) → IsRecallAmong m r) → HasNoEmptySet q → IsEngagementAmong n d
    → IsSound (record { sites = sites; captured = captured; quarantine = q; engagement = d })
sound_parts sites captured q d table stores numbers m n held_size size named store me of_store ships held full among =
    let here : IsEngagementAmong (length sites) d = subst (λ k. IsEngagementAmong k d) size among in
    let number = listed_site sites numbers.me (subst (λ (rows : List SiteRow). Any (λ (r : SiteRow). r.no ≡ pos numbers.me) rows) named store.listed) in
    record {
      one_site = me ∙ sym of_store.0;
      me = subst (λ k. k < length sites) (sym of_store.0) number;
      events = ships;
      quarantine = λ r some. subst (λ k. IsRecallAmong k r) held_size (held r some);
      no_empty_set = full;
      rows = here.rows;
      seen = here.seen;
      parents = here.parents;
      own = here.own;
      next_message = subst IsNextNumber (sym of_store.1) store.next_message;
      next_recall = subst IsNextNumber (sym of_store.2) store.next_recall;
    }

pub read_back : (rows : Rows) (result : Result Record StateFault) → IfOk result (λ state. rows_under rows.version state ≡ rows) → IfOk result (λ state. IsKept state) → IfErr result (λ fault. IsStateFault rows fault)
    → HasTables rows → (s : Record) → IsKept s → HoldsItems s → rows_under rows.version s ≡ rows → MatchResult result (λ state. state ≡ s) (λ fault. fault ≡ NoMemory)
read_back rows (Ok state) read kept bad tables s is_kept holds same = same_record rows.version state s kept is_kept (read ∙ sym same)
read_back rows (Err NoMemory) read kept bad tables s is_kept holds same = refl
read_back rows (Err (BadRow b)) read kept bad tables s is_kept holds same = absurd (rows_are_good rows.version s is_kept holds (subst HasTables (sym same) tables) b.table b.row (subst (λ r. IsBadRow r b.table b.row) (sym same) bad.1))
