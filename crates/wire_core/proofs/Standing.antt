-- What the calls leave of the records last marked.
use Rattle.std.proofs.Common.{◌≡◌, ℕ, zero, suc, ◌+◌, ◌<◌, ◌≤◌, Bool, true, false, cond, nat_eq, nat_lt, not, List, [], ◌∷◌, length, slice_get, Contains, Some, None, sym, refl, ap, ◌∙◌, subst, arith}
use Rattle.std.proofs.lemmas.List.{length_push}
use Rattle.std.proofs.lemmas.List.Elements.{Contains-append_left, Contains-append_right}
use Rattle.std.proofs.lemmas.Option.{same_Some}
use Rattle.site_core.specs.Records.{Record}
use Rattle.wire_core.specs.declared.views.Log.{Log}
use Rattle.wire_core.specs.Changes.{pick, on, asks, offers, sends, receives, marks}
use Rattle.wire_core.specs.Rule.{opening_log, logs_from}
use Rattle.wire_core.specs.Standing.{WasLastMarked, OpeningRecordsStand, SplitsMarkNothing, JoinsMarkNothing, SentFramesMarkNothing, OfferedFramesMarkNothing, NotedFramesMarkNothing, AskedSitesMarkNothing, MarksPutTheRecord, MarksLeaveOtherSites}
use Rattle.wire_core.proofs.Changes.{changed_there}
use Rattle.wire_core.proofs.Lists.{Contains_map}
use Rattle.wire_core.proofs.Parts.{kept}
use Rattle.wire_core.proofs.Seating.{pick_else}

opened : (rs : List Record) (site i : ℕ) (r : Record) → slice_get rs i ≡ Some r → Contains (logs_from site rs) (opening_log (site + i) r)
opened [] site i r e = let n : None ≡ Some r = e in cc
opened (x ∷ xs) site zero r e =
    let one : Contains (logs_from site (x ∷ xs)) (opening_log site x) = (0, omega arith, refl) in
    let here : site ≡ site + 0 = omega arith in
    subst (λ (t : ℕ × Record). Contains (logs_from site (x ∷ xs)) (opening_log t.0 t.1)) (λ k. (here k, same_Some x r e k)) one
opened (x ∷ xs) site (suc i) r e =
    let c = opened xs (site + 1) i r e in
    let more : Contains (logs_from site (x ∷ xs)) (opening_log (site + 1 + i) r) = (suc c.0, omega (arith, c.1), c.2) in
    let there : site + 1 + i ≡ site + suc i = omega arith in
    subst (λ k. Contains (logs_from site (x ∷ xs)) (opening_log k r)) there more

pub opening_records_stand : OpeningRecordsStand
opening_records_stand records site r at me = record {
  log = opening_log (0 + site) r;
  held = opened records 0 site r at;
  site = (let z : 0 + site ≡ site = omega arith in z) ∙ sym me;
  last = refl;
  marked = omega arith;
}

low : (a b : ℕ) → a < b → nat_lt a b ≡ true
low a b h = grind arith

high : (a b : ℕ) → b ≤ a → not (nat_lt a b) ≡ true
high a b h = grind arith

pub splits_mark_nothing : SplitsMarkNothing
splits_mark_nothing logs at r count s = (
  (λ small. record { log = s.log; held = kept (λ (x : Log). nat_lt x.site at) logs s.log s.held (low s.log.site at (subst (λ k. k < at) (sym s.site) small)); site = s.site; last = s.last; marked = s.marked }),
  (λ large. record { log = s.log; held = kept (λ (x : Log). not (nat_lt x.site at)) logs s.log s.held (high s.log.site at (subst (λ k. at ≤ k) (sym s.site) large)); site = s.site; last = s.last; marked = s.marked }),
)

pub joins_mark_nothing : JoinsMarkNothing
joins_mark_nothing one other r count = (
  (λ s. record { log = s.log; held = Contains-append_left one other s.log s.held; site = s.site; last = s.last; marked = s.marked }),
  (λ s. record { log = s.log; held = Contains-append_right one other s.log s.held; site = s.site; last = s.last; marked = s.marked }),
)

-- a change that keeps a site, its record and its inputs
stands_on : (i : ℕ) (g : Log → Log) → ((e : Log) → (g e).site ≡ e.site) → ((e : Log) → (g e).last ≡ e.last) → ((e : Log) → (g e).inputs ≡ e.inputs) → (logs : List Log) (r : Record) (count : ℕ) → WasLastMarked logs r count → WasLastMarked (on i g logs) r count
stands_on i g site last inputs logs r count s = record {
  log = pick i g s.log;
  held = Contains_map (pick i g) logs s.log s.held;
  site = either_way (nat_eq s.log.site i) (λ x. x.site ≡ r.engagement.me) s.site (site s.log ∙ s.site);
  last = either_way (nat_eq s.log.site i) (λ x. x.last ≡ r) s.last (last s.log ∙ s.last);
  marked = either_way (nat_eq s.log.site i) (λ x. length x.inputs ≤ count) s.marked (let l = ap length (inputs s.log) in let m = s.marked in omega arith);
}
  where
    either_way : (b : Bool) (P : Log → Type 0) → P s.log → P (g s.log) → P (cond b (g s.log) s.log)
    either_way true P old new = new
    either_way false P old new = old

pub sent_frames_mark_nothing : SentFramesMarkNothing
sent_frames_mark_nothing logs site f r count s = stands_on site (sends f) (λ e. refl) (λ e. refl) (λ e. refl) logs r count s

pub offered_frames_mark_nothing : OfferedFramesMarkNothing
offered_frames_mark_nothing logs site f r count s = stands_on site (offers f) (λ e. refl) (λ e. refl) (λ e. refl) logs r count s

pub noted_frames_mark_nothing : NotedFramesMarkNothing
noted_frames_mark_nothing logs site other f r count s = stands_on site (receives other f) (λ e. refl) (λ e. refl) (λ e. refl) logs r count s

pub asked_sites_mark_nothing : AskedSitesMarkNothing
asked_sites_mark_nothing logs site other r count s = stands_on site (asks other) (λ e. refl) (λ e. refl) (λ e. refl) logs r count s

pub marks_put_the_record : MarksPutTheRecord
marks_put_the_record logs input new r count s mine = record {
  log = marks input new s.log;
  held = changed_there new.engagement.me (marks input new) logs s.log s.held (s.site ∙ mine);
  site = s.site ∙ mine;
  last = refl;
  marked = let l = length_push s.log.inputs input in let m = s.marked in omega arith;
}

pub marks_leave_other_sites : MarksLeaveOtherSites
marks_leave_other_sites logs input new r count s other = record {
  log = s.log;
  held = subst (Contains (on new.engagement.me (marks input new) logs)) (pick_else new.engagement.me (marks input new) s.log (λ e. other (sym s.site ∙ e))) (Contains_map (pick new.engagement.me (marks input new)) logs s.log s.held);
  site = s.site;
  last = s.last;
  marked = s.marked;
}
