-- The values of outcomes are read back from their text, and have no float in it.
use Rattle.std.proofs.Common.{◌≡◌, ℕ, suc, false, List, [], ◌∷◌, All, Option, Some, None, map, refl}
use Rattle.std.proofs.lemmas.List.Elements.{All-cons, All-head, All-nil, All-tail}
use Rattle.event_json.specs.Sites.{Site}
use Rattle.frame_core.specs.Numbers.{Message, Recall}
use Rattle.gap_core.specs.declared.lines.GapLine.{GapLine}
use Rattle.query_core.specs.declared.recalls.RecallDetail.{RecallDetail}
use Rattle.query_core.specs.declared.recalls.RecallStatus.{RecallStatus}
use Rattle.query_core.specs.declared.recalls.SiteStanding.{SiteStanding}
use Rattle.recall_outcomes.specs.declared.outcomes.SiteCoverage.{SiteCoverage}
use Rattle.recall_outcomes.specs.declared.outcomes.CommandRefusal.{CommandRefusal}
use Rattle.recall_outcomes.specs.declared.outcomes.CommandRefusal.TheVariants as refusals
use Rattle.recall_outcomes.specs.declared.outcomes.FoundGaps.{FoundGaps}
use Rattle.recall_outcomes.specs.declared.outcomes.MissedPair.{MissedPair}
use Rattle.recall_outcomes.specs.declared.outcomes.MissedReach.{MissedReach}
use Rattle.recall_outcomes.specs.declared.outcomes.Outcome.{Outcome}
use Rattle.recall_outcomes.specs.declared.outcomes.Outcome.TheVariants as outcomes
use Rattle.recall_outcomes.specs.declared.outcomes.PackedGap.{PackedGap}
use Rattle.recall_outcomes.specs.declared.outcomes.Ways.{Ways}
use Rattle.recall_text.specs.declared.site_lists.LineRefusal.{LineRefusal}
use Rattle.recall_text.specs.declared.site_lists.LineRefusal.TheVariants.{BadLine, BadSite}
use Rattle.report_core.specs.declared.audits.Verdict.{Verdict}
use Rattle.report_core.specs.declared.audits.Verdict.TheVariants as verdicts
use Rattle.report_core.specs.declared.outside.OutsideShipment.{OutsideShipment}
use Rattle.report_core.specs.declared.outside_events.OutsideEvent.{OutsideEvent}
use Rattle.report_core.specs.declared.packing_events.PackingEvent.{PackingEvent}
use Rattle.report_core.specs.declared.trail_events.CapturedEvent.{CapturedEvent}
use Rattle.report_core.specs.declared.trail_events.StepEvents.{StepEvents}
use Rattle.report_core.specs.declared.trail_events.StepEvents.TheVariants as steps_of
use Rattle.report_forms.specs.Accounts.{Account, OutsidePart, Part, back_account, report_account, trace_account}
use Rattle.report_forms.specs.declared.accounts.Title.{Title}
use Rattle.report_forms.specs.declared.accounts.Title.TheVariants as titles
use Rattle.serde_json.specs.Data.{Data, object, string}
use Rattle.serde_json.specs.Written.{has_float}
use Rattle.site_core.specs.declared.outcomes.Effects.{Effects}
use Rattle.site_core.specs.declared.outcomes.Effects.TheVariants as effects
use Rattle.site_core.specs.declared.outcomes.Refusal.{Refusal}
use Rattle.site_core.specs.declared.outcomes.Refusal.TheVariants as steps
use Rattle.trace_core.specs.declared.pairs.Pair.{Pair}
use Rattle.outcome_forms.specs.Accounts.{told_events}
use Rattle.outcome_forms.specs.Json.{Shown, whole, before, behind, account_json, audited_json, beside_json, covered_json, created_json, detail_json, effects_json, engaged_json, event_json, gap_line_json, gaps_json, held_json, known_json, left_json, line_members, list_of, misfit_json, missed_json, missed_pair_json, outcome_json, outside_json, packed_json, packing_json, pair_json, part_json, ran_json, root_json, shown_members, shown_outside, shown_way, standing_json, status_json, step_json, step_members, text_or_null, titled_json, trail_json, unlinked_json, unlinked_of, unseen_json, used_json, verdict_json, waiting_json, why_json, with_events, would_json, withheld_json}
use Rattle.outcome_forms.specs.Telling.{ValuesAreRead}
use Rattle.outcome_forms.proofs.Reading.{IsTree, all_read, tree_free}

list_tree : {X : Type 0} (n : ℕ) (of : X → Data) → ((x : X) → IsTree n (of x)) → (xs : List X) → IsTree (suc n) (list_of of xs)
list_tree n of each [] = tt
list_tree n of each (x ∷ xs) = (each x, list_tree n of each xs)

pair_tree : (n : ℕ) (sites : List Site) (p : Pair) → IsTree (suc n) (pair_json sites p)
pair_tree n sites p = (refl, (tt, (tt, tt)))

trail_tree : (sites : List Site) (t : Option (List Pair)) → IsTree 5 (trail_json sites t)
trail_tree sites None = tt
trail_tree sites (Some trail) = list_tree 4 (pair_json sites) (pair_tree 3 sites) trail

beside_tree : (sites : List Site) (p : Option Pair) → IsTree 5 (beside_json sites p)
beside_tree sites None = tt
beside_tree sites (Some p) = pair_tree 4 sites p

shown_tree : (sites : List Site) (p : Pair) (shown : Shown) → IsTree 6 (object (shown_members sites p shown))
shown_tree sites p (whole trail) = (refl, (tt, (tt, (trail_tree sites trail, tt))))
shown_tree sites p (before q) = (refl, (beside_tree sites q, (tt, (tt, tt))))
shown_tree sites p (behind q) = (refl, (tt, (tt, (beside_tree sites q, tt))))

text_tree : (n : ℕ) (text : Option (List ℕ)) → IsTree n (text_or_null text)
text_tree n None = tt
text_tree n (Some text) = tt

event_tree : (n : ℕ) (e : CapturedEvent) → IsTree (suc n) (event_json e)
event_tree n e = (refl, (text_tree n e.id, (tt, (text_tree n e.time, tt))))

packing_tree : (x : PackingEvent) → IsTree 2 (packing_json x)
packing_tree x = (refl, (event_tree 0 x.event, (tt, tt)))

by_tree : (s : StepEvents) → IsTree 4 (step_json s)
by_tree (steps_of.Shipped e packings) = (refl, (event_tree 2 e, (tt, (list_tree 2 packing_json packing_tree packings, tt))))
by_tree (steps_of.Made taken given) = (refl, (event_tree 2 taken, (tt, (event_tree 2 given, tt))))

effects_tree : (sites : List Site) (done : Effects) → IsTree 8 (effects_json sites done)
effects_tree sites (effects.Captured fresh known skipped) = (refl, (tt, (tt, (tt, tt))))
effects_tree sites (effects.Started r new numbered ended) = (refl, (tt, (tt, (tt, (tt, tt)))))
effects_tree sites (effects.Received new numbered owed) = (refl, (tt, (tt, (tt, tt))))
effects_tree sites effects.Repeat = (refl, (tt, tt))
effects_tree sites effects.Stale = (refl, (tt, tt))
effects_tree sites effects.Cleared = (refl, (tt, tt))
effects_tree sites (effects.ParentDue m) = (refl, (tt, (tt, tt)))
effects_tree sites (effects.Ended r) = (refl, (tt, (tt, tt)))

verdict_tree : (sites : List Site) (r : Recall) (v : Option Verdict) → IsTree 8 (verdict_json sites r v)
verdict_tree sites r None = (refl, (tt, (tt, tt)))
verdict_tree sites r (Some (verdicts.Equal count)) = (refl, (tt, (tt, (tt, tt))))
verdict_tree sites r (Some (verdicts.Differs p missing)) = (refl, (tt, (tt, (tt, (tt, (tt, tt))))))

engaged_tree : (sites : List Site) (m : Option Message) → IsTree 5 (engaged_json sites m)
engaged_tree sites None = tt
engaged_tree sites (Some m) = tt

line_tree : (n : ℕ) (why : LineRefusal) → IsTree 8 (object (line_members n why))
line_tree n BadLine = (refl, (tt, (tt, tt)))
line_tree n (BadSite fault) = (refl, (tt, (tt, (tt, tt))))

step_tree : (sites : List Site) (why : Refusal) → IsTree 8 (object (step_members sites why))
step_tree sites (steps.Blocked r key event) = (refl, (tt, (tt, (tt, (tt, tt)))))
step_tree sites (steps.IdTaken event) = (refl, (tt, (tt, tt)))
step_tree sites steps.UnknownItem = (refl, (tt, tt))
step_tree sites steps.NotMine = (refl, (tt, tt))
step_tree sites steps.NumbersSpent = (refl, (tt, tt))
step_tree sites (steps.Doc fault) = (refl, (tt, (tt, (tt, (tt, tt)))))
step_tree sites steps.NoMemory = (refl, (tt, tt))

why_tree : (sites : List Site) (why : CommandRefusal) → IsTree 8 (why_json sites why)
why_tree sites (refusals.Line refused) = line_tree refused.line refused.why
why_tree sites refusals.NoWorld = (refl, (tt, tt))
why_tree sites (refusals.Exists name) = (refl, (tt, (tt, tt)))
why_tree sites (refusals.NoSite name) = (refl, (tt, (tt, tt)))
why_tree sites refusals.BadEpc = (refl, (tt, tt))
why_tree sites refusals.BadKey = (refl, (tt, tt))
why_tree sites (refusals.BadScan fault) = (refl, (tt, (tt, tt)))
why_tree sites refusals.BadRecall = (refl, (tt, tt))
why_tree sites refusals.UnknownRecall = (refl, (tt, tt))
why_tree sites (refusals.Step why) = step_tree sites why

with_tree : (sites : List Site) (p : Pair) (shown : Shown) (events : Option (List StepEvents)) → IsTree 6 (object (with_events events (shown_members sites p shown)))
with_tree sites p shown None = shown_tree sites p shown
with_tree sites p (whole trail) (Some steps) = (refl, (list_tree 4 step_json by_tree steps, (shown_tree sites p (whole trail)).1))
with_tree sites p (before q) (Some steps) = (refl, (list_tree 4 step_json by_tree steps, (shown_tree sites p (before q)).1))
with_tree sites p (behind q) (Some steps) = (refl, (list_tree 4 step_json by_tree steps, (shown_tree sites p (behind q)).1))

part_tree : (sites : List Site) (ways : Ways) (part : Part) → IsTree 6 (part_json sites ways part)
part_tree sites ways part = with_tree sites part.pair (shown_way ways part.way) part.events

outside_tree : (sites : List Site) (x : OutsideShipment) (told : Option OutsideEvent) → IsTree 6 (shown_outside sites x told)
outside_tree sites x None = (refl, (tt, (tt, (tt, tt))))
outside_tree sites x (Some told) = (refl, (tt, (tt, (event_tree 4 told.event, (tt, (tt, tt))))))

outsides_tree : (sites : List Site) (xs : List OutsidePart) → IsTree 7 (list_of (outside_json sites) xs)
outsides_tree sites xs = list_tree 6 (outside_json sites) (λ x. outside_tree sites x.shipment x.event) xs

pairs_tree : (sites : List Site) (ps : List Pair) → IsTree 7 (list_of (pair_json sites) ps)
pairs_tree sites ps = list_tree 6 (pair_json sites) (pair_tree 5 sites) ps

titled_tree : (sites : List Site) (title : Title) (root : Pair) (outside : List OutsidePart) (origins : List Pair) (pairs : Data) → IsTree 7 pairs
    → IsTree 8 (titled_json sites title root outside origins pairs)
titled_tree sites (titles.Recall r ended) root outside origins pairs is = (refl, (tt, (outsides_tree sites outside, (is, (tt, (pair_tree 6 sites root, tt))))))
titled_tree sites titles.Forward root outside origins pairs is = (refl, (outsides_tree sites outside, (is, (pair_tree 6 sites root, (tt, tt)))))
titled_tree sites titles.Back root outside origins pairs is = (refl, (pairs_tree sites origins, (is, (pair_tree 6 sites root, (tt, tt)))))

account_tree : (sites : List Site) (ways : Ways) (a : Account) → IsTree 8 (account_json sites ways a)
unfolding account_json
account_tree sites ways a =
    titled_tree sites a.title a.root a.outside a.origins (list_of (part_json sites ways) a.parts) (list_tree 6 (part_json sites ways) (part_tree sites ways) a.parts)

root_tree : (sites : List Site) (s : RecallStatus) → IsTree 7 (root_json sites s)
root_tree sites s = pair_tree 6 sites (record { site = s.recall.site; item = s.root })

status_tree : (sites : List Site) (s : RecallStatus) → IsTree 8 (status_json sites s)
unfolding status_json
status_tree sites s = (refl, (tt, (tt, (tt, (root_tree sites s, (tt, tt))))))

standing_tree : (sites : List Site) (s : SiteStanding) → IsTree 6 (standing_json sites s)
standing_tree sites s = (refl, (engaged_tree sites s.engaged_by, (tt, (tt, (tt, tt)))))

detail_tree : (sites : List Site) (detail : RecallDetail) → IsTree 8 (detail_json sites detail)
unfolding detail_json
detail_tree sites detail = (
  refl,
  (
    tt,
    (
      list_tree 6 (waiting_json sites) (λ w. (refl, (tt, (tt, (tt, (tt, tt)))))) detail.waiting,
      (tt, (tt, (root_tree sites detail.status, (list_tree 6 (standing_json sites) (standing_tree sites) detail.sites, (tt, tt))))),
    ),
  ),
)

gap_line_tree : (sites : List Site) (l : GapLine) → IsTree 6 (gap_line_json sites l)
gap_line_tree sites l = (refl, (tt, (tt, (tt, (tt, tt)))))

packed_tree : (sites : List Site) (g : PackedGap) → IsTree 6 (packed_json sites g)
packed_tree sites g = (refl, (tt, (tt, (tt, (text_tree 5 g.packed_at, (text_tree 5 g.shipped_at, (tt, tt)))))))

unlinked_tree : (sites : List Site) (lines : Option (List GapLine)) → IsTree 7 (unlinked_json sites lines)
unlinked_tree sites None = tt
unlinked_tree sites (Some lines) = list_tree 6 (gap_line_json sites) (gap_line_tree sites) lines

gaps_tree : (sites : List Site) (gaps : FoundGaps) → IsTree 8 (gaps_json sites gaps)
unfolding gaps_json
gaps_tree sites gaps = (
  refl,
  (
    tt,
    (
      pairs_tree sites gaps.lots.items,
      (
        list_tree 6 (packed_json sites) (packed_tree sites) gaps.packed.items,
        (
          unlinked_tree sites (unlinked_of gaps),
          (
            list_tree 6 (unseen_json sites) (λ u. (refl, (tt, (tt, (tt, tt))))) gaps.unseen.items,
            (list_tree 6 (used_json sites) (λ l. (refl, (tt, (tt, (tt, tt))))) gaps.used.items, tt),
          ),
        ),
      ),
    ),
  ),
)

held_tree : (sites : List Site) (r : Option Recall) → IsTree 5 (held_json sites r)
held_tree sites None = tt
held_tree sites (Some r) = tt

missed_pair_tree : (sites : List Site) (m : MissedPair) → IsTree 6 (missed_pair_json sites m)
missed_pair_tree sites m = (refl, (held_tree sites m.held, (tt, (tt, tt))))

missed_tree : (sites : List Site) (r : Recall) (missed : MissedReach) → IsTree 8 (missed_json sites r missed)
unfolding missed_json
missed_tree sites r missed = (
  refl,
  (
    list_tree 6 (left_json sites) (λ x. (refl, (tt, (tt, (tt, tt))))) missed.outside.items,
    (list_tree 6 (missed_pair_json sites) (missed_pair_tree sites) missed.pairs.items, (tt, tt)),
  ),
)

created_tree : (sites : List Site) → IsTree 8 (created_json sites)
created_tree sites = (refl, (list_tree 6 (λ (s : Site). string s.name) (λ s. tt) sites, tt))

covered_tree : (sites : List Site) (c : SiteCoverage) → IsTree 8 (covered_json sites c)
covered_tree sites c = (refl, (tt, (text_tree 7 c.first, (tt, (text_tree 7 c.last, (tt, tt))))))

one_tree : (d : Data) → IsTree 8 d → All (IsTree 8) (d ∷ [])
one_tree d is = All-cons (IsTree 8) d [] is (All-nil (IsTree 8))

each_tree : {X : Type 0} (of : X → Data) → ((x : X) → IsTree 8 (of x)) → (xs : List X) → All (IsTree 8) (map of xs)
each_tree of each [] = All-nil (IsTree 8)
each_tree of each (x ∷ xs) = All-cons (IsTree 8) (of x) (map of xs) (each x) (each_tree of each xs)

all_trees : (sites : List Site) (o : Outcome) → All (IsTree 8) (outcome_json sites o)
all_trees sites outcomes.Created = one_tree (created_json sites) (created_tree sites)
all_trees sites (outcomes.Stepped done) = one_tree (effects_json sites done) (effects_tree sites done)
all_trees sites (outcomes.Ran recalls coded) = each_tree (ran_json sites) (λ b. (refl, (tt, (tt, tt)))) recalls.items
all_trees sites (outcomes.Reported r report ways events) = one_tree _ (account_tree sites ways (report_account r report events))
all_trees sites (outcomes.Traced trace ways events) = one_tree _ (account_tree sites ways (trace_account trace events))
all_trees sites (outcomes.TracedBack trace ways events) = one_tree _ (account_tree sites ways (back_account trace (told_events events)))
all_trees sites (outcomes.Standing recalls coded) = each_tree (status_json sites) (status_tree sites) recalls.items
all_trees sites (outcomes.Waiting detail coded) = one_tree (detail_json sites detail) (detail_tree sites detail)
all_trees sites (outcomes.Known site known) = each_tree (known_json sites site) (λ k. (refl, (tt, (tt, (tt, tt))))) known.items
all_trees sites (outcomes.WouldStart quarantined messages) = one_tree (would_json quarantined messages) (refl, (tt, (tt, (tt, tt))))
all_trees sites (outcomes.Covered found) = each_tree (covered_json sites) (covered_tree sites) found.items
all_trees sites outcomes.Withheld = one_tree withheld_json (refl, (tt, tt))
all_trees sites (outcomes.Audited recalls ended coded) = each_tree (audited_json sites) (λ a. verdict_tree sites a.recall a.verdict) recalls.items
all_trees sites (outcomes.Inconsistent misfit) = one_tree (misfit_json sites misfit) (refl, (tt, (tt, tt)))
all_trees sites (outcomes.Gaps gaps coded) = one_tree (gaps_json sites gaps) (gaps_tree sites gaps)
all_trees sites (outcomes.Missed r missed coded) = one_tree (missed_json sites r missed) (missed_tree sites r missed)
all_trees sites (outcomes.Refused whys) = each_tree (why_json sites) (why_tree sites) whys.items

pub values_are_read : ValuesAreRead
values_are_read sites o plain = all_read (outcome_json sites o) (all_trees sites o) plain

-- ---- without floats

all_free : (ds : List Data) → All (IsTree 8) ds → All (λ d. has_float d ≡ false) ds
all_free [] are = All-nil (λ d. has_float d ≡ false)
all_free (d ∷ ds) are =
    All-cons (λ e. has_float e ≡ false) d ds (tree_free 8 d (All-head (IsTree 8) d ds are)) (all_free ds (All-tail (IsTree 8) d ds are))

pub outcome_free : (sites : List Site) (o : Outcome) → All (λ d. has_float d ≡ false) (outcome_json sites o)
outcome_free sites o = all_free (outcome_json sites o) (all_trees sites o)

pub part_free : (sites : List Site) (ways : Ways) (part : Part) → has_float (part_json sites ways part) ≡ false
part_free sites ways part = tree_free 6 (part_json sites ways part) (part_tree sites ways part)

pub outside_free : (sites : List Site) (xs : List OutsidePart) → has_float (list_of (outside_json sites) xs) ≡ false
outside_free sites xs = tree_free 7 (list_of (outside_json sites) xs) (outsides_tree sites xs)

pub pairs_free : (sites : List Site) (ps : List Pair) → has_float (list_of (pair_json sites) ps) ≡ false
pairs_free sites ps = tree_free 7 (list_of (pair_json sites) ps) (pairs_tree sites ps)
