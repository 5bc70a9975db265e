use Rattle.std.proofs.Common.{◌≡◌, length, subst, Result, Ok, Err, IfOk}
use Rattle.std.specs.BTreeMap.{IsOrdered}
use Rattle.std.specs.Prelude.{IsTrue}
use Rattle.frame_core.specs.Numbers.{Recall}
use Rattle.trace_core.specs.Sites.{SiteEvents}
use Rattle.site_core.specs.ItemSets.{item_cmp}
use Rattle.site_core.specs.Quarantines.{Quarantine, held}
use Rattle.query_core.specs.KnownItems.{AreKnownItems}
use Rattle.query_core.specs.Mentions.{AreCounted, Keeps, told}
use Rattle.query_core.proofs.Told.{are_known}
use Rattle.query_core.proofs.known_items.known_items_with.Goals as goal

-- what two clauses of one result give together
if_both : {T E : Type 0} (P Q S : T → Type 0) → ((t : T) → P t → Q t → S t) → (r : Result T E) → IfOk r P → IfOk r Q → IfOk r S
if_both P Q S gives (Ok t) p q = gives t p q
if_both P Q S gives (Err e) p q = tt

pub returns : goal.returns
returns c =
    let r = c.args.state.now in
    let counts = c.keep_quarantined.new.counts in
    let are = subst (λ (s : SiteEvents). AreCounted s.events (length c.captured.result.now.events) c.in_ok-counts.counts) c.captured.ensures c.in_ok-counts.ensures in
    let keeps = subst (λ (q : Quarantine). Keeps c.in_ok-counts.counts counts (λ i. (recall : Recall) × IsTrue (held q recall i))) c.quarantine.ensures c.in_ok-keep_quarantined.ensures in
    if_both (λ items. items.items ≡ told c.args.text.now counts.entries) (λ _. IsOrdered item_cmp counts) (λ items. AreKnownItems r c.args.text.now items.items)
    (λ items is ordered. are_known r c.args.text.now c.in_ok-counts.counts counts (length c.captured.result.now.events) are keeps ordered items.items is)
    c.those_with.result c.those_with.ensures.told c.those_with.ensures.ordered
