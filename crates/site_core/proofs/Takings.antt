-- A message that is received is taken: the item's spread comes under its recall, and what is new there is announced.
use Rattle.std.proofs.Common.{inl, ℕ, List, length, refl, sym, subst, Bool, true, false}
use mathlib.Core.Bool.{false≢true}
use Rattle.frame_core.specs.Numbers.{Recall, Message}
use Rattle.scholten_core.specs.Effects as effects
use Rattle.scholten_core.specs.Engagement.{Engagement}
use Rattle.scholten_core.specs.Replies.{TellsTaken}
use Rattle.scholten_core.specs.declared.outcomes.Received.{Received}
use Rattle.scholten_core.proofs.Taking.{unseen_is_taken}
use Rattle.site_core.specs.Records.{Record}
use Rattle.site_core.specs.Shipments.{AreShipments}
use Rattle.site_core.specs.Spreading.{AreNewlyHeld}
use Rattle.site_core.specs.Steps.{reply}
use Rattle.site_core.specs.StepLaws.{TellsOwed, MessagesAreTaken}
use Rattle.site_core.specs.Ways.{CountsNew, TakesMessage}
use Rattle.site_core.proofs.HeldLaws.{held_several}
use Rattle.site_core.proofs.Quarantining.{with_new_items, newly_held, counts_new, quarantines}

module _ (s : Record) (m : Message) (r : Recall) (i : List ℕ) (new : List (List ℕ)) (out : List (ℕ × List ℕ)) (e : Engagement)
    (newly : AreNewlyHeld s.captured s.quarantine r i new) (shipped : AreShipments s.captured new out) (takes : effects.Takes s.engagement e m r out) where
  pub counts : CountsNew s (with_new_items s r new e) r (length new)
  counts = counts_new s r i new new out e newly shipped takes.rows (λ j there. ((newly.exact j).0 there).0) (λ j there. there)

  pub takes_message : TakesMessage s (with_new_items s r new e) m r i
  takes_message = record {
    quarantines = quarantines s r i new new out e newly shipped takes.rows (λ j there. ((newly.exact j).0 there).0) (λ j there. there);
    out = out;
    once = shipped.ascending;
    exact = λ u j. (
      λ there. let (item, to) = (shipped.exact u j).0 there in ((held_several s.quarantine r new r j).1 (inl (refl, item)), ((newly.exact j).0 item).1, to),
      λ (is, not_before, to). (shipped.exact u j).1 (newly_held s r i new new out e newly shipped takes.rows j is not_before, to),
    );
    takes = takes;
  }

tells_owed : (s t : Record) (m : Message) (r : Recall) (numbered : ℕ) (owed : Bool) → TellsTaken s.engagement t.engagement m r (reply numbered owed) → TellsOwed s t m r numbered owed
tells_owed s t m r numbered true h = record { messages = h.1; parent = (λ is. h.0, λ becomes. refl) }
tells_owed s t m r numbered false h = record { messages = h.1; parent = (λ is. absurd (false≢true is), λ becomes. absurd (h.0 becomes)) }

pub messages_are_taken : MessagesAreTaken
messages_are_taken s t m dest r i quarantined numbered owed c =
    let what = subst (λ (p : Engagement × Received). effects.Takes s.engagement p.0 m r c.out × TellsTaken s.engagement p.0 m r p.1) c.engaged
    (unseen_is_taken s.engagement m r c.out c.may.unseen) in
    let as_counted : CountsNew s t r quarantined =
    subst (λ n. CountsNew s t r n) (sym c.held) (subst (λ u. CountsNew s u r (length c.new)) (sym c.after) (counts s m r i c.new c.out t.engagement c.may.newly c.may.shipped what.0)) in
    (c.may.mine, subst (λ u. TakesMessage s u m r i) (sym c.after) (takes_message s m r i c.new c.out t.engagement c.may.newly c.may.shipped what.0), as_counted, tells_owed s t m r numbered owed what.1)
