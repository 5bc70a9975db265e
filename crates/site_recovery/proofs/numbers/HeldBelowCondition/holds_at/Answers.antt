use Rattle.std.proofs.Common.{◌↔◌, ◌≡◌, ◌<◌, ◌∙◌, ℕ, List, Some, Bor, ap, subst}
use Rattle.std.specs.FinMap.{get}
use Rattle.std.specs.List.{Contains}
use Rattle.std.specs.Prelude.{IsTrue}
use Rattle.std.proofs.lemmas.Result.{IfOk-weaker}
use Rattle.frame_core.specs.Numbers.{Recall}
use Rattle.site_core.specs.ItemSets.{Items}
use Rattle.site_core.specs.Records.{Record}
use Rattle.site_recovery.specs.Checking.{world_at}
use Rattle.site_recovery.specs.Fit.{HeldAreBelow}
use Rattle.site_recovery.specs.Looks.{Held, next_recall}
use Rattle.site_recovery.proofs.SitesInTurn.{each_recall_of}
use Rattle.site_recovery.proofs.numbers.HeldBelowCondition.holds_at.Goals as goal

pub returns : goal.returns
returns c =
    let W = world_at c.args.sites.now in
    let q = c.args.site in
    let next : c.next_recall-next.result ≡ next_recall W q = c.next_recall-next.ensures.next ∙ ap (λ z. z.engagement.next_recall) c.requires.here in
    IfOk-weaker c.each_element.result
    (λ b. IsTrue b ↔ ((x : Bor Record) → Contains c.args.sites.now x → (r : Recall) (items : Items) → get x.now.quarantine r ≡ Some items → r.site ≡ q → r.number < c.next_recall-next.result))
    (λ b. IsTrue b ↔ HeldAreBelow W q)
    (λ b decides. subst (λ z. IsTrue b ↔ ((s : ℕ) (r : Recall) (i : List ℕ) → Held W s r i → r.site ≡ q → r.number < z)) next
    (each_recall_of c.args.sites.now c.requires.all (λ r. r.site ≡ q → r.number < c.next_recall-next.result) b decides))
    c.each_element.ensures
