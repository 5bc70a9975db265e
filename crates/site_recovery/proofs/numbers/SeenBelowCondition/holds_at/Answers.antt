use Rattle.std.proofs.Common.{◌↔◌, ◌≡◌, ◌<◌, ◌∙◌, ℕ, Some, Bor, ap, subst}
use Rattle.std.specs.FinMap.{get}
use Rattle.std.specs.List.{Contains}
use Rattle.std.specs.Prelude.{IsTrue}
use Rattle.std.proofs.lemmas.Result.{IfOk-weaker}
use Rattle.frame_core.specs.Numbers.{Recall, Message}
use Rattle.site_core.specs.Records.{Record}
use Rattle.site_recovery.specs.Checking.{world_at}
use Rattle.site_recovery.specs.Fit.{SeenAreBelow}
use Rattle.site_recovery.specs.Looks.{seen, next_message}
use Rattle.site_recovery.proofs.SitesInTurn.{each_seen_of}
use Rattle.site_recovery.proofs.numbers.SeenBelowCondition.holds_at.Goals as goal

pub returns : goal.returns
returns c =
    let W = world_at c.args.sites.now in
    let q = c.args.site in
    let next : c.next_message-next.result ≡ next_message W q = c.next_message-next.ensures.next ∙ ap (λ z. z.engagement.next_message) c.requires.here in
    IfOk-weaker c.each_element.result
    (λ b. IsTrue b ↔ ((x : Bor Record) → Contains c.args.sites.now x → (m : Message) (r : Recall) → get x.now.engagement.seen m ≡ Some r → m.site ≡ q → m.number < c.next_message-next.result))
    (λ b. IsTrue b ↔ SeenAreBelow W q)
    (λ b decides. subst (λ z. IsTrue b ↔ ((s : ℕ) (m : Message) (r : Recall) → seen W s m ≡ Some r → m.site ≡ q → m.number < z)) next
    (each_seen_of c.args.sites.now (λ m _. m.site ≡ q → m.number < c.next_message-next.result) b decides))
    c.each_element.ensures
