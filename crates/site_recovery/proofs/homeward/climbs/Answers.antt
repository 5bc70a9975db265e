use Rattle.std.proofs.Common.{◌≡◌, ◌↔◌, ◌∙◌, ℕ, Bool, Some, None, ◌+◌, ◌-◌, List, Bor, sym, ap, length, eqb, true, false}
use Rattle.std.specs.Prelude.{IsTrue}
use Rattle.std.proofs.lemmas.List.{length-map}
use Rattle.frame_core.specs.Numbers.{Recall, Message}
use Rattle.site_core.specs.Records.{Record}
use Rattle.site_recovery.specs.Checking.{world_at, records_at}
use Rattle.site_recovery.specs.Fit.{LeadsHome}
use Rattle.site_recovery.specs.Looks.{parent}
use Rattle.site_recovery.proofs.Climbing.{reaches, home_now, stuck_now, one_up, at_end, home_decided}
use Rattle.site_recovery.proofs.homeward.climbs.Goals as goal

-- the climb of as many steps as there are sites decides
decided : (sites : List (Bor Record)) (r : Recall) (s : ℕ) (b : Bool) → b ≡ reaches (world_at sites) r (length sites) s → IsTrue b ↔ LeadsHome (world_at sites) r s
decided sites r s b is = home_decided (records_at sites) r s b (is ∙ ap (λ n. reaches (world_at sites) r n s) (sym (length-map sites (λ r. r.now))))

pub returns-then-eq : goal.returns-then-eq
returns-then-eq c =
    let W = world_at c.args.sites.now in
    let n = length c.args.sites.now in
    let home : eqb c.loop.here c.args.recall.site ≡ true = ap (λ (z : Recall). eqb c.loop.here z.site) (sym (c.recall.view_is ∙ c.loop.invariant.0)) ∙ sym c.if-eq.ensures in
    let is = home_now W c.args.recall n c.loop.counter c.loop.here c.args.site c.loop.invariant.1 c.loop-test.true home in
    decided c.args.sites.now c.args.recall c.args.site true is

pub returns-in-None : goal.returns-in-None
returns-in-None c =
    let W = world_at c.args.sites.now in
    let n = length c.args.sites.now in
    let away : eqb c.loop.here c.args.recall.site ≡ false = ap (λ (z : Recall). eqb c.loop.here z.site) (sym (c.recall.view_is ∙ c.loop.invariant.0)) ∙ sym c.if-eq.ensures in
    let none : None ≡ parent W c.loop.here c.args.recall = c.in-None.ensures ∙ ap (λ (z : Recall). parent W c.loop.here z) c.loop.invariant.0 in
    let is = stuck_now W c.args.recall n c.loop.counter c.loop.here c.args.site c.loop.invariant.1 c.loop-test.true away none in
    decided c.args.sites.now c.args.recall c.args.site false is

pub loop-preserved : goal.loop-preserved
loop-preserved c =
    let W = world_at c.args.sites.now in
    let n = length c.args.sites.now in
    let away : eqb c.loop.here c.args.recall.site ≡ false = ap (λ (z : Recall). eqb c.loop.here z.site) (sym (c.recall.view_is ∙ c.loop.invariant.0)) ∙ sym c.if-eq.ensures in
    let up : Some c.in-Some.message ≡ parent W c.loop.here c.args.recall = c.in-Some.ensures ∙ ap (λ (z : Recall). parent W c.loop.here z) c.loop.invariant.0 in (
      c.loop.invariant.0,
      ap (λ (z : Message). reaches W c.args.recall (n - (c.loop.counter + 1)) z.site) c.message.view_is
          ∙ one_up W c.args.recall n c.loop.counter c.loop.here c.args.site c.loop.invariant.1 c.loop-test.true away c.in-Some.message up,
    )

pub returns : goal.returns
returns c =
    let W = world_at c.args.sites.now in
    let n = length c.args.sites.now in
    let is = at_end W c.args.recall n c.loop.counter c.loop.here c.args.site c.loop.invariant.1 c.loop-test.false in
    let here : c.eq-2.result ≡ eqb c.loop.here c.args.recall.site = c.eq-2.ensures ∙ ap (λ (z : Recall). eqb c.loop.here z.site) (c.recall-2.view_is ∙ c.loop.invariant.0) in
    decided c.args.sites.now c.args.recall c.args.site c.eq-2.result (here ∙ is)
