use Rattle.std.proofs.Common.{◌∙◌, subst}
use Rattle.world_core.specs.Posting.{IsPlaceOf}
use Rattle.world_core.specs.declared.events.Answer.{Answer}
use Rattle.world_core.specs.declared.events.WorldEvent.TheVariants.{Send}
use Rattle.script_core.proofs.EventLemmas.{frame_sent}
use Rattle.script_core.specs.Events.{Turns}
use Rattle.script_core.proofs.worlds.MemoryWorld.send.Goals.{in-Sent, in_default}
use Rattle.script_core.proofs.worlds.MemoryWorld.send.Goals as goal

pub returns-clause-does : goal.returns-clause-does
returns-clause-does c =
    let (place, stands, turns, count) = c.post.ensures in
    elim c.match-post.branch [
      | in-Sent w ↦ rw w.result-is (λ old frame up named.
          let emits = subst (λ o. IsPlaceOf o c.args.name place) up stands ∙ named in
          frame_sent c.args.self.now c.post.new.self c.args.site old place w.in-Sent.at frame up emits
          (subst (λ (a : Answer). Turns c.args.self.now (Send c.args.site place) a c.post.new.self) w.in-Sent.is turns))
      | in_default w ↦ rw w.result-is (λ old frame up named. tt)
    ]

pub returns-clause-count : goal.returns-clause-count
returns-clause-count c = let (place, stands, turns, count) = c.post.ensures in count
