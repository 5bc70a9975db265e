use Rattle.std.proofs.Common.{◌∙◌, ℕ, cond, ap, arith}
use Rattle.std.proofs.lemmas.List.{take_all}
use Rattle.site_threads.specs.declared.jobs.Entry.{Entry}
use Rattle.site_threads.specs.declared.jobs.Reply.{Reply}
use Rattle.site_threads.specs.Jobs.{is_stop, stops_in}
use Rattle.site_threads.proofs.Stops.{more_stops}
use Rattle.site_threads.proofs.gathered.stops_among.Goals as goal

pub loop-entry-preserved : goal.loop-entry-preserved
loop-entry-preserved c =
    let i = c.loop-entry.invariant in
    let of = c.stops_of-stops in
    let entry = c.entry-item.result in
    let one = of.ensures.one ∙ ap {B = ℕ} (λ (r : Reply). cond (is_stop r) 1 0) c.same.ensures ∙ ap {B = ℕ} (λ (x : Entry). cond (is_stop x.reply) 1 0) c.entry-item.is in
    let small = of.ensures.few in
    let few = i.few in
    record {
      counted = more_stops c.args.entries.now c.loop-entry.entry-index entry c.loop-entry.stops of.result (omega (arith, c.loop-entry-test.true)) one i.counted;
      few = omega (arith, small, few);
    }

pub returns : goal.returns
returns c = c.loop-entry.invariant.counted ∙ ap stops_in (take_all c.loop-entry.entry-index c.args.entries.now (omega (arith, c.loop-entry-test.false)))
