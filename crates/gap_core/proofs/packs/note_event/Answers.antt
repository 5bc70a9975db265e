use Rattle.std.proofs.Common.{◌∙◌, sym, ap}
use Rattle.std.specs.Option.{option_map}
use Rattle.std.proofs.lemmas.Result.{on_ok_weaker}
use Rattle.gap_core.proofs.PackSteps.{no_pack, pack_added}
use Rattle.gap_core.proofs.packs.note_event.Goals as goal

pub returns-in-Some-closing : goal.returns-in-Some-closing
returns-in-Some-closing c = on_ok_weaker c.push_pack.result
    (pack_added c.args.known.now c.args.wanted.now c.args.source.at c.args.source.from c.args.site c.args.packer.now c.args.place c.in-Some.event.now c.body.result.now c.me.result c.in-Some-closing.container.now
    c.args.packs.now.items c.push_pack.new.packs.items
    (sym (sym (ap (option_map (λ e. e.now)) c.in-Some.is) ∙ c.event.ensures)) c.body.ensures.value c.me.ensures c.in-Some-closing.ensures.some)
    c.push_pack.ensures

pub returns-in-None : goal.returns-in-None
returns-in-None c =
    no_pack c.args.known.now c.args.wanted.now c.args.source.at c.args.source.from c.args.site c.args.packer.now c.args.place c.in-Some.event.now c.body.result.now c.args.packs.now.items
    (sym (sym (ap (option_map (λ e. e.now)) c.in-Some.is) ∙ c.event.ensures)) c.body.ensures.value (c.closing.ensures.none c.in-None.is)
