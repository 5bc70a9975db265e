use Rattle.std.proofs.Common.{◌++◌, [], ◌∷◌, map, sym, ap, ap₂, ◌∙◌, string_bytes}
use Rattle.std.proofs.lemmas.List.{map-append}
use Rattle.std.proofs.lemmas.List.Elements.{all_zip_more}
use Rattle.epc_core.specs.Spellings.{Spells}
use Rattle.serde_json.specs.Data.{string}
use Rattle.serde_json.specs.View.{view}
use Rattle.event_writing.proofs.item_texts.item_values.Goals as goal

pub loop-item-preserved : goal.loop-item-preserved
loop-item-preserved c =
    let texts = c.loop-item.invariant.0 in
    let text = string_bytes c.in_ok-item_text.field-0 in
    let seen = map-append view c.loop-item.values.items (c.text_value.result ∷ []) ∙ ap₂ (λ ds d. ds ++ d ∷ []) c.loop-item.invariant.1 c.text_value.ensures in (
      texts ++ text ∷ [],
      ap (map view) c.in_ok-push.ensures.items ∙ seen ∙ sym (map-append string texts (text ∷ [])),
      all_zip_more (λ key t. Spells t key) c.args.items.now texts c.loop-item.item-index _ text c.loop-item-test.true c.item-item.is c.loop-item.invariant.2 c.in_ok-item_text.ensures.spelled,
    )
