use Rattle.item_spellings.proofs.Naming.{scans_spell_items, other_texts_are_refused}
use Rattle.item_spellings.proofs.laws.scans_spell_items.Goals as goal

pub returns : goal.returns
returns c = record { spells = scans_spell_items; others = other_texts_are_refused }
