use Rattle.std.proofs.Common.{◌≡◌, Bool, true, false, List, ℕ, None, sym, ap, ◌∙◌}
use Rattle.std.specs.Prelude.{MatchBool}
use Rattle.std.specs.Str.Pattern.{FindsText, HasMatch}
use Rattle.query_core.specs.Mentions.{is_inside}
use Rattle.query_core.proofs.Inside.{match_inside, none_inside}
use Rattle.query_core.proofs.known_items.has_inside.Goals as goal

decided : (text key : List ℕ) (found : Bool) → MatchBool found (HasMatch (FindsText text) key) (FindsText text key None) → found ≡ is_inside text key
decided text key true has = sym (match_inside text key has)
decided text key false none = sym (none_inside text key none)

pub returns : goal.returns
returns c =
    let key = c.as_str.ensures.value ∙ c.in_ok-key.ensures in
    decided c.args.text.now c.as_str.result.now c.contains.result c.contains.ensures.cases ∙ ap (is_inside c.args.text.now) key
