use Rattle.std.proofs.Common.{◌≡◌, List, [], ◌∷◌, None, sym, refl, subst, ◌∙◌, option_map}
use Rattle.event_json.specs.Sites.{named}
use Rattle.recall_outcomes.specs.declared.outcomes.CommandRefusal.{CommandRefusal}
use Rattle.recall_outcomes.specs.declared.outcomes.CommandRefusal.TheVariants.{NoSite}
use Rattle.folder_commands.specs.Lints.{IsUnlisted, IsUnlistedName}
use Rattle.folder_commands.proofs.lints.push_unlisted.Goals as goal

pub returns-in_ok-push-in-None : goal.returns-in_ok-push-in-None
returns-in_ok-push-in-None c =
    let whys : List CommandRefusal = NoSite c.in_ok-name-in-None.name ∷ [] in
    let name = c.in-Some.name.now in
    let none : named c.args.sites.now name ≡ None = sym c.find.ensures ∙ c.in-None.is in
    let refused : IsUnlistedName name (named c.args.sites.now name) whys = subst (λ n. IsUnlistedName name n whys) (sym none) (c.in_ok-name-in-None.name, c.in_ok-name-in-None.ensures.ok, refl) in
    (whys, subst (λ o. IsUnlisted c.args.sites.now (option_map (λ t. t.now) o) whys) (sym c.in-Some.is) refused, c.in_ok-push-in-None.ensures.items)
