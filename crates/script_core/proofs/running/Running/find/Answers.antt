use Rattle.std.proofs.Common.{◌≡◌, ◌<◌, List, [], Option, Some, None, length, sym, subst}
use Rattle.std.specs.Prelude.{IfSome}
use Rattle.std.specs.Str.{bytes_eq}
use Rattle.std.proofs.lemmas.List.Quantifiers.{position-Some}
use Rattle.event_json.specs.Sites.{Site, named}
use Rattle.script_core.proofs.running.Running.find.Goals as goal

-- a site that was found is one of the list
within : (sites : List Site) (name : List Rattle.std.proofs.Common.ℕ) (o : Option Rattle.std.proofs.Common.ℕ) → o ≡ named sites name → IfSome o (λ n. n < length sites)
unfolding named
within sites name None e = tt
within sites name (Some n) e = (position-Some (λ s. bytes_eq s.name name) sites n (record { name = []; addresses = [] }) (sym e)).0

pub returns : goal.returns
returns c =
    rw (← c.self.view_is) (record {
      found = c.find.ensures;
      stands = subst (λ n. IfSome c.find.result (λ site. site < n)) (sym c.self.invariant.0) (within c.self.inside.sites c.args.name.now c.find.result c.find.ensures);
    })
