use Rattle.std.proofs.Common.{◌≡◌, ◌++◌, ◌∷◌, [], false, true, map, sym, ◌∙◌, arith, rules}
use Rattle.event_json.specs.Sites.{Site}
use Rattle.event_json.proofs.SiteLemmas.{has_room, free, is_cause, one_more}
use Rattle.event_json.proofs.site_lists.Sites.add.Goals as goal

pub addresses_of-requires : goal.addresses_of-requires
addresses_of-requires c = (free _ _ _ (sym c.fault_of.ensures ∙ c.in_default.is)).plain

pub returns-in-Some-clause-cause : goal.returns-in-Some-clause-cause
returns-in-Some-clause-cause c = is_cause c.args.self.now c.args.name.now _ _ (sym c.fault_of.ensures ∙ c.in-Some.is)

pub returns-in_default-of-clause-cause : goal.returns-in_default-of-clause-cause
returns-in_default-of-clause-cause c =
    let room = has_room c.args.self.now c.args.name.now _ (sym c.fault_of.ensures ∙ c.in_default.is) in
    let some : false ≡ true = c.in_default-of.ensures.some.1 (omega arith) in
    absurd cc

pub invariant_of-self-2 : goal.invariant_of-self-2
invariant_of-self-2 c =
    let s : Site = record { name = c.args.name.now; addresses = map (λ a. a.now) c.args.addresses.now } in
    let e : c.push.new.self.items ≡ c.args.self.now ++ s ∷ [] = search rules in
    rw e (one_more c.args.self.now s c.len.ensures.in_order (sym c.fault_of.ensures ∙ c.in_default.is))
