use Rattle.std.proofs.Common.{◌∙◌, ◌++◌, ◌∷◌, [], ℕ, List, ap, subst}
use Rattle.sha2.specs.Hashers.{Holds256}
use Rattle.frame_lines.specs.Sums.{addresses_text}
use Rattle.frame_lines.proofs.SumLemmas.{name_there, site_joined}
use Rattle.frame_lines.proofs.sums.add_site.Goals as goal

pub returns : goal.returns
returns c = λ m s is held.
    let name = c.name_of.ensures ∙ name_there c.args.sites.now c.args.site s is in
    let addresses = addresses_text s.addresses in
    let all = c.add_line-2.ensures _ (c.add_addresses.ensures _ s is (c.add_line.ensures m held)) in
    subst (Holds256 c.add_line-2.new.hasher)
    (site_joined m c.name_of.result.now addresses ∙ ap (λ (n : List ℕ). m ++ (n ++ 10 ∷ (addresses ++ 10 ∷ []))) name) all
