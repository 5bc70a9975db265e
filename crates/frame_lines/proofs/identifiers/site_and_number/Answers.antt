use Rattle.std.proofs.Common.{◌≡◌, sym, subst}
use Rattle.std.specs.Prelude.{MatchOption, decimal}
use Rattle.frame_lines.specs.Finding.{Finds}
use Rattle.recall_text.specs.Words.{name_at}
use Rattle.frame_lines.proofs.NameLemmas.{split_is}
use Rattle.frame_lines.proofs.identifiers.site_and_number.Goals as goal

pub returns-in_err-name : goal.returns-in_err-name
returns-in_err-name c = subst (Finds _) (sym c.from_residual.ensures) (λ p (low, small, is).
    let at = split_is c.args.sites.now c.len-names.ensures.in_order c.args.mark c.args.text.now c.split_once.result c.split_once.ensures.cases c.requires.ascii c.requires.apart p.0 p.1 low is in
    subst (λ o. MatchOption o ⊥ (λ x. (x.0.now ≡ name_at c.args.sites.now p.0) × (x.1.now ≡ decimal p.1))) c.in_err-name.was at)

pub returns-in_err-site_named : goal.returns-in_err-site_named
returns-in_err-site_named c = subst (Finds _) (sym c.from_residual-in_err-site_named.ensures) (λ p (low, small, is).
    let at = split_is c.args.sites.now c.len-names.ensures.in_order c.args.mark c.args.text.now c.split_once.result c.split_once.ensures.cases c.requires.ascii c.requires.apart p.0 p.1 low is in
    let parts = subst (λ o. MatchOption o ⊥ (λ x. (x.0.now ≡ name_at c.args.sites.now p.0) × (x.1.now ≡ decimal p.1))) c.in_ok-name.was at in
    c.in_err-site_named.ensures p.0 (low, parts.0))

pub returns-in_err-number_of : goal.returns-in_err-number_of
returns-in_err-number_of c = subst (Finds _) (sym c.from_residual-in_err-number_of.ensures) (λ p (low, small, is).
    let at = split_is c.args.sites.now c.len-names.ensures.in_order c.args.mark c.args.text.now c.split_once.result c.split_once.ensures.cases c.requires.ascii c.requires.apart p.0 p.1 low is in
    let parts = subst (λ o. MatchOption o ⊥ (λ x. (x.0.now ≡ name_at c.args.sites.now p.0) × (x.1.now ≡ decimal p.1))) c.in_ok-name.was at in
    c.in_err-number_of.ensures p.1 (small, parts.1))
