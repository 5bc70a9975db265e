use Rattle.std.proofs.Common.{sym, subst}
use Rattle.frame_lines.specs.Finding.{Finds}
use Rattle.frame_lines.proofs.identifiers.message_named.Goals as goal

pub returns-in_err-site : goal.returns-in_err-site
returns-in_err-site c = subst (Finds _) (sym c.from_residual.ensures) (λ n (among, is). c.in_err-site.ensures (n.site, n.number) (among.0, among.1, is))
