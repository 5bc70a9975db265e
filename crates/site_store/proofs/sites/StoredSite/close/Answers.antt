use Rattle.std.proofs.Common.{sym, subst}
use Rattle.site_store.specs.Reopened.{AreBehind}
use Rattle.site_store.proofs.Closings.{copied_closes, shut_leaves, unconnected_leaves}
use Rattle.site_store.proofs.sites.StoredSite.close.Goals as goal

pub returns-then-kept : goal.returns-then-kept
returns-then-kept g c = copied_closes c.args.self c.in-Connected.conn c.close_copied.result c.in-Connected.is c.if-kept.true c.close_copied.ensures.copied c.close_copied.ensures.shut

pub returns-in-Connected : goal.returns-in-Connected
returns-in-Connected g c = shut_leaves c.args.self c.files_behind.result c.if-kept.false (subst (λ l. AreBehind l c.files_behind.result) (sym c.in-Connected.is) c.files_behind.ensures)

pub returns : goal.returns
returns g c = unconnected_leaves c.args.self c.in-Unconnected.files c.in-Unconnected.is
