use Rattle.std.proofs.Common.{subst}
use Rattle.site_rows.specs.BadRows.{Tells, IsOutboxEntry}
use Rattle.site_rows.proofs.reading_recalls.OutboxRowEntryRowU64Row.add.Goals as goal

pub returns-in_default : goal.returns-in_default
returns-in_default c = λ k v is _. subst (λ o. Tells o (λ e. IsOutboxEntry c.args.sites c.args.self.now e.0 e.1)) c.in_default.is c.in_ok-number.ensures (k, v) is
