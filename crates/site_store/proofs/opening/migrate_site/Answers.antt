use Rattle.std.proofs.Common.{inr}
use Rattle.sqlite.specs.Held.{state}
use Rattle.sqlite.proofs.StateLemmas.{survives_weaker}
use Rattle.site_store.proofs.Migrated.{holds_migrated, keeps_migrated}
use Rattle.site_store.proofs.opening.migrate_site.Goals as goal

pub returns-in-Ok-clause-done : goal.returns-in-Ok-clause-done
returns-in-Ok-clause-done g c clean r it = keeps_migrated r (state g.S.Store c.args.conn.now) (state g.S.Store c.migrate.new.conn) it (c.in-Ok.ensures.done clean _ it)

pub returns-in-Ok-clause-crash : goal.returns-in-Ok-clause-crash
returns-in-Ok-clause-crash g c =
    survives_weaker (state g.S.Store c.args.conn.now) (state g.S.Store c.migrate.new.conn) _ _ (λ _ db may r it. holds_migrated r (state g.S.Store c.args.conn.now) db it (may _ it)) c.migrate.ensures.crash

pub returns-in-Err-clause-cause : goal.returns-in-Err-clause-cause
returns-in-Err-clause-cause g c clean r = inr (c.in-Err.error, c.unread.ensures, λ it. c.in-Err.ensures.cause clean _ it)

pub returns-in-Err-clause-crash : goal.returns-in-Err-clause-crash
returns-in-Err-clause-crash g c =
    survives_weaker (state g.S.Store c.args.conn.now) (state g.S.Store c.migrate.new.conn) _ _ (λ _ db may r it. holds_migrated r (state g.S.Store c.args.conn.now) db it (may _ it)) c.migrate.ensures.crash
