use Rattle.std.proofs.Common.{refl}
use Rattle.site_rows.specs.declared.tables.Version.TheVariants.{First, Second}
use Rattle.site_store.proofs.LeftRows.{lists_site}
use Rattle.site_store.proofs.Openers.{hindered, has_read, opened_first, opened_second, found_first, found_second, not_migrated, left_unmigrated, not_read}
use Rattle.site_store.proofs.opening.open_site.Goals as goal

pub returns-in-Second-clause-opened : goal.returns-in-Second-clause-opened
returns-in-Second-clause-opened g c =
    let it = c.in-Ok.ensures in
    let read = has_read c.args.conn c.read_site.new.conn c.args.name.now Second c.in-Ok.field-0.state c.in-Ok.field-0 c.in-Second.is refl c.schema-schema.ensures.live c.settled.ensures c.settled-in-Ok.ensures it.crash it.read it.named it.finds in
    let site = c.adopt-in-Second.ensures in
    opened_second c.args.conn c.read_site.new.conn c.args.name.now c.in-Ok.field-0.state c.adopt-in-Second.result read site.shown site.fresh site.over site.stored

pub returns-in-Second-clause-left : goal.returns-in-Second-clause-left
returns-in-Second-clause-left g c =
    let it = c.in-Ok.ensures in
    let read = has_read c.args.conn c.read_site.new.conn c.args.name.now Second c.in-Ok.field-0.state c.in-Ok.field-0 c.in-Second.is refl c.schema-schema.ensures.live c.settled.ensures c.settled-in-Ok.ensures it.crash it.read it.named it.finds in
    found_second c.args.conn c.read_site.new.conn c.args.name.now c.in-Ok.field-0.state c.adopt-in-Second.result read c.adopt-in-Second.ensures.shown c.adopt-in-Second.ensures.over

pub returns-in-Ok-migrate_site-clause-opened : goal.returns-in-Ok-migrate_site-clause-opened
returns-in-Ok-migrate_site-clause-opened g c =
    let it = c.in-Ok.ensures in
    let read = has_read c.args.conn c.read_site.new.conn c.args.name.now First c.in-Ok.field-0.state c.in-Ok.field-0 c.in-First.is refl c.schema-schema.ensures.live c.settled.ensures c.settled-in-Ok.ensures it.crash it.read it.named it.finds in
    let site = c.adopt.ensures in
    opened_first c.args.conn c.read_site.new.conn c.args.name.now c.in-Ok.field-0.state c.migrate_site.new.conn read c.migrate_site.ensures.crash c.adopt.result c.in-Ok-migrate_site.ensures.done site.shown site.fresh site.over site.stored

pub returns-in-Ok-migrate_site-clause-left : goal.returns-in-Ok-migrate_site-clause-left
returns-in-Ok-migrate_site-clause-left g c =
    let it = c.in-Ok.ensures in
    let read = has_read c.args.conn c.read_site.new.conn c.args.name.now First c.in-Ok.field-0.state c.in-Ok.field-0 c.in-First.is refl c.schema-schema.ensures.live c.settled.ensures c.settled-in-Ok.ensures it.crash it.read it.named it.finds in
    found_first c.args.conn c.read_site.new.conn c.args.name.now c.in-Ok.field-0.state c.migrate_site.new.conn read c.migrate_site.ensures.crash c.adopt.result c.adopt.ensures.shown c.adopt.ensures.over

pub returns-in-Err-migrate_site-clause-refused : goal.returns-in-Err-migrate_site-clause-refused
returns-in-Err-migrate_site-clause-refused g c =
    let it = c.in-Ok.ensures in
    let read = has_read c.args.conn c.read_site.new.conn c.args.name.now First c.in-Ok.field-0.state c.in-Ok.field-0 c.in-First.is refl c.schema-schema.ensures.live c.settled.ensures c.settled-in-Ok.ensures it.crash it.read it.named it.finds in
    let failed = c.in-Err-migrate_site.ensures in
    not_migrated c.args.conn c.read_site.new.conn c.args.name.now c.in-Ok.field-0.state c.migrate_site.new.conn read c.migrate_site.ensures.crash c.in-Err-migrate_site.fault failed.cause failed.fault

pub returns-in-Err-migrate_site-clause-left : goal.returns-in-Err-migrate_site-clause-left
returns-in-Err-migrate_site-clause-left g c =
    let it = c.in-Ok.ensures in
    let read = has_read c.args.conn c.read_site.new.conn c.args.name.now First c.in-Ok.field-0.state c.in-Ok.field-0 c.in-First.is refl c.schema-schema.ensures.live c.settled.ensures c.settled-in-Ok.ensures it.crash it.read it.named it.finds in
    left_unmigrated c.args.conn c.read_site.new.conn c.args.name.now c.in-Ok.field-0.state c.migrate_site.new.conn read c.migrate_site.ensures.crash c.in-Err-migrate_site.fault c.in-Err-migrate_site.ensures.cause

pub returns-in-Err-clause-refused : goal.returns-in-Err-clause-refused
returns-in-Err-clause-refused g c =
    let it = c.in-Err.ensures in
    not_read c.args.conn c.read_site.new.conn c.args.name.now c.in-Err.fault it.crash it.refused it.finds

pub returns-in-Err-clause-left : goal.returns-in-Err-clause-left
returns-in-Err-clause-left g c clean v r left =
    hindered v r _ _ c.in-Err.fault (c.in-Err.ensures.finds clean v r (lists_site c.args.conn c.args.name.now v r c.schema-schema.ensures.live left))
