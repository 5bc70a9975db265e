use Rattle.site_store.proofs.Reopenings.{are_behind}
use Rattle.site_store.proofs.linking.files_behind.Goals as goal

pub returns-in-Connected : goal.returns-in-Connected
returns-in-Connected g c =
    are_behind c.args.link c.in-Connected.conn c.into_store.result c.close.result c.in-Connected.is c.into_store.ensures.numbered c.into_store.ensures.sound c.into_store.ensures.quiet c.close.ensures
