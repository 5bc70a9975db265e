use Rattle.document_lint.proofs.SiteLists.{name_is, name_read_plain, some_or_none, spelled_as}
use Rattle.document_lint.proofs.unlisted.spelling.Goals as goal

pub unreachable-requires-in_default-2 : goal.unreachable-requires-in_default-2
unreachable-requires-in_default-2 c =
    let named = name_is c.args.sites.now c.args.site _ c.in-Some.name c.in-Some.is c.name.ensures in
    some_or_none _ (c.in_ok-site.ensures.plain.1 (name_read_plain c.args.sites.now c.args.site _ c.requires.in_order named)) c.in_default-2.is

pub returns : goal.returns
returns c =
    spelled_as c.args.sites.now c.args.site _ c.in-Some-2.site c.in-Some.name.now _ _ c.in-Some-2.is c.in_ok-site.ensures.value c.in_ok-copy.ensures
    (name_is c.args.sites.now c.args.site _ c.in-Some.name c.in-Some.is c.name.ensures)
