use Rattle.std.proofs.Common.{◌∙◌, sym, ap}
use Rattle.site_recovery.specs.Checking.{records_at}
use Rattle.trace_core.specs.Chains.{sites_at}
use Rattle.site_folders.proofs.MissingLemmas.{missed_so, none_missed}
use Rattle.site_folders.proofs.missing.missed_from.Goals as goal

pub returns-then-is_empty : goal.returns-then-is_empty
returns-then-is_empty c =
    none_missed (records_at c.args.records.now) c.args.roots.now c.new.result.items (sym c.if-is_empty.true ∙ c.is_empty.ensures) c.new.ensures.items

pub returns : goal.returns
returns c =
    missed_so (records_at c.args.records.now) c.args.roots.now c.in_ok-missed.missed.items
    (sites_at c.as_slice-sites.result.now) c.as_slice.result.now c.in_ok-reached.reached.items (ap sites_at c.as_slice-sites.ensures.value ∙ c.in_ok-captured.ensures) c.as_slice.ensures.value
    c.in_ok-missed.ensures.ascending c.in_ok-missed.ensures.exact c.in_ok-reached.ensures.reached
