use Rattle.site_core.proofs.EventOutcomes.{blocked_events_lead_out}
use Rattle.site_core.proofs.Growths.{captures_grow, captures_keep, captures_lead_no_further}
use Rattle.site_core.proofs.step_laws.a_capture_leads_no_further.Goals as goal

pub returns : goal.returns
returns c = record { grows = captures_grow; keeps = captures_keep; leads_no_further = captures_lead_no_further; blocked = blocked_events_lead_out }
