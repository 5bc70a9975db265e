use Rattle.std.proofs.Common.{◌-◌, ◌≤◌, sym, length, true≢false, rules}
use Rattle.site_threads.proofs.Confirming.{never_zero, not_past, just_there}
use Rattle.site_threads.proofs.lists.RunLog.has.Goals as goal

pub returns-then-receipt-eq0 : goal.returns-then-receipt-eq0
returns-then-receipt-eq0 c = (λ no. absurd (true≢false (sym no)), λ e. absurd (never_zero c.args.self.now.entries.items c.args.receipt.now c.args.self.now.numbered (search rules) e))

pub returns-in-None : goal.returns-in-None
returns-in-None c =
    let past : length c.args.self.now.entries.items ≤ c.args.receipt.now.number - 1 = search rules in
    (λ no. absurd (true≢false (sym no)), λ e. absurd (not_past c.args.self.now.entries.items c.args.receipt.now c.args.self.now.numbered past e))

pub returns-in-Some : goal.returns-in-Some
returns-in-Some c =
    just_there c.args.self.now.entries.items c.args.receipt.now c.in-Some.entry.now c.is_step_of.result c.args.self.now.numbered (search rules) (search rules) c.is_step_of.ensures
