use Rattle.command_line.proofs.plan_commands.find.Goals as goal

pub returns-in-Contents : goal.returns-in-Contents
returns-in-Contents g c = rw c.in-Contents.is (c.ask.ensures.answered, c.ask.ensures.failed)

pub returns-in-EachSite : goal.returns-in-EachSite
returns-in-EachSite g c = rw c.in-EachSite.is (c.ask-in-EachSite.ensures.answered, c.ask-in-EachSite.ensures.failed)

pub returns-in-Gaps : goal.returns-in-Gaps
returns-in-Gaps g c = rw c.in-Gaps.is (c.ask-in-Gaps.ensures.answered, c.ask-in-Gaps.ensures.failed)
