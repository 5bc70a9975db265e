use Rattle.trace_core.proofs.GapClosing.{known_is_captured_somewhere, known_stays, gaps_only_close, one_round_closes, wide_stays, known_is_least, known_is_closed, known_is_where_it_came, history_is_known, capturing_is_closing, closed_reaches_all, closed_sends_all}
use Rattle.trace_core.proofs.laws.gaps_are_closed.Goals as goal

pub returns-clause-source : goal.returns-clause-source
returns-clause-source c = known_is_captured_somewhere

pub returns-clause-stays : goal.returns-clause-stays
returns-clause-stays c = known_stays

pub returns-clause-fewer : goal.returns-clause-fewer
returns-clause-fewer c = gaps_only_close

pub returns-clause-closed : goal.returns-clause-closed
returns-clause-closed c = one_round_closes

pub returns-clause-wide : goal.returns-clause-wide
returns-clause-wide c = wide_stays

pub returns-clause-least : goal.returns-clause-least
returns-clause-least c = known_is_least

pub returns-clause-has : goal.returns-clause-has
returns-clause-has c = known_is_closed

pub returns-clause-came : goal.returns-clause-came
returns-clause-came c = known_is_where_it_came

pub returns-clause-history : goal.returns-clause-history
returns-clause-history c = history_is_known

pub returns-clause-capturing : goal.returns-clause-capturing
returns-clause-capturing c = capturing_is_closing

pub returns-clause-all : goal.returns-clause-all
returns-clause-all c = closed_reaches_all

pub returns-clause-sends : goal.returns-clause-sends
returns-clause-sends c = closed_sends_all
