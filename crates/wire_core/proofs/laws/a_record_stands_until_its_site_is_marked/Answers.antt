use Rattle.wire_core.proofs.Standing.{opening_records_stand, splits_mark_nothing, joins_mark_nothing, sent_frames_mark_nothing, offered_frames_mark_nothing, noted_frames_mark_nothing, asked_sites_mark_nothing, marks_put_the_record, marks_leave_other_sites}
use Rattle.wire_core.proofs.laws.a_record_stands_until_its_site_is_marked.Goals as goal

pub returns-clause-sent : goal.returns-clause-sent
returns-clause-sent c = sent_frames_mark_nothing

pub returns-clause-noted : goal.returns-clause-noted
returns-clause-noted c = noted_frames_mark_nothing

pub returns-clause-put : goal.returns-clause-put
returns-clause-put c = marks_put_the_record

pub returns-clause-left : goal.returns-clause-left
returns-clause-left c = marks_leave_other_sites

pub returns-clause-opening : goal.returns-clause-opening
returns-clause-opening c = opening_records_stand

pub returns-clause-split : goal.returns-clause-split
returns-clause-split c = splits_mark_nothing

pub returns-clause-join : goal.returns-clause-join
returns-clause-join c = joins_mark_nothing

pub returns-clause-offered : goal.returns-clause-offered
returns-clause-offered c = offered_frames_mark_nothing

pub returns-clause-asked : goal.returns-clause-asked
returns-clause-asked c = asked_sites_mark_nothing
