use Rattle.site_rows.proofs.reading_recalls.SeenRowEntryRowMsgIdRecallId.add.Goals as goal

pub returns-in_default : goal.returns-in_default
returns-in_default c = λ k v is _. c.in_default.ensures (k, v) is
