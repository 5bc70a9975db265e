-- What a borrowed row or frame says.
use Rattle.frame_core.specs.declared.rows.Row.{Row}
use Rattle.frame_core.specs.declared.rows.RowView.{RowView}
use Rattle.frame_core.specs.declared.frames.Frame.{Frame}
use Rattle.frame_core.specs.declared.frames.Frame.TheVariants as owned
use Rattle.frame_core.specs.declared.frames.FrameView.{FrameView}
use Rattle.frame_core.specs.declared.frames.FrameView.TheVariants as lent

-- the row that is borrowed
abbrev pub row_of : RowView → Row
row_of v = record { dest = v.dest; recall = v.recall; item = v.item.now }

-- the frame that is borrowed
abbrev pub frame_of : FrameView → Frame
frame_of (lent.Recall id dest recall item) = owned.Recall id dest recall item.now
frame_of (lent.Signal id by) = owned.Signal id by
