-- What a step changes in a view, and what it says.
use Rattle.std.specs.Prelude.{◌≡◌, ◌≢◌, ℕ, ◌+◌, ◌<◌, cond, nat_eq, nat_lt, not, List, [], ◌∷◌, ◌++◌, map, filter, length, All, Contains, Some, None, Option as Maybe}
use Rattle.atomic_table.specs.Table.{Me}
use Rattle.frame_core.specs.declared.frames.Frame.{Frame}
use Rattle.site_core.specs.Records.{Record}
use Rattle.site_core.specs.declared.inputs.SiteInput.{SiteInput}
use Rattle.world_core.specs.Turns.{addressee}
use Rattle.wire_core.specs.declared.views.Doing.{Doing}
use Rattle.wire_core.specs.declared.views.Doing.TheVariants.{Nothing, Writes, Reads}
use Rattle.wire_core.specs.declared.views.Log.{Log}
use Rattle.wire_core.specs.declared.views.View.{View}
use Rattle.wire_core.specs.Frames.{sender, way}
use Rattle.wire_core.specs.Mailboxes.{slot_of}

-- the log of one site is changed by g
abbrev pub pick : ℕ → (Log → Log) → Log → Log
pick site g e = cond (nat_eq e.site site) (g e) e

abbrev pub on : ℕ → (Log → Log) → List Log → List Log
on site g logs = map (pick site g) logs

abbrev pub changed : ℕ → (Log → Log) → View → View
changed site g v = record { sites = on site g v.sites; cut = v.cut }

-- a mark, a frame sent, a frame noted
abbrev pub marks : SiteInput → Record → Log → Log
marks input new e = record e { inputs = e.inputs ++ input ∷ []; last = new }

abbrev pub posts : Frame → Log → Log
posts f e = record e { sent = e.sent ++ f ∷ [] }

abbrev pub notes : Frame → Log → Log
notes f e = record e { noted = e.noted ++ f ∷ [] }

-- another site is asked for a frame; a frame is offered
abbrev pub asks : ℕ → Log → Log
asks other e = record e { asked = e.asked ++ other ∷ [] }

abbrev pub offers : Frame → Log → Log
offers f e = record e { offered = e.offered ++ f ∷ [] }

-- a frame is offered and sent; a site is asked, and its frame noted
abbrev pub sends : Frame → Log → Log
sends f e = posts f (offers f e)

abbrev pub receives : ℕ → Frame → Log → Log
receives other f e = notes f (asks other e)

-- a log without what was asked and offered, of which the rule says nothing
abbrev pub plain : Log → Log
plain e = record e { asked = []; offered = [] }

-- the same within a call, with what the site is at work on
abbrev pub does : Doing → Log → Log
does d e = record e { doing = d }

abbrev pub does_posts : Frame → Log → Log
does_posts f e = does Nothing (posts f e)

abbrev pub does_notes : Frame → Log → Log
does_notes f e = does (Reads (sender f)) (notes f e)

abbrev pub does_writes : ℕ → (Log → Log) → Log → Log
does_writes to offer e = does (Writes to) (offer e)

abbrev pub does_receives : ℕ → Frame → Log → Log
does_receives from f e = does_notes f (asks from e)

abbrev pub AtRest : List Log → Type 0
AtRest logs = All (λ e. e.doing ≡ Nothing) logs

-- What a view shows of a pair of sites. All that was sent that way was noted:
abbrev pub Level : ℕ → ℕ → List Log → Type 0
Level from to logs = (a b : Log) → Contains logs a → a.site ≡ from → Contains logs b → b.site ≡ to → way from to a.sent ≡ way from to b.noted

-- all but f, the last one sent
abbrev pub AllBut : ℕ → ℕ → Frame → List Log → Type 0
AllBut from to f logs = (a b : Log) → Contains logs a → a.site ≡ from → Contains logs b → b.site ≡ to → way from to a.sent ≡ way from to b.noted ++ f ∷ []

-- one frame more was sent than noted
abbrev pub OneMore : ℕ → ℕ → List Log → Type 0
OneMore from to logs = (a b : Log) → Contains logs a → a.site ≡ from → Contains logs b → b.site ≡ to → length (way from to a.sent) ≡ length (way from to b.noted) + 1

-- a frame was sent that way
abbrev pub Sent : ℕ → ℕ → List Log → Type 0
Sent from to logs = (a : Log) → Contains logs a → a.site ≡ from → 0 < length (way from to a.sent)

abbrev pub Hands : Type 0
Hands = Me (Maybe Frame) View

-- claim: the mailbox was empty and is this seat's to write, or it wasn't. The frame for it was offered
abbrev pub Claimed : ℕ → ℕ → (Log → Log) → Hands → ℕ → Hands → Type 0
Claimed from to offer m found n =
    (found ≡ 0 → (n ≡ (changed from (does_writes to offer) m.0, (slot_of from to, None) ∷ [])) × (AtRest m.0.sites → Level from to m.0.sites))
    × (found ≢ 0 → (n ≡ (changed from offer m.0, [])) × Sent from to m.0.sites × (AtRest m.0.sites → OneMore from to m.0.sites))

-- publish: the frame in the slot was sent
abbrev pub published : Maybe Frame → View → View
published None v = v
published (Some f) v = changed (sender f) (does_posts f) v

abbrev pub in_hand : List (ℕ × Maybe Frame) → Maybe Frame
in_hand [] = None
in_hand (x ∷ xs) = x.1

abbrev pub Published : Hands → Hands → Type 0
Published m n = n ≡ (published (in_hand m.1) m.0, [])

-- note: the mailbox was full, and the frame in it is noted, or it wasn't. The other site was asked
abbrev pub Noted : ℕ → ℕ → Hands → ℕ → Hands → Type 0
Noted from to m found n =
    (found ≡ 2 → (f : Frame) × (n ≡ (changed to (does_receives from f) m.0, (slot_of from to, Some f) ∷ [])) × (sender f ≡ from) × (addressee f ≡ to) × (AtRest m.0.sites → AllBut from to f m.0.sites))
    × (found ≢ 2 → (n ≡ (changed to (asks from) m.0, [])) × (AtRest m.0.sites → Level from to m.0.sites))

-- release
abbrev pub Released : ℕ → Hands → Hands → Type 0
Released to m n = n ≡ (changed to (does Nothing) m.0, [])

-- mark
abbrev pub Marked : ℕ → (Log → Log) → Hands → Hands → Type 0
Marked site change m n = n ≡ (changed site change m.0, m.1)

-- where to split, and the two parts
abbrev pub Cut : ℕ → Hands → Hands → Type 0
Cut at m n = n ≡ (record { sites = m.0.sites; cut = at }, m.1)

abbrev pub below : ℕ → List Log → List Log
below at logs = filter (λ e. nat_lt e.site at) logs

abbrev pub from : ℕ → List Log → List Log
from at logs = filter (λ e. not (nat_lt e.site at)) logs

abbrev pub left : View → View
left v = record { sites = below v.cut v.sites; cut = v.cut }

abbrev pub right : View → View
right v = record { sites = from v.cut v.sites; cut = v.cut }

abbrev pub both : View → View → View
both v w = record { sites = v.sites ++ w.sites; cut = v.cut }

abbrev pub spent : View
spent = record { sites = []; cut = 0 }
