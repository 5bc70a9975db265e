-- lines of gaps with their times
use Rattle.std.proofs.Common.{◌≡◌, ℕ, zero, suc, ◌+◌, ◌<◌, Bool, true, false, List, [], ◌∷◌, Option, None, Some, option_map, Vec, Global, length, take, get_or, refl, sym, ap, subst, arith}
use mathlib.Core.Bool.{false≢true}
use Rattle.std.specs.List.{AllZip}
use Rattle.trace_core.proofs.Zips.{zip_more}
use Rattle.trace_core.specs.Sites.{SiteEvents}
use Rattle.gap_core.specs.LineEvents.{AreEventsOf}
use Rattle.gap_core.specs.declared.line_events.GapEvents.{GapEvents}
use Rattle.gap_core.specs.declared.lines.GapLine.{GapLine}
use Rattle.recall_outcomes.specs.declared.outcomes.PackedGap.{PackedGap}
use Rattle.folder_questions.specs.Gaps.{AddsTimed, IsTimed, Lists}

pub zip_length : {X Y : Type 0} (R : X → Y → Type 0) (xs : List X) (ys : List Y) → AllZip R xs ys → length xs ≡ length ys
zip_length R [] [] h = refl
zip_length R [] (y ∷ ys) h = absurd h
zip_length R (x ∷ xs) [] h = absurd h
zip_length R (x ∷ xs) (y ∷ ys) h = ap suc (zip_length R xs ys h.1)

zip_get : {X Y : Type 0} (R : X → Y → Type 0) (xs : List X) (ys : List Y) (i : ℕ) (d : X) (e : Y) → AllZip R xs ys → i < length xs → R (get_or xs i d) (get_or ys i e)
zip_get R [] ys i d e h below = absurd (omega (arith, below))
zip_get R (x ∷ xs) [] i d e h below = absurd h
zip_get R (x ∷ xs) (y ∷ ys) zero d e h below = h.0
zip_get R (x ∷ xs) (y ∷ ys) (suc i) d e h below = zip_get R xs ys i d e h.1 (omega (arith, below))

-- one line more
pub one_more_timed : (sites : List SiteEvents) (lines : List GapLine) (events : List GapEvents) (i : ℕ) (line : GapLine) (d : GapEvents) (old new : List PackedGap)
    → AllZip (AreEventsOf sites) lines events → i < length lines → line ≡ get_or lines i line → AllZip (IsTimed sites) (take i lines) old
    → AddsTimed sites line (get_or events i d) old new → AllZip (IsTimed sites) (take (i + 1) lines) new
one_more_timed sites lines events i line d old new zip below is so_far (gap, added, times) =
    let found : AreEventsOf sites line (get_or events i d) = subst (λ (l : GapLine). AreEventsOf sites l (get_or events i d)) (sym is) (zip_get (AreEventsOf sites) lines events i line d zip below) in
    subst (AllZip (IsTimed sites) (take (i + 1) lines)) (sym added) (zip_more (IsTimed sites) lines old i line gap below is so_far (get_or events i d, found, times))

-- containers that are listed, or not
pub listed_all : (all : Bool) (lines : Vec GapLine Global) (told : Option (Vec GapLine Global)) → all ≡ true → told ≡ Some lines → Lists all lines.items (option_map (λ v. v.items) told)
listed_all true lines told is same = ap (option_map (λ (v : Vec GapLine Global). v.items)) same
listed_all false lines told is same = absurd (false≢true is)

pub listed_none : (all : Bool) (lines : List GapLine) (told : Option (Vec GapLine Global)) → all ≡ false → told ≡ None → Lists all lines (option_map (λ v. v.items) told)
listed_none false lines told is same = ap (option_map (λ (v : Vec GapLine Global). v.items)) same
listed_none true lines told is same = absurd (false≢true (sym is))
