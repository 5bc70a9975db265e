-- lists of sites, line by line
use Rattle.std.proofs.Common.{◌≡◌, ℕ, ◌<◌, ◌+◌, List, [], ◌∷◌, ◌++◌, length, take, drop, refl, sym, ap, ◌∙◌, subst, append_assoc, append-nil, take-append-drop}
use Rattle.std.specs.Str.Lines.{lines, strip_carriage_return}
use Rattle.event_json.specs.Sites.{Site}
use Rattle.recall_text.specs.Lines.{IsWithinLine, EndsAt}
use Rattle.recall_text.specs.SiteLists.{Lists, IsSiteList, AddsLine, refused_at}
use Rattle.recall_text.specs.declared.site_lists.RefusedLine.{RefusedLine}
use Rattle.recall_text.specs.declared.site_lists.SiteList.{SiteList}
use Rattle.recall_text.proofs.LineLemmas.{lines_at, lines_last, one_line}

-- Of the text the rest is still to be read, from the line of this number on: however its lines are refused, behind the lines so far those are the text's.
abbrev pub IsReadTo : List ℕ → SiteList → ℕ → List ℕ → Type 0
IsReadTo text list number rest =
    (more : List RefusedLine) (after : List Site) → Lists list.sites number (lines rest) more after → Lists [] 1 (lines text) (list.refused.items ++ more) after

pub none_read : (text : List ℕ) (list : SiteList) → list.sites ≡ [] → list.refused.items ≡ [] → IsReadTo text list 1 text
none_read text list sites refused = λ more after lists.
    subst (λ xs. Lists [] 1 (lines text) (xs ++ more) after) (sym refused) (subst (λ s. Lists s 1 (lines text) more after) sites lists)

-- a line more is read, where the rest was that line and what follows it
line_read : (text : List ℕ) (old new : SiteList) (number : ℕ) (rest line rest_after : List ℕ) → IsReadTo text old number rest → lines rest ≡ line ∷ lines rest_after
    → AddsLine old number line new → IsReadTo text new (number + 1) rest_after
line_read text old new number rest line rest_after so_far parts (why, takes, told) = λ more after lists.
    let here = refused_at number why in
    subst (λ xs. Lists [] 1 (lines text) xs after) (sym (append_assoc old.refused.items here more) ∙ ap (λ xs. xs ++ more) (sym told))
    (so_far (here ++ more) after
    (subst (λ ls. Lists old.sites number ls (here ++ more) after) (sym parts) (why, more, new.sites, refl, takes, lists)))

-- the first line of the rest ends at its first LF
pub ended_line_read : (text : List ℕ) (old new : SiteList) (number : ℕ) (rest : List ℕ) (end : ℕ) → IsReadTo text old number rest → EndsAt rest end
    → AddsLine old number (strip_carriage_return (take end rest)) new → IsReadTo text new (number + 1) (drop (end + 1) rest)
ended_line_read text old new number rest end so_far at adds =
    line_read text old new number rest (strip_carriage_return (take end rest)) (drop (end + 1) rest) so_far
    (ap lines (sym (take-append-drop end rest) ∙ ap (λ xs. take end rest ++ xs) at.newline) ∙ lines_at (take end rest) (drop (end + 1) rest) at.within) adds

-- the last line has no LF
pub last_line_read : (text : List ℕ) (old new : SiteList) (number : ℕ) (rest : List ℕ) → IsReadTo text old number rest → IsWithinLine rest → 0 < length rest
    → AddsLine old number rest new → IsReadTo text new (number + 1) []
last_line_read text old new number rest so_far within some adds =
    line_read text old new number rest rest [] so_far (lines_last rest within ∙ one_line rest some) adds

-- all is read
pub all_read : (text : List ℕ) (list : SiteList) (number : ℕ) → IsReadTo text list number [] → IsSiteList text list
all_read text list number so_far =
    subst (λ xs. Lists [] 1 (lines text) xs list.sites) (append-nil list.refused.items) (so_far [] list.sites (refl, refl))
