-- the sites that stopped, one after another, and what is noted of them
use Rattle.std.proofs.Common.{◌≡◌, ℕ, ◌+◌, ◌<◌, List, [], ◌∷◌, ◌++◌, drop, get_or, length, sym, ap, subst, take, ◌∙◌}
use Rattle.std.specs.List.{AllZip}
use Rattle.std.proofs.lemmas.List.{drop_more, take_more}
use Rattle.site_threads.specs.Jobs.{stops_in}
use Rattle.site_threads.specs.declared.lists.RunLog.{RunLog}
use Rattle.folder_commands.specs.Notes.{cause_of, stop_at, stops_from}

-- those from a site on are itself, if it stopped, and those of the sites behind it
pub stops_next : (i : ℕ) (befores afters : List ℕ) (lists : List RunLog) (b a : ℕ) (l : RunLog) → i < length befores → i < length afters → i < length lists
    → stops_from i (drop i befores) (drop i afters) (drop i lists)
    ≡ stop_at i (stops_in (get_or lists i l).entries.items) (cause_of (get_or befores i b) (get_or afters i a)) ++ stops_from (i + 1) (drop (i + 1) befores) (drop (i + 1) afters) (drop (i + 1) lists)
stops_next i befores afters lists b a l x y z = λ j. stops_from i (drop_more befores i b x j) (drop_more afters i a y j) (drop_more lists i l z j)

-- nothing is left
pub stops_none : (i : ℕ) (befores afters : List ℕ) (lists : List RunLog) → drop i befores ≡ [] → stops_from i (drop i befores) (drop i afters) (drop i lists) ≡ []
stops_none i befores afters lists none = ap (λ bs. stops_from i bs (drop i afters) (drop i lists)) none

module _ {X Y : Type 0} (R : X → Y → Type 0) where
  -- one more pair behind lists that agree element by element
  pairs_push : (xs : List X) (ys : List Y) (x : X) (y : Y) → AllZip R xs ys → R x y → AllZip R (xs ++ x ∷ []) (ys ++ y ∷ [])
  pairs_push [] [] x y h r = (r, tt)
  pairs_push [] (v ∷ ys) x y h r = absurd h
  pairs_push (u ∷ xs) [] x y h r = absurd h
  pairs_push (u ∷ xs) (v ∷ ys) x y h r = (h.0, pairs_push xs ys x y h.1 r)

  -- the next element of a list, beside its own
  pub pairs_more : (xs : List X) (ys : List Y) (i : ℕ) (x : X) (y : Y) → i < length xs → x ≡ get_or xs i x → AllZip R (take i xs) ys → R x y → AllZip R (take (i + 1) xs) (ys ++ y ∷ [])
  pairs_more xs ys i x y lt is h r = subst (λ l. AllZip R l (ys ++ y ∷ [])) (ap (λ z. take i xs ++ z ∷ []) is ∙ sym (take_more xs i x lt)) (pairs_push (take i xs) ys x y h r)
