-- the laws of the notes of a run
use Rattle.std.proofs.Common.{◌≡◌, ◌+◌, ◌<◌, ℕ, zero, suc, false, cond, [], ◌∷◌, All, length, refl, sym, ap, subst, ◌∙◌, arith, ◌==◌}
use Rattle.std.proofs.lemmas.Bool.{ne_eqb}
use Rattle.std.specs.Prelude.{sum_by}
use Rattle.std.proofs.lemmas.List.Elements.{All-append, All-cons, All-nil}
use Rattle.std.proofs.lemmas.List.Sums.{sum_by-append, sum_by-cons}
use Rattle.site_threads.specs.Jobs.{stops_in}
use Rattle.site_threads.specs.declared.lists.RunLog.{RunLog}
use Rattle.folder_commands.specs.NoteLaws.{EachStopIsTold, OnlyStoppedAreNamed}
use Rattle.folder_commands.specs.Notes.{cause_of, stop_at, stops_from}
use Rattle.folder_commands.specs.declared.notes.Stopped.{Stopped}
use Rattle.recall_outcomes.specs.declared.notes.StopCause.{StopCause}

-- a site that stopped is one
one_stop : (site n : ℕ) (cause : StopCause) → stop_at site (suc n) cause ≡ record { site = site; times = suc n; cause = cause } ∷ []
one_stop site n cause =
    let one : Stopped = record { site = site; times = suc n; cause = cause } in
    let some : (suc n == 0) ≡ false = ne_eqb (suc n) 0 (λ e. let no : ⊥ = omega arith in no) in
    ap (λ none. cond none [] (one ∷ [])) some

named_stopped : (site times : ℕ) (cause : StopCause) → All (λ (s : Stopped). 0 < s.times) (stop_at site times cause)
named_stopped site zero cause = All-nil (λ (s : Stopped). 0 < s.times)
named_stopped site (suc n) cause =
    let one : Stopped = record { site = site; times = suc n; cause = cause } in
    let stopped : 0 < suc n = omega arith in
    subst (All (λ (s : Stopped). 0 < s.times)) (sym (one_stop site n cause))
    (All-cons (λ (s : Stopped). 0 < s.times) one [] stopped (All-nil (λ (s : Stopped). 0 < s.times)))

pub only_stopped : OnlyStoppedAreNamed
only_stopped site (b ∷ befores) (a ∷ afters) (l ∷ lists) =
    All-append (λ (s : Stopped). 0 < s.times) (stop_at site (stops_in l.entries.items) (cause_of b a)) (stops_from (site + 1) befores afters lists)
    (named_stopped site (stops_in l.entries.items) (cause_of b a)) (only_stopped (site + 1) befores afters lists)
only_stopped site [] afters lists = All-nil (λ (s : Stopped). 0 < s.times)
only_stopped site (b ∷ befores) [] lists = All-nil (λ (s : Stopped). 0 < s.times)
only_stopped site (b ∷ befores) (a ∷ afters) [] = All-nil (λ (s : Stopped). 0 < s.times)

told_of : (site times : ℕ) (cause : StopCause) → sum_by (λ (s : Stopped). s.times) (stop_at site times cause) ≡ times
told_of site zero cause = refl
told_of site (suc n) cause = let one : 0 + suc n ≡ suc n = omega arith in ap (sum_by (λ (s : Stopped). s.times)) (one_stop site n cause) ∙ one

pub each_told : EachStopIsTold
each_told site [] [] [] b a = refl
each_told site (before ∷ befores) (after ∷ afters) (l ∷ lists) b a =
    let times = stops_in l.entries.items in
    let cause = cause_of before after in
    let x : length befores ≡ length lists = omega (arith, b) in
    let y : length afters ≡ length lists = omega (arith, a) in
    sum_by-append (λ (s : Stopped). s.times) (stop_at site times cause) (stops_from (site + 1) befores afters lists)
    ∙ (λ j. told_of site times cause j + each_told (site + 1) befores afters lists x y j)
    ∙ sym (sum_by-cons (λ (l : RunLog). stops_in l.entries.items) l lists)
each_told site [] afters (l ∷ lists) b a = absurd (omega (arith, b))
each_told site [] (after ∷ afters) [] b a = absurd (omega (arith, a))
each_told site (before ∷ befores) [] (l ∷ lists) b a = absurd (omega (arith, a))
each_told site (before ∷ befores) afters [] b a = absurd (omega (arith, b))
