-- the law of statuses
use Rattle.std.proofs.Common.{◌≡◌, ◌⊎◌, inl, inr, ℕ, Bool, true, false, not, ◌&&◌, ◌||◌, ◌==◌, if◌then◌else◌, List, [], ◌∷◌, length, Contains, Option, Some, None, is_none, refl, sym, ap, subst, ◌∙◌, ⊎_elim, arith}
use mathlib.Core.Bool.{false≢true}
use Rattle.std.specs.List.{list_any}
use Rattle.std.proofs.lemmas.Bool.{ne_eqb, or_left, or_right}
use Rattle.report_core.specs.declared.audits.Verdict.{Verdict}
use Rattle.report_core.specs.declared.audits.Verdict.TheVariants.{Equal, Differs}
use Rattle.trace_core.proofs.Members.{contains_here, contains_none, list_any_member, list_any_witness}
use Rattle.recall_outcomes.specs.Laws.{HasGap, HasMissed, IsAmiss, IsRefused, IsWrong, StatusesTell, StatusesTellOutcomes, TellsOpen}
use Rattle.recall_outcomes.specs.Statuses.{differs, has_gaps, has_missed, is_amiss, is_open, is_unended, is_unheld, is_unjudged, outcome_status}
use Rattle.recall_outcomes.specs.declared.outcomes.AuditedRecall.{AuditedRecall}
use Rattle.recall_outcomes.specs.declared.outcomes.FoundGaps.{FoundGaps}
use Rattle.recall_outcomes.specs.declared.outcomes.MissedReach.{MissedReach}
use Rattle.recall_outcomes.specs.declared.outcomes.Outcome.{Outcome}
use Rattle.recall_outcomes.specs.declared.outcomes.Outcome.TheVariants as outcomes

-- ---- tests and what they find

wrong_of : (audited : AuditedRecall) (verdict : Option Verdict) → audited.verdict ≡ verdict → differs verdict ≡ true → IsWrong audited
wrong_of audited None e d = absurd (false≢true d)
wrong_of audited (Some (Equal count)) e d = absurd (false≢true d)
wrong_of audited (Some (Differs p missing)) e d = (p, missing, e)

amiss_of : (audited : AuditedRecall) → IsWrong audited → is_amiss audited ≡ true
amiss_of audited (p, missing, e) = ap differs e

-- a list has an element, or none
empty_has_none : {X : Type 0} (xs : List X) (x : X) → Contains xs x → (length xs == 0) ≡ false
empty_has_none [] x h = absurd (contains_none x h)
empty_has_none (y ∷ ys) x h = ne_eqb (length (y ∷ ys)) 0 (λ e. omega (arith, e))

some_first : {X : Type 0} (xs : List X) → (length xs == 0) ≡ false → (x : X) × Contains xs x
some_first [] e = absurd (false≢true (sym e))
some_first (x ∷ xs) e = (x, contains_here x xs)

some_false : (a b c d : Bool) → not (((a && b) && c) && d) ≡ true → (a ≡ false) ⊎ ((b ≡ false) ⊎ ((c ≡ false) ⊎ (d ≡ false)))
some_false false b c d e = inl refl
some_false true false c d e = inr (inl refl)
some_false true true false d e = inr (inr (inl refl))
some_false true true true false e = inr (inr (inr refl))
some_false true true true true e = absurd (false≢true e)

not_all : (a b c d : Bool) → (a ≡ false) ⊎ ((b ≡ false) ⊎ ((c ≡ false) ⊎ (d ≡ false))) → not (((a && b) && c) && d) ≡ true
not_all false b c d h = refl
not_all true false c d h = refl
not_all true true false d h = refl
not_all true true true false h = refl
not_all true true true true h = absurd (⊎_elim (λ p. false≢true (sym p)) (λ q. ⊎_elim (λ p. false≢true (sym p)) (λ r. ⊎_elim (λ p. false≢true (sym p)) (λ p. false≢true (sym p)) r) q) h)

gap_of : (gaps : FoundGaps) → has_gaps gaps ≡ true → HasGap gaps
gap_of gaps e = ⊎_elim
    (λ packed. inl (some_first gaps.packed.items packed))
    (λ more. ⊎_elim
    (λ used. inr (inl (some_first gaps.used.items used)))
    (λ rest. ⊎_elim (λ unseen. inr (inr (inl (some_first gaps.unseen.items unseen)))) (λ lots. inr (inr (inr (some_first gaps.lots.items lots)))) rest)
    more)
    (some_false (length gaps.packed.items == 0) (length gaps.used.items == 0) (length gaps.unseen.items == 0) (length gaps.lots.items == 0) e)

gaps_of : (gaps : FoundGaps) → HasGap gaps → has_gaps gaps ≡ true
gaps_of gaps has =
    not_all (length gaps.packed.items == 0) (length gaps.used.items == 0) (length gaps.unseen.items == 0) (length gaps.lots.items == 0) (⊎_elim
    (λ (g, there). inl (empty_has_none gaps.packed.items g there))
    (λ more. ⊎_elim
    (λ (l, there). inr (inl (empty_has_none gaps.used.items l there)))
    (λ rest. ⊎_elim
    (λ (u, there). inr (inr (inl (empty_has_none gaps.unseen.items u there))))
    (λ (p, there). inr (inr (inr (empty_has_none gaps.lots.items p there))))
    rest)
    more)
    has)

either_one : (a b : Bool) → a || b ≡ true → (a ≡ true) ⊎ (b ≡ true)
either_one true b e = inl refl
either_one false b e = inr e

not_true : (b : Bool) → not b ≡ true → b ≡ false
not_true false e = refl
not_true true e = absurd (false≢true e)

none_of : {X : Type 0} (o : Option X) → is_none o ≡ true → o ≡ None
none_of None e = refl
none_of (Some x) e = absurd (false≢true e)

missed_of : (missed : MissedReach) → has_missed missed ≡ true → HasMissed missed
missed_of missed e = ⊎_elim
    (λ unheld. let (m, within, found) = list_any_witness is_unheld missed.pairs.items unheld in inl (m, within, none_of m.held found))
    (λ outside. inr (some_first missed.outside.items (not_true (length missed.outside.items == 0) outside)))
    (either_one (list_any is_unheld missed.pairs.items) (not (length missed.outside.items == 0)) e)

of_missed : (missed : MissedReach) → HasMissed missed → has_missed missed ≡ true
of_missed missed has =
    let (unheld, outside) : Bool × Bool = (list_any is_unheld missed.pairs.items, not (length missed.outside.items == 0)) in
    ⊎_elim
    (λ (m, within, is). or_left unheld outside (list_any_member is_unheld missed.pairs.items m within (ap is_none is)))
    (λ (x, within). or_right unheld outside (ap not (empty_has_none missed.outside.items x within)))
    has

-- ---- a status that is 0 or another one

-- where a test decides between a status and 0, that status tells the test
of_test : (n : ℕ) (b : Bool) → (n ≡ 0 → ⊥) → (if b then n else 0) ≡ n → b ≡ true
of_test n true some e = refl
of_test n false some e = absurd (some (sym e))

no_other : (n m : ℕ) (b : Bool) → (n ≡ m → ⊥) → (m ≡ 0 → ⊥) → (if b then n else 0) ≡ m → ⊥
no_other n m true other some e = other e
no_other n m false other some e = some (sym e)

by_true : (n : ℕ) (b : Bool) → b ≡ true → (if b then n else 0) ≡ n
by_true n true e = refl
by_true n false e = absurd (false≢true e)

-- there are four
abbrev IsKnown : ℕ → Type 0
IsKnown n = (n ≡ 0) ⊎ ((n ≡ 1) ⊎ ((n ≡ 4) ⊎ (n ≡ 5)))

known_by : (n : ℕ) (b : Bool) → IsKnown n → IsKnown (if b then n else 0)
known_by n true k = k
known_by n false k = inl refl

four_known : IsKnown 4
four_known = inr (inr (inl refl))

five_known : IsKnown 5
five_known = inr (inr (inr refl))

-- a status by what it is, of an outcome of which nothing else is told
done : (o : Outcome) → outcome_status o ≡ 0 → (IsRefused o → ⊥) → (IsAmiss o → ⊥) → (TellsOpen o → ⊥) → StatusesTell o
done o zero no_refusal no_amiss no_open = record {
  refused = (λ e. let no : ⊥ = omega (arith, e, zero) in absurd no, λ r. absurd (no_refusal r));
  amiss = (λ e. let no : ⊥ = omega (arith, e, zero) in absurd no, λ a. absurd (no_amiss a));
  still_open = (λ e. let no : ⊥ = omega (arith, e, zero) in absurd no, λ w. absurd (no_open w));
  no_others = inl zero;
}

-- a status that is 5 or 0
five_or_done : (o : Outcome) (test : Bool) → outcome_status o ≡ (if test then 5 else 0) → (IsRefused o → ⊥) → (IsAmiss o → ⊥) → (test ≡ true → TellsOpen o) → (TellsOpen o → test ≡ true) → StatusesTell o
five_or_done o test is no_refusal no_amiss some found_of = record {
  refused = (λ e. absurd (no_other 5 1 test (λ e. omega (arith, e)) (λ e. omega (arith, e)) (sym is ∙ e)), λ r. absurd (no_refusal r));
  amiss = (λ e. absurd (no_other 5 4 test (λ e. omega (arith, e)) (λ e. omega (arith, e)) (sym is ∙ e)), λ a. absurd (no_amiss a));
  still_open = (λ e. some (of_test 5 test (λ e. omega (arith, e)) (sym is ∙ e)), λ w. is ∙ by_true 5 test (found_of w));
  no_others = subst IsKnown (sym is) (known_by 5 test five_known);
}

-- one that is 4, 5 or 0
of_audit : (o : Outcome) (bad test : Bool) → outcome_status o ≡ (if bad then 4 else (if test then 5 else 0)) → (IsRefused o → ⊥) → (bad ≡ true → IsAmiss o) → (IsAmiss o → bad ≡ true) → (bad ≡ false → test ≡ true → TellsOpen o) → (TellsOpen o → (bad ≡ false) × (test ≡ true)) → StatusesTell o
of_audit o true test is no_refusal found amiss still open_so = record {
  refused = (λ e. let no : ⊥ = omega (arith, e, is) in absurd no, λ r. absurd (no_refusal r));
  amiss = (λ e. found refl, λ a. is);
  still_open = (λ e. let no : ⊥ = omega (arith, e, is) in absurd no, λ w. absurd (false≢true (sym (open_so w).0)));
  no_others = inr (inr (inl is));
}
of_audit o false test is no_refusal found amiss still open_so =
    five_or_done o test is no_refusal (λ a. false≢true (amiss a)) (still refl) (λ w. (open_so w).1)

-- what was asked for, and is there
asked_any : {X : Type 0} (test : X → Bool) (coded : Bool) (xs : List X) → coded && list_any test xs ≡ true → (coded ≡ true) × (x : X) × Contains xs x × (test x ≡ true)
asked_any test true xs e = let (x, within, found) = list_any_witness test xs e in (refl, x, within, found)
asked_any test false xs e = absurd (false≢true e)

any_asked : {X : Type 0} (test : X → Bool) (coded : Bool) (xs : List X) (x : X) → coded ≡ true → Contains xs x → test x ≡ true → coded && list_any test xs ≡ true
any_asked test true xs x asked within found = list_any_member test xs x within found
any_asked test false xs x asked within found = absurd (false≢true asked)

and_also : (a b : Bool) → a && b ≡ true → (a ≡ true) × (b ≡ true)
and_also true b e = (refl, e)
and_also false b e = absurd (false≢true e)

also_and : (a b : Bool) → a ≡ true → b ≡ true → a && b ≡ true
also_and true b a e = e
also_and false b a e = absurd (false≢true a)

none_amiss : (recalls : List AuditedRecall) → list_any is_amiss recalls ≡ false → (audited : AuditedRecall) → Contains recalls audited → IsWrong audited → ⊥
none_amiss recalls none audited within wrong = false≢true (sym none ∙ list_any_member is_amiss recalls audited within (amiss_of audited wrong))

some_amiss : (recalls : List AuditedRecall) (b : Bool) → list_any is_amiss recalls ≡ b → ((audited : AuditedRecall) → Contains recalls audited → IsWrong audited → ⊥) → b ≡ false
some_amiss recalls false is none = refl
some_amiss recalls true is none = let (audited, within, found) = list_any_witness is_amiss recalls is in absurd (none audited within (wrong_of audited audited.verdict refl found))

pub statuses_tell : StatusesTellOutcomes
statuses_tell outcomes.Created = done outcomes.Created refl (λ no. no) (λ no. no) (λ no. no)
statuses_tell (outcomes.Stepped effects) = done (outcomes.Stepped effects) refl (λ no. no) (λ no. no) (λ no. no)
statuses_tell (outcomes.Ran recalls coded) =
    five_or_done (outcomes.Ran recalls coded) (coded && list_any is_unended recalls.items) refl (λ no. no) (λ no. no)
    (λ e. let (asked, recall, within, found) = asked_any is_unended coded recalls.items e in (asked, recall, within, not_true recall.ended found))
    (λ (asked, recall, within, is). any_asked is_unended coded recalls.items recall asked within (ap not is))
statuses_tell outcomes.Withheld = five_or_done outcomes.Withheld true refl (λ no. no) (λ no. no) (λ e. tt) (λ w. refl)
statuses_tell (outcomes.Reported r report ways events) = done (outcomes.Reported r report ways events) refl (λ no. no) (λ no. no) (λ no. no)
statuses_tell (outcomes.Traced trace ways events) = done (outcomes.Traced trace ways events) refl (λ no. no) (λ no. no) (λ no. no)
statuses_tell (outcomes.TracedBack trace ways events) = done (outcomes.TracedBack trace ways events) refl (λ no. no) (λ no. no) (λ no. no)
statuses_tell (outcomes.Known site items) = done (outcomes.Known site items) refl (λ no. no) (λ no. no) (λ no. no)
statuses_tell (outcomes.WouldStart quarantined messages) = done (outcomes.WouldStart quarantined messages) refl (λ no. no) (λ no. no) (λ no. no)
statuses_tell (outcomes.Standing recalls coded) =
    five_or_done (outcomes.Standing recalls coded) (coded && list_any is_open recalls.items) refl (λ no. no) (λ no. no)
    (λ e. let (asked, status, within, found) = asked_any is_open coded recalls.items e in (asked, status, within, not_true status.ended found))
    (λ (asked, status, within, is). any_asked is_open coded recalls.items status asked within (ap not is))
statuses_tell (outcomes.Waiting detail coded) =
    five_or_done (outcomes.Waiting detail coded) (coded && is_open detail.status) refl (λ no. no) (λ no. no)
    (λ e. let (asked, found) = and_also coded (is_open detail.status) e in (asked, not_true detail.status.ended found))
    (λ (asked, is). also_and coded (is_open detail.status) asked (ap not is))
statuses_tell (outcomes.Audited recalls ended coded) =
    of_audit (outcomes.Audited recalls ended coded) (list_any is_amiss recalls.items) (coded && list_any is_unjudged recalls.items) refl (λ no. no)
    (λ e. let (audited, within, found) = list_any_witness is_amiss recalls.items e in (audited, within, wrong_of audited audited.verdict refl found))
    (λ (audited, within, is). list_any_member is_amiss recalls.items audited within (amiss_of audited is))
    (λ none e. let (asked, audited, within, found) = asked_any is_unjudged coded recalls.items e in
    (none_amiss recalls.items none, asked, audited, within, none_of audited.verdict found))
    (λ (none, asked, audited, within, is). (
      some_amiss recalls.items (list_any is_amiss recalls.items) refl none,
      any_asked is_unjudged coded recalls.items audited asked within (ap is_none is),
    ))
statuses_tell (outcomes.Inconsistent misfit) = record {
  refused = (λ e. let no : ⊥ = omega (arith, e) in absurd no, λ no. absurd no);
  amiss = (λ e. tt, λ is. refl);
  still_open = (λ e. let no : ⊥ = omega (arith, e) in absurd no, λ no. absurd no);
  no_others = inr (inr (inl refl));
}
statuses_tell (outcomes.Covered sites) = done (outcomes.Covered sites) refl (λ no. no) (λ no. no) (λ no. no)
statuses_tell (outcomes.Gaps gaps coded) =
    five_or_done (outcomes.Gaps gaps coded) (coded && has_gaps gaps) refl (λ no. no) (λ no. no)
    (λ e. let (asked, found) = and_also coded (has_gaps gaps) e in (asked, gap_of gaps found))
    (λ (asked, has). also_and coded (has_gaps gaps) asked (gaps_of gaps has))
statuses_tell (outcomes.Missed r missed coded) =
    five_or_done (outcomes.Missed r missed coded) (coded && has_missed missed) refl (λ no. no) (λ no. no)
    (λ e. let (asked, found) = and_also coded (has_missed missed) e in (asked, missed_of missed found))
    (λ (asked, has). also_and coded (has_missed missed) asked (of_missed missed has))
statuses_tell (outcomes.Refused whys) = record {
  refused = (λ e. tt, λ is. refl);
  amiss = (λ e. let no : ⊥ = omega (arith, e) in absurd no, λ no. absurd no);
  still_open = (λ e. let no : ⊥ = omega (arith, e) in absurd no, λ no. absurd no);
  no_others = inr (inl refl);
}
