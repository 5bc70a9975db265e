use Rattle.std.proofs.Common.{◌≡◌, ◌+◌, ◌-◌, ℕ, List, [], ◌∷◌, ◌++◌, length, take, drop, sym, ap, ◌∙◌, arith, rules, append-nil, append_assoc, take-append-drop}
use Rattle.std.proofs.lemmas.List.{take_rest, length-drop}
use Rattle.std.proofs.lemmas.Result.{err_from_is_err_and, on_ok_weaker, MatchResult-weaker}
use Rattle.recall_text.specs.Lines.{EndsAt}
use Rattle.script_core.proofs.SessionLemmas.{goes_trans, ends_trans}
use Rattle.script_core.proofs.sessions.Session.feed.Goals as goal

-- the bytes are the first line with its LF, and what follows
parts : (bytes : List ℕ) (end : ℕ) → EndsAt bytes end → bytes ≡ (take end bytes ++ 10 ∷ []) ++ take (length bytes - (end + 1)) (drop (end + 1) bytes)
parts bytes end at =
    sym (take-append-drop end bytes) ∙ ap (λ xs. take end bytes ++ xs) at.newline ∙ sym (append_assoc (take end bytes) (10 ∷ []) (drop (end + 1) bytes))
    ∙ ap (λ xs. (take end bytes ++ 10 ∷ []) ++ xs) (sym (take_rest bytes (end + 1)))

pub returns-in_err-take_line-clause-err : goal.returns-in_err-take_line-clause-err
returns-in_err-take_line-clause-err g c =
    let p = err_from_is_err_and c.from_residual.result c.from_residual.ensures.1 in
    rw (p.1, p.2)
    (ends_trans _ _ _ _ _ _ _ _ _ _ c.loop-end.invariant.goes (parts c.loop-end.rest.now c.in-Some.end c.in-Some.ensures.some) c.in_err-take_line.ensures.err)

pub loop-end-preserved : goal.loop-end-preserved
loop-end-preserved g c =
    record {
      goes = goes_trans _ _ _ _ _ _ _ _ _ _ c.loop-end.invariant.goes (parts c.loop-end.rest.now c.in-Some.end c.in-Some.ensures.some) c.in_ok-take_line.ensures.ok;
      lines = omega (arith, c.in-Some.ensures.some.inside, length-drop (c.in-Some.end + 1) c.loop-end.rest.now, take_rest c.loop-end.rest.now (c.in-Some.end + 1));
      refused = search rules;
    }

pub returns-clause-ok : goal.returns-clause-ok
returns-clause-ok g c =
    on_ok_weaker c.hold.result
    (λ held. goes_trans _ _ _ _ [] _ _ _ _ _ c.loop-end.invariant.goes (sym (append-nil _)) (held _))
    c.hold.ensures.ok

pub returns-clause-err : goal.returns-clause-err
returns-clause-err g c =
    MatchResult-weaker c.hold.result c.hold.ensures.err (λ x held. held)
    (λ fault fails. ends_trans _ _ _ _ [] _ _ _ _ _ c.loop-end.invariant.goes (sym (append-nil _)) (fails _))
