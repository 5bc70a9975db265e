use Rattle.std.proofs.Common.{◌≡◌, ℕ, List, Option, [], Some, None, length-take, take, subst, arith, rules, refl, MatchOption, IfSome}
use Rattle.std.specs.Io.KnownBytes.{Keeps, Consumes, IsAtEnd}
use Rattle.std.proofs.lemmas.Result.{err_from_is_err_and, MatchResult-weaker}
use Rattle.script_core.proofs.SessionLemmas.{goes_start}
use Rattle.script_core.proofs.ReaderLemmas.{has_read_none, has_read_kept, has_read_more, leaves_at_read, leaves_spent, leaves_in_piece, leaves_in_last, done_at_end}
use Rattle.script_core.proofs.runs.run_pieces.Goals.{in-None, in-Some+in_ok-feed-in-Some}
use Rattle.script_core.proofs.runs.run_pieces.Goals as goal

-- the three answers of a read
interrupted : (old new : Option (List ℕ)) (buffer : List ℕ) (read : Option ℕ) → read ≡ None
    → MatchOption read (Keeps old new) (λ n. Consumes old new (take n buffer)) → Keeps old new
interrupted old new buffer read is said = subst (λ o. MatchOption o (Keeps old new) (λ n. Consumes old new (take n buffer))) is said

in_piece : (old new : Option (List ℕ)) (buffer : List ℕ) (read : Option ℕ) (n : ℕ) → read ≡ Some n
    → MatchOption read (Keeps old new) (λ n. Consumes old new (take n buffer)) → Consumes old new (take n buffer)
in_piece old new buffer read n is said =
    subst (λ o. MatchOption o (Keeps old new) (λ n. Consumes old new (take n buffer))) is said

at_end : (old new : Option (List ℕ)) (buffer : List ℕ) (read : Option ℕ) → read ≡ Some 0
    → MatchOption read (Keeps old new) (λ n. Consumes old new (take n buffer)) → IfSome read (λ n. n ≡ 0 → IsAtEnd new) → Consumes old new [] × IsAtEnd new
at_end old new buffer read is said ended =
    (subst (λ o. MatchOption o (Keeps old new) (λ n. Consumes old new (take n buffer))) is said, subst (λ o. IfSome o (λ n. n ≡ 0 → IsAtEnd new)) is ended refl)

pub loop-init : goal.loop-init
loop-init g c =
    record {
      read = has_read_none _ _ _ c.requires.new;
      lines = omega (arith, c.requires.new.lines);
      refused = omega (arith, c.requires.new.lines, c.requires.new.refused);
    }

pub returns-in_err-read_once-clause-fault : goal.returns-in_err-read_once-clause-fault
returns-in_err-read_once-clause-fault g c =
    let p = err_from_is_err_and c.from_residual.result c.from_residual.ensures.1 in
    rw (p.1, p.2) (leaves_at_read _ _ _ _ _ _ _ c.loop.invariant.read c.in_err-read_once.ensures.err)

-- at the end the reader gave no bytes
pub returns-in-Some-eq0-clause-done : goal.returns-in-Some-eq0-clause-done
returns-in-Some-eq0-clause-done g c =
    let is : c.in_ok-read_once.field-0 ≡ Some 0 = search rules in
    let took = at_end (g.R.Read.remaining c.loop.reader) (g.R.Read.remaining c.read_once.new.reader) c.read_once.new.buffer c.in_ok-read_once.field-0 is c.in_ok-read_once.ensures.ok c.in_ok-read_once.ensures.end in
    MatchResult-weaker c.finish.result c.finish.ensures.ok
    (λ tally ended. done_at_end _ _ _ tally _ _ _ (has_read_more _ _ _ _ [] _ _ _ _ c.loop.invariant.read took.0 (goes_start _ [] _)) took.1 ended)
    (λ fault held. held)

pub returns-in-Some-eq0-clause-fault : goal.returns-in-Some-eq0-clause-fault
returns-in-Some-eq0-clause-fault g c =
    let is : c.in_ok-read_once.field-0 ≡ Some 0 = search rules in
    let took = at_end (g.R.Read.remaining c.loop.reader) (g.R.Read.remaining c.read_once.new.reader) c.read_once.new.buffer c.in_ok-read_once.field-0 is c.in_ok-read_once.ensures.ok c.in_ok-read_once.ensures.end in
    MatchResult-weaker c.finish.result c.finish.ensures.err (λ tally held. held)
    (λ fault ended. leaves_in_last _ _ _ fault _ _ _ (has_read_more _ _ _ _ [] _ _ _ _ c.loop.invariant.read took.0 (goes_start _ [] _)) took.1 ended)

pub returns-in_err-feed-in-Some-clause-fault : goal.returns-in_err-feed-in-Some-clause-fault
returns-in_err-feed-in-Some-clause-fault g c =
    let p = err_from_is_err_and c.from_residual-in_err-feed-in-Some.result c.from_residual-in_err-feed-in-Some.ensures.1 in
    let took = in_piece (g.R.Read.remaining c.loop.reader) (g.R.Read.remaining c.read_once.new.reader) c.read_once.new.buffer c.in_ok-read_once.field-0 c.in-Some.count c.in-Some.is c.in_ok-read_once.ensures.ok in
    rw (p.1, p.2) (leaves_in_piece _ _ _ _ _ _ _ _ _ c.loop.invariant.read took c.in_err-feed-in-Some.ensures.err)

pub loop-preserved : goal.loop-preserved
loop-preserved g c =
    elim c.match-branch-2.branch [
      | in-None w ↦ record {
        read = rw (w.writer-is, w.session-is) (has_read_kept _ _ _ _ _ _ c.loop.invariant.read
            (interrupted (g.R.Read.remaining c.loop.reader) (g.R.Read.remaining c.read_once.new.reader) c.read_once.new.buffer c.in_ok-read_once.field-0 w.in-None.is c.in_ok-read_once.ensures.ok));
        lines = rw w.session-is (omega arith);
        refused = rw w.session-is c.loop.invariant.refused;
      }
      | in-Some+in_ok-feed-in-Some w ↦ record {
        read = rw (w.writer-is, w.session-is) (has_read_more _ _ _ _ _ _ _ _ _ c.loop.invariant.read
            (in_piece (g.R.Read.remaining c.loop.reader) (g.R.Read.remaining c.read_once.new.reader) c.read_once.new.buffer c.in_ok-read_once.field-0 w.in-Some.count w.in-Some.is c.in_ok-read_once.ensures.ok)
            w.in_ok-feed-in-Some.ensures.ok);
        lines = rw w.session-is (omega (arith, w.feed.ensures.lines, length-take w.in-Some.count c.read_once.new.buffer));
        refused = rw w.session-is w.feed.ensures.refused;
      }
    ]

pub returns-clause-fault : goal.returns-clause-fault
returns-clause-fault g c = leaves_spent _ _ _ _ _ c.loop.invariant.read
