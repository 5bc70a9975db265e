use Rattle.std.proofs.Common.{sym, ap, subst}
use Rattle.std.proofs.lemmas.Result.{on_err_weaker}
use Rattle.trace_core.specs.Indexes.{NotesSomeItems}
use Rattle.trace_core.specs.Spreads.{ins_in}
use Rattle.trace_core.proofs.ItemSteps.{some_noted}
use Rattle.trace_core.proofs.event_items.note_some_of.Goals as goal

pub returns-in-Note-clause-err : goal.returns-in-Note-clause-err
returns-in-Note-clause-err c = on_err_weaker c.know_observed.result
    (λ some. subst (NotesSomeItems c.args.known.now c.know_observed.new.known c.args.place) (ap ins_in (sym c.in-Note.is)) (some_noted c.args.known.now c.know_observed.new.known c.args.place some))
    c.know_observed.ensures.err

pub returns-in-Ship-clause-err : goal.returns-in-Ship-clause-err
returns-in-Ship-clause-err c = on_err_weaker c.know_numbers.result
    (λ some. subst (NotesSomeItems c.args.known.now c.know_numbers.new.known c.args.place) (ap ins_in (sym c.in-Ship.is)) (some_noted c.args.known.now c.know_numbers.new.known c.args.place some))
    c.know_numbers.ensures.err

pub returns-in-Pack-clause-err : goal.returns-in-Pack-clause-err
returns-in-Pack-clause-err c = on_err_weaker c.know_packed.result
    (λ some. subst (NotesSomeItems c.args.known.now c.know_packed.new.known c.args.place) (ap ins_in (sym c.in-Pack.is)) (some_noted c.args.known.now c.know_packed.new.known c.args.place some))
    c.know_packed.ensures.err
