use Rattle.std.proofs.Common.{rules}
use Rattle.recall_text.specs.Answer.{answer_of}
use Rattle.script_core.proofs.sessions.Session.answer.Goals.{then-is_refusal, else-is_refusal}
use Rattle.script_core.proofs.sessions.Session.answer.Goals as goal

pub returns-clause-ok : goal.returns-clause-ok
returns-clause-ok g c =
    elim c.if-is_refusal.branch [
      | then-is_refusal w ↦ rw w.self-is (record {
        answer = answer_of c.in_ok-answer.answer;
        takes = search rules;
        pending = search rules;
        lines = search rules;
        refused = search rules;
        written = search rules;
      })
      | else-is_refusal w ↦ rw w.self-is (record {
        answer = answer_of c.in_ok-answer.answer;
        takes = search rules;
        pending = search rules;
        lines = search rules;
        refused = search rules;
        written = search rules;
      })
    ]
