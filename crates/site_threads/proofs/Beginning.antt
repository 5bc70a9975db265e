-- A site before its first turn.
use Rattle.std.proofs.Common.{◌≡◌, ℕ, Option, Some, List, [], refl, sym, ap, ◌∙◌, subst, append-nil}
use Rattle.std.proofs.lemmas.Option.{same_Some}
use Rattle.site_core.specs.Records.{Record}
use Rattle.wire_core.specs.declared.views.Log.{Log}
use Rattle.site_threads.specs.Jobs.{WithMarks}
use Rattle.site_threads.specs.Running.{Holding, IsRunning, inputs_in}
use Rattle.site_threads.specs.Stamps.{stamp}
use Rattle.site_threads.specs.Starting.{IsLastMarked}
use Rattle.site_threads.specs.declared.jobs.Entry.{Entry}
use Rattle.site_threads.specs.declared.stamps.Stamp.{Stamp}
use Rattle.site_threads.proofs.Changing.{entered_none}

pub begins : (shown : Option Record) (may : Record → Type 0) (logs : List Log) (me : ℕ) (kept : Stamp) (start : WithMarks) (r : Record) → shown ≡ Some r → IsLastMarked logs me r → kept ≡ stamp start.stood → Some start.stood ≡ shown → start.marked ≡ inputs_in logs → (entries : List Entry) → entries ≡ [] → IsRunning shown may logs me kept entries start
begins shown may logs me kept start r is last stamped first before entries none =
    let same : start.stood ≡ r = same_Some start.stood r (first ∙ is) in
    let marked : last.log.inputs ≡ start.marked = sym (append-nil last.log.inputs) ∙ sym (ap inputs_in last.alone) ∙ sym before in
    subst (λ (l : List Entry). IsRunning shown may logs me kept l start) (sym none)
    (record {
      log = last.log;
      alone = last.alone;
      own = last.own;
      stamped = stamped ∙ ap stamp (same ∙ sym last.last);
      numbered = refl;
      holding = subst (λ (s : Option Record). Holding s may start [] last.log) (sym is) (record { marked = sym last.last; steps = entered_none start last.log.inputs r marked (sym same) });
    })
