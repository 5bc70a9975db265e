use Rattle.std.proofs.Common.{◌≡◌, ◌∷◌, [], ℕ, List, Some, slice_get, sym}
use Rattle.std.proofs.lemmas.Result.{IfOk-weaker}
use Rattle.trace_core.specs.Beyond.{IsSpreadBeyond}
use Rattle.trace_core.specs.Numbers.{numbered}
use Rattle.trace_core.proofs.BeyondSteps.{unnamed_alone}
use Rattle.trace_core.proofs.NumberLists.{number_stands}
use Rattle.trace_core.proofs.ReachSteps.{known_there}
use Rattle.trace_core.proofs.beyond.items_beyond.Goals as goal

pub returns-in-Some : goal.returns-in-Some
returns-in-Some c = IfOk-weaker c.numbers_beyond.result
    (λ found. (i : List ℕ) → slice_get (numbered c.args.site.now.events) c.in-Some.number ≡ Some i → IsSpreadBeyond c.args.site.now i c.args.stop.now c.args.seen.now c.numbers_beyond.new.seen found.items)
    (λ found. IsSpreadBeyond c.args.site.now c.args.item.now c.args.stop.now c.args.seen.now c.numbers_beyond.new.seen found.items)
    (λ found all. all c.args.item.now (number_stands (numbered c.args.site.now.events) c.args.item.now c.in-Some.number (sym (known_there _ c.args.item.now c.book.result.now c.args.site.now c.in-Some.ensures c.book.ensures))))
    c.numbers_beyond.ensures

pub returns-in-None : goal.returns-in-None
returns-in-None c = IfOk-weaker c.alone.result
    (λ found. found.items ≡ c.args.item.now ∷ [])
    (λ found. IsSpreadBeyond c.args.site.now c.args.item.now c.args.stop.now c.args.seen.now c.args.seen.now found.items)
    (λ found is. unnamed_alone c.args.site.now c.args.stop.now c.args.item.now c.args.seen.now found.items (known_there _ c.args.item.now c.book.result.now c.args.site.now c.in-None.ensures c.book.ensures) is)
    c.alone.ensures
