-- One step more is counted.
use Rattle.std.proofs.Common.{◌≡◌, ◌∙◌, ℕ, ◌+◌, ◌<◌, cond, List, length, get_or, take, sym}
use Rattle.std.proofs.lemmas.List.Sums.{sum_by_more}
use Rattle.site_threads.specs.declared.jobs.Entry.{Entry}
use Rattle.site_threads.specs.Jobs.{is_stop, stops_in}

pub more_stops : (xs : List Entry) (i : ℕ) (d : Entry) (stops one : ℕ) → i < length xs → one ≡ cond (is_stop (get_or xs i d).reply) 1 0 → stops ≡ stops_in (take i xs) → stops + one ≡ stops_in (take (i + 1) xs)
more_stops xs i d stops one below is before = (λ j. before j + is j) ∙ sym (sum_by_more (λ (x : Entry). cond (is_stop x.reply) 1 0) xs i d below)
