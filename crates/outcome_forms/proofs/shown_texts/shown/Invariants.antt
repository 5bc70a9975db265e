use Rattle.std.proofs.Common.{◌≡◌, flat_map, string_bytes}
use Rattle.outcome_forms.specs.Shown.{shown_char}
use Rattle.outcome_forms.proofs.shown_texts.shown.Given as goal

abbrev pub invariant-loop-c : goal.invariant-loop-c
invariant-loop-c l = string_bytes l.shown ≡ flat_map shown_char l.yielded
