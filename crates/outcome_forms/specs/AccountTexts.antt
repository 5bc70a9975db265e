-- The text of a report or a trace as JSON, before and behind its pairs.
use Rattle.std.specs.Prelude.{ℕ, Bool, List, ◌++◌, codes}
use Rattle.event_json.specs.Sites.{Site}
use Rattle.frame_core.specs.Numbers.{Recall}
use Rattle.recall_text.specs.Words.{recall_text}
use Rattle.report_forms.specs.Accounts.{Account, OutsidePart}
use Rattle.report_forms.specs.declared.accounts.Title.{Title}
use Rattle.report_forms.specs.declared.accounts.Title.TheVariants as titles
use Rattle.serde_json.specs.Data.{boolean, string}
use Rattle.serde_json.specs.Written.{compact_text}
use Rattle.trace_core.specs.declared.pairs.Pair.{Pair}
use Rattle.outcome_forms.specs.Json.{list_of, outside_json, pair_json}

abbrev pub report_head : List Site → Bool → List OutsidePart → List ℕ
report_head sites ended outside =
    codes "{\"ended\":" ++ compact_text (boolean ended) ++ codes ",\"outside\":" ++ compact_text (list_of (outside_json sites) outside) ++ codes ",\"pairs\":["

abbrev pub forward_head : List Site → List OutsidePart → List ℕ
forward_head sites outside = codes "{\"outside\":" ++ compact_text (list_of (outside_json sites) outside) ++ codes ",\"pairs\":["

abbrev pub back_head : List Site → List Pair → List ℕ
back_head sites origins = codes "{\"origins\":" ++ compact_text (list_of (pair_json sites) origins) ++ codes ",\"pairs\":["

abbrev pub titled_head : List Site → Title → List OutsidePart → List Pair → List ℕ
titled_head sites (titles.Recall r ended) outside origins = report_head sites ended outside
titled_head sites titles.Forward outside origins = forward_head sites outside
titled_head sites titles.Back outside origins = back_head sites origins

abbrev pub account_head : List Site → Account → List ℕ
account_head sites a = titled_head sites a.title a.outside a.origins

abbrev pub report_tail : List Site → Recall → Pair → List ℕ
report_tail sites r root =
    codes ",\"recall\":" ++ compact_text (string (recall_text sites r)) ++ codes ",\"root\":" ++ compact_text (pair_json sites root) ++ codes "}\n"

abbrev pub trace_tail : List Site → Pair → List ℕ → List ℕ
trace_tail sites root end = codes ",\"root\":" ++ compact_text (pair_json sites root) ++ end

abbrev pub titled_tail : List Site → Title → Pair → List ℕ
titled_tail sites (titles.Recall r ended) root = report_tail sites r root
titled_tail sites titles.Forward root = trace_tail sites root (codes ",\"trace\":\"forward\"}\n")
titled_tail sites titles.Back root = trace_tail sites root (codes ",\"trace\":\"back\"}\n")

abbrev pub account_tail : List Site → Account → List ℕ
account_tail sites a = titled_tail sites a.title a.root
