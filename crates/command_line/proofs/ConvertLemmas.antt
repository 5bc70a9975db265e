-- Conversions, file by file.
use Rattle.std.proofs.Common.{◌≡◌, ◌+◌, ◌<◌, ℕ, Bool, Bor, true, false, List, [], ◌∷◌, ◌++◌, Option, None, Some, option_map, inl, inr, map, take, drop, length, get_or, refl, sym, ap, ◌∙◌, subst, append_assoc, append-nil}
use Rattle.std.specs.Prelude.{◌||◌}
use Rattle.std.specs.List.{flat_map, list_any}
use Rattle.std.proofs.KnownBytes.{Appends-nil, Appends-trans}
use Rattle.std.proofs.lemmas.Grind.{flat_map-append}
use Rattle.std.proofs.lemmas.List.{map-append, map_more, map_push, take-append-drop}
use Rattle.std.proofs.lemmas.List.Folds.{list_any-append}
use Rattle.serde_json.specs.Data.{Data}
use Rattle.document_convert.specs.Converted.{AreLinesOf, documents_of, refusals_of}
use Rattle.document_convert.specs.Texts.{pieces_of}
use Rattle.event_json.specs.Sites.{Site}
use Rattle.folder_commands.specs.Listed.{ComesOf, ReadsSites}
use Rattle.folder_commands.specs.Making.{refused_lines, too_few}
use Rattle.folder_commands.specs.declared.listed.SitesCame.{SitesCame}
use Rattle.folder_commands.specs.declared.listed.SitesCame.TheVariants as came
use Rattle.folder_commands.proofs.ListedLemmas.{none_read_asks, sites_ask}
use Rattle.outcome_forms.specs.declared.forms.Form.{Form}
use Rattle.recall_outcomes.specs.Statuses.{outcome_status}
use Rattle.recall_outcomes.specs.declared.faults.Fault.{Fault}
use Rattle.recall_outcomes.specs.declared.faults.Fault.TheVariants.{NoMemory, Write}
use Rattle.recall_outcomes.specs.declared.outcomes.CommandRefusal.{CommandRefusal}
use Rattle.recall_outcomes.specs.declared.outcomes.Outcome.{Outcome}
use Rattle.recall_outcomes.specs.declared.outcomes.Outcome.TheVariants as outcomes
use Rattle.recall_outcomes.specs.declared.outcomes.Output.{Output}
use Rattle.recall_text.specs.declared.site_lists.SiteList.{SiteList}
use Rattle.site_folders.specs.Faults.{OnlyAsks}
use Rattle.site_folders.specs.FileCalls.{FileCall, Failed, Led, ReadFile}
use Rattle.site_folders.specs.Refusals.{AreRefused}
use Rattle.site_folders.proofs.CallsInTurn.{led_so, led_then}
use Rattle.site_folders.proofs.VainLemmas.{asks_first, asks_then, none_asks}
use Rattle.command_line.specs.Converting.{BreaksAt, ConvertEnds, ConvertFails, Converts, ConvertsOne, EndsBy, EndsWhere, EndsWith, TellsRefused, Ways, is_told}
use Rattle.command_line.specs.Ends.{OutcomeEnds}
use Rattle.command_line.specs.declared.convert_commands.ConvertFiles.{ConvertFiles}

-- the lines of some documents, and then those of others
lines_then : (ds es : List Data) (lines more : List ℕ) → AreLinesOf ds lines → AreLinesOf es more → AreLinesOf (ds ++ es) (lines ++ more)
lines_then [] es lines more none are = subst (λ ls. AreLinesOf es (ls ++ more)) (sym none) are
lines_then (d ∷ ds) es lines more (line, rest, is, its, all) are =
    (line, rest ++ more, is, lines_then ds es rest more its are, ap (λ ls. ls ++ more) all ∙ append_assoc line rest more)

or_false : (a b : Bool) → (a || (b || false)) ≡ (a || b)
or_false a b = ap (λ c. a || c) (last b)
  where
    last : (c : Bool) → (c || false) ≡ c
    last true = refl
    last false = refl

module _ {K W : Type 0} (contents : W → Option (List ℕ)) (ways : Ways) where
  -- no file yet
  pub none_converted : (out : W) → Converts {K = K} contents ways [] out out false []
  none_converted out = record { files = []; of_paths = refl; read = refl; lines = []; are = refl; written = Appends-nil (contents out); refused_is = refl }

  -- a file more
  pub one_converted : (paths : List (List ℕ)) (path : List ℕ) (a b c : W) (earlier refused : Bool) (calls more : List (FileCall K))
      → Converts contents ways paths a b earlier calls → ConvertsOne contents ways path b c earlier refused more
      → Converts contents ways (paths ++ path ∷ []) a c refused (calls ++ more)
  one_converted paths path a b c earlier refused calls more done one =
      let file : List ℕ × List ℕ = (path, one.text) in
      let documents : List ℕ × List ℕ → List Data = λ f. documents_of ways.0 ways.1 (pieces_of f.1) in
      let told : List ℕ × List ℕ → Bool = λ f. is_told (refusals_of (pieces_of f.1)) in
      let call : List ℕ × List ℕ → FileCall K = λ f. ReadFile f.0 f.1 in
      record {
        files = done.files ++ file ∷ [];
        of_paths = map_push (λ f. f.0) done.files file ∙ ap (λ ps. ps ++ path ∷ []) done.of_paths;
        read = ap (λ cs. cs ++ more) done.read ∙ ap (λ cs. map call done.files ++ cs) one.read ∙ sym (map_push call done.files file);
        lines = done.lines ++ one.lines;
        are =
            subst (λ ds. AreLinesOf ds (done.lines ++ one.lines))
            (sym (flat_map-append documents done.files (file ∷ []) ∙ ap (λ ds. flat_map documents done.files ++ ds) (append-nil (documents file))))
            (lines_then (flat_map documents done.files) (documents file) done.lines one.lines done.are one.are);
        written = Appends-trans (contents a) (contents b) (contents c) done.lines one.lines done.written one.written;
        refused_is =
            one.refused_is ∙ ap (λ (r : Bool). r || told file) done.refused_is
            ∙ sym (list_any-append told done.files (file ∷ []) ∙ or_false (list_any told done.files) (told file));
      }

  -- ---- its calls

  reads_ask : (files : List (List ℕ × List ℕ)) → OnlyAsks {K = K} (map (λ file. ReadFile file.0 file.1) files)
  reads_ask [] = none_asks
  reads_ask (file ∷ files) = asks_first (ReadFile file.0 file.1) (map (λ f. ReadFile f.0 f.1) files) tt (reads_ask files)

  pub converts_ask : (paths : List (List ℕ)) (a b : W) (refused : Bool) (calls : List (FileCall K)) → Converts contents ways paths a b refused calls → OnlyAsks calls
  converts_ask paths a b refused calls done = subst (λ cs. OnlyAsks cs) (sym done.read) (reads_ask done.files)

  breaks_ask : (path : List ℕ) (a b : W) (fault : Fault) (calls : List (FileCall K)) → BreaksAt contents path a b fault calls → OnlyAsks calls
  breaks_ask path a b fault calls (inl (is, same)) = subst (λ cs. OnlyAsks cs) (sym is) (asks_first (Failed path fault) [] tt none_asks)
  breaks_ask path a b fault calls (inr (text, is, why)) = subst (λ cs. OnlyAsks cs) (sym is) (asks_first (ReadFile path text) [] tt none_asks)

  pub fails_ask : (paths : List (List ℕ)) (a b : W) (fault : Fault) (calls : List (FileCall K)) → ConvertFails contents ways paths a b fault calls → OnlyAsks calls
  fails_ask paths a b fault calls fails =
      subst (λ cs. OnlyAsks cs) (sym fails.calls_are)
      (asks_then fails.first fails.last (converts_ask fails.done a fails.mid fails.refused fails.first fails.converted) (breaks_ask fails.path fails.mid b fault fails.last fails.broke))

-- ---- faults

module _ {F K W : Type 0} (does : F → FileCall K → F → Type 0) (contents : W → Option (List ℕ)) (path : List ℕ) (out : W) (fault : Fault) (old new : F) where
  -- the file can't be read
  pub convert_unread : does old (Failed path fault) new → Led does old new (BreaksAt contents path out out fault)
  convert_unread failed = record { calls = Failed path fault ∷ []; are = inl (refl, refl); led = (new, failed, refl) }

  -- memory ran out at it
  pub convert_ran_out : (text : List ℕ) → does old (ReadFile path text) new → fault ≡ NoMemory → Led does old new (BreaksAt contents path out out fault)
  convert_ran_out text read is = record { calls = ReadFile path text ∷ []; are = inr (text, refl, inl (is, refl)); led = (new, read, refl) }

  -- its lines can't be written
  pub convert_unwritten : (text : List ℕ) (after : W) → does old (ReadFile path text) new → fault ≡ Write → Led does old new (BreaksAt contents path out after fault)
  convert_unwritten text after read is = record { calls = ReadFile path text ∷ []; are = inr (text, refl, inr is); led = (new, read, refl) }

-- the paths before one, that one, and those behind it
pub paths_parted : (paths : List (Bor (List ℕ))) (n : ℕ) (d : Bor (List ℕ)) → n < length paths
    → map (λ p. p.now) paths ≡ map (λ p. p.now) (take n paths) ++ (get_or paths n d).now ∷ map (λ p. p.now) (drop (n + 1) paths)
paths_parted paths n d few =
    let now : Bor (List ℕ) → List ℕ = λ p. p.now in
    sym (ap (map now) (take-append-drop (n + 1) paths))
    ∙ map-append now (take (n + 1) paths) (drop (n + 1) paths)
    ∙ ap (λ ps. ps ++ map now (drop (n + 1) paths)) (map_more now paths n d few)
    ∙ append_assoc (map now (take n paths)) ((get_or paths n d).now ∷ []) (map now (drop (n + 1) paths))

-- behind other files
pub convert_broke : {F K W : Type 0} (does : F → FileCall K → F → Type 0) (contents : W → Option (List ℕ)) (ways : Ways) (old mid new : F) (before between after : W) (refused : Bool)
    (paths done others : List (List ℕ)) (path : List ℕ) (fault : Fault) → paths ≡ done ++ path ∷ others
    → Led does old mid (Converts contents ways done before between refused) → Led does mid new (BreaksAt contents path between after fault)
    → Led does old new (ConvertFails contents ways paths before after fault)
convert_broke {F} {K} does contents ways old mid new before between after refused paths done others path fault are first fails =
    led_then does old mid new both first fails
  where
    both : (xs ys : List (FileCall K)) → Converts contents ways done before between refused xs → BreaksAt contents path between after fault ys
        → ConvertFails contents ways paths before after fault (xs ++ ys)
    both xs ys converted broke = record {
      done = done;
      path = path;
      others = others;
      paths_are = are;
      mid = between;
      refused = refused;
      first = xs;
      converted = converted;
      last = ys;
      broke = broke;
      calls_are = refl;
    }

-- ---- the list of sites

-- what is refused has status 1
refused_status : (whys : List CommandRefusal) (o : Outcome) → AreRefused whys o → outcome_status o ≡ 1
refused_status whys outcomes.Created is = absurd is
refused_status whys (outcomes.Stepped effects) is = absurd is
refused_status whys (outcomes.Ran recalls coded) is = absurd is
refused_status whys outcomes.Withheld is = absurd is
refused_status whys (outcomes.Reported r report ways events) is = absurd is
refused_status whys (outcomes.Traced trace ways events) is = absurd is
refused_status whys (outcomes.TracedBack trace ways events) is = absurd is
refused_status whys (outcomes.Standing recalls coded) is = absurd is
refused_status whys (outcomes.Waiting detail coded) is = absurd is
refused_status whys (outcomes.Known site items) is = absurd is
refused_status whys (outcomes.WouldStart quarantined messages) is = absurd is
refused_status whys (outcomes.Audited recalls ended coded) is = absurd is
refused_status whys (outcomes.Inconsistent misfit) is = absurd is
refused_status whys (outcomes.Covered sites) is = absurd is
refused_status whys (outcomes.Gaps gaps coded) is = absurd is
refused_status whys (outcomes.Missed r missed coded) is = absurd is
refused_status whys (outcomes.Refused given) is = refl

-- so of a list that is
came_refused : (listed : SiteList) (whys : List CommandRefusal) (refused : Output) → ComesOf listed whys (came.Refused refused) → outcome_status refused.outcome ≡ 1
came_refused listed [] refused comes = absurd comes
came_refused listed (why ∷ whys) refused comes = refused_status (why ∷ whys) refused.outcome comes.0

pub list_refused : {F K W : Type 0} (does : F → FileCall K → F → Type 0) (contents : W → Option (List ℕ)) (form : Form) (list : List ℕ) (old mid : F) (before after : W) (status : ℕ) (refused : Output)
    → Led does old mid (ReadsSites list (came.Refused refused)) → OutcomeEnds form refused.sites refused.outcome (contents before) (contents after) status
    → TellsRefused does contents form refused before after status
list_refused does contents form list old mid before after status refused listed (inl (written, is)) =
    inl (written, is ∙ came_refused listed.are.listed (refused_lines listed.are.listed ++ too_few listed.are.listed.sites) refused listed.are.comes)
list_refused does contents form list old mid before after status refused listed (inr faulty) = inr faulty

-- ---- all calls

module _ {F K W : Type 0} (does : F → FileCall K → F → Type 0) (contents : W → Option (List ℕ)) (asked : ConvertFiles) (before after : W) (status : ℕ) where
  by_asks : (sites : List Site) (old new : F) → EndsBy does contents sites asked old new before after status → Led does old new OnlyAsks
  by_asks sites old new (inl (refused, led, is)) = led_so does old new (λ calls l. converts_ask contents (asked.ways, sites) _ before after refused calls l) led
  by_asks sites old new (inr (fault, led, is)) = led_so does old new (λ calls l. fails_ask contents (asked.ways, sites) _ before after fault calls l) led

  with_asks : (output : SitesCame) (old new : F) → EndsWith does contents output asked old new before after status → Led does old new OnlyAsks
  with_asks (came.Refused refused) old new (same, told) = record { calls = []; are = none_asks; led = same }
  with_asks (came.Listed sites) old new ends = by_asks sites old new ends

  where_asks : (list : Option (List ℕ)) (old new : F) → EndsWhere does contents list asked old new before after status → Led does old new OnlyAsks
  where_asks None old new ends = by_asks [] old new ends
  where_asks (Some list) old new (inl ends) =
      led_then does old ends.mid new (λ xs ys first others. asks_then xs ys first others) (led_so does old ends.mid (λ calls l. sites_ask list calls ends.came l) ends.listed) (with_asks ends.came ends.mid new ends.ends)
  where_asks (Some list) old new (inr (fault, led, same, is)) = led_so does old new (λ calls l. none_read_asks list calls fault l) led

  -- a conversion changes nothing
  pub convert_asks : (old new : F) → ConvertEnds does contents asked old new before after status → Led does old new OnlyAsks
  convert_asks old new ends = where_asks (option_map (λ t. t.now) asked.places) old new ends
