-- a step of a site, and the commands that ask for one
use Rattle.std.proofs.Common.{◌≡◌, ◌⊎◌, ℕ, List, [], ◌∷◌, inl, inr, refl, sym, subst, Option, Some, None, Result, Ok, Err, IfOk}
use Rattle.std.specs.Prelude.{IsErr, IsErrAnd, MatchResult}
use Rattle.event_json.specs.Sites.{Site, named}
use Rattle.event_json.specs.declared.documents.Doc.{Doc}
use Rattle.event_json.specs.declared.untraced.Untraced.{Untraced}
use Rattle.item_spellings.specs.Keys.{item_reading}
use Rattle.item_spellings.specs.declared.faults.SpellingFault.{SpellingFault}
use Rattle.item_spellings.specs.declared.spellings.Spelled.{Spelled}
use Rattle.keeper_core.specs.Keeping.{Applies}
use Rattle.keeper_core.specs.declared.faults.KeepFault.TheVariants as keeping
use Rattle.recall_outcomes.specs.declared.faults.Fault.{Fault}
use Rattle.recall_outcomes.specs.declared.faults.Fault.TheVariants as faults
use Rattle.recall_outcomes.specs.declared.faults.Fault.TheVariants.{NoMemory}
use Rattle.recall_outcomes.specs.declared.notes.Notes.TheVariants as notes
use Rattle.recall_outcomes.specs.declared.outcomes.Outcome.{Outcome}
use Rattle.recall_outcomes.specs.declared.outcomes.Output.{Output}
use Rattle.site_core.specs.Records.{Record}
use Rattle.site_core.specs.Steps.{Does, IsReadAs}
use Rattle.site_core.specs.declared.inputs.SiteInput.{SiteInput}
use Rattle.site_core.specs.declared.inputs.SiteInput.TheVariants.{Capture, Start}
use Rattle.site_core.specs.declared.outcomes.Effects.{Effects}
use Rattle.site_core.specs.declared.outcomes.Effects.TheVariants as told
use Rattle.site_core.specs.declared.outcomes.Refusal.{Refusal}
use Rattle.site_folders.specs.Faults.{EndsInVain, OpensInVain}
use Rattle.site_folders.specs.FileCalls.{Calls, FileCall, Led, ReadFile}
use Rattle.site_folders.specs.Lists.{AfterList, ListsSites}
use Rattle.site_folders.specs.Missing.{CountsOwn}
use Rattle.site_folders.specs.Refusals.{IsNoSite, IsRefusal, refusal_of}
use Rattle.site_folders.proofs.CallsInTurn.{behind_list, led_so, led_then}
use Rattle.site_folders.proofs.VainLemmas.{asks_first, lists_ask, none_asks, opens_behind, ran_out, vain_listed}
use Rattle.folder_commands.specs.Steps.{AtSite, BreaksCapture, BreaksStart, BreaksStep, CaptureFails, CapturesAt, CapturesFile, FailsStep, IsUntraced, NotesDone, NotesStart, StartFails, StartsAt, StartsItem, Steps, StepsAt, TellsStep}
use Rattle.folder_commands.specs.Untraced.{TellsUntraced}

-- ---- results

-- a fault that is handed on
pub match_err : {X E : Type 0} (r : Result X E) (e : E) (P : X → Type 0) (Q : E → Type 0) → IsErrAnd r (λ f. f ≡ e) → Q e → MatchResult r P Q
match_err (Ok x) e P Q is h = absurd is
match_err (Err f) e P Q is h = subst Q (sym is) h

-- what follows of each answer and each fault
pub match_so : {X E : Type 0} {P P' : X → Type 0} {Q Q' : E → Type 0} (r : Result X E) → ((x : X) → P x → P' x) → ((e : E) → Q e → Q' e) → MatchResult r P Q → MatchResult r P' Q'
match_so (Ok x) f g h = f x h
match_so (Err e) f g h = g e h

-- what follows of an answer with a number that was counted
pub counted_so : {D E A : Type 0} (P : D × ℕ → Type 0) (Q : E → Type 0) (C : ℕ → Type 0) (S : D × ℕ → Type 0) → ((r : D × ℕ) → P r → C r.1 → S r) → (result : Result (D × ℕ) E) (counted : Result ℕ A)
    → MatchResult result P Q → IfOk result (λ r. counted ≡ Ok r.1) → IfOk counted C → IfOk result S
counted_so P Q C S gives (Ok r) counted p is c = gives r p (subst (λ n. IfOk n C) is c)
counted_so P Q C S gives (Err e) counted q is c = tt

-- of one that is known
pub err_of : {X E : Type 0} (P : X → Type 0) (Q : E → Type 0) (r : Result X E) (e : E) → r ≡ Err e → MatchResult r P Q → Q e
err_of {X} {E} P Q r e is h = subst (λ (q : Result X E). MatchResult q P Q) is h

pub ok_of : {X E : Type 0} (P : X → Type 0) (Q : E → Type 0) (r : Result X E) (x : X) → r ≡ Ok x → MatchResult r P Q → P x
ok_of {X} {E} P Q r x is h = subst (λ (q : Result X E). MatchResult q P Q) is h

-- ---- what a keeper returns

module _ (old : Record) (input : SiteInput) (may : Record → Type 0) where
  pub step_done : (effects : Effects) (shown : Option Record) → Applies old input (Ok effects) shown may → Steps old input shown (Ok effects)
  step_done effects None does = absurd does
  step_done effects (Some new) does = does

  pub step_refused : (why : Refusal) (shown : Option Record) → Applies old input (Err (keeping.Refused why)) shown may → Steps old input shown (Err why)
  step_refused why None refuses = absurd refuses
  step_refused why (Some new) refuses = refuses

  pub out_of_memory : (shown : Option Record) → Applies old input (Err keeping.NoMemory) shown may → FailsStep old input shown may faults.NoMemory
  out_of_memory None fails = absurd fails
  out_of_memory (Some new) fails = fails

  pub device_failed : (shown : Option Record) → Applies old input (Err keeping.Device) shown may → FailsStep old input shown may faults.Device
  device_failed None fails = fails
  device_failed (Some new) fails = absurd fails

  pub store_failed : (shown : Option Record) → Applies old input (Err keeping.Store) shown may → FailsStep old input shown may faults.Store
  store_failed None fails = fails
  store_failed (Some new) fails = absurd fails

  pub is_open : (shown : Option Record) → Applies old input (Err keeping.Closed) shown may → ⊥
  is_open None fails = fails
  is_open (Some new) fails = fails

  -- a refusal for whose outcome there is no memory leaves the record as it is
  pub refusal_untold : (done : Result Effects Refusal) (shown : Option Record) → IsErr done → Steps old input shown done → FailsStep old input shown may NoMemory
  refusal_untold done None refused steps = absurd steps
  refusal_untold (Ok effects) (Some new) refused does = absurd (let no : ⊥ = cc in no)
  refusal_untold (Err why) (Some new) refused steps = steps.1

-- ---- what isn't traced

-- what was captured was read
pub captured_read : (old new : Record) (document : List ℕ) (effects : Effects) → Does old (Capture document) effects new → (doc : Doc) × IsReadAs old.sites document (Ok doc)
captured_read old new document (told.Captured fresh known skipped) does = (does.doc, does.read)
captured_read old new document (told.Started r quarantined numbered ended) does = absurd does
captured_read old new document (told.Received quarantined numbered owed) does = absurd does
captured_read old new document told.Repeat does = absurd does
captured_read old new document told.Stale does = absurd does
captured_read old new document told.Cleared does = absurd does
captured_read old new document (told.ParentDue m) does = absurd does
captured_read old new document (told.Ended r) does = absurd does

-- this is what is told of a document that isn't traced, if it is one
abbrev pub Finds : List Site → List ℕ → List (List ℕ) → Untraced → List (List ℕ) → Type 0
Finds sites document named untraced places = (doc : Doc) → IsReadAs sites document (Ok doc) → TellsUntraced sites document named untraced places

-- so of one that was captured
pub captured_tells : (old : Record) (shown : Option Record) (document : List ℕ) (effects : Effects) (named : List (List ℕ)) (untraced : Untraced) (places : List (List ℕ)) → Steps old (Capture document) shown (Ok effects)
    → Finds old.sites document named untraced places → TellsUntraced old.sites document named untraced places
captured_tells old None document effects named untraced places does finds = absurd does
captured_tells old (Some new) document effects named untraced places does finds = let read = captured_read old new document effects does in finds read.0 read.1

pub captured_found : (old : Record) (shown : Option Record) (document : List ℕ) (done : Result Effects Refusal) (untraced : Untraced) (places : List (List ℕ)) → Steps old (Capture document) shown done
    → Finds old.sites document [] untraced places → IsUntraced old.sites document done untraced places
captured_found old shown document (Ok effects) untraced places does finds = captured_tells old shown document effects [] untraced places does finds
captured_found old shown document (Err why) untraced places does finds = tt

-- ---- the commands

module _ {F K : Type 0} (does : F → FileCall K → F → Type 0) (shown : K → Option Record) (folder : List ℕ) where
  -- a fault behind the folder's list
  pub vain_led : (fault : Fault) (old mid new : F) (sites : List Site) → Led does old mid (ListsSites folder sites) → Led does mid new (OpensInVain shown folder sites fault)
      → Led does old new (EndsInVain shown folder fault)
  vain_led fault old mid new sites listed vain = led_then does old mid new (λ xs ys. vain_listed shown folder sites fault xs ys) listed vain

  -- memory ran out behind it
  pub list_out : (old mid : F) (sites : List Site) → Led does old mid (ListsSites folder sites) → Led does old mid (EndsInVain shown folder NoMemory)
  list_out old mid sites listed = led_so does old mid (λ calls is. ran_out shown folder NoMemory calls refl (lists_ask folder sites calls is)) listed

module _ {F K : Type 0} (does : F → FileCall K → F → Type 0) (folder name : List ℕ) (Task : List Site → ℕ → Output → List (FileCall K) → Type 0) (output : Output) where
  -- what a command at the site of a name comes to
  abbrev pub Comes : List Site → List (FileCall K) → Type 0
  Comes sites rest = (output.sites ≡ sites) × AtSite name (named sites name) (Task sites) output rest

  -- the site isn't listed
  pub at_none : (old mid : F) (sites : List Site) (outcome : Outcome) → Led does old mid (ListsSites folder sites) → named sites name ≡ None → output.sites ≡ sites → output.outcome ≡ outcome
      → output.notes ≡ notes.Nothing → IsNoSite name outcome → Led does old mid (AfterList folder Comes)
  at_none old mid sites outcome listed unknown same is noted none =
      behind_list does folder Comes old mid mid sites listed
      (record {
        calls = [];
        are = (same, subst (λ s. AtSite name s (Task sites) output []) (sym unknown) (subst (IsNoSite name) (sym is) none, noted, refl));
        led = refl;
      })

  -- it is
  pub at_some : (old mid new : F) (sites : List Site) (site : ℕ) → Led does old mid (ListsSites folder sites) → named sites name ≡ Some site → output.sites ≡ sites
      → Led does mid new (Task sites site output) → Led does old new (AfterList folder Comes)
  at_some old mid new sites site listed known same done =
      behind_list does folder Comes old mid new sites listed
      (led_so does mid new (λ calls is. (same, subst (λ s. AtSite name s (Task sites) output calls) (sym known) is)) done)

module _ {F K : Type 0} (does : F → FileCall K → F → Type 0) (shown : K → Option Record) (may : K → Record → Type 0) (failed : K → ℕ) (stored : K → Type 0) (folder : List ℕ) where
  -- a step that was refused, and memory ran out for that
  pub refused_breaks : (sites : List Site) (site : ℕ) (input : SiteInput) (done : Result Effects Refusal) (calls : List (FileCall K)) → IsErr done → StepsAt shown stored folder sites site input done calls
      → BreaksStep shown may failed stored folder sites site input NoMemory calls
  refused_breaks sites site input done calls refused at = record {
    keeper = at.keeper;
    before = at.before;
    opened = at.opened;
    after = at.after;
    broke = refusal_untold at.before input (may at.after) done (shown at.after) refused at.stepped;
    caused = λ is. absurd (let no : ⊥ = cc in no);
    lasts = at.lasts;
    calls_are = at.calls_are;
  }

  -- how a step fails behind other calls
  abbrev pub FailsAt : List Site → ℕ → SiteInput → Fault → List (FileCall K) → Type 0
  FailsAt sites site input fault calls = OpensInVain shown folder sites fault calls ⊎ BreaksStep shown may failed stored folder sites site input fault calls

  pub capture_broke : (name file : List ℕ) (fault : Fault) (old first mid new : F) (sites : List Site) (site : ℕ) (document : List ℕ) → Led does old first (ListsSites folder sites) → named sites name ≡ Some site
      → does first (ReadFile file document) mid → Led does mid new (FailsAt sites site (Capture document) fault) → Led does old new (CaptureFails shown may failed stored folder name file fault)
  capture_broke name file fault old first mid new sites site document listed known read step = by step.calls step.are step.led where
    by : (calls : List (FileCall K)) → FailsAt sites site (Capture document) fault calls → Calls does mid calls new → Led does old new (CaptureFails shown may failed stored folder name file fault)
    by calls (inl vain) led =
        led_so does old new (λ cs is. inl is)
        (vain_led does shown folder fault old first new sites listed
        (record {
          calls = ReadFile file document ∷ calls;
          are = opens_behind shown folder sites fault (ReadFile file document ∷ []) calls (asks_first (ReadFile file document) [] tt none_asks) vain;
          led = (mid, read, led);
        }))
    by calls (inr broke) led =
        led_so does old new (λ cs is. inr is)
        (behind_list does folder (BreaksCapture shown may failed stored folder name file fault) old first new sites listed
        (record {
          calls = ReadFile file document ∷ calls;
          are = record { site = site; known = known; document = document; rest = calls; step = broke; calls_are = refl };
          led = (mid, read, led);
        }))

  pub start_broke : (name : List ℕ) (text : Spelled) (fault : Fault) (old first new : F) (sites : List Site) (site : ℕ) (item : List ℕ) → Led does old first (ListsSites folder sites) → named sites name ≡ Some site
      → item_reading text ≡ Ok item → Led does first new (FailsAt sites site (Start item) fault) → Led does old new (StartFails shown may failed stored folder name text fault)
  start_broke name text fault old first new sites site item listed known read step = by step.calls step.are step.led where
    by : (calls : List (FileCall K)) → FailsAt sites site (Start item) fault calls → Calls does first calls new → Led does old new (StartFails shown may failed stored folder name text fault)
    by calls (inl vain) led =
        led_so does old new (λ cs is. inl is) (vain_led does shown folder fault old first new sites listed (record { calls = calls; are = vain; led = led }))
    by calls (inr broke) led =
        led_so does old new (λ cs is. inr is)
        (behind_list does folder (BreaksStart shown may failed stored folder name text fault) old first new sites listed
        (record { calls = calls; are = record { site = site; known = known; item = item; read = read; step = broke }; led = led }))

  -- the document was captured or refused
  pub capture_done : (name file : List ℕ) (old first mid new : F) (sites : List Site) (site : ℕ) (document : List ℕ) (done : Result Effects Refusal) (untraced : Untraced) (places : List (List ℕ)) (output : Output) → Led does old first (ListsSites folder sites)
      → named sites name ≡ Some site → does first (ReadFile file document) mid → Led does mid new (StepsAt shown stored folder sites site (Capture document) done) → output.sites ≡ sites
      → TellsStep done output.outcome → Finds sites document [] untraced places → NotesDone untraced places done output.notes → Led does old new (CapturesAt shown stored folder name file output)
  capture_done name file old first mid new sites site document done untraced places output listed known read step same tells finds noted =
      let at = step.are in
      let lists = at.opened.shows.lists in
      let found = subst (λ ss. IsUntraced ss document done untraced places) lists
      (captured_found at.before (shown at.after) document done untraced places at.stepped (subst (λ ss. Finds ss document [] untraced places) (sym lists) finds)) in
      at_some does folder name (λ ss. CapturesFile shown stored folder ss file) output old first new sites site listed known same
      (record {
        calls = ReadFile file document ∷ step.calls;
        are = record { document = document; done = done; rest = step.calls; steps = step.are; told = tells; untraced = untraced; places = places; is_untraced = found; noted = noted; calls_are = refl };
        led = (mid, read, step.led);
      })

  -- the recall was started, or refused
  pub start_done : (name : List ℕ) (text : Spelled) (old first new : F) (sites : List Site) (site : ℕ) (item : List ℕ) (done : Result Effects Refusal) (inside : ℕ) (output : Output) → Led does old first (ListsSites folder sites)
      → named sites name ≡ Some site → item_reading text ≡ Ok item
      → Led does first new (λ calls. (at : StepsAt shown stored folder sites site (Start item) done calls) × CountsOwn at.before item inside) → output.sites ≡ sites
      → TellsStep done output.outcome → NotesStart inside done output.notes → Led does old new (StartsAt shown stored folder name text output)
  start_done name text old first new sites site item done inside output listed known read step same tells noted =
      at_some does folder name (λ ss. StartsItem shown stored folder ss (item_reading text)) output old first new sites site listed known same
      (led_so does first new
      (λ calls (at, counts). subst (λ r. StartsItem shown stored folder sites r site output calls) (sym read) (record { done = done; steps = at; told = tells; inside = inside; counts = counts; noted = noted })) step)

  -- or its text spells no item
  pub start_unspelled : (name : List ℕ) (text : Spelled) (old first : F) (sites : List Site) (site : ℕ) (why : SpellingFault) (outcome : Outcome) (output : Output) → Led does old first (ListsSites folder sites)
      → named sites name ≡ Some site → item_reading text ≡ Err why → output.sites ≡ sites → output.outcome ≡ outcome → IsRefusal (refusal_of why) outcome → output.notes ≡ notes.Nothing
      → Led does old first (StartsAt shown stored folder name text output)
  start_unspelled name text old first sites site why outcome output listed known read same is refused noted =
      at_some does folder name (λ ss. StartsItem shown stored folder ss (item_reading text)) output old first first sites site listed known same
      (record {
        calls = [];
        are = subst (λ r. StartsItem {K = K} shown stored folder sites r site output []) (sym read) (subst (IsRefusal (refusal_of why)) (sym is) refused, noted, refl);
        led = refl;
      })
