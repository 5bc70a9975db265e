-- An input has an outcome other than out of memory.
use Rattle.std.proofs.Common.{◌≡◌, ◌≢◌, ◌==◌, inl, inr, ℕ, suc, ◌+◌, ◌<◌, ◌≤◌, ◌^◌, true, false, List, [], ◌∷◌, length, Some, None, Result, Ok, Err, refl, sym, ap, subst, ◌∙◌, arith}
use Rattle.std.specs.Prelude.{IsTrue, is_some}
use mathlib.Core.Bool.{false≢true}
use Rattle.std.specs.FinMap.{get, entries}
use Rattle.std.specs.List.{Any, Contains, list_any}
use Rattle.std.specs.Str.{is_utf8}
use Rattle.std.proofs.lemmas.Str.{IsUtf8-from_is_utf8, is_utf8-from_IsUtf8}
use Rattle.event_json.specs.Documents.{whole, text_document}
use Rattle.event_json.specs.declared.doc_faults.DocFault.{DocFault}
use Rattle.event_json.specs.declared.doc_faults.DocField.TheVariants as fields
use Rattle.event_json.specs.declared.doc_faults.DocFaultKind.TheVariants as kinds
use Rattle.event_json.specs.declared.documents.Doc.{Doc}
use Rattle.frame_core.specs.declared.frames.Frame.TheVariants as frames
use Rattle.frame_core.specs.declared.rows.Row.{Row}
use Rattle.frame_core.specs.Numbers.{Recall, Message}
use Rattle.scholten_core.specs.Changes.{next_own, begun, received, signalled}
use Rattle.scholten_core.specs.Replies.{TellsTaken, TellsCleared}
use Rattle.scholten_core.specs.declared.outcomes.Received.{Received}
use Rattle.scholten_core.specs.declared.outcomes.Received.TheVariants as replies
use Rattle.scholten_core.specs.declared.outcomes.Signalled.{Signalled}
use Rattle.scholten_core.specs.declared.outcomes.Signalled.TheVariants as signals
use Rattle.scholten_core.proofs.Clearing.{standing_is_cleared}
use Rattle.scholten_core.proofs.Taking.{unseen_is_taken}
use Rattle.trace_core.specs.PairTests.{lists}
use Rattle.trace_core.specs.Spreads.{items_of}
use Rattle.trace_core.proofs.Members.{contains_here, contains_none}
use Rattle.trace_core.proofs.PairTestsDecide.{any_decides, lists_decides}
use Rattle.site_core.specs.declared.inputs.SiteInput.TheVariants.{Capture, Start, Deliver}
use Rattle.site_core.specs.declared.outcomes.Effects.TheVariants as effects
use Rattle.site_core.specs.declared.outcomes.Refusal.TheVariants as refusals
use Rattle.site_core.specs.Capturing.{Reason, taken, blocked, IsFirstRefused}
use Rattle.site_core.specs.Quarantines.{Quarantine, held}
use Rattle.site_core.specs.Records.{Record, IsNumber}
use Rattle.site_core.specs.Spreading.{IsKnownItem}
use Rattle.site_core.specs.Steps.{IsForSite, MayStart, MayTake, Clears, IsReadAs, HaveNumbers, IsOwnMessage, HasRow}
use Rattle.site_core.specs.StepLaws.{HasOutcome, InputsHaveAnOutcome}
use Rattle.site_core.proofs.Growths.{with_events}
use Rattle.site_core.proofs.Holders.{holding, holders_exact}
use Rattle.site_core.proofs.Quarantining.{with_new_items}
use Rattle.site_core.proofs.StepLists.{spread_listed, newly_listed, shipments_listed}
use Rattle.site_core.proofs.Questions.{Decided, all_of, alike, none_of, is_equal, is_below}
use Rattle.std.proofs.lemmas.Bool.{cases_lt}
use Rattle.site_core.proofs.EventOutcomes.{events_have_an_outcome}

-- Questions that have an answer.

is_number : (n : ℕ) → Decided (IsNumber n)
is_number n = alike {P = (0 < n) × (n < 2 ^ 62 + 1)} (λ h. record { low = omega (arith, h.0); high = omega (arith, h.1) }) (λ h. (omega (arith, h.low), omega (arith, h.high)))
    (all_of (is_below 0 n) (is_below n (2 ^ 62 + 1)))

is_for_site : (s : Record) (m : Message) (dest : ℕ) (r : Recall) → Decided (IsForSite s m dest r)
is_for_site s m dest r =
    let n = length s.sites in
    alike {P = ((dest ≡ s.engagement.me) × (m.site ≢ s.engagement.me)) × (((m.site < n) × IsNumber m.number) × ((r.site < n) × IsNumber r.number))}
    (λ h. record { here = h.0.0; elsewhere = h.0.1; message = record { site = h.1.0.0; number = h.1.0.1 }; recall = record { site = h.1.1.0; number = h.1.1.1 } })
    (λ h. ((h.here, h.elsewhere), ((h.message.site, h.message.number), (h.recall.site, h.recall.number))))
    (all_of (all_of (is_equal dest s.engagement.me) (none_of (is_equal m.site s.engagement.me))) (all_of (all_of (is_below m.site n) (is_number m.number)) (all_of (is_below r.site n) (is_number r.number))))

is_own : (s : Record) (m : Message) → Decided (IsOwnMessage s m)
is_own s m = alike {P = (m.site ≡ s.engagement.me) × IsNumber m.number} (λ h. record { site = h.0; number = h.1 }) (λ h. (h.site, h.number)) (all_of (is_equal m.site s.engagement.me) (is_number m.number))

is_named : (s : Record) (i : List ℕ) → Decided (Any (λ e. Contains (items_of e.body) i) s.captured.events)
is_named s i =
    let decides = any_decides (λ e. lists (items_of e.body) i) (λ e. Contains (items_of e.body) i) (λ e. lists_decides (items_of e.body) i) s.captured.events in
    elim (list_any (λ e. lists (items_of e.body) i) s.captured.events) as (λ b. list_any (λ e. lists (items_of e.body) i) s.captured.events ≡ b → Decided (Any (λ e. Contains (items_of e.body) i) s.captured.events)) [
      | true ↦ λ is. inl (decides.0 is)
      | false ↦ λ is. inr (λ named. false≢true (sym is ∙ decides.1 named))
    ] refl

is_held_somewhere : (q : Quarantine) (i : List ℕ) → Decided ((r : Recall) × IsTrue (held q r i))
is_held_somewhere q i = elim (holding i (entries q)) as (λ rs. holding i (entries q) ≡ rs → Decided ((r : Recall) × IsTrue (held q r i))) [
  | [] ↦ λ is. inr (λ (r, h). contains_none r (subst (λ rs. Contains rs r) is ((holders_exact i q r).1 h)))
  | r ∷ rs ↦ λ is. inl (r, (holders_exact i q r).0 (subst (λ xs. Contains xs r) (sym is) (contains_here r rs)))
] refl

is_known : (s : Record) (i : List ℕ) → Decided (IsKnownItem s.captured s.quarantine i)
is_known s i = elim (is_named s i) [
  | inl named ↦ inl (inl named)
  | inr unnamed ↦ elim (is_held_somewhere s.quarantine i) [
    | inl somewhere ↦ inl (inr somewhere)
    | inr nowhere ↦ inr (λ known. elim known [ inl named ↦ unnamed named | inr somewhere ↦ nowhere somewhere ])
  ]
]

-- Reasons other than out of memory.

doc_is_none : (fault : DocFault) → refusals.Doc fault ≢ refusals.NoMemory
doc_is_none fault h = cc

id_is_none : (n : ℕ) → refusals.IdTaken n ≢ refusals.NoMemory
id_is_none n h = cc

block_is_none : (r : Recall) (i : List ℕ) (n : ℕ) → refusals.Blocked r i n ≢ refusals.NoMemory
block_is_none r i n h = cc

item_is_none : refusals.UnknownItem ≢ refusals.NoMemory
item_is_none h = cc

mine_is_none : refusals.NotMine ≢ refusals.NoMemory
mine_is_none h = cc

spent_is_none : refusals.NumbersSpent ≢ refusals.NoMemory
spent_is_none h = cc

-- Documents.

module _ (s : Record) (bytes : List ℕ) where
  refused_at : (doc : Doc) → IsReadAs s.sites bytes (Ok doc) → (place : ℕ) (reason : Reason) → IsFirstRefused s.captured s.quarantine doc.events place reason → HasOutcome s (Capture bytes)
  refused_at doc read place taken h = inr (refusals.IdTaken (suc place), id_is_none (suc place), record { doc = doc; read = read; refused = (place, refl, h) })
  refused_at doc read place (blocked r i) h = inr (refusals.Blocked r i (suc place), block_is_none r i (suc place), record { doc = doc; read = read; refused = (place, refl, h) })

documents_have_an_outcome : (s : Record) (bytes : List ℕ) → HasOutcome s (Capture bytes)
documents_have_an_outcome s bytes = elim (is_utf8 bytes) as (λ b. is_utf8 bytes ≡ b → HasOutcome s (Capture bytes)) [
  | true ↦ λ is. as_read (text_document s.sites bytes) (inl (IsUtf8-from_is_utf8 bytes is, refl))
  | false ↦ λ is. as_read (Err (whole fields.Document kinds.Syntax)) (inr (λ text. false≢true (sym is ∙ is_utf8-from_IsUtf8 bytes text), refl))
] refl
  where
    as_read : (read : Result Doc DocFault) → IsReadAs s.sites bytes read → HasOutcome s (Capture bytes)
    as_read (Err fault) read = inr (refusals.Doc fault, doc_is_none fault, read)
    as_read (Ok doc) read = elim (events_have_an_outcome s.captured s.quarantine doc.events) [
      | inl done ↦ inl (
        effects.Captured done.0.fresh done.0.known doc.skipped,
        with_events s done.0.events,
        record { doc = doc; read = read; skips = refl; captured = done.1; rest = refl },
      )
      | inr first ↦ refused_at s bytes doc read first.0 first.1 first.2
    ]

-- Starts.

starts_have_an_outcome : (s : Record) (root : List ℕ) → HasOutcome s (Start root)
starts_have_an_outcome s root = elim (is_known s root) [
  | inr unknown ↦ inr (refusals.UnknownItem, item_is_none, unknown)
  | inl known ↦
      let spread = spread_listed s.captured root in
      let new = newly_listed s.captured s.quarantine (next_own s.engagement) root in
      let out = shipments_listed s.captured spread.list in
      by_numbers (spread.list, new.0, out.0, record { known = known; ascending = spread.ascending; exact = spread.exact; newly = new.1; shipped = out.1 })
]
  where
    done : (spread new : List (List ℕ)) (out : List (ℕ × List ℕ)) → MayStart s root spread new out → (s.engagement.next_recall ≤ 2 ^ 62) × HaveNumbers s.engagement out → HasOutcome s (Start root)
    done spread new out may enough = inl (
      effects.Started (next_own s.engagement) (length new) (length out) (length out == 0),
      with_new_items s (next_own s.engagement) new (begun s.engagement root out),
      record { spread = spread; new = new; out = out; may = may; enough = enough; next = refl; held = refl; told = refl; at_once = refl; after = refl },
    )

    by_numbers : ((spread new : List (List ℕ)) × (out : List (ℕ × List ℕ)) × MayStart s root spread new out) → HasOutcome s (Start root)
    by_numbers (spread, new, out, may) = elim (cases_lt (2 ^ 62) s.engagement.next_recall) [
      | inl last ↦ inr (refusals.NumbersSpent, spent_is_none, record { spread = spread; new = new; out = out; may = may; spent = inl last })
      | inr left ↦ elim (cases_lt (2 ^ 62 + 1) (s.engagement.next_message + length out)) [
        | inl many ↦ inr (refusals.NumbersSpent, spent_is_none, record { spread = spread; new = new; out = out; may = may; spent = inr many })
        | inr few ↦ done spread new out may (left, few)
      ]
    ]

-- Messages.

module _ (s : Record) (m : Message) (dest : ℕ) (r : Recall) (i : List ℕ) (new : List (List ℕ)) (out : List (ℕ × List ℕ))
    (may : MayTake s m dest r i new out) (enough : HaveNumbers s.engagement out) where
  take_with : (answer : Received) → (received s.engagement m r out).1 ≡ answer → TellsTaken s.engagement (received s.engagement m r out).0 m r answer → HasOutcome s (Deliver (frames.Recall m dest r i))
  take_with replies.Repeat is tells = absurd tells
  take_with (replies.Owe n) is tells = inl (
    effects.Received (length new) n true,
    with_new_items s r new (received s.engagement m r out).0,
    record { new = new; out = out; may = may; enough = enough; held = refl; engaged = λ k. ((received s.engagement m r out).0, is k); after = refl },
  )
  take_with (replies.SignalNow n) is tells = inl (
    effects.Received (length new) n false,
    with_new_items s r new (received s.engagement m r out).0,
    record { new = new; out = out; may = may; enough = enough; held = refl; engaged = λ k. ((received s.engagement m r out).0, is k); after = refl },
  )

  unseen_done : HasOutcome s (Deliver (frames.Recall m dest r i))
  unseen_done = take_with (received s.engagement m r out).1 refl (unseen_is_taken s.engagement m r out may.unseen).1

messages_have_an_outcome : (s : Record) (m : Message) (dest : ℕ) (r : Recall) (i : List ℕ) → HasOutcome s (Deliver (frames.Recall m dest r i))
messages_have_an_outcome s m dest r i = elim (is_for_site s m dest r) [
  | inr foreign ↦ inr (refusals.NotMine, mine_is_none, foreign)
  | inl mine ↦ elim (get s.engagement.seen m) as (λ o. get s.engagement.seen m ≡ o → HasOutcome s (Deliver (frames.Recall m dest r i))) [
    | Some q ↦ λ is. inl (effects.Repeat, s, (record { mine = mine; seen = ap is_some is }, refl))
    | None ↦ λ is.
        let (new, newly) = newly_listed s.captured s.quarantine r i in
        let (out, shipped) = shipments_listed s.captured new in
        let may : MayTake s m dest r i new out = record { mine = mine; unseen = is; newly = newly; shipped = shipped } in
        elim (cases_lt (2 ^ 62 + 1) (s.engagement.next_message + length out)) [
          | inl many ↦ inr (refusals.NumbersSpent, spent_is_none, record { new = new; out = out; may = may; spent = many })
          | inr few ↦ unseen_done s m dest r i new out may few
        ]
  ] refl
]

-- Signals.

module _ (s : Record) (m : Message) (by : ℕ) (row : Row) (has : HasRow s m row) (signer : row.dest ≡ by) where
  cleared : (answer : Signalled) → (signalled s.engagement m.number).1 ≡ answer → Clears s m by answer (record s { engagement = (signalled s.engagement m.number).0 })
  cleared answer is = record { row = row; has = has; signer = signer; engaged = λ k. ((signalled s.engagement m.number).0, is k); after = refl }

  clear_with : (answer : Signalled) → (signalled s.engagement m.number).1 ≡ answer → TellsCleared s.engagement (signalled s.engagement m.number).0 row.recall answer → HasOutcome s (Deliver (frames.Signal m by))
  clear_with signals.Stale is tells = absurd tells
  clear_with signals.Cleared is tells = inl (effects.Cleared, _, cleared signals.Cleared is)
  clear_with (signals.ParentDue parent) is tells = inl (effects.ParentDue parent, _, cleared (signals.ParentDue parent) is)
  clear_with (signals.Ended recall) is tells = inl (effects.Ended recall, _, cleared (signals.Ended recall) is)

  standing_done : HasOutcome s (Deliver (frames.Signal m by))
  standing_done = clear_with (signalled s.engagement m.number).1 refl (standing_is_cleared s.engagement m.number row has.stands).1

signals_have_an_outcome : (s : Record) (m : Message) (by : ℕ) → HasOutcome s (Deliver (frames.Signal m by))
signals_have_an_outcome s m by = elim (is_own s m) [
  | inr foreign ↦ inr (refusals.NotMine, mine_is_none, inl foreign)
  | inl mine ↦ elim (get s.engagement.outbox m.number) as (λ o. get s.engagement.outbox m.number ≡ o → HasOutcome s (Deliver (frames.Signal m by))) [
    | None ↦ λ is. inl (effects.Stale, s, (record { mine = mine; gone = is }, refl))
    | Some row ↦ λ is.
        let has : HasRow s m row = record { mine = mine; stands = is } in
        elim (is_equal row.dest by) [
          | inl signer ↦ standing_done s m by row has signer
          | inr other ↦ inr (refusals.NotMine, mine_is_none, inr (row, has, other))
        ]
  ] refl
]

pub inputs_have_an_outcome : InputsHaveAnOutcome
inputs_have_an_outcome s (Capture bytes) = documents_have_an_outcome s bytes
inputs_have_an_outcome s (Start root) = starts_have_an_outcome s root
inputs_have_an_outcome s (Deliver (frames.Recall m dest r i)) = messages_have_an_outcome s m dest r i
inputs_have_an_outcome s (Deliver (frames.Signal m by)) = signals_have_an_outcome s m by
