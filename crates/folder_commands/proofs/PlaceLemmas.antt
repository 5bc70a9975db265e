-- destinations that are named, one after another
use Rattle.std.proofs.Common.{◌≡◌, ◌↔◌, ◌⊎◌, inl, inr, ℕ, ◌+◌, ◌<◌, ◌≤◌, Bool, true, false, List, [], ◌∷◌, ◌++◌, length, take, get_or, refl, sym, ap, ◌∙◌, subst, ⊎_elim, arith, append-nil, append_assoc, length-append, sum_by, Result, Ok}
use Rattle.std.specs.Prelude.{Contains, ◌≢◌}
use Rattle.std.specs.List.{list_any}
use Rattle.std.specs.Prelude.{nat_eq}
use Rattle.std.specs.Cmp.Lexicographic.{pointwise}
use Rattle.std.proofs.lemmas.List.{get_or_default, length_push, take_all}
use Rattle.std.proofs.lemmas.List.Elements.{Contains-append_cases, Contains-append_left, Contains-push}
use Rattle.std.proofs.lemmas.List.Quantifiers.{all_pairs_push}
use Rattle.std.proofs.lemmas.List.Sums.{get_or-le-sum_by}
use Rattle.std.proofs.lemmas.Slice.Eq.{bytes_eq-Decides}
use Rattle.event_json.specs.Documents.{text_document}
use Rattle.event_json.specs.Sites.{Site}
use Rattle.event_json.specs.Untraced.{outside_of}
use Rattle.event_json.specs.declared.doc_faults.DocFault.{DocFault}
use Rattle.event_json.specs.declared.documents.Doc.{Doc}
use Rattle.event_json.specs.declared.events.Event.{Event}
use Rattle.event_json.specs.declared.untraced.Untraced.{Untraced}
use Rattle.trace_core.proofs.Members.{contains_cases, contains_none, list_any_member, list_any_witness}
use Rattle.gap_core.specs.Adding.{ByOne}
use Rattle.gap_core.proofs.Additions.{by_one_more}
use Rattle.folder_commands.specs.Untraced.{AreFew, IsOutside, NamesPlaces, ShipsOutside}

-- ---- of one

-- they were named, or enough were
pub names_had : (P : List ℕ → Type 0) (old : List (List ℕ)) → (length old < 5 → (x : List ℕ) → P x → Contains old x) → NamesPlaces P old old
names_had P old had = record {
  more = [];
  appended = sym (append-nil old);
  only = λ x h. absurd (contains_none x h);
  few = λ few. few;
  all = had;
}

-- another one
names_one : (old new : List (List ℕ)) (y : List ℕ) → new ≡ old ++ y ∷ [] → length old < 5 → (Contains old y → ⊥) → NamesPlaces (λ x. y ≡ x) old new
names_one old new y is fewer missing = record {
  more = y ∷ [];
  appended = is;
  only = λ x h. ⊎_elim (λ same. same) (λ none. absurd (contains_none x none)) (contains_cases y x [] h);
  few = λ few. subst AreFew (sym is) (
    all_pairs_push (λ (a b : List ℕ). a ≢ b) old y few.0 (λ k d below same. missing (k, below, get_or_default old k y d below ∙ same)),
    omega (arith, length_push old y, fewer),
  );
  all = λ less x same. subst (Contains new) same (subst (λ xs. Contains xs y) (sym is) (Contains-push old y));
}

pub names_new : (old new : List (List ℕ)) (copy y : List ℕ) → new ≡ old ++ copy ∷ [] → copy ≡ y → length old < 5 → (Contains old y → ⊥) → NamesPlaces (λ x. y ≡ x) old new
names_new old new copy y pushed same fewer missing = names_one old new y (pushed ∙ ap (λ (c : List ℕ). old ++ c ∷ []) same) fewer missing

-- whether a text is among places
abbrev pub IsSought : List (List ℕ) → List ℕ → Bool → Type 0
IsSought places x found = found ≡ list_any (λ y. pointwise nat_eq y x) places

pub named_before : (held places : List (List ℕ)) (x : List ℕ) (found : Bool) → held ≡ places → IsSought held x found → found ≡ true → Contains places x
named_before held places x found same is was =
    let (y, there, alike) = list_any_witness (λ y. pointwise nat_eq y x) held (sym is ∙ was) in
    subst (λ ps. Contains ps x) same (subst (Contains held) ((bytes_eq-Decides y x).0 alike) there)

pub not_named : (held places : List (List ℕ)) (x : List ℕ) (found : Bool) → held ≡ places → IsSought held x found → found ≡ false → Contains places x → ⊥
not_named held places x found same is wasnt there =
    let has = list_any_member (λ y. pointwise nat_eq y x) held x (subst (λ ps. Contains ps x) (sym same) there) ((bytes_eq-Decides x x).1 refl) in
    let bad : ◌≡◌ {A = Bool} true false = sym has ∙ sym is ∙ wasnt in
    let none : ⊥ = cc in
    none

-- ---- of several

pub names_alike : (P Q : List ℕ → Type 0) (old new : List (List ℕ)) → ((x : List ℕ) → P x ↔ Q x) → NamesPlaces P old new → NamesPlaces Q old new
names_alike P Q old new alike names = record {
  more = names.more;
  appended = names.appended;
  only = λ x h. (alike x).0 (names.only x h);
  few = names.few;
  all = λ fewer x q. names.all fewer x ((alike x).1 q);
}

names_then : (P Q : List ℕ → Type 0) (a b c : List (List ℕ)) → NamesPlaces P a b → NamesPlaces Q b c → NamesPlaces (λ x. P x ⊎ Q x) a c
names_then P Q a b c first second =
    let longer : length c ≡ length b + length second.more = ap length second.appended ∙ length-append b second.more in
    let still : (x : List ℕ) → Contains b x → Contains c x = λ x h. subst (λ xs. Contains xs x) (sym second.appended) (Contains-append_left b second.more x h) in
    record {
      more = first.more ++ second.more;
      appended = second.appended ∙ ap (λ xs. xs ++ second.more) first.appended ∙ append_assoc a first.more second.more;
      only = λ x h. ⊎_elim (λ one. inl (first.only x one)) (λ two. inr (second.only x two)) (Contains-append_cases first.more second.more x h);
      few = λ few. second.few (first.few few);
      all = λ fewer x h. ⊎_elim (λ p. still x (first.all (omega (arith, fewer, longer)) x p)) (λ q. second.all fewer x q) h;
    }

module _ {Y : Type 0} (P : Y → List ℕ → Type 0) (ys : List Y) where
  pub none_named : (start : List (List ℕ)) → NamesPlaces (ByOne (take 0 ys) P) start start
  none_named start = names_had (ByOne (take 0 ys) P) start (λ fewer x (y, there, p). absurd (contains_none y there))

  pub one_more_named : (i : ℕ) (y : Y) → i < length ys → y ≡ get_or ys i y → (start old new : List (List ℕ))
      → NamesPlaces (ByOne (take i ys) P) start old → NamesPlaces (P y) old new → NamesPlaces (ByOne (take (i + 1) ys) P) start new
  one_more_named i y below at start old new before names =
      names_alike (λ x. ByOne (take i ys) P x ⊎ P y x) (ByOne (take (i + 1) ys) P) start new (by_one_more P ys i y below at)
      (names_then (ByOne (take i ys) P) (P y) start old new before names)

  pub all_named : (i : ℕ) → length ys ≤ i → (start new : List (List ℕ)) → NamesPlaces (ByOne (take i ys) P) start new → NamesPlaces (ByOne ys P) start new
  all_named i past start new = subst (λ zs. NamesPlaces (ByOne zs P) start new) (take_all i ys past)

-- ---- of a document

-- none goes to a place that is no traced site
pub none_outside : (events : List Event) → sum_by (λ e. length (outside_of e.body)) events ≡ 0 → (x : List ℕ) → IsOutside events x → ⊥
none_outside events none x (e, (k, below, at), (j, within, is)) =
    let some : length (outside_of (get_or events k e).body) ≤ sum_by (λ e. length (outside_of e.body)) events = get_or-le-sum_by (λ e. length (outside_of e.body)) events k e below in
    let own : length (outside_of (get_or events k e).body) ≡ length (outside_of e.body) = ap (λ (f : Event). length (outside_of f.body)) at in
    omega (arith, none, some, own, within)

-- the document of a text is one
pub ships_outside : (sites : List Site) (text : List ℕ) (doc : Doc) → text_document sites text ≡ Ok doc → (x : List ℕ) → IsOutside doc.events x ↔ ShipsOutside sites text x
ships_outside sites text doc is x = (
  λ h. (doc, is, h),
  λ (other, read, h).
      let both : ◌≡◌ {A = Result Doc DocFault} (Ok other) (Ok doc) = sym read ∙ is in
      let same : other ≡ doc = cc in
      subst (λ (d : Doc). IsOutside d.events x) same h,
)

-- none is named, where the counts of what isn't traced have none, or where enough were
pub counted_none : (sites : List Site) (text : List ℕ) (doc : Doc) (untraced : Untraced) (old : List (List ℕ)) → text_document sites text ≡ Ok doc
    → untraced.outside ≡ sum_by (λ e. length (outside_of e.body)) doc.events → untraced.outside ≡ 0 → NamesPlaces (ShipsOutside sites text) old old
counted_none sites text doc untraced old is counts none =
    names_had (ShipsOutside sites text) old (λ fewer x there. absurd (none_outside doc.events (sym counts ∙ none) x ((ships_outside sites text doc is x).1 there)))

pub enough_named : (P : List ℕ → Type 0) (old : List (List ℕ)) → 5 ≤ length old → NamesPlaces P old old
enough_named P old enough = names_had P old (λ fewer x p. absurd (omega (arith, fewer, enough)))

-- those of the document that was read are named behind a copy
pub document_named : (sites : List Site) (text : List ℕ) (doc : Doc) (old copy new : List (List ℕ)) → text_document sites text ≡ Ok doc → copy ≡ old
    → NamesPlaces (IsOutside doc.events) copy new → NamesPlaces (ShipsOutside sites text) old new
document_named sites text doc old copy new is same names =
    subst (λ (ps : List (List ℕ)). NamesPlaces (ShipsOutside sites text) ps new) same
    (names_alike (IsOutside doc.events) (ShipsOutside sites text) copy new (ships_outside sites text doc is) names)
