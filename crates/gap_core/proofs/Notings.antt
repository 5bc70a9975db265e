-- Elements that are noted at the end of a list.
use Rattle.std.proofs.Common.{◌≡◌, ◌↔◌, inl, inr, ℕ, ◌+◌, ◌<◌, ◌≤◌, true, false, List, [], ◌∷◌, ◌++◌, Some, length, take, get_or, slice_get, refl, sym, ap, ◌∙◌, subst, ⊎_elim, append-nil, append_assoc}
use mathlib.Core.Logic.{◌⊎◌}
use Rattle.std.specs.List.{Contains, list_any}
use Rattle.std.specs.Cmp.Lexicographic.{pointwise}
use Rattle.std.specs.Prelude.{nat_eq}
use Rattle.std.proofs.lemmas.List.{take_all}
use Rattle.std.proofs.lemmas.List.Elements.{Contains-append_cases, Contains-append_left, Contains-push}
use Rattle.std.proofs.lemmas.Option.{slice_get-get_or, slice_get_within, get_or_from_slice_get}
use Rattle.std.proofs.lemmas.Slice.Eq.{bytes_eq-Decides}
use Rattle.indexmap.specs.IndexSet.{insert_key}
use Rattle.trace_core.proofs.Members.{contains_cases, contains_none, list_any_member, list_any_witness}
use Rattle.trace_core.proofs.NumberLists.{slice_stays}
use Rattle.gap_core.specs.Adding.{ByOne, NotesOne, NotesThose}
use Rattle.gap_core.proofs.Additions.{by_one_more}

-- members by their places
pub placed : {X : Type 0} (xs : List X) (x : X) → Contains xs x → (k : ℕ) × (slice_get xs k ≡ Some x)
placed xs x (k, lt, at) = (k, slice_get-get_or xs k x lt ∙ ap Some at)

pub stands_in : {X : Type 0} (xs : List X) (k : ℕ) (x : X) → slice_get xs k ≡ Some x → Contains xs x
stands_in xs k x so = (k, slice_get_within xs k x so, get_or_from_slice_get xs k x x so)

module _ {X : Type 0} where
  pub notes_had : (xs : List X) (P : X → Type 0) → ((x : X) → P x → Contains xs x) → NotesThose P xs xs
  notes_had xs P had = record {
    more = [];
    appended = sym (append-nil xs);
    only = λ x h. absurd (contains_none x h);
    all = had;
  }

  pub notes_new : (old new : List X) (y : X) → new ≡ old ++ y ∷ [] → NotesOne y old new
  notes_new old new y is = record {
    more = y ∷ [];
    appended = is;
    only = λ x h. ⊎_elim (λ same. same) (λ none. absurd (contains_none x none)) (contains_cases y x [] h);
    all = λ x same. subst (Contains new) same (subst (λ xs. Contains xs y) (sym is) (Contains-push old y));
  }

  pub notes_alike : (P Q : X → Type 0) (old new : List X) → ((x : X) → P x ↔ Q x) → NotesThose P old new → NotesThose Q old new
  notes_alike P Q old new alike notes = record {
    more = notes.more;
    appended = notes.appended;
    only = λ x h. (alike x).0 (notes.only x h);
    all = λ x q. notes.all x ((alike x).1 q);
  }

  pub still_there : (P : X → Type 0) (old new : List X) → NotesThose P old new → (x : X) → Contains old x → Contains new x
  still_there P old new notes x h = subst (λ xs. Contains xs x) (sym notes.appended) (Contains-append_left old notes.more x h)

  pub stands_still : (P : X → Type 0) (old new : List X) → NotesThose P old new → (k : ℕ) (x : X) → slice_get old k ≡ Some x → slice_get new k ≡ Some x
  stands_still P old new notes k x so = subst (λ xs. slice_get xs k ≡ Some x) (sym notes.appended) (slice_stays old notes.more k x so)

  pub notes_then : (P Q : X → Type 0) (a b c : List X) → NotesThose P a b → NotesThose Q b c → NotesThose (λ x. P x ⊎ Q x) a c
  notes_then P Q a b c first second = record {
    more = first.more ++ second.more;
    appended = second.appended ∙ ap (λ xs. xs ++ second.more) first.appended ∙ append_assoc a first.more second.more;
    only = λ x h. ⊎_elim (λ one. inl (first.only x one)) (λ two. inr (second.only x two)) (Contains-append_cases first.more second.more x h);
    all = λ x h. ⊎_elim (λ p. still_there Q b c second x (first.all x p)) (λ q. second.all x q) h;
  }

  pub noted_members : (P : X → Type 0) (old new : List X) → NotesThose P old new → (x : X) → Contains new x ↔ (Contains old x ⊎ P x)
  noted_members P old new notes x = (
    λ h. ⊎_elim (λ was. inl was) (λ more. inr (notes.only x more)) (Contains-append_cases old notes.more x (subst (λ xs. Contains xs x) notes.appended h)),
    λ h. ⊎_elim (λ was. still_there P old new notes x was) (λ p. notes.all x p) h,
  )

module _ {X Y : Type 0} (P : Y → X → Type 0) (ys : List Y) where
  pub none_noted : (start : List X) → NotesThose (ByOne (take 0 ys) P) start start
  none_noted start = notes_had start (ByOne (take 0 ys) P) (λ x (y, there, p). absurd (contains_none y there))

  pub one_more_noted : (i : ℕ) (y : Y) → i < length ys → y ≡ get_or ys i y → (start old new : List X)
      → NotesThose (ByOne (take i ys) P) start old → NotesThose (P y) old new → NotesThose (ByOne (take (i + 1) ys) P) start new
  one_more_noted i y below at start old new before notes =
      notes_alike (λ x. ByOne (take i ys) P x ⊎ P y x) (ByOne (take (i + 1) ys) P) start new (by_one_more P ys i y below at)
      (notes_then (ByOne (take i ys) P) (P y) start old new before notes)

  pub all_noted : (i : ℕ) → length ys ≤ i → (start new : List X) → NotesThose (ByOne (take i ys) P) start new → NotesThose (ByOne ys P) start new
  all_noted i past start new = subst (λ zs. NotesThose (ByOne zs P) start new) (take_all i ys past)

-- each of a list
pub each_itself : {X : Type 0} (ys : List X) (x : X) → ByOne ys (λ y z. y ≡ z) x ↔ Contains ys x
each_itself ys x = (λ (y, there, same). subst (Contains ys) same there, λ there. (x, there, refl))

-- a set of keys in the order in which they came
pub keys_have : (keys : List (List ℕ)) (i : List ℕ) → list_any (pointwise nat_eq i) keys ≡ true ↔ Contains keys i
keys_have keys i = (
  λ h. let (x, there, same) = list_any_witness (pointwise nat_eq i) keys h in subst (Contains keys) (sym ((bytes_eq-Decides i x).0 same)) there,
  λ there. list_any_member (pointwise nat_eq i) keys i there ((bytes_eq-Decides i i).1 refl),
)

pub key_noted : (keys new : List (List ℕ)) (i k : List ℕ) → k ≡ i → new ≡ insert_key (pointwise nat_eq) keys k → NotesOne i keys new
key_noted keys new i k same is = subst (λ j. NotesOne j keys new) same
    (elim (list_any (pointwise nat_eq k) keys) as (λ b. list_any (pointwise nat_eq k) keys ≡ b → NotesOne k keys new) [
      | true ↦ λ had. subst (NotesOne k keys) (sym (is ∙ if_so had)) (notes_had keys (λ x. k ≡ x) (λ x here. subst (Contains keys) here ((keys_have keys k).0 had)))
      | false ↦ λ had. notes_new keys new k (is ∙ if_not had)
    ] refl)
  where
    if_so : list_any (pointwise nat_eq k) keys ≡ true → insert_key (pointwise nat_eq) keys k ≡ keys
    if_so h = rw h refl

    if_not : list_any (pointwise nat_eq k) keys ≡ false → insert_key (pointwise nat_eq) keys k ≡ keys ++ k ∷ []
    if_not h = rw h refl

-- of an empty list just those are there
pub noted_alone : {X : Type 0} (P : X → Type 0) (none new : List X) → none ≡ [] → NotesThose P none new → (x : X) → Contains new x ↔ P x
noted_alone P none new is notes x = (
  λ h. ⊎_elim (λ was. absurd (contains_none x (subst (λ xs. Contains xs x) is was))) (λ p. p) ((noted_members P none new notes x).0 h),
  λ p. notes.all x p,
)
