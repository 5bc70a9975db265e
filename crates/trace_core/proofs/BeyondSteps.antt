-- The spread of an item past what is known: how its search goes on, and what it has found at its end.
use Rattle.std.proofs.Common.{◌≡◌, ◌==◌, not, ℕ, ◌<◌, ◌≤◌, ◌+◌, true, false, List, [], ◌∷◌, None, Some, take, get_or, slice_get, length, length-append, ◌↔◌, refl, sym, ap, ◌∙◌, subst, inl, inr, ⊎_elim, arith}
use mathlib.Core.Bool.{false≢true}
use mathlib.Core.Logic.{◌⊎◌}
use Rattle.std.specs.BTreeSet.{BTreeSet}
use Rattle.std.specs.List.{Contains}
use Rattle.std.proofs.lemmas.Bool.Decides.{Decides-not, Decides-eqb}
use Rattle.std.proofs.lemmas.List.{take_all, take-append-le}
use Rattle.trace_core.specs.declared.groups.Group.{Group}
use Rattle.trace_core.specs.declared.nodes.Node.{Node}
use Rattle.trace_core.specs.declared.pairs.Pair.{Pair}
use Rattle.trace_core.specs.Beyond.{IsStop, IsSpreadBeyond, GoesOn, HasSearched}
use Rattle.trace_core.specs.Groups.{SeeksFrom, SeesTakers, IsGiven}
use Rattle.trace_core.specs.Nodes.{Stands, Had, Gains, NotesNodes, HasItem}
use Rattle.trace_core.specs.Numbers.{number_in, numbered}
use Rattle.trace_core.specs.Relations.{Reaches}
use Rattle.trace_core.specs.Sites.{SiteEvents}
use Rattle.trace_core.specs.Spreads.{Inside}
use Rattle.trace_core.proofs.ChainLaws.{reaches_itself, reaches_step}
use Rattle.trace_core.proofs.GroupSteps.{adds_same}
use Rattle.trace_core.proofs.Members.{contains_here, contains_cases, contains_none}
use Rattle.trace_core.proofs.NodeSteps.{gains_none, gains_retold, noted_from}
use Rattle.trace_core.proofs.NumberLists.{some_is}
use Rattle.trace_core.proofs.ReachSteps.{one_stands, unrelated}
use Rattle.trace_core.proofs.SetMembers.{contains_more}
use Rattle.trace_core.proofs.SpreadSteps.{here, its_item, inside-chain, found_here}

pub told_apart : (a b : ℕ) → not (a == b) ≡ true → a ≡ b → ⊥
told_apart a b h = (Decides-not _ (Decides-eqb a b)).0 h

pub told_same : (a b : ℕ) → not (a == b) ≡ false → a ≡ b
told_same a b h = elim (a == b) as (λ x. (a == b) ≡ x → not x ≡ false → a ≡ b) [
  | true ↦ λ is _. (Decides-eqb a b).0 is
  | false ↦ λ _ no. absurd (false≢true (sym no))
] refl h

module _ (s : SiteEvents) (stop : BTreeSet (List ℕ)) where
  abbrev S : Node → Pair → Type 0
  S n q = Stands (s ∷ []) n q

  -- Visiting a node.
  module _ (node : Node) (a : BTreeSet Group) (x : List Node) (p : Pair) (stands : S node p) where
    pub nothing_elsewhere : (at : ℕ) → (node.at ≡ at → ⊥) → at ≡ s.me → Gains S (IsGiven s 0) (GoesOn s stop p) a a x x
    nothing_elsewhere at apart is = gains_none S (IsGiven s 0) (GoesOn s stop p) a x (λ q h. apart (sym stands.3 ∙ sym h.1.0 ∙ sym is))

    pub nothing_at_stop : ((i : List ℕ) → slice_get (numbered s.events) node.item ≡ Some i → IsStop stop i) → Gains S (IsGiven s 0) (GoesOn s stop p) a a x x
    nothing_at_stop stops = gains_none S (IsGiven s 0) (GoesOn s stop p) a x (λ q h. h.0 (stops p.item (its_item s node p stands)))

    pub beyond_gained : (b : BTreeSet Group) (y : List Node) → ((i : List ℕ) → slice_get (numbered s.events) node.item ≡ Some i → IsStop stop i → ⊥)
        → Gains S (IsGiven s 0) (SeeksFrom false s p) a b x y → Gains S (IsGiven s 0) (GoesOn s stop p) a b x y
    beyond_gained b y free = gains_retold S (IsGiven s 0) (IsGiven s 0) (SeeksFrom false s p) (GoesOn s stop p) a b x y
        (adds_same (IsGiven s 0) (SeeksFrom false s p) (GoesOn s stop p) a b (Had S x) (Had S y) (λ q. (λ h. (free p.item (its_item s node p stands), h), λ h. h.1)))

  -- The search.
  module _ (i : List ℕ) (seen : BTreeSet Group) where
    pub begins : (none nodes : List Node) (start : Node) → none ≡ [] → S start (here s i) → NotesNodes none nodes (start ∷ []) → HasSearched s i stop seen seen nodes 0
    begins none nodes start empty stands noted =
        let only : (n : Node) → Contains nodes n → start ≡ n = λ n h. ⊎_elim
        (λ before. absurd (contains_none n (subst (λ (xs : List Node). Contains xs n) empty before)))
        (λ new. ⊎_elim (λ same. same) (λ none. absurd (contains_none n none)) (contains_cases start n [] new))
        (noted_from none nodes (start ∷ []) noted n h) in
        record {
          stand = λ n h. (here s i, subst (λ m. S m (here s i)) (only n h) stands);
          start = (start, noted.all start (contains_here start []), stands);
          sound = λ q (n, found, stood). subst (Reaches (SeeksFrom false s) (here s i))
              (one_stands (s ∷ []) n (here s i) q (subst (λ m. S m (here s i)) (only n found) stands) stood) (reaches_itself (SeeksFrom false s) (here s i));
          followed = λ n p q h stood r. absurd (contains_none n h);
          given = λ q h. inl h;
          taken = λ first h. inl h;
          within = omega arith;
        }

    pub goes_on : (now new : BTreeSet Group) (nodes nodes' : List Node) (place : ℕ) (node : Node) → place < length nodes → node ≡ get_or nodes place node → HasSearched s i stop seen now nodes place
        → ((p : Pair) → S node p → Gains S (IsGiven s 0) (GoesOn s stop p) now new nodes nodes')
        → ((p : Pair) → S node p → SeesTakers 0 s.events now new p.item) → HasSearched s i stop seen new nodes' (place + 1)
    goes_on now new nodes nodes' place node below at so_far visited takers =
        let at_node : Contains nodes node = (place, below, sym at) in
        let (p, stands) = so_far.stand node at_node in
        let gains = visited p stands in
        record {
          stand = λ n h. ⊎_elim (λ before. so_far.stand n before) (λ more. gains.stand n more) (noted_from nodes nodes' gains.nodes gains.noted n h);
          start = gains.added.stay (here s i) so_far.start;
          sound = λ q h. ⊎_elim
              (λ before. so_far.sound q before)
              (λ r. reaches_step (SeeksFrom false s) (here s i) p q (so_far.sound p (node, at_node, stands)) r.1)
              (gains.added.sound q h);
          followed = λ n p' q h stood r.
              let front : take (place + 1) nodes' ≡ take (place + 1) nodes = ap (take (place + 1)) gains.noted.appended ∙ take-append-le (place + 1) nodes gains.noted.more (omega (arith, below)) in
              ⊎_elim
              (λ before. ⊎_elim (λ there. inl (gains.added.stay q there)) (λ given. inr given) (so_far.followed n p' q before stood r))
              (λ same.
              let own = visited p' (subst (λ m. S m p') (sym same) stood) in
              ⊎_elim
              (λ there. inl there)
              (λ given. ⊎_elim (λ old. inr old) (λ there. inl (gains.added.stay q there)) (so_far.given q given))
              (own.added.complete q r))
              ((contains_more nodes place node below at n).0 (subst (λ xs. Contains xs n) front h));
          given = λ q h. ⊎_elim
              (λ before. ⊎_elim (λ old. inl old) (λ there. inr (gains.added.stay q there)) (so_far.given q before))
              (λ there. inr there)
              (gains.added.given q h);
          taken = λ first h. ⊎_elim
              (λ before. ⊎_elim (λ old. inl old) (λ (q, had, into). inr (q, gains.added.stay q had, into)) (so_far.taken first before))
              (λ into. inr (p, gains.added.stay p (node, at_node, stands), into))
              (takers p stands first h);
          within = omega (arith, below, ap length gains.noted.appended, length-append nodes gains.noted.more);
        }

    pub all_visited : (now : BTreeSet Group) (nodes : List Node) (place : ℕ) → length nodes ≤ place → HasSearched s i stop seen now nodes place → HasSearched s i stop seen now nodes (length nodes)
    all_visited now nodes place past so_far = subst (HasSearched s i stop seen now nodes) (omega (arith, past, so_far.within)) so_far

    -- the items of its nodes
    pub ends : (now : BTreeSet Group) (nodes : List Node) (none found : List (List ℕ)) → none ≡ [] → HasSearched s i stop seen now nodes (length nodes)
        → ((j : List ℕ) → Contains found j ↔ (Contains none j ⊎ HasItem s.events nodes j)) → IsSpreadBeyond s i stop seen now found
    ends now nodes none found empty searched are =
        let had : (j : List ℕ) → Had S nodes (here s j) → Contains found j = λ j (n, there, stands). (are j).1 (inr (n, there, its_item s n (here s j) stands)) in
        let pair_of : (j : List ℕ) → Contains found j → (n : Node) × (q : Pair) × Contains nodes n × S n q × (q.item ≡ j) = λ j h. ⊎_elim
        (λ before. absurd (contains_none j (subst (λ (xs : List (List ℕ)). Contains xs j) empty before)))
        (λ (n, there, is). let (q, stands) = searched.stand n there in (n, q, there, stands, some_is q.item j (sym (its_item s n q stands) ∙ is)))
        ((are j).0 h) in
        record {
          start = had i searched.start;
          sound = λ j h.
              let (n, q, there, stands, its) = pair_of j h in
              let reaches = searched.sound q (n, there, stands) in
              (i, contains_here i [], subst (Reaches (Inside s) i) its (inside-chain s i q reaches (found_here s i q reaches)));
          followed = λ j k h free related.
              let (n, q, there, stands, its) = pair_of j h in
              let own : q.site ≡ s.me = found_here s i q (searched.sound q (n, there, stands)) in
              let seeks : SeeksFrom false s q (here s k) = (sym own, ⊎_elim (λ (other, same, any). absurd (other refl)) (λ made. made) (subst (λ (m : List ℕ). Inside s m k) (sym its) related)) in
              ⊎_elim
              (λ found. inl (had k found))
              (λ given. inr given)
              (searched.followed n q (here s k) (subst (λ xs. Contains xs n) (sym (take_all (length nodes) nodes (omega arith))) there) stands (λ stopped. free (subst (IsStop stop) its stopped), seeks));
          given = λ k h. ⊎_elim (λ before. inl before) (λ found. inr (had k found)) (searched.given (here s k) h);
          taken = λ first h. ⊎_elim
              (λ old. inl old)
              (λ (q, (n, there, stands), into). inr (q.item, (are q.item).1 (inr (n, there, its_item s n q stands)), into))
              (searched.taken first h);
        }

  -- an item that no event names
  pub unnamed_alone : (i : List ℕ) (seen : BTreeSet Group) (found : List (List ℕ)) → None ≡ number_in (numbered s.events) i → found ≡ i ∷ [] → IsSpreadBeyond s i stop seen seen found
  unnamed_alone i seen found unknown is =
      let same : (j : List ℕ) → Contains found j → i ≡ j = λ j h. ⊎_elim (λ same. same) (λ none. absurd (contains_none j none)) (contains_cases i j [] (subst (λ xs. Contains xs j) is h)) in
      record {
        start = subst (λ xs. Contains xs i) (sym is) (contains_here i []);
        sound = λ j h. (i, contains_here i [], subst (Reaches (Inside s) i) (same j h) (reaches_itself (Inside s) i));
        followed = λ j k h free related. absurd (unrelated s i (sym unknown) (here s k) (subst (λ (m : List ℕ). Inside s m k) (sym (same j h)) related));
        given = λ k h. inl h;
        taken = λ first h. inl h;
      }

  -- the same items in another order
  pub same_items : (i : List ℕ) (seen now : BTreeSet Group) (found ordered : List (List ℕ)) → ((j : List ℕ) → Contains ordered j ↔ Contains found j) → IsSpreadBeyond s i stop seen now found → IsSpreadBeyond s i stop seen now ordered
  same_items i seen now found ordered same beyond = record {
    start = (same i).1 beyond.start;
    sound = λ j h. beyond.sound j ((same j).0 h);
    followed = λ j k h free related. ⊎_elim (λ there. inl ((same k).1 there)) (λ given. inr given) (beyond.followed j k ((same j).0 h) free related);
    given = λ k h. ⊎_elim (λ before. inl before) (λ there. inr ((same k).1 there)) (beyond.given k h);
    taken = λ first h. ⊎_elim (λ old. inl old) (λ (j, there, into). inr (j, (same j).1 there, into)) (beyond.taken first h);
  }
