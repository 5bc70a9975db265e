-- Capturing the events that close gaps closes them.
use Rattle.std.proofs.Common.{◌≡◌, ℕ, List, Some, refl, sym, subst}
use Rattle.std.specs.List.{Contains}
use Rattle.std.proofs.lemmas.List.Elements.{Contains-append_right}
use Rattle.event_json.specs.Events.{Content}
use Rattle.event_json.specs.declared.bodies.Body.{Body}
use Rattle.event_json.specs.declared.bodies.Body.TheVariants.{Note, Ship, Make, Pack}
use Rattle.trace_core.specs.Gaps.{HasCapturedKnown, HasClosed, PutsKnown, by_known}
use Rattle.trace_core.specs.Pairs.{Packs}
use Rattle.trace_core.specs.Sites.{SiteEvents}
use Rattle.trace_core.proofs.GapClosing.{capturing_is_closing, known_is_where_it_came, one_round_closes}
use Rattle.gap_core.specs.PackLaws.{CapturedPacksClose, IsClosingEvent, with_more}

-- a packing of one item into something is one of all that it puts there
put_known : (sites : List SiteEvents) (s : SiteEvents) (e : Content) (b : Body) (container child : List ℕ) → e.body ≡ b → Packs container child b
    → ((c : List ℕ) → Packs container c e.body → by_known sites s container c) → PutsKnown sites s e
put_known sites s e (Note items) container child is packs known = absurd packs
put_known sites s e (Ship items to outside) container child is packs known = absurd packs
put_known sites s e (Make id ins outs) container child is packs known = absurd packs
put_known sites s e (Pack action parent children) container child is (add, of, there) known = record {
  parent = container;
  children = children;
  is = subst (λ a. e.body ≡ Pack a (Some container) children) add (subst (λ p. e.body ≡ Pack action p children) of is);
  known = λ c listed. known c (subst (Packs container c) (sym is) (add, of, listed));
}

module _ (sites : List SiteEvents) (s : SiteEvents) (there : Contains sites s) where
  -- an event that closes a gap puts into its container what is known to lie there
  puts_known : (e : Content) → IsClosingEvent sites s e → PutsKnown sites s e
  puts_known e closing =
      let closes = closing.closes in
      let (k, lt, at) = closing.captured in
      put_known sites s e e.body closing.container closes.child refl closes.packs
      (λ c packs. (known_is_where_it_came sites s there closing.container c).1 (closing.packer, closing.listed, (k, e, lt, at, packs), closes.came))

  module _ (more : List Content) (only : (e : Content) → Contains more e → IsClosingEvent sites s e) where
    known_more : HasCapturedKnown sites s (with_more s more)
    known_more = capturing_is_closing sites s more (λ e h. puts_known e (only e h))

    closed_more : ((e : Content) → IsClosingEvent sites s e → Contains more e) → HasClosed sites s (with_more s more)
    closed_more all = record {
      captured = known_more;
      closed = λ parent child to gap.
          let (u, listed, (k, e, lt, at, packs), came) = (known_is_where_it_came sites s there parent child).0 gap.known in
          let (j, below, is) = Contains-append_right s.events more e (all e (record {
            packer = u;
            listed = listed;
            captured = (k, lt, at);
            container = parent;
            closes = record { child = child; packs = packs; came = came; to = to; gap = gap };
          })) in
          (j, e, below, is, packs);
    }

pub captured_packs_close : CapturedPacksClose
captured_packs_close sites s more there only = (
  known_more sites s there more only,
  λ all.
      let closed = closed_more sites s there more only all in
      (closed, λ others zipped parent child to gap. one_round_closes sites others zipped s (with_more s more) closed parent child to gap),
)
