-- A frame that is written is read back.
use Rattle.std.proofs.Common.{◌≡◌, ◌≤◌, ℕ, List, [], ◌∷◌, ◌++◌, codes, fold, Some, refl, sym, subst, arith}
use Rattle.std.proofs.lemmas.List.{append_cancel_right}
use Rattle.json.specs.Print.{escape_byte}
use Rattle.json.proofs.Printed.Utf8.{IsUtf8-are_ascii}
use Rattle.serde_json.specs.Data.{Members, no_members, object}
use Rattle.serde_json.specs.Written.{compact_text}
use Rattle.event_json.specs.Sites.{Site}
use Rattle.frame_core.specs.declared.frames.Frame.{Frame}
use Rattle.frame_core.specs.declared.frames.Frame.TheVariants as frames
use Rattle.frame_lines.specs.Laws.{LinesAreReadBack}
use Rattle.frame_lines.specs.Lines.{Carries, HasTexts, HasValue, IsFrameAmong, frame_line, members_of, object_of, sum_of, text_in, with_text}
use Rattle.frame_lines.proofs.ChainLemmas.{IsUtf8-chain}
use Rattle.frame_lines.proofs.ObjectLemmas.{AreTexts, has_value, room}
use Rattle.frame_lines.proofs.TextLemmas.{IsUtf8-message, IsUtf8-name, IsUtf8-recall, IsUtf8-sum, chain_size, key_size, message_size, name_size, recall_size, sum_size}

-- the members of a frame with its sum
abbrev written : List Site → List ℕ → Frame → Members
written sites chain f = fold with_text no_members (members_of sites chain f ++ (codes "sum", sum_of sites chain f) ∷ [])

-- a line with them carries the frame
carries : (sites : List Site) (chain line : List ℕ) (f : Frame) → IsFrameAmong sites f → HasTexts (members_of sites chain f) (object (written sites chain f))
    → text_in (codes "sum") (object (written sites chain f)) ≡ Some (sum_of sites chain f) → HasValue line (object (written sites chain f)) → Carries sites chain line f
carries sites chain line f among members sum is =
    record { value = object (written sites chain f); is = is; tells = record { among = among; members = members; sum_told = sum } }

both : (sites : List Site) (chain : List ℕ) (f : Frame) → IsFrameAmong sites f → HasTexts (members_of sites chain f) (object (written sites chain f))
    → text_in (codes "sum") (object (written sites chain f)) ≡ Some (sum_of sites chain f)
    → HasValue (compact_text (object (written sites chain f)) ++ 10 ∷ []) (object (written sites chain f)) × HasValue (compact_text (object (written sites chain f))) (object (written sites chain f))
    → Carries sites chain (frame_line sites chain f) f × ((line : List ℕ) → line ++ 10 ∷ [] ≡ frame_line sites chain f → Carries sites chain line f)
both sites chain f among members sum (with_end, bare) =
    let text = compact_text (object (written sites chain f)) in (
      carries sites chain (frame_line sites chain f) f among members sum with_end,
      λ line is. subst (λ l. Carries sites chain l f) (sym (append_cancel_right line text (10 ∷ []) is)) (carries sites chain text f among members sum bare),
    )

pub lines_are_read_back : LinesAreReadBack
unfolding escape_byte
lines_are_read_back sites chain (frames.Recall id dest recall item) are is among =
    let f = frames.Recall id dest recall item in
    let texts : AreTexts (written sites chain f) = (
      IsUtf8-are_ascii (codes "chain") refl,
      IsUtf8-chain chain is,
      (
        IsUtf8-are_ascii (codes "frame") refl,
        IsUtf8-are_ascii (codes "message") refl,
        (
          IsUtf8-are_ascii (codes "item") refl,
          among.3.1,
          (
            IsUtf8-are_ascii (codes "message") refl,
            IsUtf8-message sites id are among.0,
            (
              IsUtf8-are_ascii (codes "recall") refl,
              IsUtf8-recall sites recall are among.2,
              (IsUtf8-are_ascii (codes "sum") refl, IsUtf8-sum sites chain _, (IsUtf8-are_ascii (codes "to") refl, IsUtf8-name sites dest are among.1, tt)),
            ),
          ),
        ),
      ),
    ) in
    let few : room (written sites chain f) ≤ 4094 =
    omega (arith, chain_size chain is, key_size item among.3.0, message_size sites id are among.0, recall_size sites recall are among.2, name_size sites dest are among.1, sum_size sites chain (compact_text (object_of (members_of sites chain f)))) in
    both sites chain f among (refl, (refl, (refl, (refl, (refl, (refl, tt)))))) refl (has_value (written sites chain f) texts refl few)
lines_are_read_back sites chain (frames.Signal id by) are is among =
    let f = frames.Signal id by in
    let texts : AreTexts (written sites chain f) = (
      IsUtf8-are_ascii (codes "by") refl,
      IsUtf8-name sites by are among.1,
      (
        IsUtf8-are_ascii (codes "chain") refl,
        IsUtf8-chain chain is,
        (
          IsUtf8-are_ascii (codes "frame") refl,
          IsUtf8-are_ascii (codes "signal") refl,
          (
            IsUtf8-are_ascii (codes "message") refl,
            IsUtf8-message sites id are among.0,
            (IsUtf8-are_ascii (codes "sum") refl, IsUtf8-sum sites chain _, (IsUtf8-are_ascii (codes "to") refl, IsUtf8-name sites id.site are among.0.0, tt)),
          ),
        ),
      ),
    ) in
    let few : room (written sites chain f) ≤ 4094 =
    omega (arith, chain_size chain is, message_size sites id are among.0, name_size sites by are among.1, name_size sites id.site are among.0.0, sum_size sites chain (compact_text (object_of (members_of sites chain f)))) in
    both sites chain f among (refl, (refl, (refl, (refl, (refl, tt))))) refl (has_value (written sites chain f) texts refl few)
