-- What is found at sites, one after another.
use Rattle.std.proofs.Common.{◌≡◌, ◌+◌, ◌<◌, ℕ, List, [], ◌∷◌, ◌++◌, Bor, get_or, length, take, sym, subst, ap, ◌∙◌, append_assoc, append-nil}
use Rattle.std.specs.List.{AllZip, flat_map}
use Rattle.std.proofs.lemmas.List.{map_more}
use Rattle.site_core.specs.Records.{Record}
use Rattle.site_recovery.specs.Checking.{records_at}

-- one part more
abbrev pub joined : {X : Type 0} → List (List X) → List X
joined parts = flat_map (λ part. part) parts

pub joined_more : {X : Type 0} (parts : List (List X)) (part : List X) → joined (parts ++ part ∷ []) ≡ joined parts ++ part
joined_more [] part = append-nil part
joined_more (p ∷ parts) part = ap (λ r. p ++ r) (joined_more parts part) ∙ sym (append_assoc p (joined parts) part)

zip_push : {A B : Type 0} (R : A → B → Type 0) (xs : List A) (ys : List B) (x : A) (y : B) → AllZip R xs ys → R x y → AllZip R (xs ++ x ∷ []) (ys ++ y ∷ [])
zip_push R [] [] x y z r = (r, tt)
zip_push R (a ∷ al) (b ∷ bs) x y z r = (z.0, zip_push R al bs x y z.1 r)
zip_push R [] (b ∷ bs) x y z r = absurd z
zip_push R (a ∷ al) [] x y z r = absurd z

-- the record at a place more has its part
pub site_more : {X : Type 0} (Tells : Record → X → Type 0) (records : List (Bor Record)) (i : ℕ) (state : Bor Record) (parts : List X) (part : X) → i < length records
    → state ≡ get_or records i state → AllZip Tells (records_at (take i records)) parts → Tells state.now part → AllZip Tells (records_at (take (i + 1) records)) (parts ++ part ∷ [])
site_more Tells records i state parts part below at so_far one =
    rw (map_more (λ r. r.now) records i state below)
    (zip_push Tells (records_at (take i records)) parts (get_or records i state).now part so_far (subst (λ (s : Bor Record). Tells s.now part) at one))
