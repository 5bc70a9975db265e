-- The desks of sites before and after a run of them.
use Rattle.std.proofs.Common.{◌≡◌, ◌∙◌, ℕ, zero, suc, ◌<◌, ◌++◌, Option, Result, Ok, Err, IfOk, List, [], ◌∷◌, All, length, get_or, slice_set, ap, sym, subst, arith}
use Rattle.std.proofs.lemmas.List.Elements.{All-nil, All-cons, All-get_or}
use Rattle.std.specs.List.{AllZip}
use Rattle.crossbeam_channel.specs.Ends.{receives_on, sends_on}
use Rattle.site_core.specs.Records.{Record}
use Rattle.site_threads.specs.declared.desks.Desk.{Desk}
use Rattle.site_threads.specs.declared.desks.DeskOut.{DeskOut}
use Rattle.site_threads.specs.declared.gathered.Gathered.{Gathered}
use Rattle.site_threads.specs.declared.gathered.GatherFault.{GatherFault}
use Rattle.site_threads.specs.declared.lists.RunLog.{RunLog}
use Rattle.site_threads.specs.Ends.{IsDesk, SameDesk}
use Rattle.site_threads.specs.Gathering.{HasEnd, HaveRun, IsKept}
use Rattle.site_tests.specs.Serving.{Serves, Settles}

-- each desk's other end went to the list of its site
pub settles_all : {K : Type 0} (shown : K → Option Record) (ds : List Desk) (os : List DeskOut) (ks : List K) (ls : List RunLog) → AllZip Serves ds os → AllZip HasEnd os ls → AllZip (IsKept shown) ks ls → AllZip Settles ds ls
settles_all shown [] [] ks [] a b c = tt
settles_all shown (d ∷ ds) (o ∷ os) (k ∷ ks) (l ∷ ls) a b c =
    (record { desk = a.0.desk; ends = record { jobs = b.0.jobs ∙ a.0.ends.jobs; receipts = b.0.receipts ∙ a.0.ends.receipts }; jobs = c.0.jobs }, settles_all shown ds os ks ls a.1 b.1 c.1)
settles_all shown [] [] ks (l ∷ ls) a b c = absurd b
settles_all shown [] (o ∷ os) ks ls a b c = absurd a
settles_all shown (d ∷ ds) [] ks ls a b c = absurd a
settles_all shown (d ∷ ds) (o ∷ os) ks [] a b c = absurd b
settles_all shown (d ∷ ds) (o ∷ os) [] (l ∷ ls) a b c = absurd c

-- the same of a run that may have no answer
pub settles_if_ok : {K : Type 0} (shown : K → Option Record) (may : K → Record → Type 0) (most : ℕ) (keepers : List K) (ds : List Desk) (os : List DeskOut) (r : Result (Gathered K) (GatherFault K)) → AllZip Serves ds os → IfOk r (HaveRun shown may most keepers os) → IfOk r (λ g. AllZip Settles ds g.lists.items)
settles_if_ok shown may most keepers ds os (Ok g) served ran = settles_all shown ds os g.keepers.items g.lists.items served ran.ends ran.kept
settles_if_ok shown may most keepers ds os (Err e) served ran = tt

serves_push : (ds : List Desk) (os : List DeskOut) (d : Desk) (o : DeskOut) → AllZip Serves ds os → Serves d o → AllZip Serves (ds ++ d ∷ []) (os ++ o ∷ [])
serves_push [] [] d o z s = (s, tt)
serves_push (x ∷ ds) (y ∷ os) d o z s = (z.0, serves_push ds os d o z.1 s)
serves_push [] (y ∷ os) d o z s = absurd z
serves_push (x ∷ ds) [] d o z s = absurd z

-- one desk, and its end, more
pub serves_more : (ds more_ds : List Desk) (os more_os : List DeskOut) (d : Desk) (o : DeskOut) → AllZip Serves ds os → Serves d o → more_ds ≡ ds ++ d ∷ [] → more_os ≡ os ++ o ∷ [] → AllZip Serves more_ds more_os
serves_more ds more_ds os more_os d o z s a b = subst (λ l. AllZip Serves l more_os) (sym a) (subst (λ l. AllZip Serves (ds ++ d ∷ []) l) (sym b) (serves_push ds os d o z s))

-- each desk takes jobs
pub are_desks : (ds : List Desk) (os : List DeskOut) → AllZip Serves ds os → All IsDesk ds
are_desks [] [] z = All-nil IsDesk
are_desks (d ∷ ds) (o ∷ os) z = All-cons IsDesk d ds z.0.desk (are_desks ds os z.1)
are_desks [] (o ∷ os) z = absurd z
are_desks (d ∷ ds) [] z = absurd z

pub one_of_them : (ds : List Desk) (i : ℕ) (d : Desk) → All IsDesk ds → i < length ds → d ≡ get_or ds i d → IsDesk d
one_of_them ds i d all h is = subst IsDesk (sym is) (All-get_or IsDesk ds i d h all)

-- a desk that is there
pub desk_there : (ds : List Desk) (ls : List RunLog) (i : ℕ) (d : Desk) → AllZip Settles ds ls → i < length ds → d ≡ get_or ds i d → IsDesk d
desk_there (x ∷ ds) (l ∷ ls) zero d z h is = subst IsDesk (sym is) z.0.desk
desk_there (x ∷ ds) (l ∷ ls) (suc i) d z h is = desk_there ds ls i d z.1 (omega arith) is
desk_there [] ls i d z h is = absurd (omega arith)
desk_there (x ∷ ds) [] i d z h is = absurd z

-- after a call on one of the desks
pub still_settles : (ds : List Desk) (ls : List RunLog) (i : ℕ) (was new : Desk) → i < length ds → was ≡ get_or ds i was → IsDesk new → SameDesk was new → AllZip Settles ds ls → AllZip Settles (slice_set ds i new) ls
still_settles (x ∷ ds) (l ∷ ls) zero was new h is desk to z = (record { desk = desk; ends = record { jobs = z.0.ends.jobs ∙ sym (to.jobs ∙ ap (λ (d : Desk). sends_on d.to) is); receipts = z.0.ends.receipts ∙ sym (to.receipts ∙ ap (λ (d : Desk). receives_on d.receipts) is) }; jobs = z.0.jobs }, z.1)
still_settles (x ∷ ds) (l ∷ ls) (suc i) was new h is desk to z = (z.0, still_settles ds ls i was new (omega arith) is desk to z.1)
still_settles [] ls i was new h is desk to z = absurd (omega arith)
still_settles (x ∷ ds) [] i was new h is desk to z = absurd z
