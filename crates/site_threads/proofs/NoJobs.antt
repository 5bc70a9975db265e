-- A site whose end of its desk takes no job: each of its steps is that of a frame.
use Rattle.std.proofs.Common.{◌≡◌, Option, Some, None, List, [], ◌∷◌, ◌++◌, All, length, refl, ◌∙◌, arith}
use Rattle.std.specs.List.{AllZip}
use Rattle.std.specs.Prelude.{IsTrue}
use Rattle.std.proofs.lemmas.List.{nil_from_length}
use Rattle.std.proofs.lemmas.List.Elements.{All-nil, All-cons, All-head, All-tail}
use Rattle.site_core.specs.Records.{Record}
use Rattle.site_core.specs.declared.inputs.SiteInput.{SiteInput}
use Rattle.site_core.specs.declared.inputs.SiteInput.TheVariants as inputs
use Rattle.site_threads.specs.declared.desks.DeskOut.{DeskOut}
use Rattle.site_threads.specs.declared.jobs.Entry.{Entry}
use Rattle.site_threads.specs.declared.jobs.Job.TheVariants as jobs
use Rattle.site_threads.specs.declared.lists.RunLog.{RunLog}
use Rattle.site_threads.specs.Ends.{takes}
use Rattle.site_threads.specs.Gathering.{FitsEnd, HasEnd, IsKept}
use Rattle.site_threads.specs.Inputs.{is_delivery}
use Rattle.site_threads.specs.Jobs.{AreOfFrames, job_of, jobs_in, option_items}
use Rattle.site_threads.proofs.Zips.{all_carried, all_right}

neither_has : {A : Type 0} (xs ys : List A) → xs ++ ys ≡ [] → (xs ≡ []) × (ys ≡ [])
neither_has [] ys none = (refl, none)
neither_has (x ∷ xs) ys none = absurd (let e : x ∷ (xs ++ ys) ≡ [] = none in cc)

nothing_there : {A : Type 0} (o : Option A) → option_items o ≡ [] → o ≡ None
nothing_there None none = refl
nothing_there (Some x) none = absurd (let e : x ∷ [] ≡ [] = none in cc)

-- neither the list nor the hand has a job
pub none_taken : (l : RunLog) → FitsEnd l → l.out.limit ≡ 0 → (jobs_in l.entries.items ≡ []) × (l.pending ≡ None)
none_taken l has spent =
    let within = has.out.within in
    let count = has.out.count in
    let long : length (takes l.out) ≡ 0 = omega (arith, within, count, spent) in
    let none = neither_has (jobs_in l.entries.items) (option_items l.pending) (has.jobs ∙ nil_from_length (takes l.out) long) in
    (none.0, nothing_there l.pending none.1)

delivers : (i : SiteInput) → job_of i ≡ [] → IsTrue (is_delivery i)
delivers (inputs.Capture bytes) none = absurd (let e : jobs.Capture bytes ∷ [] ≡ [] = none in cc)
delivers (inputs.Start item) none = absurd (let e : jobs.Start item ∷ [] ≡ [] = none in cc)
delivers (inputs.Deliver frame) none = refl

-- steps without a job are those of frames
pub frames_alone : (entries : List Entry) → jobs_in entries ≡ [] → AreOfFrames entries
frames_alone [] none = All-nil (λ (x : Entry). IsTrue (is_delivery x.input))
frames_alone (x ∷ xs) none =
    let both = neither_has (job_of x.input) (jobs_in xs) none in
    All-cons (λ (y : Entry). IsTrue (is_delivery y.input)) x xs (delivers x.input both.0) (frames_alone xs both.1)

each_of_frames : (ls : List RunLog) → All (λ (l : RunLog). l.out.limit ≡ 0) ls → All FitsEnd ls → All (λ (l : RunLog). AreOfFrames l.entries.items) ls
each_of_frames [] none has = All-nil (λ (l : RunLog). AreOfFrames l.entries.items)
each_of_frames (l ∷ ls) none has =
    let here = none_taken l (All-head FitsEnd l ls has) (All-head (λ (m : RunLog). m.out.limit ≡ 0) l ls none) in
    All-cons (λ (m : RunLog). AreOfFrames m.entries.items) l ls (frames_alone l.entries.items here.0)
    (each_of_frames ls (All-tail (λ (m : RunLog). m.out.limit ≡ 0) l ls none) (All-tail FitsEnd l ls has))

-- so it is of all sites of a run
pub all_of_frames : {K : Type 0} (shown : K → Option Record) (ds : List DeskOut) (ks : List K) (ls : List RunLog) → All (λ (d : DeskOut). d.limit ≡ 0) ds → AllZip HasEnd ds ls → AllZip (IsKept shown) ks ls
    → All (λ (l : RunLog). AreOfFrames l.entries.items) ls
all_of_frames shown ds ks ls none ends kept =
    each_of_frames ls (all_carried HasEnd (λ (d : DeskOut). d.limit ≡ 0) (λ (l : RunLog). l.out.limit ≡ 0) ds ls (λ d l spent h. h.limit ∙ spent) none ends)
    (all_right (IsKept shown) FitsEnd ks ls (λ k l h. h.jobs) kept)
