-- What a site is asked by a job, and by a frame.
use Rattle.std.specs.Prelude.{◌≡◌, Bool, true, false, IsTrue, Option, Some, None}
use Rattle.site_core.specs.declared.inputs.SiteInput.{SiteInput}
use Rattle.site_core.specs.declared.inputs.SiteInput.TheVariants as inputs
use Rattle.site_threads.specs.declared.jobs.Job.{Job}
use Rattle.site_threads.specs.declared.jobs.Job.TheVariants as jobs

-- what a site is asked by a job
abbrev pub input_of : Job → SiteInput
input_of (jobs.Capture bytes) = inputs.Capture bytes
input_of (jobs.Start item) = inputs.Start item

-- the input delivers a frame
abbrev pub is_delivery : SiteInput → Bool
is_delivery (inputs.Deliver frame) = true
is_delivery other = false

-- the input is that of the job, or there is none, and it delivers a frame
abbrev pub IsAskedBy : Option Job → SiteInput → Type 0
IsAskedBy None input = IsTrue (is_delivery input)
IsAskedBy (Some job) input = input ≡ input_of job
