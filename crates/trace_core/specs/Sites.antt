use Rattle.std.specs.Prelude.{ℕ, List}
use Rattle.event_json.specs.Events.{Content}

-- what a site has captured: its own number, and its events in the order in which they were captured
pub record SiteEvents : Type 0 where
  pub me : ℕ
  pub events : List Content
