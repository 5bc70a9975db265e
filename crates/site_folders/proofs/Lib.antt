pub mod CallsInTurn
mod MissingLemmas
pub mod VainLemmas
