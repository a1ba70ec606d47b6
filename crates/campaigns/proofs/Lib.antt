pub mod DifferenceLemmas
pub mod DrillLemmas
pub mod PieceLemmas
pub mod PlacingLemmas
pub mod RemainingLemmas
pub mod WorkableLemmas
