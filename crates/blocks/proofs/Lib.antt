pub mod EdgesLaws
pub mod RunsLaws
