pub mod EdgesLemmas
