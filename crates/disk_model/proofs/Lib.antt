pub mod MemRuns
