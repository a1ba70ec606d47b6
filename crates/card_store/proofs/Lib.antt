mod Keysets
mod Lines
mod MakingLaws
mod OpeningLaws
mod Reading
mod Running
mod StoreLaws
mod Taken
