mod Changes
mod Keysets
mod SoundLemmas
