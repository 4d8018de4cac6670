-- What every call keeps: a sound state stays sound, and a refused call leaves the very state.
pub mod KeepLaws
pub mod SoundCalls
pub mod RefusedLaws
