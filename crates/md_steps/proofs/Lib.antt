-- Lemmas; other crates use those on pieces that are laid in parts.
mod ContentSymbols
mod RoleContents
pub mod ContentFits
mod Past
pub mod Laid
mod Places
pub mod ResourceFound
mod EachSide
mod Sides
pub mod Standing
pub mod Staying
mod Noted
mod Inside
pub mod Counting
mod Targets
mod Leaving
pub mod Quiet
mod CapturedTexts
mod NodeLeaves
mod NodeRuns
mod PassedOver
mod FoundInBoth
mod Runs
pub mod AlikeStrings
mod BlocksApart
mod Defined
pub mod Running
mod Whole
