-- The lemmas: counting calls in sequence, entries found by their indices, numbers, lists, and texts
-- without the line endings at their ends.
mod Tally
mod Placing
mod MappedPlaces
mod PlacedCalls
mod Numbers
mod Lists
mod Endings
