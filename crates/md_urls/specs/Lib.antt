-- The definitions that the contracts cite.
pub mod Urls
pub mod Resolved
