-- The behaviour of `serve` if the reader and the writer are bytes in memory, in terms of these
-- bytes.
pub mod Memory
